-- What the definitions mean, and what holds of every list in which no number is handed out twice.
use Rattle.std.specs.Prelude.{◌≡◌, ℕ, ℤ, pos, ◌<◌, ◌&&◌, ◌==◌, Bool, true, false, ◌↔◌, List, [], ◌∷◌, ◌++◌, slice_index_or, Some, None}
use Rattle.std.specs.List.{list_any}
use Rattle.jg_words.specs.declared.reference.Ref.{Ref}
use Rattle.jg_table_buffers.specs.History.{Buffer, Event, Opened, Wrote, Closed, ReleaseAll, is_same, is_critical, opened, content, in_critical, pinned_by, pins_object}
use Rattle.jg_table_buffers.specs.Rows.{Rows, IsAbove}
use Rattle.jg_table_buffers.specs.Standing.{Stands}

-- the event opens that buffer anew or closes it, as the end of its thread's session closes a critical one
abbrev pub about : Buffer → Event → Bool
about b (Opened c) = is_same b.maker b.n c.maker c.n
about b (Closed k i) = is_same b.maker b.n k i
about b (ReleaseAll k) = (k == b.maker) && is_critical b.family
about b (Wrote k i j v) = false

-- some event opened the buffer, and none opened or closed it later
pub record OpenSince (e : List Event) (maker n : ℕ) (b : Buffer) : Type 0 where
  pub later : List Event
  pub before : List Event
  pub made : e ≡ later ++ Opened b ∷ before
  pub own : is_same maker n b.maker b.n ≡ true
  pub kept : list_any (about b) later ≡ false

-- a buffer is open where it was opened and not closed since
-- (proofs/Means.antt)
abbrev pub OpenMeans : Type 0
OpenMeans = (e : List Event) (maker n : ℕ) (b : Buffer) → (opened e maker n ≡ Some b) ↔ OpenSince e maker n b

-- the event opens that buffer anew or writes that item of it
abbrev pub changes : ℕ → ℕ → ℕ → Event → Bool
changes maker n index (Opened b) = is_same maker n b.maker b.n
changes maker n index (Wrote k i j v) = is_same maker n k i && (j == index)
changes maker n index (Closed k i) = false
changes maker n index (ReleaseAll k) = false

-- an item is what was written there last
-- (proofs/Means.antt)
abbrev pub WrittenMeans : Type 0
WrittenMeans = (later before : List Event) (maker n index : ℕ) (v : ℤ) → list_any (changes maker n index) later ≡ false
    → content (later ++ Wrote maker n index v ∷ before) maker n index ≡ v

-- an item that wasn't written since is the one at the making
-- (proofs/Means.antt)
abbrev pub UnwrittenMeans : Type 0
UnwrittenMeans = (later before : List Event) (b : Buffer) (index : ℕ)
    → list_any (changes b.maker b.n index) later ≡ false
    → content (later ++ Opened b ∷ before) b.maker b.n index ≡ slice_index_or b.items index (pos 0)

-- an open critical buffer of which the fact holds
pub record CriticalBuffer (e : List Event) (Holds : Buffer → Type 0) : Type 0 where
  pub maker : ℕ
  pub n : ℕ
  pub buffer : Buffer
  pub is_open : opened e maker n ≡ Some buffer
  pub critical : is_critical buffer.family ≡ true
  pub holds : Holds buffer

-- a thread is in a critical region where some critical buffer that it was lent is open
-- (proofs/Means.antt)
abbrev pub CriticalMeans : Type 0
CriticalMeans = (e : List Event) (t : ℕ) → (in_critical e t ≡ true) ↔ CriticalBuffer e (λ b. b.maker ≡ t)

-- a reference is pinned where some critical buffer that was opened through it is open
-- (proofs/Means.antt)
abbrev pub PinnedMeans : Type 0
PinnedMeans = (e : List Event) (r : Ref) → (pinned_by e r ≡ true) ↔ CriticalBuffer e (λ b. b.via ≡ r)

-- an object is pinned where some critical buffer of it is open
-- (proofs/Means.antt)
abbrev pub PinnedObjectMeans : Type 0
PinnedObjectMeans = (e : List Event) (o : ℕ) → (pins_object e o ≡ true) ↔ CriticalBuffer e (λ b. b.object ≡ o)

-- the number is above each that the maker's buffers were given
abbrev pub IsOpenedBelow : ℕ → ℕ → List Event → Type 0
IsOpenedBelow maker n [] = Unit {0}
IsOpenedBelow maker n (Opened b ∷ e) = (b.maker ≡ maker → b.n < n) × IsOpenedBelow maker n e
IsOpenedBelow maker n (Wrote k i j v ∷ e) = IsOpenedBelow maker n e
IsOpenedBelow maker n (Closed k i ∷ e) = IsOpenedBelow maker n e
IsOpenedBelow maker n (ReleaseAll k ∷ e) = IsOpenedBelow maker n e

-- each buffer was given a number above all earlier ones of its maker, so that none was handed out twice
abbrev pub NumbersRise : List Event → Type 0
NumbersRise [] = Unit {0}
NumbersRise (Opened b ∷ e) = IsOpenedBelow b.maker b.n e × NumbersRise e
NumbersRise (Wrote k i j v ∷ e) = NumbersRise e
NumbersRise (Closed k i ∷ e) = NumbersRise e
NumbersRise (ReleaseAll k ∷ e) = NumbersRise e

-- the event opens the buffer of that maker and number
abbrev pub opens : ℕ → ℕ → Event → Bool
opens maker n (Opened b) = is_same maker n b.maker b.n
opens maker n (Wrote k i j v) = false
opens maker n (Closed k i) = false
opens maker n (ReleaseAll k) = false

-- a buffer that was opened and isn't open never is again
-- (proofs/Means.antt)
abbrev pub ClosedStaysClosed : Type 0
ClosedStaysClosed = (later e : List Event) (maker n : ℕ) → NumbersRise (later ++ e) → list_any (opens maker n) e ≡ true
    → opened e maker n ≡ None → opened (later ++ e) maker n ≡ None

-- a number above all that the events gave the maker is above all of its numbers in the rows, as the opening of a buffer
-- asks
-- (proofs/Means.antt)
abbrev pub NewNumberIsAbove : Type 0
NewNumberIsAbove = (rows : Rows) (e : List Event) (maker n : ℕ) → Stands rows e → IsOpenedBelow maker n e
    → IsAbove maker n rows
