-- What the definitions mean, and what holds of every list in which no number is handed out twice.
use Rattle.std.specs.Prelude.{◌≡◌, ℕ, ◌<◌, Bool, true, false, ◌↔◌, List, [], ◌∷◌, ◌++◌, Some, None, IsTrue}
use Rattle.std.specs.List.{list_any}
use Rattle.jg_table_globals.specs.declared.target.Target.TheVariants.{Object, Cleared}
use Rattle.jg_table_globals.specs.History.{Event, MakeStrong, MakeWeak, DeleteStrong, DeleteWeak, is_same, strong, clears, weak_target, holds_object}
use Rattle.jg_table_globals.specs.Rows.{Rows, IsAbove}
use Rattle.jg_table_globals.specs.Standing.{Stands}

-- the event makes or deletes that global reference
abbrev pub about_strong : ℕ → ℕ → Event → Bool
about_strong maker n (MakeStrong k i o) = is_same maker n k i
about_strong maker n (DeleteStrong k i) = is_same maker n k i
about_strong maker n ev = false

-- the event makes or deletes that weak reference
abbrev pub about_weak : ℕ → ℕ → Event → Bool
about_weak maker n (MakeWeak k i o) = is_same maker n k i
about_weak maker n (DeleteWeak k i) = is_same maker n k i
about_weak maker n ev = false

-- some event made the global reference for the object, and none made or deleted it later
pub record StrongSince (e : List Event) (maker n o : ℕ) : Type 0 where
  pub later : List Event
  pub before : List Event
  pub made : e ≡ later ++ MakeStrong maker n o ∷ before
  pub kept : list_any (about_strong maker n) later ≡ false

-- some event made the weak reference for the object, none made or deleted it later, and the object was cleared later or
-- not
pub record WeakSince (e : List Event) (maker n o : ℕ) (was_cleared : Bool) : Type 0 where
  pub later : List Event
  pub before : List Event
  pub made : e ≡ later ++ MakeWeak maker n o ∷ before
  pub kept : list_any (about_weak maker n) later ≡ false
  pub cleared : list_any (clears o) later ≡ was_cleared

-- a global reference is live, for an object, where it was made for it and not deleted since
-- (proofs/Means.antt)
abbrev pub StrongMeans : Type 0
StrongMeans = (e : List Event) (maker n o : ℕ) → (strong e maker n ≡ Some o) ↔ StrongSince e maker n o

-- a weak reference is live, for an object, where it was made for it and since then neither deleted nor cleared
-- (proofs/Means.antt)
abbrev pub WeakMeans : Type 0
WeakMeans = (e : List Event) (maker n o : ℕ)
    → (weak_target e maker n ≡ Some (Object (record { 0 = o }))) ↔ WeakSince e maker n o false

-- a weak reference is cleared where it was made for an object that was cleared since, and not deleted since
-- (proofs/Means.antt)
abbrev pub ClearedMeans : Type 0
ClearedMeans = (e : List Event) (maker n : ℕ)
    → (weak_target e maker n ≡ Some Cleared) ↔ ((o : ℕ) × WeakSince e maker n o true)

-- an object is held by global references where some global reference that names it is in being
-- (proofs/Callers.antt)
abbrev pub HoldsMeans : Type 0
HoldsMeans = (e : List Event) (o : ℕ)
    → IsTrue (holds_object e o) ↔ ((maker : ℕ) × (n : ℕ) × (strong e maker n ≡ Some o))

-- the number is above each that the maker's references were given, of both kinds
abbrev pub IsMadeBelow : ℕ → ℕ → List Event → Type 0
IsMadeBelow maker n [] = Unit {0}
IsMadeBelow maker n (MakeStrong k i o ∷ e) = (k ≡ maker → i < n) × IsMadeBelow maker n e
IsMadeBelow maker n (MakeWeak k i o ∷ e) = (k ≡ maker → i < n) × IsMadeBelow maker n e
IsMadeBelow maker n (ev ∷ e) = IsMadeBelow maker n e

-- each reference was given a number above all earlier ones of its maker, so that none was handed out twice
abbrev pub NumbersRise : List Event → Type 0
NumbersRise [] = Unit {0}
NumbersRise (MakeStrong k i o ∷ e) = IsMadeBelow k i e × NumbersRise e
NumbersRise (MakeWeak k i o ∷ e) = IsMadeBelow k i e × NumbersRise e
NumbersRise (ev ∷ e) = NumbersRise e

-- the event makes a reference of that maker and number, of either kind
abbrev pub makes : ℕ → ℕ → Event → Bool
makes maker n (MakeStrong k i o) = is_same maker n k i
makes maker n (MakeWeak k i o) = is_same maker n k i
makes maker n ev = false

-- a reference that was made and isn't in being never is again, as a global one or as a weak one
pub record StaysEnded (later e : List Event) (maker n : ℕ) : Type 0 where
  pub strong : strong e maker n ≡ None → strong (later ++ e) maker n ≡ None
  pub weak : weak_target e maker n ≡ None → weak_target (later ++ e) maker n ≡ None

-- (proofs/Ended.antt)
abbrev pub DeletedStaysDeleted : Type 0
DeletedStaysDeleted = (later e : List Event) (maker n : ℕ) → NumbersRise (later ++ e)
    → list_any (makes maker n) e ≡ true → StaysEnded later e maker n

-- a cleared weak reference never names an object again
-- (proofs/Ended.antt)
abbrev pub ClearedStaysCleared : Type 0
ClearedStaysCleared = (later e : List Event) (maker n o : ℕ) → NumbersRise (later ++ e)
    → weak_target e maker n ≡ Some Cleared → ¬ (weak_target (later ++ e) maker n ≡ Some (Object (record { 0 = o })))

-- a number above all that the events gave the maker is above all of its numbers in the rows, as the making of a
-- reference asks
-- (proofs/Callers.antt)
abbrev pub NewNumberIsAbove : Type 0
NewNumberIsAbove = (rows : Rows) (e : List Event) (maker n : ℕ) → Stands rows e → IsMadeBelow maker n e
    → IsAbove maker n rows
