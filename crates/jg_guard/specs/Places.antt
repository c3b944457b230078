-- What holds of a guard's journal at each of its places: the laws of all legal histories, of this one. An entry's place
-- is the number of entries before it.
use Rattle.std.specs.Prelude.{ℕ, ◌≡◌, ◌+◌, ◌<◌, ◌++◌, true, false, List, ◌∷◌, length, Some, None}
use Rattle.jg_words.specs.declared.reference.Ref.{Ref}
use Rattle.jg_words.specs.Entry.{Entry}
use Rattle.jg_table_buffers.specs.History as buffers
use Rattle.jg_table_monitors.specs.History as monitors
use Rattle.jg_rules.specs.Names.{object_named}
use Rattle.jg_rules.specs.Effects.{parts}
use Rattle.jg_rules.specs.Legal.{Legal}
use Rattle.jg_laws.specs.Histories.{passed_only, reference_of, WasHandedOut}
use Rattle.jg_laws.specs.Laws.{is_gone, Reaches}
use Rattle.jg_laws.specs.Touching.{Touches}
use Rattle.jg_guard.specs.Guard.{State}

-- the journal as it was when it had so many entries
pub record Was (journal : List Entry) (n : ℕ) (before : List Entry) : Type 0 where
  pub later : List Entry
  pub whole : journal ≡ later ++ before
  pub long : length before ≡ n

-- what the entry touches, it reaches: one of its operands names it, by a reference that is live for its thread just
-- before, or it is the object of an open critical buffer of its own thread, whose reference is live for it just before
abbrev pub TouchesByLiveReference : State → ℕ → Type 0
TouchesByLiveReference g place = (x : Entry) (before : List Entry) (o : ℕ) → Was g.journal (place + 1) (x ∷ before)
    → Touches g.setup before x o → Reaches (parts g.setup before) x.tid.0 x.call o

-- what the entry touches isn't gone
abbrev pub TouchesWhatIsThere : State → ℕ → Type 0
TouchesWhatIsThere g place = (x : Entry) (before : List Entry) (o : ℕ) → Was g.journal (place + 1) (x ∷ before)
    → Touches g.setup before x o → is_gone g.setup before o ≡ false

-- no object that a live reference names is gone
abbrev pub LiveIsThere : State → ℕ → Type 0
LiveIsThere g place = (before : List Entry) (t o : ℕ) (r : Ref) → Was g.journal place before
    → object_named (parts g.setup before) t r ≡ Some o → is_gone g.setup before o ≡ false

-- the reference behind each open critical buffer is live for the thread that it was lent to, and names its object
abbrev pub PinsLive : State → ℕ → Type 0
PinsLive g place = (before : List Entry) (maker n : ℕ) (b : buffers.Buffer) → Was g.journal place before
    → buffers.opened (parts g.setup before).buffers maker n ≡ Some b → buffers.is_critical b.family ≡ true
    → object_named (parts g.setup before) b.maker b.via ≡ Some b.object

-- no object has two owners
abbrev pub OwnersAreOne : State → ℕ → Type 0
OwnersAreOne g place = (before : List Entry) (t u o : ℕ) → Was g.journal place before
    → 0 < monitors.count (parts g.setup before).monitors t o → 0 < monitors.count (parts g.setup before).monitors u o
    → t ≡ u

-- a reference that the entry hands out was not handed out before
abbrev pub ReferenceIsNew : State → ℕ → Type 0
ReferenceIsNew g place = (x : Entry) (before : List Entry) (r : Ref) → Was g.journal (place + 1) (x ∷ before)
    → reference_of x.outcome ≡ Some r → ¬ WasHandedOut r before

-- a reference that was live just before the entry, and wasn't after more entries, is live after none still
abbrev pub DeadStaysDead : State → ℕ → Type 0
DeadStaysDead g place = (newest later first : List Entry) (n t o : ℕ) (r : Ref) → Was g.journal place first
    → Was g.journal n (newest ++ (later ++ first)) → object_named (parts g.setup first) t r ≡ Some o
    → object_named (parts g.setup (later ++ first)) t r ≡ None
    → object_named (parts g.setup (newest ++ (later ++ first))) t r ≡ None

-- the entries before it, without the denied ones, are a legal history
abbrev pub LegalWithoutDenied : State → ℕ → Type 0
LegalWithoutDenied g place = (before : List Entry) → Was g.journal place before
    → Legal g.setup (passed_only before)
