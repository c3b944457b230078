-- What every list of facts has, each of which could be when it was told. A list has the newest first.
use Rattle.std.specs.Prelude.{ℕ, ◌≡◌, ◌<◌, ◌⊎◌, true, false, List, [], ◌∷◌, ◌++◌, Option, Some, None}
use Rattle.std.specs.List.{AllByRecursion}
use Rattle.jg_words.specs.declared.thread.Tid.{Tid}
use Rattle.jg_words.specs.declared.object.ObjId.{ObjId}
use Rattle.jg_words.specs.declared.reference.Kind.{Kind}
use Rattle.jg_words.specs.declared.reference.Kind.TheVariants.{Local}
use Rattle.jg_words.specs.declared.reference.Ref.{Ref}
use Rattle.jg_words.specs.declared.reference.Ref.TheVariants.{To}
use Rattle.jg_policy.specs.Stated.{StatedSetup, class_count}
use Rattle.jg_table_monitors.specs.History as monitors
use Rattle.jg_rules.specs.Names.{is_here, next_ref, object_named}
use Rattle.jg_rules.specs.Holding.{is_root}
use Rattle.jg_judge.specs.Written.{AreStated}
use Rattle.jg_core.specs.declared.fact.Fact.{Fact}
use Rattle.jg_core.specs.declared.fact.Fact.TheVariants.{Leave, Pop, Hand, Meet, Gone}
use Rattle.jg_core.specs.Facts.{parts_of, History}

-- the reference that the fact hands out after these, if it hands out one
abbrev pub handed_out : List Fact → Fact → Option Ref
handed_out w (Hand t kind o) = Some (To kind t (next_ref (parts_of w) t.0))
handed_out w (Leave t (Some o)) = Some (To Local t (next_ref (parts_of w) t.0))
handed_out w (Pop t (Some o)) = Some (To Local t (next_ref (parts_of w) t.0))
handed_out w x = None

-- some fact handed out the reference
abbrev pub WasHandedOut : Ref → List Fact → Type 0
WasHandedOut r [] = ⊥
WasHandedOut r (x ∷ w) = (handed_out w x ≡ Some r) ⊎ WasHandedOut r w

-- a reference that was handed out has a number below its thread's next one
abbrev pub ReferencesCounted : Type 0
ReferencesCounted = (s : StatedSetup) (w : List Fact) (kind : Kind) (maker : Tid) (n : ℕ) → History s w
    → WasHandedOut (To kind maker n) w → n < next_ref (parts_of w) maker.0

-- none is handed out twice
abbrev pub NoReferenceTwice : Type 0
NoReferenceTwice = (s : StatedSetup) (later : List Fact) (x : Fact) (before : List Fact) (r : Ref)
    → History s (later ++ x ∷ before) → handed_out before x ≡ Some r → ¬ WasHandedOut r before

-- none that ended comes back; from the oldest part on: it named an object, then none, then still none
abbrev pub NoReferenceRevived : Type 0
NoReferenceRevived = (s : StatedSetup) (newest later first : List Fact) (t o : ℕ) (r : Ref)
    → History s (newest ++ (later ++ first))
    → object_named (parts_of first) t r ≡ Some o → object_named (parts_of (later ++ first)) t r ≡ None
    → object_named (parts_of (newest ++ (later ++ first))) t r ≡ None

-- a monitor has one owner at the most
abbrev pub OneOwner : Type 0
OneOwner = (s : StatedSetup) (w : List Fact) (t u o : ℕ) → History s w
    → 0 < monitors.count (parts_of w).monitors t o → 0 < monitors.count (parts_of w).monitors u o → t ≡ u

-- what a live reference names, a weak one that isn't cleared among them, is there
abbrev pub LiveIsHere : Type 0
LiveIsHere = (s : StatedSetup) (w : List Fact) (t o : ℕ) (r : Ref) → History s w
    → object_named (parts_of w) t r ≡ Some o → is_here s (parts_of w) o ≡ true

-- what a live strong reference, a pending exception, a critical buffer or a monitor holds is there
abbrev pub HeldIsHere : Type 0
HeldIsHere = (s : StatedSetup) (w : List Fact) (o : ℕ) → History s w
    → is_root (parts_of w) o ≡ true → is_here s (parts_of w) o ≡ true

-- what is gone stays gone
abbrev pub GoneStaysGone : Type 0
GoneStaysGone = (s : StatedSetup) (later before : List Fact) (o : ObjId)
    → History s (later ++ Gone o ∷ before) → is_here s (parts_of (later ++ Gone o ∷ before)) o.0 ≡ false

-- an object that is met is of a class of the setup
abbrev pub IsStatedMeet : StatedSetup → Fact → Type 0
IsStatedMeet s (Meet class n) = class < class_count s
IsStatedMeet s x = Unit {0}

-- where all that were met are, each object is
-- (proofs/Classes.antt)
abbrev pub ClassesStated : Type 0
ClassesStated = (s : StatedSetup) (w : List Fact) → AllByRecursion (IsStatedMeet s) w → AreStated s (parts_of w)
