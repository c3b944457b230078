-- What a handle holds: nothing, a core, a witness, a guard or an adviser.
use Rattle.std.specs.Prelude.{Option, Some, None}
use Rattle.jg_guard.specs.Guard.{State}
use Rattle.jg_c.specs.declared.session.Session.{Session}
use Rattle.jg_c.specs.declared.session.Session.TheVariants.{Core, Witness, Guard, Adviser}
use Rattle.jg_c.specs.Advisers.{AdviserHeld}
use Rattle.jg_c.specs.Cores.{CoreHeld}
use Rattle.jg_c.specs.Witnesses.{WitnessHeld}

-- the core that is held, if one is
abbrev pub core_of : Option Session → Option CoreHeld
core_of None = None
core_of (Some (Core x)) = Some x
core_of (Some (Witness x)) = None
core_of (Some (Guard g)) = None
core_of (Some (Adviser x)) = None

-- the witness that is held, if one is
abbrev pub witness_of : Option Session → Option WitnessHeld
witness_of None = None
witness_of (Some (Core x)) = None
witness_of (Some (Witness x)) = Some x
witness_of (Some (Guard g)) = None
witness_of (Some (Adviser x)) = None

-- the guard that is held, if one is
abbrev pub guard_of : Option Session → Option State
guard_of None = None
guard_of (Some (Core x)) = None
guard_of (Some (Witness x)) = None
guard_of (Some (Guard g)) = Some g
guard_of (Some (Adviser x)) = None

-- the adviser that is held, if one is
abbrev pub adviser_of : Option Session → Option AdviserHeld
adviser_of None = None
adviser_of (Some (Core x)) = None
adviser_of (Some (Witness x)) = None
adviser_of (Some (Guard g)) = None
adviser_of (Some (Adviser x)) = Some x

-- so it is of what is there, if anything is
abbrev pub Of : {A : Type 0} → Option A → (A → Type 0) → Type 0
Of None P = Unit {0}
Of (Some x) P = P x

-- it is there, and so it is of it
abbrev pub Has : {A : Type 0} → Option A → (A → Type 0) → Type 0
Has None P = ⊥
Has (Some x) P = P x

-- it is there before and after, and so it went on, if it is there before
abbrev pub Steps : {A : Type 0} → Option A → Option A → (A → A → Type 0) → Type 0
Steps None y R = Unit {0}
Steps (Some x) None R = ⊥
Steps (Some x) (Some y) R = R x y
