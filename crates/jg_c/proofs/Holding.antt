-- What a handle holds, once its core was lent.
use Rattle.std.proofs.Common.{◌≡◌, ◌∙◌, Option, Some, None, sym, ap, subst}
use Rattle.jg_guard.specs.Guard.{State}
use Rattle.jg_c.specs.declared.session.Session.{Session}
use Rattle.jg_c.specs.declared.session.Session.TheVariants.{Core, Witness, Guard, Adviser}
use Rattle.jg_c.specs.Advisers.{AdviserHeld}
use Rattle.jg_c.specs.Cores.{CoreHeld}
use Rattle.jg_c.specs.Sessions.{Of, Steps, adviser_of, core_of, guard_of, witness_of}
use Rattle.jg_c.specs.Witnesses.{WitnessHeld}

-- it holds the core that it is said to hold
pub holds_core : (v : Option Session) (a : CoreHeld) → core_of v ≡ Some a → v ≡ Some (Core a)
holds_core None a is = absurd (let no : ⊥ = cc in no)
holds_core (Some (Core x)) a is = let same : x ≡ a = cc in ap (λ y. Some (Core y)) same
holds_core (Some (Witness x)) a is = absurd (let no : ⊥ = cc in no)
holds_core (Some (Guard g)) a is = absurd (let no : ⊥ = cc in no)
holds_core (Some (Adviser x)) a is = absurd (let no : ⊥ = cc in no)

-- it is as it was, where its core is
pub unchanged : (v new : Option Session) (a b : CoreHeld) → core_of v ≡ Some a → new ≡ Some (Core b) → b ≡ a → new ≡ v
unchanged v new a b held is same = is ∙ ap (λ y. Some (Core y)) same ∙ sym (holds_core v a held)

-- the same of a witness
pub holds_witness : (v : Option Session) (a : WitnessHeld) → witness_of v ≡ Some a → v ≡ Some (Witness a)
holds_witness None a is = absurd (let no : ⊥ = cc in no)
holds_witness (Some (Core x)) a is = absurd (let no : ⊥ = cc in no)
holds_witness (Some (Witness x)) a is = let same : x ≡ a = cc in ap (λ y. Some (Witness y)) same
holds_witness (Some (Guard g)) a is = absurd (let no : ⊥ = cc in no)
holds_witness (Some (Adviser x)) a is = absurd (let no : ⊥ = cc in no)

pub unchanged_witness : (v new : Option Session) (a b : WitnessHeld) → witness_of v ≡ Some a → new ≡ Some (Witness b) → b ≡ a → new ≡ v
unchanged_witness v new a b held is same = is ∙ ap (λ y. Some (Witness y)) same ∙ sym (holds_witness v a held)

-- the same of a guard
pub holds_guard : (v : Option Session) (a : State) → guard_of v ≡ Some a → v ≡ Some (Guard a)
holds_guard None a is = absurd (let no : ⊥ = cc in no)
holds_guard (Some (Core x)) a is = absurd (let no : ⊥ = cc in no)
holds_guard (Some (Witness x)) a is = absurd (let no : ⊥ = cc in no)
holds_guard (Some (Guard x)) a is = let same : x ≡ a = cc in ap (λ y. Some (Guard y)) same
holds_guard (Some (Adviser x)) a is = absurd (let no : ⊥ = cc in no)

pub unchanged_guard : (v new : Option Session) (a b : State) → guard_of v ≡ Some a → new ≡ Some (Guard b) → b ≡ a → new ≡ v
unchanged_guard v new a b held is same = is ∙ ap (λ y. Some (Guard y)) same ∙ sym (holds_guard v a held)

-- what is held before and after is there, and so it went on
steps : {A : Type 0} (v new : Option A) (a b : A) (R : A → A → Type 0) → v ≡ Some a → new ≡ Some b → R a b → Steps v new R
steps {A = A} v new a b R held is r =
    subst (λ (x : Option A). Steps x new R) (sym held) (subst (λ (x : Option A). Steps (Some a) x R) (sym is) r)

pub stepped_guard : (v new : Option Session) (a b : State) (R : State → State → Type 0) → guard_of v ≡ Some a → new ≡ Some (Guard b) → R a b
    → Steps (guard_of v) (guard_of new) R
stepped_guard v new a b R held is r = steps (guard_of v) (guard_of new) a b R held (ap guard_of is) r

-- and so it went on
pub stepped : (v new : Option Session) (a b : CoreHeld) (R : CoreHeld → CoreHeld → Type 0) → core_of v ≡ Some a → new ≡ Some (Core b) → R a b
    → Steps (core_of v) (core_of new) R
stepped v new a b R held is r = steps (core_of v) (core_of new) a b R held (ap core_of is) r

-- the same of a witness
pub stepped_witness : (v new : Option Session) (a b : WitnessHeld) (R : WitnessHeld → WitnessHeld → Type 0) → witness_of v ≡ Some a → new ≡ Some (Witness b)
    → R a b → Steps (witness_of v) (witness_of new) R
stepped_witness v new a b R held is r = steps (witness_of v) (witness_of new) a b R held (ap witness_of is) r

-- the same of an adviser
pub holds_adviser : (v : Option Session) (a : AdviserHeld) → adviser_of v ≡ Some a → v ≡ Some (Adviser a)
holds_adviser None a is = absurd (let no : ⊥ = cc in no)
holds_adviser (Some (Core x)) a is = absurd (let no : ⊥ = cc in no)
holds_adviser (Some (Witness x)) a is = absurd (let no : ⊥ = cc in no)
holds_adviser (Some (Guard g)) a is = absurd (let no : ⊥ = cc in no)
holds_adviser (Some (Adviser x)) a is = let same : x ≡ a = cc in ap (λ y. Some (Adviser y)) same

pub unchanged_adviser : (v new : Option Session) (a b : AdviserHeld) → adviser_of v ≡ Some a → new ≡ Some (Adviser b) → b ≡ a → new ≡ v
unchanged_adviser v new a b held is same = is ∙ ap (λ y. Some (Adviser y)) same ∙ sym (holds_adviser v a held)

pub stepped_adviser : (v new : Option Session) (a b : AdviserHeld) (R : AdviserHeld → AdviserHeld → Type 0) → adviser_of v ≡ Some a → new ≡ Some (Adviser b)
    → R a b → Steps (adviser_of v) (adviser_of new) R
stepped_adviser v new a b R held is r = steps (adviser_of v) (adviser_of new) a b R held (ap adviser_of is) r

-- and so it is of the core that is held
pub of_core : (v : Option Session) (a : CoreHeld) (P : CoreHeld → Type 0) → core_of v ≡ Some a → P a → Of (core_of v) P
of_core v a P held p = subst (λ (x : Option CoreHeld). Of x P) (sym held) p
