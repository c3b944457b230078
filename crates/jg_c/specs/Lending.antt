-- What a handle ends as, where what it holds was lent.
use Rattle.std.specs.Prelude.{◌≡◌, Option, Some}
use Rattle.std.specs.Borrow.{Lends, LendsSo, MutBor, Fml}
use Rattle.jg_slot.specs.declared.slot.Slot.{Slot}
use Rattle.jg_slot.specs.contracts.slot.Slot as slot
use Rattle.jg_guard.specs.Guard.{State}
use Rattle.jg_c.specs.declared.session.Session.{Session}
use Rattle.jg_c.specs.declared.session.Session.TheVariants.{Core, Witness, Guard, Adviser}
use Rattle.jg_c.specs.declared.handle.Handle.{Handle}
use Rattle.jg_c.specs.contracts.session.AdviserSession as noted
use Rattle.jg_c.specs.contracts.session.CoreSession as asked
use Rattle.jg_c.specs.contracts.session.GuardSession as kept
use Rattle.jg_c.specs.contracts.session.Session as session
use Rattle.jg_c.specs.contracts.session.WitnessSession as worded
use Rattle.jg_c.specs.Advisers.{AdviserHeld}
use Rattle.jg_c.specs.Cores.{CoreHeld}
use Rattle.jg_c.specs.Sessions.{adviser_of, core_of, guard_of, witness_of}
use Rattle.jg_c.specs.Witnesses.{WitnessHeld}
use Rattle.jg_c.specs.contracts.handle.Handle as handle

-- the slot's pointer and value, as a handle
abbrev pub of_slot : Slot Session → Handle
of_slot s = record { at = s.at; value = s.value }

abbrev pub LendsSlot : MutBor Handle → MutBor (Slot Session) → Fml
LendsSlot s r = Lends handle.the_row (slot.the_row session.the_row) s r of_slot

-- once the borrow ends, the session is the core that was written through it, if it was a core; else it is as it was
abbrev pub LendsOwnCore : MutBor Session → Option (MutBor CoreHeld) → Fml
LendsOwnCore s r = LendsSo session.the_row asked.the_row s r
    (λ new a. (old : CoreHeld) → core_of (Some s.now) ≡ Some old → new ≡ Core a) (λ new. new ≡ s.now)

-- the same of what a handle holds
abbrev pub LendsCore : MutBor Handle → Option (MutBor CoreHeld) → Fml
LendsCore s r = LendsSo handle.the_row asked.the_row s r
    (λ new a. (old : CoreHeld) → core_of s.now.value ≡ Some old → new.value ≡ Some (Core a))
    (λ new. new.value ≡ s.now.value)

-- the same of a witness
abbrev pub LendsOwnWitness : MutBor Session → Option (MutBor WitnessHeld) → Fml
LendsOwnWitness s r = LendsSo session.the_row worded.the_row s r
    (λ new a. (old : WitnessHeld) → witness_of (Some s.now) ≡ Some old → new ≡ Witness a) (λ new. new ≡ s.now)

abbrev pub LendsWitness : MutBor Handle → Option (MutBor WitnessHeld) → Fml
LendsWitness s r = LendsSo handle.the_row worded.the_row s r
    (λ new a. (old : WitnessHeld) → witness_of s.now.value ≡ Some old → new.value ≡ Some (Witness a))
    (λ new. new.value ≡ s.now.value)

-- the same of a guard
abbrev pub LendsOwnGuard : MutBor Session → Option (MutBor State) → Fml
LendsOwnGuard s r = LendsSo session.the_row kept.the_row s r
    (λ new g. (old : State) → guard_of (Some s.now) ≡ Some old → new ≡ Guard g) (λ new. new ≡ s.now)

abbrev pub LendsGuard : MutBor Handle → Option (MutBor State) → Fml
LendsGuard s r = LendsSo handle.the_row kept.the_row s r
    (λ new g. (old : State) → guard_of s.now.value ≡ Some old → new.value ≡ Some (Guard g))
    (λ new. new.value ≡ s.now.value)

-- the same of an adviser
abbrev pub LendsOwnAdviser : MutBor Session → Option (MutBor AdviserHeld) → Fml
LendsOwnAdviser s r = LendsSo session.the_row noted.the_row s r
    (λ new a. (old : AdviserHeld) → adviser_of (Some s.now) ≡ Some old → new ≡ Adviser a) (λ new. new ≡ s.now)

abbrev pub LendsAdviser : MutBor Handle → Option (MutBor AdviserHeld) → Fml
LendsAdviser s r = LendsSo handle.the_row noted.the_row s r
    (λ new a. (old : AdviserHeld) → adviser_of s.now.value ≡ Some old → new.value ≡ Some (Adviser a))
    (λ new. new.value ≡ s.now.value)
