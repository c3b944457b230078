-- What a slot ends as, where its value was lent.
use Rattle.std.specs.Prelude.{Option, Some}
use Rattle.std.specs.Borrow.{LendsIf, MutBor, Fml, RattleType}
use Rattle.jg_slot.specs.declared.slot.Slot.{Slot}
use Rattle.jg_slot.specs.contracts.slot.Slot as slot

-- the same pointer, with this value
abbrev pub with_value : {X : Type 0} → Slot X → X → Slot X
with_value s x = record { at = s.at; value = Some x }

abbrev pub LendsValue : (R : RattleType) → MutBor (Slot R.Denot) → Option (MutBor R.Denot) → Fml
LendsValue R s r = LendsIf (slot.the_row R) R s r (with_value s.now) s.now
