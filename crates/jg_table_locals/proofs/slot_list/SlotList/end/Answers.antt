use Rattle.std.proofs.Common.{◌∙◌, ap, sym}
use Rattle.std.specs.Prelude.{slice_set}
use Rattle.std.proofs.lemmas.List.{map-set}
use Rattle.jg_table_locals.specs.Seen.{ended, named}
use Rattle.jg_table_locals.proofs.slot_list.SlotList.end.Goals as goal

pub invariant_of-self : goal.invariant_of-self
invariant_of-self g c =
    ap (λ objects. slice_set objects c.args.place 18446744073709551615) c.self.invariant
    ∙ sym (map-set named c.self.inside.slots.items c.args.place (ended c.index_mut.result.now))
