use Rattle.std.proofs.Common.{rules}
use Rattle.jg_table_locals.specs.declared.row.LocalSlot.{LocalSlot}
use Rattle.std.proofs.lemmas.Fn.{always_returns_same}
use Rattle.jg_table_locals.proofs.Numbers.{no_place, equal_is}
use Rattle.jg_table_locals.proofs.slot_list.place_among.Goals as goal

pub returns-in-Ok : goal.returns-in-Ok
returns-in-Ok g c =
    let at = c.in-Ok.ensures.position (λ s. s.n) (always_returns_same _ _ _ (λ a r f' k. search rules)) in
    (c.in-Ok.ensures.bound, λ (s : LocalSlot). equal_is _ _ (at s))

pub returns-in-Err : goal.returns-in-Err
returns-in-Err g c = no_place c.args.slots.now c.args.n c.in-Err._place c.requires
    (c.in-Err.ensures.position (λ s. s.n) (always_returns_same _ _ _ (λ a r f' k. search rules)))
