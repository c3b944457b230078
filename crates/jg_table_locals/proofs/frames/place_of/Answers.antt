use Rattle.std.proofs.Common.{rules, get_or}
use Rattle.jg_table_locals.specs.declared.row.Opened.{Opened}
use Rattle.jg_table_locals.specs.Seen.{frame_cmp}
use Rattle.std.proofs.lemmas.Fn.{always_returns_same}
use Rattle.jg_table_locals.proofs.Opened.{no_place, equal_is}
use Rattle.jg_table_locals.proofs.frames.place_of.Goals as goal

pub returns-in-Ok : goal.returns-in-Ok
returns-in-Ok c =
    let at = c.in-Ok.ensures.position (λ o. frame_cmp c.args.depth c.args.number o.frame) (always_returns_same _ _ _ (λ a r f' k. search rules)) in
    (c.in-Ok.ensures.bound, λ (o : Opened). equal_is c.args.depth c.args.number (get_or c.args.frames.now c.in-Ok.i o).frame (at o))

pub returns-in-Err : goal.returns-in-Err
returns-in-Err c = no_place c.args.frames.now c.args.depth c.args.number c.in-Err._place c.requires
    (c.in-Err.ensures.position (λ o. frame_cmp c.args.depth c.args.number o.frame) (always_returns_same _ _ _ (λ a r f' k. search rules)))
