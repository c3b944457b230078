use Rattle.std.proofs.Common.{◌∙◌, sym, ap, arith, length}
use Rattle.std.specs.Prelude.{filter, if◌then◌else◌}
use Rattle.std.specs.Option.{is_some}
use Rattle.jg_table_locals.specs.Seen.{dead_in, is_live}
use Rattle.jg_table_locals.proofs.Dead.{dead-ended, live-ended, one_of}
use Rattle.jg_table_locals.proofs.Numbers.{marked_there, sound_there, rises_there, unmarked, slot_found, no_slot}
use Rattle.jg_table_locals.proofs.slots.mark_dead.Goals as goal

pub returns-in-Some-clause-marked : goal.returns-in-Some-clause-marked
returns-in-Some-clause-marked g c =
    rw c.end.ensures.items (marked_there c.args.slots.now.items c.args.n c.in-Some.i c.end.result c.end.ensures.was c.requires c.in-Some.ensures)

pub returns-in-Some-clause-sound : goal.returns-in-Some-clause-sound
returns-in-Some-clause-sound g c =
    λ frames sound. rw c.end.ensures.items (sound_there c.args.slots.now.items frames c.in-Some.i c.end.result c.end.ensures.was sound)

pub returns-in-Some-clause-rises : goal.returns-in-Some-clause-rises
returns-in-Some-clause-rises g c = rw c.end.ensures.items (rises_there c.args.slots.now.items c.in-Some.i c.end.result c.end.ensures.was c.requires)

pub returns-in-None-clause-marked : goal.returns-in-None-clause-marked
returns-in-None-clause-marked g c = unmarked c.args.slots.now.items c.args.n c.in-None.ensures

pub returns-in-Some-clause-was : goal.returns-in-Some-clause-was
returns-in-Some-clause-was g c =
    c.live_slot.ensures ∙ slot_found c.args.slots.now.items c.args.n c.in-Some.i c.end.result c.end.ensures.was c.requires c.in-Some.ensures

pub returns-in-None-clause-was : goal.returns-in-None-clause-was
returns-in-None-clause-was g c = sym (no_slot c.args.slots.now.items c.args.n c.in-None.ensures)

pub returns-in-Some-clause-dead : goal.returns-in-Some-clause-dead
returns-in-Some-clause-dead g c =
    let one = dead-ended c.args.slots.now.items c.in-Some.i c.end.result c.in-Some.ensures.0 c.end.ensures.was in
    let counted = ap (λ found. if is_some found then 1 else 0) c.live_slot.ensures ∙ one_of c.end.result in
    omega (arith, one, ap dead_in c.end.ensures.items, counted)

pub returns-in-Some-clause-counted : goal.returns-in-Some-clause-counted
returns-in-Some-clause-counted g c =
    let one = live-ended c.args.slots.now.items c.in-Some.i c.end.result c.in-Some.ensures.0 c.end.ensures.was in
    let counted = ap (λ found. if is_some found then 1 else 0) c.live_slot.ensures ∙ one_of c.end.result in
    omega (arith, one, ap (λ slots. length (filter is_live slots)) c.end.ensures.items, counted)
