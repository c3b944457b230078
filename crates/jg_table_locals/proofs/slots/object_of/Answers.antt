use Rattle.std.proofs.Common.{◌∙◌, sym, refl, false}
use Rattle.jg_table_locals.proofs.Numbers.{object_there, no_object}
use Rattle.jg_table_locals.proofs.slots.object_of.Goals as goal

pub returns-in_err-i : goal.returns-in_err-i
returns-in_err-i g c = c.from_residual.ensures ∙ sym (no_object c.args.slots.now.items c.args.n c.in_err-i.ensures)

pub returns-then-slot : goal.returns-then-slot
returns-then-slot g c =
    let live = rw c.as_slice.ensures at c.if-slot.true in
    let there = object_there c.args.slots.now.items c.args.n c.in_ok-i.i (record { n = 0; object = 0; depth = 0; frame = 0; live = false }) c.requires
    c.in_ok-i.ensures.0 (c.in_ok-i.ensures.1 _) in
    rw (c.as_slice.ensures, there, live) refl

pub returns-else-slot : goal.returns-else-slot
returns-else-slot g c =
    let dead = rw c.as_slice.ensures at c.if-slot.false in
    let there = object_there c.args.slots.now.items c.args.n c.in_ok-i.i (record { n = 0; object = 0; depth = 0; frame = 0; live = false }) c.requires
    c.in_ok-i.ensures.0 (c.in_ok-i.ensures.1 _) in
    rw (there, dead) refl
