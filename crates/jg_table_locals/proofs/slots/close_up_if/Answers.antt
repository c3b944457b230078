use Rattle.std.proofs.Common.{ap, arith, length}
use Rattle.jg_table_locals.specs.Seen.{dead_in}
use Rattle.jg_table_locals.proofs.Dead.{dead-le, dead-live}
use Rattle.jg_table_locals.proofs.Invariant.{up_live, up_sound, up_below, up_ends}
use Rattle.jg_table_locals.proofs.slots.close_up_if.Goals as goal

pub returns-then-dead-count-clause-live : goal.returns-then-dead-count-clause-live
returns-then-dead-count-clause-live g c = up_live c.close_up.new.self.items c.args.slots.now.items c.close_up.ensures.items

pub returns-then-dead-count-clause-sound : goal.returns-then-dead-count-clause-sound
returns-then-dead-count-clause-sound g c = λ frames sound. up_sound c.close_up.new.self.items c.args.slots.now.items frames c.close_up.ensures.items sound

pub returns-then-dead-count-clause-below : goal.returns-then-dead-count-clause-below
returns-then-dead-count-clause-below g c = λ frame all. up_below c.close_up.new.self.items c.args.slots.now.items frame c.close_up.ensures.items all

pub returns-then-dead-count-clause-ends : goal.returns-then-dead-count-clause-ends
returns-then-dead-count-clause-ends g c = λ live. up_ends c.close_up.new.self.items c.args.slots.now.items c.close_up.ensures.items

pub returns-then-dead-count-clause-dead : goal.returns-then-dead-count-clause-dead
returns-then-dead-count-clause-dead g c = λ few. omega (arith, ap dead_in c.close_up.ensures.items, dead-live c.args.slots.now.items)

pub returns-else-dead-count-clause-dead : goal.returns-else-dead-count-clause-dead
returns-else-dead-count-clause-dead g c = λ few. omega (arith, few, dead-le c.args.slots.now.items, c.min-dead.ensures, ap length c.as_slice-count.ensures)
