use Rattle.jg_table_buffers.proofs.Listed.{listed_left}
use Rattle.jg_table_buffers.proofs.visits.list_copies.Goals as goal

pub loop-key-preserved : goal.loop-key-preserved
loop-key-preserved g c =
    listed_left c.in-Some.key.now c.loop-key.key-iterator c.next.new.self c.loop-key.buffers.items _ _
    c.in-Some.ensures.steps (rw c.in_ok-reserve.ensures.items at c.push_reserved.ensures.items) c.loop-key.invariant
