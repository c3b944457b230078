use Rattle.std.proofs.Common.{◌≤◌, refl, arith}
use Rattle.std.proofs.lemmas.Result.{on_ok_weaker}
use Rattle.jg_table_locals.specs.Seen.{room_seen}
use Rattle.jg_table_locals.proofs.Tallies.{tallied}
use Rattle.jg_table_locals.proofs.Threads.{room_up, starts_to}
use Rattle.jg_table_locals.proofs.locals.Locals.reserve_start.Goals as goal

pub returns-in_err-add_stack-clause-locals : goal.returns-in_err-add_stack-clause-locals
returns-in_err-add_stack-clause-locals g c =
    room_up c.self.inside.stacks c.add_stack.new.stacks c.args.self.now c.args.tid.0 c.self.view_is c.add_stack.ensures.room

pub returns-clause-ok : goal.returns-clause-ok
returns-clause-ok g c = on_ok_weaker c.reserve_frame_at.result (λ some. starts_to c.reserve_frame_at.new.stacks c.args.tid.0 some) c.reserve_frame_at.ensures.ok

pub returns-clause-locals : goal.returns-clause-locals
returns-clause-locals g c =
    let up : (room_seen c.self.inside.stacks c.args.tid.0).locals ≤ (room_seen c.reserve_frame_at.new.stacks c.args.tid.0).locals =
    omega (arith, c.add_stack.ensures.room, c.reserve_frame_at.ensures.room) in
    room_up c.self.inside.stacks c.reserve_frame_at.new.stacks c.args.self.now c.args.tid.0 c.self.view_is up

pub invariant_of-self : goal.invariant_of-self
invariant_of-self g c =
    tallied c.self.inside.stacks c.add_stack.new.stacks c.self.inside.live c.self.inside.live 0 0 c.self.invariant c.add_stack.ensures.once
    c.add_stack.ensures.counted refl

pub invariant_of-self-2 : goal.invariant_of-self-2
invariant_of-self-2 g c =
    let had = tallied c.self.inside.stacks c.add_stack.new.stacks c.self.inside.live c.self.inside.live 0 0 c.self.invariant c.add_stack.ensures.once
    c.add_stack.ensures.counted refl in
    tallied c.add_stack.new.stacks c.reserve_frame_at.new.stacks c.self.inside.live c.self.inside.live 0 0 had c.reserve_frame_at.ensures.once
    c.reserve_frame_at.ensures.counted refl
