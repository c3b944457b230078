use Rattle.std.proofs.Common.{◌≡◌, ◌∙◌, refl, ap}
use Rattle.std.proofs.lemmas.Result.{on_ok_weaker}
use Rattle.jg_table_locals.specs.Rows.{Table}
use Rattle.jg_table_locals.specs.Seen.{rows_seen}
use Rattle.jg_table_locals.proofs.Tallies.{tallied}
use Rattle.jg_table_locals.proofs.Threads.{start_step, none_top, next_first, has_stack, starts_from, ok_not_err, restand}
use Rattle.jg_table_locals.proofs.locals.Locals.start_thread.Goals as goal

pub returns-in_err-add_stack-clause-room : goal.returns-in_err-add_stack-clause-room
returns-in_err-add_stack-clause-room g c =
    λ some. absurd (ok_not_err c.add_stack.result _ (c.add_stack.ensures.had (has_stack c.self.inside.stacks c.args.self.now c.args.tid.0 c.self.view_is some))
    c.in_err-add_stack.was)

pub open_at-requires-clause-next : goal.open_at-requires-clause-next
open_at-requires-clause-next g c =
    let same : rows_seen c.add_stack.new.stacks ≡ c.args.self.now.rows = c.add_stack.ensures.rows ∙ ap (λ (t : Table). t.rows) c.self.view_is in
    next_first c.add_stack.new.stacks c.args.tid.0 _ (c.add_stack.ensures.once c.self.invariant.once)
    (none_top (rows_seen c.add_stack.new.stacks) c.args.self.now.rows c.args.tid.0 same c.requires)

pub returns-clause-ok : goal.returns-clause-ok
returns-clause-ok g c = on_ok_weaker c.open_at.result (λ changes. λ e stands.
    let same : rows_seen c.add_stack.new.stacks ≡ c.args.self.now.rows = c.add_stack.ensures.rows ∙ ap (λ (t : Table). t.rows) c.self.view_is in
    let ordered = c.add_stack.ensures.once c.self.invariant.once in
    start_step c.add_stack.new.stacks c.open_at.new.stacks c.args.tid.0 e ordered (c.open_at.ensures.once ordered)
    (none_top (rows_seen c.add_stack.new.stacks) c.args.self.now.rows c.args.tid.0 same c.requires) changes
    (restand (rows_seen c.add_stack.new.stacks) c.args.self.now.rows e same stands)) c.open_at.ensures.ok

pub returns-clause-room : goal.returns-clause-room
returns-clause-room g c =
    λ some. c.open_at.ensures.has_room
    (starts_from c.self.inside.stacks c.add_stack.new.stacks c.args.self.now c.args.tid.0 c.self.view_is c.add_stack.ensures.starts some)

pub invariant_of-self : goal.invariant_of-self
invariant_of-self g c =
    tallied c.self.inside.stacks c.add_stack.new.stacks c.self.inside.live c.self.inside.live 0 0 c.self.invariant c.add_stack.ensures.once
    c.add_stack.ensures.counted refl

pub invariant_of-self-2 : goal.invariant_of-self-2
invariant_of-self-2 g c =
    let had = tallied c.self.inside.stacks c.add_stack.new.stacks c.self.inside.live c.self.inside.live 0 0 c.self.invariant c.add_stack.ensures.once
    c.add_stack.ensures.counted refl in
    tallied c.add_stack.new.stacks c.open_at.new.stacks c.self.inside.live c.self.inside.live 0 0 had c.open_at.ensures.once c.open_at.ensures.counted refl
