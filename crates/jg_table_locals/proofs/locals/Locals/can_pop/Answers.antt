use Rattle.std.proofs.Common.{◌≡◌, ◌<◌, ◌↔◌, List, subst}
use Rattle.std.specs.Prelude.{IsTrue, nat_lt}
use Rattle.jg_table_locals.specs.History.{Act, depth, frames}
use Rattle.jg_table_locals.specs.Rows.{pushed}
use Rattle.jg_table_locals.proofs.Lookups.{can_pop_law}
use Rattle.jg_table_locals.proofs.Threads.{pushed_seen, above_none}
use Rattle.jg_table_locals.proofs.locals.Locals.can_pop.Goals as goal

pub returns-clause-rows : goal.returns-clause-rows
returns-clause-rows g c =
    let is : c.frame_in.result ≡ pushed c.args.tid.0 c.args.self.now.rows =
    pushed_seen c.self.inside.stacks c.args.self.now c.args.tid.0 c.frame_in.result c.top_at.result c.self.invariant.once c.self.view_is c.top_at.ensures
    (c.frame_in.ensures c.args.tid.0) in
    let test = above_none c.frame_in.result (pushed c.args.tid.0 c.args.self.now.rows) is in
    test

pub returns-clause-frames : goal.returns-clause-frames
returns-clause-frames g c = λ e stands.
    let is : c.frame_in.result ≡ pushed c.args.tid.0 c.args.self.now.rows =
    pushed_seen c.self.inside.stacks c.args.self.now c.args.tid.0 c.frame_in.result c.top_at.result c.self.invariant.once c.self.view_is c.top_at.ensures
    (c.frame_in.ensures c.args.tid.0) in
    let test = above_none c.frame_in.result (pushed c.args.tid.0 c.args.self.now.rows) is in
    can_pop_law c.args.self.now.rows e c.args.tid.0 _ stands test

pub returns-clause-own_thread : goal.returns-clause-own_thread
returns-clause-own_thread g c = λ e f stands same.
    let is : c.frame_in.result ≡ pushed c.args.tid.0 c.args.self.now.rows =
    pushed_seen c.self.inside.stacks c.args.self.now c.args.tid.0 c.frame_in.result c.top_at.result c.self.invariant.once c.self.view_is c.top_at.ensures
    (c.frame_in.ensures c.args.tid.0) in
    let test = above_none c.frame_in.result (pushed c.args.tid.0 c.args.self.now.rows) is in
    let P : List Act → Type 0 = λ acts. IsTrue (nat_lt 0 c.frame_in.result) ↔ (0 < frames (depth acts) acts) in
    subst P same (can_pop_law c.args.self.now.rows e c.args.tid.0 _ stands test)
