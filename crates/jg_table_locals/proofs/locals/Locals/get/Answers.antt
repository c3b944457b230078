use Rattle.std.proofs.Common.{◌∙◌, ◌≡◌, ap, List}
use Rattle.std.specs.Prelude.{ℕ}
use Rattle.std.specs.Option.{option_map}
use Rattle.jg_words.specs.declared.object.ObjId.{ObjId}
use Rattle.jg_table_locals.specs.History.{Act, live, acts_of}
use Rattle.jg_table_locals.specs.Seen.{rows_seen}
use Rattle.jg_table_locals.proofs.Lookups.{reopened, get_law}
use Rattle.jg_table_locals.proofs.Threads.{table_seen, object_seen}
use Rattle.jg_table_locals.proofs.locals.Locals.get.Goals as goal

-- the row is of the live local
pub returns-clause-live : goal.returns-clause-live
returns-clause-live g c = λ e stands.
    let was = (reopened (table_seen c.self.inside.stacks) c.args.self.now e c.self.view_is stands) in
    let is : c.object_at.result ≡ live c.args.n (acts_of c.args.tid.0 e) =
    c.object_at.ensures ∙ (object_seen c.self.inside.stacks c.args.tid.0 c.args.n c.self.invariant.once
    ∙ get_law (rows_seen c.self.inside.stacks) e c.args.tid.0 c.args.n was) in
    let id : ℕ → ObjId = λ o. record { 0 = o } in
    c.id_of.ensures ∙ ap (option_map id) is

pub returns-clause-own_thread : goal.returns-clause-own_thread
returns-clause-own_thread g c = λ e f stands same.
    let was = (reopened (table_seen c.self.inside.stacks) c.args.self.now e c.self.view_is stands) in
    let is : c.object_at.result ≡ live c.args.n (acts_of c.args.tid.0 e) =
    c.object_at.ensures ∙ (object_seen c.self.inside.stacks c.args.tid.0 c.args.n c.self.invariant.once
    ∙ get_law (rows_seen c.self.inside.stacks) e c.args.tid.0 c.args.n was) in
    let id : ℕ → ObjId = λ o. record { 0 = o } in
    c.id_of.ensures ∙ (ap (option_map id) is ∙ ap (λ (acts : List Act). option_map id (live c.args.n acts)) same)
