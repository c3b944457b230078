use Rattle.std.proofs.Common.{rules, ◌≡◌, ◌∙◌, ap, refl}
use Rattle.jg_table_buffers.specs.Standing.{Stands}
use Rattle.jg_table_buffers.proofs.Lookups.{reopened, above_in}
use Rattle.jg_table_buffers.proofs.Calls.{seen, open_copy_law, copy_numbers}
use Rattle.jg_lists.specs.ByMaker.{named}
use Rattle.jg_table_buffers.proofs.buffers.Buffers.open_with.Goals as goal

-- the copy is added
pub returns-clause-ok : goal.returns-clause-ok
returns-clause-ok g c = λ e stands.
    let was : Stands (seen g.I.Items.items_of c.self.inside.copies.entries (named c.self.inside.pins)) e = reopened _ _ e c.self.view_is stands in
    open_copy_law g.I.Items.items_of c.self.inside.copies.entries c.insert.new.self.entries (named c.self.inside.pins) e c.args.tid.0 c.args.n c.args.object.0
    c.args.family
    (g.I.Items.items_of c.args.items) _ c.requires.copies was
    (above_in _ _ c.args.tid.0 c.args.n c.self.view_is c.requires.above) c.in_ok-insert.ensures.unique c.in_ok-insert.ensures.updates.0
    (rw c.copy_kind.ensures refl)

-- no other number is there
pub returns-clause-numbers : goal.returns-clause-numbers
returns-clause-numbers g c = λ k i above below.
    copy_numbers g.I.Items.items_of c.self.inside.copies.entries c.insert.new.self.entries (named c.self.inside.pins) c.args.tid.0 c.args.n _
    c.in_ok-insert.ensures.updates.0 k i
    (above_in _ _ k i c.self.view_is above)
    below

-- refused, no number is added
pub returns-in_err-insert-clause-numbers : goal.returns-in_err-insert-clause-numbers
returns-in_err-insert-clause-numbers g c = λ k i above below. rw c.in_err-insert.ensures.err (above_in _ _ k i c.self.view_is above)

-- refused, all is as it was
pub returns-in_err-insert-clause-err : goal.returns-in_err-insert-clause-err
returns-in_err-insert-clause-err g c =
    let same : seen g.I.Items.items_of c.insert.new.self.entries (named c.self.inside.pins) ≡ c.args.self.now =
    ap (λ es. seen g.I.Items.items_of es (named c.self.inside.pins))
    c.in_err-insert.ensures.err ∙ c.self.view_is in
    search rules
