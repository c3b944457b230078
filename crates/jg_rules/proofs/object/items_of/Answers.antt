use Rattle.std.proofs.Common.{◌∙◌, ap, sym, length}
use Rattle.jg_rules.proofs.Objects.{items_are, items_of-length}
use Rattle.jg_rules.proofs.object.items_of.Goals as goal

pub returns-clause-told : goal.returns-clause-told
returns-clause-told g c = λ p stands. sym (items_are _ _ p c.args.object.0 c.items.result.now stands (c.items.ensures.items p.heap stands.heap.stands))

pub returns-clause-len : goal.returns-clause-len
returns-clause-len g c = λ p stands.
    ap length (sym (items_are _ _ p c.args.object.0 c.items.result.now stands (c.items.ensures.items p.heap stands.heap.stands)))
    ∙ items_of-length c.args.view.now.setup.now p c.args.object.0
