use Rattle.std.proofs.Common.{◌∙◌}
use Rattle.jg_rules.specs.View.{rows_in}
use Rattle.jg_rules.specs.Holding.{roots}
use Rattle.jg_rules.specs.Parts.{HeapTells}
use Rattle.jg_rules.proofs.Holders.{holders_stand}
use Rattle.jg_guard.proofs.Collecting.{roots_marked, same_going}
use Rattle.jg_guard.proofs.collect.mark_held.Goals as goal

pub returns-clause-marks : goal.returns-clause-marks
returns-clause-marks g c = λ p stands.
    c.in_ok-find_unheld.ensures.marks p.heap (roots c.args.view.now.setup.now p) stands.heap.stands
    (roots_marked c.args.view.now.setup.now (rows_in c.args.view.now) p _ _ stands c.requires
    (c.mark_roots.ensures p (holders_stand HeapTells c.args.view.now.setup.now (rows_in c.args.view.now) p stands)))

pub returns-clause-unheld : goal.returns-clause-unheld
returns-clause-unheld g c = λ p stands.
    c.in_ok-find_unheld.ensures.unheld p.heap (roots c.args.view.now.setup.now p) stands.heap.stands
    (roots_marked c.args.view.now.setup.now (rows_in c.args.view.now) p _ _ stands c.requires
    (c.mark_roots.ensures p (holders_stand HeapTells c.args.view.now.setup.now (rows_in c.args.view.now) p stands)))
    ∙ same_going c.args.view.now.setup.now (rows_in c.args.view.now) p stands
