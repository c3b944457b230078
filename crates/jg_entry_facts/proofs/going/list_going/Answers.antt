use Rattle.std.proofs.Common.{ℕ, ◌<◌, ◌∙◌, subst, sym}
use Rattle.jg_rules.specs.View.{rows_in}
use Rattle.jg_rules.specs.Holding.{roots}
use Rattle.jg_rules.specs.Parts.{HeapTells}
use Rattle.jg_rules.proofs.Holders.{holders_stand}
use Rattle.jg_entry_facts.proofs.Unheld.{roots_marked, same_going}
use Rattle.jg_entry_facts.proofs.going.list_going.Goals as goal

pub returns : goal.returns
returns g c = λ p stands.
    c.in_ok-find_unheld.ensures.unheld p.heap (roots c.args.view.now.setup.now p) stands.heap.stands
    (roots_marked c.args.view.now.setup.now (rows_in c.args.view.now) p _ _ stands
    (λ o made. c.in_ok-start.ensures.made o (subst (λ (n : ℕ). o < n) (sym c.len.ensures.rows) made))
    (c.mark_roots.ensures p (holders_stand HeapTells c.args.view.now.setup.now (rows_in c.args.view.now) p stands)))
    ∙ same_going c.args.view.now.setup.now (rows_in c.args.view.now) p stands
