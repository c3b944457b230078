use Rattle.std.proofs.Common.{ℕ, subst, sym}
use Rattle.jg_table_heap.specs.Standing.{MarksHeld}
use Rattle.jg_rules.specs.Holding.{roots}
use Rattle.jg_guard.specs.Tables.{rows_of}
use Rattle.jg_guard.proofs.Collecting.{collected}
use Rattle.jg_guard.proofs.collect.let_go.Goals as goal

pub returns-clause-stands : goal.returns-clause-stands
returns-clause-stands g c = λ setup p stands marks.
    let own = subst (λ (k : ℕ). MarksHeld k (roots setup p) p.heap c.args.marks.now) (sym stands.heap.classes) marks in
    collected setup (rows_of c.args.tables.now) p _ _ stands
    (c.clear_going.ensures p.heap p.globals (roots setup p) stands.heap.stands stands.globals own)
    (c.sweep.ensures.stands p.heap (roots setup p) stands.heap.stands own) c.sweep.ensures.classes
