use Rattle.std.proofs.Common.{◌∙◌, ap, sym, arith}
use Rattle.std.specs.Prelude.{not}
use Rattle.jg_guard.proofs.Collecting.{unmade_stays, gone_stays, unmarked_goes}
use Rattle.jg_guard.proofs.collect.is_going.Goals as goal

pub returns-then-not-is_gone : goal.returns-then-not-is_gone
returns-then-not-is_gone g c = λ e held stands marks.
    let count = c.len.ensures.history e stands in
    ap not c.is_set.ensures
    ∙ unmarked_goes c.args.heap.now.classes held e c.args.object.0 c.args.marks.now (omega (arith, count, c.if-object-len.true))
    (sym (c.is_gone.ensures e stands) ∙ c.if-not-is_gone.true) marks

pub returns-else-not-is_gone : goal.returns-else-not-is_gone
returns-else-not-is_gone g c = λ e held stands marks.
    let count = c.len.ensures.history e stands in
    ap not c.if-not-is_gone.false
    ∙ gone_stays c.args.heap.now.classes held e c.args.object.0 (omega (arith, count, c.if-object-len.true))
    (sym (c.is_gone.ensures e stands) ∙ c.if-not-is_gone.false)

pub returns-else-object-len : goal.returns-else-object-len
returns-else-object-len g c = λ e held stands marks.
    let count = c.len.ensures.history e stands in
    unmade_stays c.args.heap.now.classes held e c.args.object.0 (omega (arith, count, c.if-object-len.false))
