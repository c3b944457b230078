use Rattle.std.proofs.Common.{sym, ◌∙◌, true, false}
use Rattle.jg_record.proofs.Asking.{one_more, all_read, put}
use Rattle.jg_record.proofs.operands.read_operands.Goals as goal

pub loop-word-preserved-then-not-is_last : goal.loop-word-preserved-then-not-is_last
loop-word-preserved-then-not-is_last c =
    let old = rw (c.in-Some-split_first.ensures.cases.0, c.in-Some.ensures) at c.loop-word.invariant in
    let spelt = rw c.sort_of.ensures at c.in-Some-read_operand.ensures.some in
    rw (put c.push.result _ _ _ c.push.ensures.items (sym c.is_err.ensures.value ∙ c.if-is_err.false))
    (one_more _ _ c.in-Some-split_first.take.now c.in-Some-split_first.more.now c.in-Some.word.now _ c.loop-word.arguments.items c.in-Some-read_operand.argument
    false
    (sym c.is_last.ensures ∙ c.if-not-is_last.true) old spelt)

pub loop-word-preserved : goal.loop-word-preserved
loop-word-preserved c =
    let old = rw (c.in-Some-split_first.ensures.cases.0, c.in-Some.ensures) at c.loop-word.invariant in
    let spelt = rw c.sort_of.ensures at c.in-Some-read_operand.ensures.some in
    rw (put c.push.result _ _ _ c.push.ensures.items (sym c.is_err.ensures.value ∙ c.if-is_err.false), c.in-Some-split_first.ensures.cases.0)
    (one_more _ _ c.in-Some-split_first.take.now c.in-Some-split_first.more.now c.in-Some.word.now _ c.loop-word.arguments.items c.in-Some-read_operand.argument
    true
    (sym c.is_last.ensures ∙ c.if-not-is_last.false) old spelt)

pub returns-then-are_none-clause-ok : goal.returns-then-are_none-clause-ok
returns-then-are_none-clause-ok c =
    all_read _ _ c.loop-word.wanted.now c.loop-word.arguments.items (rw c.in_default.ensures at c.loop-word.invariant)
    (sym c.are_none.ensures ∙ c.if-are_none.true)
