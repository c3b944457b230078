use Rattle.std.proofs.Common.{arith, refl, subst, List, ℕ, All}
use Rattle.std.specs.Int.{IsInRange}
use Rattle.std.proofs.lemmas.List.{take_all}
use Rattle.std.proofs.lemmas.List.Elements.{All-more}
use Rattle.jg_text.proofs.Columns.{odd_here}
use Rattle.jg_text.proofs.place.before_odd.Goals as goal

pub returns-then-not-is_visible-clause-odd : goal.returns-then-not-is_visible-clause-odd
returns-then-not-is_visible-clause-odd c = λ _.
    odd_here c.args.line.now c.loop-i.i c.loop-i-test.true c.loop-i.invariant.seen
    (λ seen. absurd (grind (arith, c.if-not-is_visible.true, c.if-not-is_visible.ensures.1 seen)))

pub loop-i-preserved : goal.loop-i-preserved
loop-i-preserved c = record {
  seen = All-more (λ b. IsInRange 32 126 b) c.args.line.now c.loop-i.i 0 c.loop-i-test.true c.loop-i.invariant.seen (c.if-not-is_visible.ensures.0 refl);
}

pub returns-clause-odd : goal.returns-clause-odd
returns-clause-odd c = λ odd.
    let whole = take_all c.loop-i.i c.args.line.now (omega (arith, c.loop-i-test.false)) in
    absurd (odd (subst (λ (bs : List ℕ). All (λ b. IsInRange 32 126 b) bs) whole c.loop-i.invariant.seen))
