use Rattle.std.proofs.Common.{◌≡◌, arith, subst, All}
use Rattle.std.specs.Prelude.{◌↔◌}
use Rattle.std.specs.Int.{IsInRange}
use Rattle.std.proofs.lemmas.Bool.Decides.{nat_tests}
use Rattle.std.proofs.lemmas.List.{take_all}
use Rattle.std.proofs.Common.{List, ℕ}
use Rattle.jg_text.proofs.Reading.{seen_more, seen_over}
use Rattle.jg_text.proofs.read.is_printable.Goals as goal
use Rattle.jg_text.proofs.read.is_printable.Goals.{then-line-i-lt32, then-line-i-lt32-via-then-line-i-lt32, then-line-i-lt32-via-else-line-i-lt32+then-line-i-gt126, else-line-i-lt32+else-line-i-gt126}

pub loop-i-preserved : goal.loop-i-preserved
loop-i-preserved c =
    let xs = c.args.line.now in
    let i = c.loop-i.i in
    record {
      so_far = elim c.if-line-i-lt32.branch [
        | then-line-i-lt32 w ↦ seen_over xs i _ c.loop-i-test.true w.others-is (elim w.then-line-i-lt32.branch [
          | then-line-i-lt32-via-then-line-i-lt32 v ↦ λ seen. absurd (omega (arith, seen, v.if-line-i-lt32.true))
          | then-line-i-lt32-via-else-line-i-lt32+then-line-i-gt126 v ↦ λ seen. absurd (omega (arith, seen, v.if-line-i-gt126.true))
        ])
        | else-line-i-lt32+else-line-i-gt126 w ↦ seen_more xs i c.loop-i.others _ c.loop-i-test.true w.others-is
            (omega (arith, w.if-line-i-lt32.false, w.if-line-i-gt126.false))
            c.loop-i.invariant.so_far
      ];
    }

pub returns : goal.returns
returns c =
    let whole = subst (λ (bs : List ℕ). (c.loop-i.others ≡ 0) ↔ All (λ b. IsInRange 32 126 b) bs)
    (take_all c.loop-i.i c.args.line.now (omega (arith, c.loop-i-test.false))) c.loop-i.invariant.so_far in
    (λ t. whole.0 (grind (arith, nat_tests, t)), λ all. let none = whole.1 all in grind (arith, nat_tests, none))
