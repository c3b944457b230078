use Rattle.std.proofs.Common.{arith, length-drop, subst, length, drop, ◌+◌, ◌≡◌}
use Rattle.jg_record.specs.Parts.{NoMark}
use Rattle.jg_record.proofs.Cutting.{here, none_ahead, none_here}
use Rattle.jg_record.proofs.cut.find_mark.Goals as goal

pub returns-then-is_mark : goal.returns-then-is_mark
returns-then-is_mark c =
    let old = c.loop-from.invariant in
    let found = rw c.split_at.ensures.back at c.in-Some.ensures in
    record {
      is = (here c.args.mark c.args.text.now c.loop-from.from c.in-Some.ahead found.1, c.is_mark.ensures.0 c.if-is_mark.true);
      first = none_ahead c.args.mark c.args.text.now c.loop-from.from c.in-Some.ahead old.none found.0.before;
    }

pub loop-from-preserved : goal.loop-from-preserved
loop-from-preserved c =
    let old = c.loop-from.invariant in
    let found = rw c.split_at.ensures.back at c.in-Some.ensures in
    let long = length-drop c.loop-from.from c.args.text.now in
    record {
      within = omega (arith, long, found.0.high, old.within);
      none = none_here c.args.mark c.args.text.now (c.loop-from.from + c.in-Some.ahead)
          (none_ahead c.args.mark c.args.text.now c.loop-from.from c.in-Some.ahead old.none found.0.before)
          (λ apart. let clash : ⊥ = cc (c.is_mark.ensures.1 apart, c.if-is_mark.false) in clash);
    }

pub returns-in_default : goal.returns-in_default
returns-in_default c =
    let old = c.loop-from.invariant in
    let none = rw c.split_at.ensures.back at c.in_default.ensures in
    let long = length-drop c.loop-from.from c.args.text.now in
    let all : c.loop-from.from + length (drop c.loop-from.from c.args.text.now) ≡ length c.args.text.now = omega (arith, long, old.within) in
    subst (NoMark c.args.mark c.args.text.now) all (none_ahead c.args.mark c.args.text.now c.loop-from.from _ old.none none)
