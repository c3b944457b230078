use Rattle.std.proofs.Common.{◌≡◌, List, length, sym, ap, subst, arith}
use Rattle.jg_shell.specs.Work.{Work, AreApart}
use Rattle.jg_shell.proofs.Apart.{kept, EachRan, still_apart}
use Rattle.jg_test_plays.proofs.tests.finished.Goals as goal

pub finish-requires : goal.finish-requires
finish-requires g c =
    let old = c.in_ok-shared.workers.items in
    let new = c.play.new.workers in
    let lent = c.as_mut_slice.ensures.value in
    let same : length new ≡ length old = omega (arith, c.play.auto.workers, ap (λ (ws : List Work). length ws) lent) in
    let ran = subst (λ (ws : List Work). EachRan c.args.turns ws new) lent c.play.ensures in
    subst AreApart (sym (kept c.in_ok-shared.workers.len old new (omega (arith, c.in_ok-shared.workers.ok)) same))
    (still_apart c.args.turns old new same ran c.in_ok-shared.ensures.apart)
