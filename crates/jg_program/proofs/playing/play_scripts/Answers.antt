use Rattle.std.proofs.Common.{◌≡◌, List, length, inl, sym, ap, subst, arith}
use Rattle.jg_shell.specs.Work.{Work, AreApart}
use Rattle.jg_program.specs.Plays.{HaveRun}
use Rattle.jg_shell.proofs.Apart.{kept, EachRan, still_apart}
use Rattle.jg_program.proofs.Workers.{have_run}
use Rattle.jg_program.proofs.playing.play_scripts.Goals as goal

pub settle_play-requires : goal.settle_play-requires
settle_play-requires g c =
    let old = c.in-Ok.workers.items in
    let new = c.play.new.workers in
    let lent = c.as_mut_slice.ensures.value in
    let same : length new ≡ length old = omega (arith, c.play.auto.workers, ap (λ (ws : List Work). length ws) lent) in
    let ran = subst (λ (ws : List Work). EachRan c.args.terms.turns ws new) lent c.play.ensures in
    subst AreApart (sym (kept c.in-Ok.workers.len old new (omega (arith, c.in-Ok.workers.ok)) same))
    (still_apart c.args.terms.turns old new same ran c.in-Ok.ensures.apart)

pub returns-clause-plays : goal.returns-clause-plays
returns-clause-plays g c =
    let old = c.in-Ok.workers.items in
    let new = c.play.new.workers in
    let lent = c.as_mut_slice.ensures.value in
    let same : length new ≡ length old = omega (arith, c.play.auto.workers, ap (λ (ws : List Work). length ws) lent) in
    let ran = subst (λ (ws : List Work). EachRan c.args.terms.turns ws new) lent c.play.ensures in
    inl (
      _,
      subst (λ (ws : List Work). HaveRun c.args.terms.turns c.args.scripts ws) (sym (kept c.in-Ok.workers.len old new (omega (arith, c.in-Ok.workers.ok)) same))
          (have_run c.args.terms.turns c.args.scripts old new c.in-Ok.ensures.workers ran),
      c.settle_play.ensures.settles,
    )
