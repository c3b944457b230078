use Rattle.std.proofs.Common.{rules, ◌≡◌, ◌∙◌, suc, ◌∷◌, arith, length, refl, ap, sym}
use Rattle.jg_judge.specs.Question.{beside_of}
use Rattle.jg_judge.proofs.Looked.{at_first, one_more, one_more_argument, all_seen}
use Rattle.jg_judge.proofs.pass.look_over.Goals as goal

pub loop-argument-init : goal.loop-argument-init
loop-argument-init g c = (
  search rules,
  refl,
  λ p stands. at_first c.args.view.now.setup.now p c.args.tid.0 (beside_of c.args.bounds p c.args.arguments.now) c.args.takes.now
      c.args.arguments.now,
)

pub loop-argument-preserved-then-not-is_last : goal.loop-argument-preserved-then-not-is_last
loop-argument-preserved-then-not-is_last g c =
    let wanted_is : c.loop-argument.wanted.now ≡ c.in-Some-split_first.take.now ∷ c.in-Some-split_first.more.now = search rules in
    let rest_is : c.loop-argument.rest.now ≡ c.in-Some.argument.now ∷ c.in-Some.later.now = search rules in
    let one_less : length c.loop-argument.rest.now ≡ suc (length c.in-Some.later.now) = ap length rest_is in (
      omega (arith, one_less, c.loop-argument.invariant.0),
      search rules,
      λ p stands.
          one_more c.args.view.now.setup.now p c.args.tid.0 (beside_of c.args.bounds p c.args.arguments.now) c.args.takes.now c.args.arguments.now
          c.loop-argument.first c.or-first.result
          c.in-Some-look_at.seen.named c.loop-argument.broken c.with_one-broken.result c.in-Some-look_at.seen.broken c.loop-argument.place
          c.in-Some-split_first.take.now c.in-Some.argument.now
          c.loop-argument.wanted.now c.in-Some-split_first.more.now c.loop-argument.rest.now c.in-Some.later.now wanted_is rest_is
          (c.in-Some-look_at.ensures.named p stands)
          (c.in-Some-look_at.ensures.broken p stands) c.or-first.ensures c.with_one-broken.ensures (c.loop-argument.invariant.2 p stands)
          (sym c.is_last.ensures ∙ c.if-not-is_last.true),
    )

pub loop-argument-preserved : goal.loop-argument-preserved
loop-argument-preserved g c =
    let wanted_is : c.loop-argument.wanted.now ≡ c.in-Some-split_first.take.now ∷ c.in-Some-split_first.more.now = search rules in
    let rest_is : c.loop-argument.rest.now ≡ c.in-Some.argument.now ∷ c.in-Some.later.now = search rules in
    let one_less : length c.loop-argument.rest.now ≡ suc (length c.in-Some.later.now) = ap length rest_is in (
      omega (arith, one_less, c.loop-argument.invariant.0),
      search rules,
      λ p stands.
          one_more_argument c.args.view.now.setup.now p c.args.tid.0 (beside_of c.args.bounds p c.args.arguments.now) c.args.takes.now c.args.arguments.now
          c.loop-argument.first c.or-first.result
          c.in-Some-look_at.seen.named c.loop-argument.broken c.with_one-broken.result c.in-Some-look_at.seen.broken c.loop-argument.place
          c.in-Some-split_first.take.now c.in-Some.argument.now
          c.loop-argument.wanted.now c.in-Some-split_first.more.now c.loop-argument.rest.now c.in-Some.later.now wanted_is rest_is
          (c.in-Some-look_at.ensures.named p stands)
          (c.in-Some-look_at.ensures.broken p stands) c.or-first.ensures c.with_one-broken.ensures (c.loop-argument.invariant.2 p stands)
          (sym c.is_last.ensures ∙ c.if-not-is_last.false),
    )

pub returns-then-are_none-clause-found : goal.returns-then-are_none-clause-found
returns-then-are_none-clause-found g c = λ p stands.
    all_seen c.args.bounds c.args.view.now.setup.now p c.args.tid.0 c.args.takes.now c.args.arguments.now c.loop-argument.first c.loop-argument.broken
    c.loop-argument.place c.unwrap_or.result
    c.loop-argument.wanted.now c.loop-argument.rest.now (c.loop-argument.invariant.2 p stands) c.in_default.ensures.cases c.unwrap_or.ensures
