use Rattle.std.proofs.Common.{◌≡◌, ◌≤◌, ◌∙◌, length, map, ap, subst, arith, take_all}
use Rattle.jg_explain.specs.Explained.{IsFront}
use Rattle.jg_explain.specs.Followed.{IsFollowed}
use Rattle.jg_explain.specs.Watched.{watched}
use Rattle.jg_explain.proofs.following.follow.Goals as goal

pub returns : goal.returns
returns g c =
    let whole = c.args.guard.now in
    let so_far = c.loop-at.invariant in
    let done : c.loop-at.at ≡ c.args.end = omega (arith, c.loop-at-test.false) in
    let last : c.args.end ≤ c.args.end = omega arith in
    let front = subst (λ n. IsFront whole c.loop-at.again n) done so_far.front in
    let followed = subst (λ n. IsFollowed whole n c.loop-at.following.traces.items c.loop-at.following.steady.items) done so_far.followed in
    let ask = watched whole.setup whole.journal c.args.end in
    let known = c.in-Ok-push_known-2.ensures whole c.args.end front c.journal_len-legal.ensures.legal last c.requires.within followed so_far.found in
    let all : length c.args.watches.now ≤ length c.push_known-2.new.found.items = omega (arith, c.if-len-watches.false, c.push_known-2.new.found.ok) in
    known ∙ ap (map ask) (take_all (length c.push_known-2.new.found.items) c.args.watches.now all)
