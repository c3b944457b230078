use Rattle.std.proofs.Common.{◌<◌, ◌≤◌, flat_map, length, map, ap, sym, ◌∙◌, arith}
use Rattle.std.proofs.lemmas.List.{length-map, map-append}
use Rattle.std.proofs.lemmas.Grind.{flat_map-append}
use Rattle.jg_explain.specs.Explained.{as_it_was, causes, denial_of, watches_of}
use Rattle.jg_explain.proofs.Causing.{all_of_them, few_more, front_within, kept_more, when_enough}
use Rattle.jg_explain.proofs.denials.denials_of.Goals as goal

pub returns-then-len-most-clause-denials : goal.returns-then-len-most-clause-denials
returns-then-len-most-clause-denials g c =
    let whole = c.args.guard.now in
    let below : c.loop-at.at < length whole.journal = omega (arith, c.loop-at-test.true, c.journal_len-at-end.ensures.len) in
    let so_far = c.loop-at.invariant in
    let kept = c.loop-at.found.denials in
    let many : c.args.most ≤ length kept.items = omega (arith, c.if-len-most.true, kept.ok) in
    let first = when_enough whole.setup whole.journal c.loop-at.at c.args.most kept.items below so_far.denials so_far.few many in
    so_far.denials ∙ ap (map denial_of) (sym first)

pub returns-then-len-most-clause-watches : goal.returns-then-len-most-clause-watches
returns-then-len-most-clause-watches g c =
    let whole = c.args.guard.now in
    let below : c.loop-at.at < length whole.journal = omega (arith, c.loop-at-test.true, c.journal_len-at-end.ensures.len) in
    let so_far = c.loop-at.invariant in
    let kept = c.loop-at.found.denials in
    let many : c.args.most ≤ length kept.items = omega (arith, c.if-len-most.true, kept.ok) in
    let first = when_enough whole.setup whole.journal c.loop-at.at c.args.most kept.items below so_far.denials so_far.few many in
    so_far.watches ∙ ap (flat_map watches_of) (sym first)

pub returns-then-len-most-clause-within : goal.returns-then-len-most-clause-within
returns-then-len-most-clause-within g c =
    let whole = c.args.guard.now in
    let below : c.loop-at.at < length whole.journal = omega (arith, c.loop-at-test.true, c.journal_len-at-end.ensures.len) in
    let so_far = c.loop-at.invariant in
    let kept = c.loop-at.found.denials in
    let many : c.args.most ≤ length kept.items = omega (arith, c.if-len-most.true, kept.ok) in
    let first = when_enough whole.setup whole.journal c.loop-at.at c.args.most kept.items below so_far.denials so_far.few many in
    front_within whole c.loop-at.again c.loop-at.at c.args.most so_far.front first

pub loop-at-preserved : goal.loop-at-preserved
loop-at-preserved g c =
    let whole = c.args.guard.now in
    let n = c.loop-at.at in
    let below : n < length whole.journal = omega (arith, c.loop-at-test.true, c.journal_len-at-end.ensures.len) in
    let so_far = c.loop-at.invariant in
    let long = ap length so_far.denials ∙ length-map (causes whole.setup (as_it_was n whole.journal)) denial_of in
    let few : length (causes whole.setup (as_it_was n whole.journal)) < c.args.most = omega (arith, long, c.if-len-most.false) in
    record {
      front = c.in_ok-replay_entry.ensures;
      denials = kept_more (map denial_of) whole c.loop-at.again n _ _ (map-append denial_of) below so_far.front so_far.denials
          c.in_ok-push_if_denied.ensures.denials;
      watches = kept_more (flat_map watches_of) whole c.loop-at.again n _ _ (flat_map-append watches_of) below so_far.front so_far.watches
          c.in_ok-push_if_denied.ensures.watches;
      few = few_more whole c.loop-at.again n c.args.most below so_far.front few;
    }

pub returns-clause-within : goal.returns-clause-within
returns-clause-within g c =
    let whole = c.args.guard.now in
    let so_far = c.loop-at.invariant in
    let all : length whole.journal ≤ c.loop-at.at = omega (arith, c.loop-at-test.false, c.journal_len-at-end.ensures.len) in
    front_within whole c.loop-at.again c.loop-at.at c.args.most so_far.front (all_of_them whole.setup whole.journal c.loop-at.at c.args.most all so_far.few)
