use Rattle.std.proofs.Common.{◌<◌, ◌≤◌, length, ◌==◌, arith, rules}
use Rattle.std.proofs.lemmas.List.Splits.{length-slice_split}
use Rattle.jg_text.proofs.Lists.{pieces}
use Rattle.jg_text.proofs.Bad.{list_spelt, list_too_long}
use Rattle.jg_text.proofs.place.is_items.Goals as goal

pub returns-then-count_of-ge-MAX_ITEMS : goal.returns-then-count_of-ge-MAX_ITEMS
returns-then-count_of-ge-MAX_ITEMS c =
    let some : 0 < length c.in-Some.inner.now = search rules in
    let long : 1000 < length (pieces c.in-Some.inner.now) =
    omega (arith, c.if-count_of-ge-MAX_ITEMS.true, c.count_of.ensures.counted, length-slice_split (λ b. b == 44) c.in-Some.inner.now) in
    (λ t. absurd (cc), λ spelt. absurd (list_too_long c.args.text.now c.in-Some.inner.now c.in-Some.ensures some long spelt))

pub returns : goal.returns
returns c =
    let some : 0 < length c.in-Some.inner.now = search rules in
    let few : length (pieces c.in-Some.inner.now) ≤ 1000 =
    omega (arith, c.if-count_of-ge-MAX_ITEMS.false, c.count_of.ensures.counted, length-slice_split (λ b. b == 44) c.in-Some.inner.now) in
    let same = list_spelt c.args.text.now c.in-Some.inner.now c.in-Some.ensures some few in
    (λ t. same.0 (c.are_numbers.ensures.0 t), λ spelt. c.are_numbers.ensures.1 (same.1 spelt))
