use Rattle.std.proofs.Common.{get_or, refl, arith, ◌<◌, length, rules}
use Rattle.std.specs.Int.{IsInRange}
use Rattle.jg_text.proofs.ShortNumbers.{small_front, one_more, spelt_in_front}
use Rattle.jg_text.proofs.number.leading.Goals as goal

pub overflow_mul-n : goal.overflow_mul-n
overflow_mul-n c =
    let inv = c.loop-count.invariant in
    let small = small_front c.args.text.now c.loop-count.count inv.within inv.short inv.digits in
    omega (arith, small, inv.value)

pub overflow_add-n : goal.overflow_add-n
overflow_add-n c =
    let inv = c.loop-count.invariant in
    let small = small_front c.args.text.now c.loop-count.count inv.within inv.short inv.digits in
    omega (arith, small, inv.value, c.from.ensures, c.if-text-count-le57.true)

pub loop-count-preserved : goal.loop-count-preserved
loop-count-preserved c =
    let inv = c.loop-count.invariant in
    let byte = get_or c.args.text.now c.loop-count.count 0 in
    let digit : IsInRange 48 57 byte = omega (arith, c.if-text-count-ge48.true, c.if-text-count-le57.true) in
    let more = one_more c.args.text.now c.loop-count.count byte c.loop-count-test.true refl digit inv.digits in
    record {
      within = omega arith;
      short = omega arith;
      digits = more.0;
      value = omega (arith, inv.value, c.from.ensures, more.1);
    }

pub returns-clause-short : goal.returns-clause-short
returns-clause-short c =
    let inv = c.loop-count.invariant in
    let small = small_front c.args.text.now c.loop-count.count inv.within inv.short inv.digits in
    omega (arith, small, inv.value)

pub returns-clause-spelt : goal.returns-clause-spelt
returns-clause-spelt c =
    let inv = c.loop-count.invariant in
    let some : 0 < length c.split_at.result.0.now = search rules in
    spelt_in_front c.args.text.now c.split_at.result.0.now c.split_at.result.1.now c.loop-count.n c.loop-count.count inv.within inv.short
    c.split_at.ensures.front c.split_at.ensures.back
    (c.if-not-is_plain.ensures.0 refl) some inv.digits inv.value
