use Rattle.std.proofs.Common.{◌∙◌, ◌≡◌, ◌+◌, ◌-◌, ◌*◌, ◌++◌, ap, arith, refl, sym, List, ℕ, Bool}
use Rattle.std.specs.Prelude.{filter}
use Rattle.std.specs.List.{range_with_len}
use Rattle.std.proofs.lemmas.List.{append-nil, append_assoc}
use Rattle.std.proofs.lemmas.List.Elements.{filter-append}
use Rattle.jg_table_heap.specs.Kept.{unheld_in}
use Rattle.jg_table_heap.proofs.Blocks.{block_is, none_missed, range_joined}
use Rattle.jg_table_heap.proofs.collect.list_block.Goals as goal

pub returns-then-not-misses : goal.returns-then-not-misses
returns-then-not-misses g c =
    let p : ℕ → Bool = unheld_in c.args.there.now c.args.marks.now in
    let first = c.args.first in
    let count : first + 32 - first ≡ 32 = omega arith in
    sym (ap (λ (os : List ℕ). c.args.unheld.now.items ++ filter p os) (block_is first ∙ ap (range_with_len first) (sym count))
    ∙ ap (λ (os : List ℕ). c.args.unheld.now.items ++ os)
    (none_missed c.args.there.now c.args.marks.now first (first + 32) c.misses.result (omega arith) c.requires c.if-not-misses.true c.misses.ensures.within
    c.misses.ensures.past)
    ∙ append-nil c.args.unheld.now.items)

pub loop-part-preserved : goal.loop-part-preserved
loop-part-preserved g c =
    let p : ℕ → Bool = unheld_in c.args.there.now c.args.marks.now in
    let first = c.args.first in
    let before = c.loop-part.part * 8 in
    let at = first + before in
    let n = at + 8 - at in
    let count : before + n ≡ (c.loop-part.part + 1) * 8 = omega arith in
    c.in_ok-list_among.ensures
    ∙ ap (λ (os : List ℕ). os ++ filter p (range_with_len at n)) c.loop-part.invariant
    ∙ append_assoc c.args.unheld.now.items (filter p (range_with_len first before)) (filter p (range_with_len at n))
    ∙ ap (λ (os : List ℕ). c.args.unheld.now.items ++ os)
    (sym (filter-append p (range_with_len first before) (range_with_len at n))
    ∙ ap (filter p) (range_joined first at before n refl ∙ ap (range_with_len first) count))

pub returns : goal.returns
returns g c =
    let p : ℕ → Bool = unheld_in c.args.there.now c.args.marks.now in
    let all : c.loop-part.part * 8 ≡ 32 = omega (arith, c.loop-part-test.false, c.loop-part.auto.part-end) in
    c.loop-part.invariant ∙ ap (λ (os : List ℕ). c.args.unheld.now.items ++ filter p os) (ap (range_with_len c.args.first) all ∙ sym (block_is c.args.first))
