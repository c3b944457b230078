use Rattle.std.proofs.Common.{◌∙◌, ◌≡◌, ◌+◌, ◌-◌, ◌++◌, ◌∷◌, [], ap, arith, cond, sym, List, ℕ, Bool}
use Rattle.std.specs.Prelude.{filter}
use Rattle.std.specs.List.{range_with_len}
use Rattle.std.proofs.lemmas.List.{append-nil, append_assoc}
use Rattle.jg_table_heap.specs.Kept.{unheld_in}
use Rattle.jg_table_heap.proofs.Blocks.{filter_range_more, none_missed}
use Rattle.jg_table_heap.proofs.collect.list_among.Goals.{then-is_unheld+in_ok-push, else-is_unheld}
use Rattle.jg_table_heap.proofs.collect.list_among.Goals as goal

pub returns-then-not-misses : goal.returns-then-not-misses
returns-then-not-misses g c =
    sym (ap (λ (os : List ℕ). c.args.unheld.now.items ++ os)
    (none_missed c.args.there.now c.args.marks.now c.args.first c.args.end c.misses.result c.requires.order c.requires.within c.if-not-misses.true
    c.misses.ensures.within c.misses.ensures.past)
    ∙ append-nil c.args.unheld.now.items)

pub loop-object-preserved : goal.loop-object-preserved
loop-object-preserved g c =
    let p : ℕ → Bool = unheld_in c.args.there.now c.args.marks.now in
    let n = c.loop-object.object - c.args.first in
    let last : c.args.first + n ≡ c.loop-object.object = omega (arith, c.loop-object.auto.object) in
    let count : c.loop-object.object + 1 - c.args.first ≡ n + 1 = omega (arith, c.loop-object.auto.object) in
    let more : filter p (range_with_len c.args.first (c.loop-object.object + 1 - c.args.first))
    ≡ filter p (range_with_len c.args.first n) ++ cond (p c.loop-object.object) (c.loop-object.object ∷ []) [] =
    ap (λ k. filter p (range_with_len c.args.first k)) count ∙ filter_range_more p c.args.first n
    ∙ ap (λ o. filter p (range_with_len c.args.first n) ++ cond (p o) (o ∷ []) []) last in
    let all : c.args.unheld.now.items ++ filter p
    (range_with_len c.args.first (c.loop-object.object + 1 - c.args.first))
    ≡ c.loop-object.unheld.items ++ cond c.is_unheld.result (c.loop-object.object ∷ []) [] =
    ap (λ (os : List ℕ). c.args.unheld.now.items ++ os) more
    ∙ sym (append_assoc c.args.unheld.now.items (filter p (range_with_len c.args.first n))
    (cond (p c.loop-object.object) (c.loop-object.object ∷ []) []))
    ∙ ap (λ (os : List ℕ). os ++ cond (p c.loop-object.object) (c.loop-object.object ∷ []) []) (sym c.loop-object.invariant)
    ∙ ap (λ b. c.loop-object.unheld.items ++ cond b (c.loop-object.object ∷ []) []) (sym c.is_unheld.ensures) in
    elim c.if-is_unheld.branch [
      | then-is_unheld+in_ok-push w ↦ rw (w.unheld-is, w.in_ok-push.ensures.items)
          (sym (all ∙ ap (λ b. c.loop-object.unheld.items ++ cond b (c.loop-object.object ∷ []) []) w.if-is_unheld.true))
      | else-is_unheld w ↦ rw w.unheld-is
          (sym (all ∙ ap (λ b. c.loop-object.unheld.items ++ cond b (c.loop-object.object ∷ []) []) w.if-is_unheld.false
          ∙ append-nil c.loop-object.unheld.items))
    ]
