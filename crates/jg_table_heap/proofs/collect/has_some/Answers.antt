use Rattle.std.proofs.Common.{◌∙◌, ◌≡◌, ◌-◌, ap, arith, drop, false, get_or, inl, inr, length, sym, take, List, Bool}
use Rattle.std.specs.List.{list_any}
use Rattle.std.proofs.lemmas.Bool.{cases_lt}
use Rattle.std.proofs.lemmas.List.{length-drop, take_all}
use Rattle.jg_table_heap.proofs.Blocks.{block_is, none_past, some_in}
use Rattle.jg_table_heap.proofs.collect.has_some.Goals as goal

pub returns-then-first-there : goal.returns-then-first-there
returns-then-first-there c =
    sym (ap (list_any (λ o. get_or c.args.there.now o false)) (block_is c.args.block) ∙ none_past c.args.there.now c.args.block 32 c.if-first-there.true)

pub returns : goal.returns
returns c =
    let rest : List Bool = drop c.args.block c.args.there.now in
    let end = c.min-end.result in
    let same : take (end - c.args.block) rest ≡ take 32 rest =
    elim (cases_lt (length rest) 32) [
      | inl short ↦ take_all (end - c.args.block) rest (omega (arith, short, c.min-end.ensures, length-drop c.args.block c.args.there.now))
          ∙ sym (take_all 32 rest (omega (arith, short)))
      | inr full ↦
          let count : end - c.args.block ≡ 32 = omega (arith, full, c.min-end.ensures, length-drop c.args.block c.args.there.now, c.if-first-there.false) in
          ap (λ n. take n rest) count
    ] in
    c.some_true.ensures ∙ ap (list_any (λ flag. flag)) same ∙ some_in c.args.there.now c.args.block 32
    ∙ ap (list_any (λ o. get_or c.args.there.now o false)) (sym (block_is c.args.block))
