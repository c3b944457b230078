use Rattle.std.proofs.Common.{◌∙◌, ◌≡◌, ◌+◌, ◌≤◌, ap, rules, sym, subst, false, get_or, length, ℕ, List, Bool}
use Rattle.std.specs.Prelude.{All, filter}
use Rattle.std.specs.List.{list_any}
use Rattle.std.proofs.lemmas.Fn.{filter_same}
use Rattle.std.proofs.lemmas.List.Elements.{All-filter}
use Rattle.jg_table_heap.specs.Kept.{block_of, numbers_in}
use Rattle.jg_table_heap.proofs.Blocks.{passing_numbers}
use Rattle.jg_table_heap.proofs.collect.close_up_if.Goals as goal

pub returns-then-stale-len-clause-there : goal.returns-then-stale-len-clause-there
returns-then-stale-len-clause-there g c loose =
    let there : ℕ → Bool = λ o. get_or c.args.there.now o false in
    let kept : c.retain.new.self.items ≡ filter (λ b. list_any there (block_of b)) c.args.blocks.now.items =
    filter_same _ _ _ (λ x b f' k. search rules) _ _ c.retain.ensures.filtered in
    ap (λ (bs : List ℕ). filter there (numbers_in bs loose (length c.args.there.now))) kept
    ∙ passing_numbers there c.args.blocks.now.items loose (length c.args.there.now)

pub returns-then-stale-len-clause-whole : goal.returns-then-stale-len-clause-whole
returns-then-stale-len-clause-whole g c =
    let test : ℕ → Bool = λ b. list_any (λ o. get_or c.args.there.now o false) (block_of b) in
    let kept : c.retain.new.self.items ≡ filter test c.args.blocks.now.items = filter_same _ _ _ (λ x b f' k. search rules) _ _ c.retain.ensures.filtered in
    subst (All (λ b. b + 32 ≤ length c.args.there.now)) (sym kept) (All-filter test (λ b. b + 32 ≤ length c.args.there.now) c.args.blocks.now.items c.requires)
