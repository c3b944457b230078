use Rattle.std.proofs.Common.{rules, ◌∙◌}
use Rattle.std.proofs.lemmas.List.Sorted.{answers_always}
use Rattle.jg_shell.specs.declared.receipt.Receipt.{Receipt}
use Rattle.jg_shell.proofs.Search.{searched}
use Rattle.jg_shell.proofs.compare.has_place.Goals as goal

-- the closure gives a receipt's place
pub returns : goal.returns
returns c =
    let facts = c.binary_search_by_key.ensures in
    let by_place = facts.position (λ (r : Receipt). r.place) (answers_always _ _ _ (λ f a r g called. search rules)) in
    c.is_ok.ensures.value ∙ searched c.args.receipts.now c.requires c.args.place c.binary_search_by_key.result facts.bound by_place
