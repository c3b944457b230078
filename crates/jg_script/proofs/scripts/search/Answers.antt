use Rattle.std.proofs.Common.{rules}
use Rattle.std.proofs.lemmas.List.Sorted.{answers_always}
use Rattle.jg_script.proofs.Threads.{searched}
use Rattle.jg_script.proofs.scripts.search.Goals as goal

-- the closure gives a script's thread
pub returns : goal.returns
returns c =
    let facts = c.binary_search_by_key.ensures in
    let by_thread = facts.position (λ script. script.tid.0) (answers_always _ _ _ (λ f a r g called. search rules)) in
    let found = searched c.args.threads.now c.requires c.args.tid.0 _ facts.bound by_thread in
    record { found = found.0; absent = found.1 }
