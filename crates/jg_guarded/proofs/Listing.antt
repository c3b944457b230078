-- The denials of a journal, from the oldest entry on.
use Rattle.std.proofs.Common.{◌≡◌, ◌+◌, ◌≤◌, ℕ, List, ◌++◌, length, Some, ap, ◌∙◌, arith}
use Rattle.std.specs.Prelude.{reverse, slice_get}
use Rattle.std.proofs.lemmas.List.{length-reverse}
use Rattle.std.proofs.lemmas.Option.{slice_get_within}
use Rattle.jg_words.specs.Entry.{Entry, rule_in}
use Rattle.jg_lists.proofs.Oldest.{oldest, oldest_more, length-oldest}
use Rattle.jg_guarded.specs.Denied.{denial_at, denials_in}

-- one entry more is gone over
pub one_more : (h : List Entry) (n : ℕ) (x : Entry) → slice_get (reverse h) n ≡ Some x
    → denials_in (oldest (n + 1) h) ≡ denials_in (oldest n h) ++ denial_at n (rule_in x.outcome)
one_more h n x at =
    let below = slice_get_within (reverse h) n x at in
    let within : n ≤ length h = omega (arith, below, length-reverse h) in
    ap denials_in (oldest_more h n x at)
    ∙ ap (λ k. denials_in (oldest n h) ++ denial_at k (rule_in x.outcome)) (length-oldest h n within)
