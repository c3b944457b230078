-- One entry more, and whether a condition came to be so or not so there.
use Rattle.std.proofs.Common.{◌≡◌, ◌+◌, ◌<◌, ℕ, Bool, List, length, Some, ap, sym, ◌∙◌, subst, refl, arith, inl, inr}
use Rattle.std.specs.Prelude.{reverse, slice_get}
use Rattle.std.proofs.lemmas.List.{length-reverse}
use Rattle.std.proofs.lemmas.Option.{slice_get_cases}
use Rattle.jg_words.specs.Entry.{Entry}
use Rattle.jg_lists.proofs.Oldest.{oldest, oldest_more, length-oldest}
use Rattle.jg_policy.specs.Stated.{StatedSetup}
use Rattle.jg_breaches.specs.declared.condition.Condition.{Condition}
use Rattle.jg_breaches.specs.declared.turns.Turns.{Turns}
use Rattle.jg_breaches.specs.Turns.{turns, turned, same}
use Rattle.jg_explain.specs.Explained.{after, was, turns_before}

more_at : (test : List Entry → Bool) (h : List Entry) (n : ℕ) (x : Entry) → n < length h → slice_get (reverse h) n ≡ Some x
    → turns test (oldest (n + 1) h) ≡ turned (same (test (oldest n h)) (test (oldest (n + 1) h))) n (turns test (oldest n h))
more_at test h n x below at =
    let before : List Entry = oldest n h in
    let long : length before ≡ n = length-oldest h n (omega (arith, below)) in
    let step : List Entry → ℕ → Type 0 = λ all k. turns test all ≡ turned (same (test before) (test all)) k (turns test before) in
    subst (λ k. step (oldest (n + 1) h) k) long (subst (λ all. step all (length before)) (sym (oldest_more h n x at)) refl)

pub turns_more : (test : List Entry → Bool) (h : List Entry) (n : ℕ) → n < length h
    → turns test (oldest (n + 1) h) ≡ turned (same (test (oldest n h)) (test (oldest (n + 1) h))) n (turns test (oldest n h))
turns_more test h n below =
    elim (slice_get_cases (reverse h) n).1 [
      | inl found ↦ more_at test h n found.0 below found.2
      | inr past ↦ absurd (omega (arith, past.0, below, length-reverse h))
    ]

-- what was found of the entries before that place, and then of one entry more
pub one_turn : (s : StatedSetup) (f : Condition) (h : List Entry) (n : ℕ) (before now : Bool) (ts us : Turns) → n < length h → before ≡ was s f h n
    → now ≡ was s f h (n + 1)
    → ts ≡ turns_before s f h n → us ≡ turned (same before now) n ts → us ≡ turns_before s f h (n + 1)
one_turn s f h n before now ts us below was_before is_now turns_then turned_now =
    turned_now ∙ ap (λ b. turned (same b now) n ts) was_before ∙ ap (λ b. turned (same (was s f h n) b) n ts) is_now
    ∙ ap (λ u. turned (same (was s f h n) (was s f h (n + 1))) n u) turns_then
    ∙ sym (turns_more (after s f) h n below)
