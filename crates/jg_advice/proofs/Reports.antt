-- What is told of noted advice.
use Rattle.std.proofs.Common.{◌≡◌, ℕ, List, ◌++◌, Some, ◌∙◌, ap, sym, inl, inr}
use Rattle.std.proofs.lemmas.Option.{none-some}
use Rattle.jg_advice.specs.declared.advice.Advice.{Advice}
use Rattle.jg_advice.specs.Noted.{Counts, IsNoted, Noting, counts_of, kinds, texts, told_text}

-- a text that is there is that of the advice, and with the counts it is whole
pub told_whole : (x : Noting) (advices : List Advice) (old new : List ℕ) → x.text ≡ Some old
    → (Counts x.counts advices → new ≡ old ++ counts_of advices kinds) → IsNoted x advices → new ≡ told_text x.all advices
told_whole x advices old new is counted (inl none) = absurd (none-some old (sym none ∙ is))
told_whole x advices old new is counted (inr noted) =
    let both : Some old ≡ Some (texts x.all advices) = sym is ∙ noted.0 in
    let same : old ≡ texts x.all advices = cc in
    counted noted.1 ∙ ap (λ t. t ++ counts_of advices kinds) same
