-- Words that tell nothing.
use Rattle.std.proofs.Common.{◌≡◌, ◌≢◌, ◌<◌, ℕ, List, [], ◌∷◌, None, inl, inr, subst, sym, ◌∙◌}
use Rattle.std.specs.Fmt.{decimal}
use Rattle.jg_policy.specs.Stated.{StatedSetup, class_count}
use Rattle.jg_record.specs.Words.{own_named}
use Rattle.jg_record.specs.Events.{MeansClass}

pub no_class : (s : StatedSetup) (word : List ℕ) → own_named word ≡ None → ((n : ℕ) → n < class_count s → word ≢ decimal n) → (class : ℕ)
    → ¬ MeansClass s word class
no_class s word none none_such class (inl (below, is)) = none_such class below is
no_class s word none none_such class (inr (kind, named, at)) = absurd (let clash : ⊥ = cc (none, named) in clash)

pub not_met : (s : StatedSetup) (word length : List ℕ) (words : List (List ℕ)) → words ≡ word ∷ length ∷ [] → ((class : ℕ) → ¬ MeansClass s word class)
    → (other : List ℕ) (class n : ℕ) → MeansClass s other class → words ≢ other ∷ decimal n ∷ []
not_met s word length words split none_such other class n means is =
    let both : word ∷ length ∷ [] ≡ other ∷ decimal n ∷ [] = sym split ∙ is in
    let same : other ≡ word = cc in
    none_such class (subst (λ (w : List ℕ). MeansClass s w class) same means)
