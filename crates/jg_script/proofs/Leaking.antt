-- Lines are written one after the other.
use Rattle.std.proofs.Common.{ℕ, ◌≡◌, ◌+◌, ◌<◌, ◌++◌, ◌∙◌, List, [], ◌∷◌, take, get_or, length, ap, sym, append_assoc}
use Rattle.std.specs.List.{flat_map}
use Rattle.std.proofs.lemmas.List.{take_more, append-nil}
use Rattle.std.proofs.lemmas.List.Concat.{flat_map-append}

-- one line more
pub line_more : {X : Type 0} (line : X → List ℕ) (xs : List X) (i : ℕ) (d : X) (old out new : List ℕ) → i < length xs
    → out ≡ old ++ flat_map line (take i xs) → new ≡ out ++ line (get_or xs i d) → new ≡ old ++ flat_map line (take (i + 1) xs)
line_more line xs i d old out new within so_far wrote =
    wrote ∙ ap (λ l. l ++ line (get_or xs i d)) so_far ∙ append_assoc old (flat_map line (take i xs)) (line (get_or xs i d))
    ∙ ap (λ l. old ++ l) (ap (λ l. flat_map line (take i xs) ++ l) (sym (append-nil (line (get_or xs i d))))
    ∙ sym (flat_map-append line (take i xs) (get_or xs i d ∷ [])) ∙ ap (flat_map line) (sym (take_more xs i d within)))
