-- Bytes that are the same as signed numbers are the same.
use Rattle.std.proofs.Common.{ℕ, ◌≡◌, refl, List, [], ◌∷◌, map, pos}

pub same_bytes : (xs ys : List ℕ) → map pos xs ≡ map pos ys → xs ≡ ys
same_bytes [] [] h = refl
same_bytes [] (y ∷ ys) h = cc
same_bytes (x ∷ xs) [] h = cc
same_bytes (x ∷ xs) (y ∷ ys) h =
    let first : x ≡ y = cc in
    let later : map pos xs ≡ map pos ys = cc in
    let rest : xs ≡ ys = same_bytes xs ys later in
    cc
