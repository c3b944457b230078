-- An array that is written item by item.
use Rattle.std.proofs.Common.{◌≡◌, ℕ, ◌<◌, ◌+◌, List, [], ◌∷◌, ◌++◌, length, take, get_or, map, refl}
use Rattle.std.proofs.lemmas.List.{take_more, map-append}

-- one more item, where `a` was written for `x`
pub written_more : {A B C D : Type 0} (show : A → D) (read : C → B) (write : B → D) (done : List A) (a : A) (xs : List C) (i : ℕ) (x : C)
    → i < length xs → x ≡ get_or xs i x → show a ≡ write (read x)
    → map show done ≡ map write (map read (take i xs))
    → map show (done ++ a ∷ []) ≡ map write (map read (take (i + 1) xs))
written_more show read write done a xs i x below is seen kept =
    rw (
      take_more xs i x below,
      map-append show done (a ∷ []),
      map-append read (take i xs) (get_or xs i x ∷ []),
      map-append write (map read (take i xs)) (read (get_or xs i x) ∷ []),
      ← is,
      ← kept,
      seen,
    ) refl
