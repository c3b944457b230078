-- Two lists in which each item is as often are as long as each other.
use Rattle.std.proofs.Common.{◌≡◌, ◌+◌, ◌<◌, ◌∙◌, ℕ, suc, Bool, true, false, if◌then◌else◌, List, [], ◌∷◌, length, refl, ap, sym, arith, add-one}
use Rattle.jg_lists.specs.Acts.{how_many}

-- without the first that passes the test
abbrev without : {A : Type 0} → (A → Bool) → List A → List A
without p [] = []
without p (y ∷ ys) = if p y then ys else y ∷ without p ys

module _ {A : Type 0} (p : A → Bool) (x : A) (equal : (y : A) → p y ≡ true → y ≡ x) where
  -- the one that goes is x
  counts : (q : A → Bool) (ys : List A) → 0 < how_many p ys → how_many q ys ≡ how_many q (x ∷ without p ys)
  counts q [] some = absurd (omega (arith, some))
  counts q (y ∷ ys) some = by (λ more. counts q ys more) (p y) refl some
    where
      apart : (b d : Bool) (m n : ℕ) → m ≡ (if b then n + 1 else n)
          → (if d then m + 1 else m) ≡ (if b then (if d then n + 1 else n) + 1 else (if d then n + 1 else n))
      apart true true m n is = omega (arith, is)
      apart true false m n is = is
      apart false true m n is = omega (arith, is)
      apart false false m n is = is

      by : (0 < how_many p ys → how_many q ys ≡ how_many q (x ∷ without p ys)) → (b : Bool) → p y ≡ b → 0 < (if b then how_many p ys + 1 else how_many p ys)
          → how_many q (y ∷ ys)
          ≡ how_many q (x ∷ (if b then ys else y ∷ without p ys))
      by older true is more = ap (λ z. how_many q (z ∷ ys)) (equal y is)
      by older false is more = apart (q x) (q y) (how_many q ys) (how_many q (without p ys)) (older more)

  shorter : (ys : List A) → 0 < how_many p ys → length ys ≡ length (without p ys) + 1
  shorter [] some = absurd (omega (arith, some))
  shorter (y ∷ ys) some = by (λ more. shorter ys more) (p y) some
    where
      one_more : (n : ℕ) → suc (n + 1) ≡ suc n + 1
      one_more n = omega arith

      by : (0 < how_many p ys → length ys ≡ length (without p ys) + 1) → (b : Bool) → 0 < (if b then how_many p ys + 1 else how_many p ys)
          → length (y ∷ ys) ≡ length (if b then ys else y ∷ without p ys) + 1
      by older true more = sym (add-one (length ys))
      by older false more = ap suc (older more) ∙ (one_more (length (without p ys)))

module _ {A : Type 0} (same : A → A → Bool) (itself : (x : A) → same x x ≡ true) (equal : (x y : A) → same x y ≡ true → x ≡ y) where
  abbrev pub how_often : List A → A → ℕ
  how_often xs r = how_many (λ q. same q r) xs

  once_more : (b : Bool) (n : ℕ) → b ≡ true → (if b then n + 1 else n) ≡ n + 1
  once_more true n is = refl
  once_more false n is = absurd cc

  drop_one : (b : Bool) (m n : ℕ) → (if b then m + 1 else m) ≡ (if b then n + 1 else n) → m ≡ n
  drop_one true m n is = omega (arith, is)
  drop_one false m n is = is

  pub as_long : (xs ys : List A) → ((r : A) → how_often xs r ≡ how_often ys r) → length xs ≡ length ys
  as_long [] [] all = refl
  as_long [] (y ∷ ys) all = absurd (omega (arith, all y, once_more (same y y) (how_many (λ q. same q y) ys) (itself y)))
  as_long (x ∷ xs) ys all =
      let p : A → Bool = λ q. same q x in
      let some : 0 < how_many p ys = omega (arith, all x, once_more (same x x) (how_many p xs) (itself x)) in
      let rest = without p ys in
      let fewer = as_long xs rest (λ r. drop_one (same x r) (how_many (λ q. same q r) xs) (how_many (λ q. same q r) rest)
      (all r ∙ counts p x (λ y is. equal y x is) (λ q. same q r) ys some)) in
      ap suc fewer ∙ sym (add-one (length rest)) ∙ sym (shorter p x (λ y is. equal y x is) ys some)
