-- The three forms of a spelling.
use Rattle.std.proofs.Common.{ℕ, ◌≡◌, ◌+◌, ◌*◌, ◌/◌, ◌%◌, ◌<◌, ◌≤◌, ◌^◌, ◌⊎◌, ◌∙◌, refl, inl, inr, [], ◌∷◌, length, Option, false, ltb, ◌&&◌, arith}
use Rattle.std.proofs.lemmas.Bool.{cases_lt, lt-ltb, le-ltb, and_from, and_left, and_right, cond-true, cond-false}
use Rattle.jg_table_heap.specs.Forms.{One, Two, Three}
use Rattle.jg_table_heap.specs.Spelling.{spelling, Starts}

pub spelling_one : (u : ℕ) → 0 < u → u < 128 → spelling u ≡ u ∷ []
spelling_one u a b = cond-true _ _ _ (and_from _ _ (lt-ltb 0 u a) (lt-ltb u 128 b))

pub spelling_two : (u high low : ℕ) → u ≡ high * 64 + low → low < 64 → u < 2048 → (u ≡ 0) ⊎ (128 ≤ u) → spelling u ≡ (192 + high) ∷ (128 + low) ∷ []
spelling_two u high low is small below other =
    let h : u / 64 ≡ high = omega arith in
    let l : u % 64 ≡ low = omega arith in
    let not_one : (ltb 0 u && ltb u 128) ≡ false =
    elim other [ inl zero ↦ and_left _ _ (le-ltb 0 u (omega arith)) | inr big ↦ and_right _ _ (le-ltb u 128 big) ] in
    cond-false _ _ _ not_one ∙ cond-true _ _ _ (lt-ltb u 2048 below) ∙ rw (h, l) refl

pub spelling_three : (u high middle low : ℕ) → u ≡ high * 4096 + middle * 64 + low → low < 64 → middle < 64 → 2048 ≤ u
    → spelling u ≡ (224 + high) ∷ (128 + middle) ∷ (128 + low) ∷ []
spelling_three u high middle low is small small_middle above =
    let h : u / 4096 ≡ high = omega arith in
    let m : u / 64 % 64 ≡ middle = omega arith in
    let l : u % 64 ≡ low = omega arith in
    cond-false _ _ _ (and_right _ _ (le-ltb u 128 (omega arith))) ∙ cond-false _ _ _ (le-ltb u 2048 above) ∙ rw (h, m, l) refl

pub spelling_short : (u : ℕ) → ((0 < u) × (128 ≤ u)) ⊎ (u ≤ 0) → u < 2048 → spelling u ≡ (192 + u / 64) ∷ (128 + u % 64) ∷ []
spelling_short u either below =
    spelling_two u (u / 64) (u % 64) (omega arith) (omega arith) below (elim either [ inl both ↦ inr both.1 | inr zero ↦ inl (omega arith) ])

pub spelling_long : (u : ℕ) → 2048 ≤ u → spelling u ≡ (224 + u / 4096) ∷ (128 + u / 64 % 64) ∷ (128 + u % 64) ∷ []
spelling_long u above = spelling_three u (u / 4096) (u / 64 % 64) (u % 64) (omega arith) (omega arith) (omega arith) above

pub starts_one : (u : ℕ) (x y z : Option ℕ) → One u x → (u < 2 ^ 16) × Starts u x y z × (1 ≡ length (spelling u))
unfolding Starts
starts_one u x y z w = let below = w.below in rw (spelling_one u w.above w.below) (omega arith, w.first, refl)

pub starts_two : (u : ℕ) (x y z : Option ℕ) → Two u x y → (u < 2 ^ 16) × Starts u x y z × (2 ≡ length (spelling u))
unfolding Starts
starts_two u x y z w = let below = w.below in rw (spelling_two u w.high w.low w.is w.small w.below w.other) (omega arith, (w.first, w.second), refl)

pub starts_three : (u : ℕ) (x y z : Option ℕ) → Three u x y z → (u < 2 ^ 16) × Starts u x y z × (3 ≡ length (spelling u))
unfolding Starts
starts_three u x y z w = rw (spelling_three u w.high w.middle w.low w.is w.small w.small_middle w.above) (w.below, (w.first, w.second, w.third), refl)

-- a spelling has one of the three forms
one_is : (u : ℕ) (x y z : Option ℕ) → 0 < u → u < 128 → Starts u x y z → One u x
unfolding Starts
one_is u x y z a b s = let at = rw (spelling_one u a b) at s in record { above = a; below = b; first = at }

two_is : (u : ℕ) (x y z : Option ℕ) → u < 2048 → (u ≡ 0) ⊎ (128 ≤ u) → Starts u x y z → Two u x y
unfolding Starts
two_is u x y z a b s =
    let at = rw (spelling_two u (u / 64) (u % 64) (omega arith) (omega arith) a b) at s in
    record { high = u / 64; low = u % 64; small = omega arith; is = omega arith; below = a; other = b; first = at.0; second = at.1 }

three_is : (u : ℕ) (x y z : Option ℕ) → 2048 ≤ u → u < 2 ^ 16 → Starts u x y z → Three u x y z
unfolding Starts
three_is u x y z a b s =
    let at = rw (spelling_three u (u / 4096) (u / 64 % 64) (u % 64) (omega arith) (omega arith) (omega arith) a) at s in
    record {
      high = u / 4096;
      middle = u / 64 % 64;
      low = u % 64;
      small = omega arith;
      small_middle = omega arith;
      is = omega arith;
      above = a;
      below =
          b;
      first = at.0;
      second = at.1;
      third = at.2;
    }

pub forms : (u : ℕ) (x y z : Option ℕ) → u < 2 ^ 16 → Starts u x y z → One u x ⊎ (Two u x y ⊎ Three u x y z)
forms u x y z fits s =
    elim (cases_lt u 2048) [
      | inl below ↦ elim (cases_lt u 128) [
        | inl less ↦ elim (cases_lt 0 u) [ inl above ↦ inl (one_is u x y z above less s) | inr zero ↦ inr (inl (two_is u x y z below (inl (omega arith)) s)) ]
        | inr more ↦ inr (inl (two_is u x y z below (inr more) s))
      ]
      | inr above ↦ inr (inr (three_is u x y z above fits s))
    ]
