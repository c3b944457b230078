-- The items of blocks, by their places.
use Rattle.std.proofs.Common.{◌≡◌, ℕ, zero, suc, ◌<◌, ◌≤◌, ◌+◌, ◌-◌, ◌*◌, ◌/◌, ◌%◌, List, [], ◌∷◌, ◌++◌, length, get_or, Option, Some, None, refl, ◌∙◌, ap, sym, subst, arith, append_assoc, ◌⊎◌, inl, inr}
use Rattle.std.specs.Prelude.{slice_get, slice_set, nat_lt, is_some, IfSome}
use Rattle.std.specs.Borrow.{Bor}
use Rattle.std.specs.List.{AllByRecursion}
use Rattle.std.specs.Option.{option_copied}
use Rattle.std.proofs.lemmas.Bool.Decides.{nat_tests}
use Rattle.std.proofs.lemmas.List.{length-append, append-nil}
use Rattle.std.proofs.lemmas.Option.{slice_get_past, slice_get-get_or}
use Rattle.std.proofs.lemmas.Nat.{div-add-mod'}
use Rattle.std.proofs.lemmas.Bool.{cases_lt}
use Rattle.jg_blocks.specs.Seen.{items_of, AreFilled}

module _ {T : Type 0} where
  -- what is behind a block that isn't full
  nothing_behind : (blocks : List (List T)) → AreFilled blocks 0 → items_of blocks ≡ []
  nothing_behind [] filled = refl
  nothing_behind ([] ∷ blocks) filled = nothing_behind blocks filled.1
  nothing_behind ((x ∷ block) ∷ blocks) filled =
      let long = filled.0 in
      absurd (omega (arith, long))

  behind_short : (blocks : List (List T)) (count : ℕ) → count ≤ 1024 → AreFilled blocks (count - 1024) → items_of blocks ≡ []
  behind_short blocks count short filled =
      let none : count - 1024 ≡ 0 = omega (arith, short) in
      nothing_behind blocks (subst (AreFilled blocks) none filled)

  pub length-items : (blocks : List (List T)) (count : ℕ) → AreFilled blocks count → length (items_of blocks) ≡ count
  length-items [] count filled = sym filled
  length-items (block ∷ blocks) count filled =
      let rest = length-items blocks (count - 1024) filled.1 in
      let here = filled.0 in
      let both = length-append block (items_of blocks) in
      omega (arith, rest, here, both)

  pub filled_fits : (blocks : List (List T)) (count : ℕ) → AreFilled blocks count → count ≤ length blocks * 1024
  filled_fits [] count filled = omega (arith, filled)
  filled_fits (block ∷ blocks) count filled =
      let rest = filled_fits blocks (count - 1024) filled.1 in
      omega (arith, rest)

  in_front : (xs ys : List T) (i : ℕ) → i < length xs → slice_get (xs ++ ys) i ≡ slice_get xs i
  in_front [] ys i within = absurd (omega (arith, within))
  in_front (x ∷ xs) ys zero within = refl
  in_front (x ∷ xs) ys (suc i) within = in_front xs ys i (omega (arith, within))

  behind : (xs ys : List T) (k i : ℕ) → length xs ≡ k → slice_get (xs ++ ys) (k + i) ≡ slice_get ys i
  behind [] ys k i long =
      let place : k + i ≡ i = omega (arith, long) in
      ap (slice_get ys) place
  behind (x ∷ xs) ys zero i long = absurd (omega (arith, long))
  behind (x ∷ xs) ys (suc k) i long =
      let place : suc k + i ≡ suc (k + i) = omega arith in
      ap (slice_get (x ∷ (xs ++ ys))) place ∙ behind xs ys k i (omega (arith, long))

  -- an item of a block, where there are so many
  in_block : (blocks : List (List T)) (count : ℕ) (block : List T) (q r : ℕ) → AreFilled blocks count → slice_get blocks q ≡ Some block → r < 1024
      → q * 1024 + r < count
      → slice_get (items_of blocks) (q * 1024 + r) ≡ slice_get block r
  in_block [] count block q r filled is small within = cc
  in_block (first ∷ blocks) count block zero r filled is small within =
      let here : first ≡ block = cc in
      let long = filled.0 in
      let place : 0 * 1024 + r ≡ r = omega arith in
      ap (slice_get (first ++ items_of blocks)) place ∙ in_front first (items_of blocks) r (omega (arith, long, small, within)) ∙ ap (λ b. slice_get b r) here
  in_block (first ∷ blocks) count block (suc q) r filled is small within =
      let long = filled.0 in
      let full : length first ≡ 1024 = omega (arith, long, within) in
      let place : suc q * 1024 + r ≡ 1024 + (q * 1024 + r) = omega arith in
      ap (λ n. slice_get (first ++ items_of blocks) n) place
      ∙ behind first (items_of blocks) 1024 (q * 1024 + r) full
      ∙ in_block blocks (count - 1024) block q r filled.1 is small (omega (arith, within))

  -- no item of a block, where there aren't
  not_in_block : (blocks : List (List T)) (count : ℕ) (block : List T) (q r : ℕ) → AreFilled blocks count → slice_get blocks q ≡ Some block → r < 1024
      → count ≤ q * 1024 + r
      → length block ≤ r
  not_in_block [] count block q r filled is small past = cc
  not_in_block (first ∷ blocks) count block zero r filled is small past =
      let here : length first ≡ length block = cc in
      let long = filled.0 in
      omega (arith, here, long, past)
  not_in_block (first ∷ blocks) count block (suc q) r filled is small past =
      not_in_block blocks (count - 1024) block q r filled.1 is small (omega (arith, past))

  found_by : (blocks : List (List T)) (count : ℕ) (block : List T) (i : ℕ) → AreFilled blocks count → slice_get blocks (i / 1024) ≡ Some block
      → (i < count) ⊎ (count ≤ i)
      → slice_get (items_of blocks) i ≡ slice_get block (i % 1024)
  found_by blocks count block i filled is (inl within) =
      ap (slice_get (items_of blocks)) (sym (div-add-mod' i 1024))
      ∙ in_block blocks count block (i / 1024) (i % 1024) filled is (omega arith) (omega (arith, within))
  found_by blocks count block i filled is (inr past) =
      let long = length-items blocks count filled in
      slice_get_past (items_of blocks) i (omega (arith, long, past))
      ∙ sym (slice_get_past block (i % 1024) (not_in_block blocks count block (i / 1024) (i % 1024) filled is (omega arith) (omega (arith, past))))

  pub found : (blocks : List (List T)) (count : ℕ) (block : List T) (i : ℕ) → AreFilled blocks count → slice_get blocks (i / 1024) ≡ Some block
      → slice_get (items_of blocks) i ≡ slice_get block (i % 1024)
  found blocks count block i filled is = found_by blocks count block i filled is (cases_lt i count)

  -- the block that is being filled isn't full
  pub is_short : (blocks : List (List T)) (count : ℕ) (block : List T) → AreFilled blocks count → slice_get blocks (count / 1024) ≡ Some block
      → length block < 1024
  is_short blocks count block filled is =
      let most = not_in_block blocks count block (count / 1024) (count % 1024) filled is (omega arith) (omega arith) in
      omega (arith, most)

  pub past_all : (blocks : List (List T)) (count i : ℕ) → AreFilled blocks count → length blocks ≤ i / 1024 → slice_get (items_of blocks) i ≡ None
  past_all blocks count i filled past =
      let long = length-items blocks count filled in
      let fits = filled_fits blocks count filled in
      slice_get_past (items_of blocks) i (omega (arith, long, fits, past))

  -- what a look-up by place answers
  pub looked_up : (xs : List T) (i : ℕ) (result : Option (Bor T)) → is_some result ≡ nat_lt i (length xs) → IfSome result (λ x. x.now ≡ get_or xs i x.now)
      → option_copied result ≡ slice_get xs i
  looked_up xs i None found value =
      let past : length xs ≤ i = grind (arith, nat_tests, found) in
      sym (slice_get_past xs i past)
  looked_up xs i (Some x) found value =
      let within : i < length xs = grind (arith, nat_tests, found) in
      ap Some value ∙ sym (slice_get-get_or xs i x.now within)

  pub shown : (xs : List T) (i : ℕ) (x : T) → i < length xs → x ≡ get_or xs i x → slice_get xs i ≡ Some x
  shown xs i x within value = slice_get-get_or xs i x within ∙ ap Some (sym value)

  -- an item more in the block that is being filled
  filled_at : (blocks : List (List T)) (count : ℕ) (block : List T) (q r : ℕ) (x : T) → AreFilled blocks count → slice_get blocks q ≡ Some block
      → count ≡ q * 1024 + r → r < 1024
      → AreFilled (slice_set blocks q (block ++ x ∷ [])) (count + 1)
  filled_at [] count block q r x filled is place small = cc
  filled_at (first ∷ blocks) count block zero r x filled is place small =
      let here : length first ≡ length block = cc in
      let long = filled.0 in
      let one = length-append block (x ∷ []) in
      let none : count - 1024 ≡ (count + 1) - 1024 = omega (arith, place, small) in
      (omega (arith, here, long, one, place, small), subst (AreFilled blocks) none filled.1)
  filled_at (first ∷ blocks) count block (suc q) r x filled is place small =
      let long = filled.0 in
      let rest : (count - 1024) + 1 ≡ (count + 1) - 1024 = omega (arith, place) in (
        omega (arith, long, place),
        subst (AreFilled (slice_set blocks q (block ++ x ∷ []))) rest
            (filled_at blocks (count - 1024) block q r x filled.1 is (omega (arith, place)) small),
      )

  items_at : (blocks : List (List T)) (count : ℕ) (block : List T) (q r : ℕ) (x : T) → AreFilled blocks count → slice_get blocks q ≡ Some block
      → count ≡ q * 1024 + r → r < 1024
      → items_of (slice_set blocks q (block ++ x ∷ [])) ≡ items_of blocks ++ x ∷ []
  items_at [] count block q r x filled is place small = cc
  items_at (first ∷ blocks) count block zero r x filled is place small =
      let here : first ≡ block = cc in
      let none = behind_short blocks count (omega (arith, place, small)) filled.1 in
      rw (here, none) (append-nil (block ++ x ∷ []) ∙ ap (λ b. b ++ x ∷ []) (sym (append-nil block)))
  items_at (first ∷ blocks) count block (suc q) r x filled is place small =
      ap (λ l. first ++ l) (items_at blocks (count - 1024) block q r x filled.1 is (omega (arith, place)) small)
      ∙ sym (append_assoc first (items_of blocks) (x ∷ []))

  pub filled_more : (blocks : List (List T)) (count : ℕ) (block : List T) (x : T) → AreFilled blocks count → slice_get blocks (count / 1024) ≡ Some block
      → AreFilled (slice_set blocks (count / 1024) (block ++ x ∷ [])) (count + 1)
  filled_more blocks count block x filled is = filled_at blocks count block (count / 1024) (count % 1024) x filled is (omega arith) (omega arith)

  pub items_more : (blocks : List (List T)) (count : ℕ) (block : List T) (x : T) → AreFilled blocks count → slice_get blocks (count / 1024) ≡ Some block
      → items_of (slice_set blocks (count / 1024) (block ++ x ∷ [])) ≡ items_of blocks ++ x ∷ []
  items_more blocks count block x filled is = items_at blocks count block (count / 1024) (count % 1024) x filled is (omega arith) (omega arith)

  -- an empty block more
  pub filled_grown : (blocks : List (List T)) (count : ℕ) → AreFilled blocks count → AreFilled (blocks ++ [] ∷ []) count
  filled_grown [] count filled = (omega (arith, filled), omega (arith, filled))
  filled_grown (block ∷ blocks) count filled = (filled.0, filled_grown blocks (count - 1024) filled.1)

  pub items_grown : (blocks : List (List T)) → items_of (blocks ++ [] ∷ []) ≡ items_of blocks
  items_grown [] = refl
  items_grown (block ∷ blocks) = ap (λ l. block ++ l) (items_grown blocks)

  pub all_grown : (P : T → Type 0) (xs : List T) (x : T) → AllByRecursion P xs → P x → AllByRecursion P (xs ++ x ∷ [])
  all_grown P [] x all holds = (holds, tt)
  all_grown P (y ∷ xs) x all holds = (all.0, all_grown P xs x all.1 holds)

  pub all_set : (P : T → Type 0) (xs : List T) (i : ℕ) (x : T) → AllByRecursion P xs → P x → AllByRecursion P (slice_set xs i x)
  all_set P [] i x all holds = tt
  all_set P (y ∷ xs) zero x all holds = (holds, all.1)
  all_set P (y ∷ xs) (suc i) x all holds = (all.0, all_set P xs i x all.1 holds)

  pub all_get : (P : T → Type 0) (xs : List T) (i : ℕ) (x : T) → AllByRecursion P xs → slice_get xs i ≡ Some x → P x
  all_get P [] i x all is = cc
  all_get P (y ∷ xs) zero x all is =
      let here : y ≡ x = cc in
      subst P here all.0
  all_get P (y ∷ xs) (suc i) x all is = all_get P xs i x all.1 is
