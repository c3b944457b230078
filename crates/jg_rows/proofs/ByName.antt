-- Tables in which each place is found are tables by name.
use Rattle.std.proofs.Common.{◌≡◌, ℕ, zero, suc, List, Bool, true, false, refl, arith, ◌<◌, ◌≤◌, ◌+◌, subst, sym, eqb-true}
use Rattle.std.specs.Prelude.{◌==◌, slice_index}
use Rattle.std.specs.List.{list_all, range_with_len}
use Rattle.std.proofs.lemmas.Bool.{and_parts}
use Rattle.std.proofs.lemmas.Bool.Decides.{nat_tests}
use Rattle.jg_rows.specs.ByName.{IsByName, name_at, name_number, slot_of}

-- what numbers in a row pass, each passes
each_from : (q : ℕ → Bool) (a n : ℕ) → list_all q (range_with_len a n) ≡ true → (place : ℕ) → a ≤ place → place < a + n → q place ≡ true
each_from q a zero all place from to = absurd (omega (arith, from, to))
each_from q a (suc n) all place from to =
    let parts = and_parts (q a) (list_all q (range_with_len (a + 1) n)) all in
    elim (place == a) as (λ b. (place == a) ≡ b → q place ≡ true) [
      | true ↦ λ same. subst (λ p. q p ≡ true) (sym (eqb-true place a same)) parts.0
      | false ↦ λ other. each_from q (a + 1) n parts.1 place (grind (arith, nat_tests, other, from)) (omega (arith, to))
    ] refl

-- tables that pass the test for each place are by name
pub by_name : (shifts places : List ℕ) → list_all (λ place. slice_index places (slot_of shifts (name_number 0 (name_at place))) == place) (range_with_len 0 243)
    ≡ true → IsByName shifts places
by_name shifts places all = record {
  stands = λ place below. eqb-true (slice_index places (slot_of shifts (name_number 0 (name_at place)))) place
      (each_from (λ q. slice_index places (slot_of shifts (name_number 0 (name_at q))) == q) 0 243 all place (omega arith) below);
}
