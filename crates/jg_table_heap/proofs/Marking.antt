-- The marks of what is held.
use Rattle.std.proofs.Common.{ℕ, ◌≡◌, ◌<◌, ◌+◌, ◌∙◌, ap, List, Option, length, get_or, Bool, false, ◌||◌, ltb, eqb, arith}
use Rattle.std.specs.Prelude.{slice_get}
use Rattle.std.specs.Option.{option_map}
use Rattle.std.proofs.lemmas.Option.{slice_get-get_or, get_or_from_slice_get}
use Rattle.std.proofs.lemmas.Bool.Decides.{nat_tests}
use Rattle.jg_lists.specs.Marks.{Marks}
use Rattle.jg_lists.proofs.Marks.{marks_stay, marks_more}
use Rattle.jg_lists.proofs.Visited.{marks_alike}

-- what a mark within the list is
pub mark_is : (test : ℕ → Bool) (old new : List Bool) → Marks test (slice_get old) (slice_get new) → (o : ℕ) → o < length old
    → get_or new o false ≡ (get_or old o false || test o)
mark_is test old new marks o within =
    get_or_from_slice_get new o (get_or old o false || test o) false (marks o ∙ ap (option_map (λ m. m || test o)) (slice_get-get_or old o false within))

-- ---- the class objects

none_below : (o : ℕ) → false ≡ ltb o 0
none_below o = grind (arith, nat_tests)

one_more : (o i : ℕ) → ltb o (i + 1) ≡ (ltb o i || eqb i o)
one_more o i = grind (arith, nat_tests)

pub classes_none : (marks : ℕ → Option Bool) → Marks (λ o. ltb o 0) marks marks
classes_none marks = marks_alike (λ o. false) (λ o. ltb o 0) marks marks none_below (marks_stay marks)

pub classes_more : (i : ℕ) (old mid new : ℕ → Option Bool) → Marks (λ o. ltb o i) old mid → Marks (λ o. eqb i o) mid new → Marks (λ o. ltb o (i + 1)) old new
classes_more i old mid new was now = marks_more (λ o. ltb o i) (λ o. eqb i o) (λ o. ltb o (i + 1)) old mid new was now (λ o. one_more o i)

pub classes_all : (i k : ℕ) (old new : ℕ → Option Bool) → i ≡ k → Marks (λ o. ltb o i) old new → Marks (λ o. ltb o k) old new
classes_all i k old new same marks = marks_alike (λ o. ltb o i) (λ o. ltb o k) old new (λ o. ap (ltb o) same) marks
