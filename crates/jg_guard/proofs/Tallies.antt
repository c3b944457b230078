-- One entry more, and how many have each number then.
use Rattle.std.proofs.Common.{◌≡◌, ◌+◌, ◌<◌, ◌≤◌, ◌∙◌, ℕ, Bool, true, false, if◌then◌else◌, List, [], ◌∷◌, length, refl, ap, sym, arith, replicate, zero, suc}
use Rattle.std.specs.Prelude.{◌==◌, slice_index_or, slice_set}
use Rattle.std.proofs.lemmas.Bool.Decides.{nat_tests}
use Rattle.std.proofs.lemmas.List.{get_or-set_same, get_or-set_other}
use Rattle.jg_lists.proofs.Lists.{how_many-most}
use Rattle.jg_words.specs.Entry.{Entry}
use Rattle.jg_guard.specs.Tally.{IsTally, outcome_number, tallied}

pub fits : (h : List Entry) (tally : List ℕ) (limit k : ℕ) → IsTally h tally → length h < limit → limit < 4294967296 → slice_index_or tally k 0 < 4294967295
fits h tally limit k is room small =
    let some = how_many-most (λ (x : Entry). outcome_number x.outcome == k) h in
    omega (arith, is k, some, room, small)

pub one_more : (h : List Entry) (x : Entry) (tally new : List ℕ) (n : ℕ) → n < length tally → outcome_number x.outcome ≡ n → IsTally h tally
    → new ≡ slice_set tally n (slice_index_or tally n 0 + 1) → IsTally (x ∷ h) new
one_more h x tally new n inside number old set_now k = ap (λ l. slice_index_or l k 0) set_now ∙ by (n == k) refl
  where
    counted : (b : Bool) → n == k ≡ b → tallied k (x ∷ h) ≡ (if b then tallied k h + 1 else tallied k h)
    counted b is = ap (λ (c : Bool). if c then tallied k h + 1 else tallied k h) (ap (λ m. m == k) number ∙ is)

    by : (b : Bool) → n == k ≡ b → slice_index_or (slice_set tally n (slice_index_or tally n 0 + 1)) k 0 ≡ tallied k (x ∷ h)
    by true is =
        let same : k ≡ n = grind (arith, nat_tests, is) in
        ap (λ i. slice_index_or (slice_set tally n (slice_index_or tally n 0 + 1)) i 0) same ∙ get_or-set_same tally n (slice_index_or tally n 0 + 1) 0 inside
        ∙ ap (λ m. m + 1) (old n) ∙ ap (λ i. tallied i h + 1) (sym same) ∙ sym (counted true is)
    by false is =
        get_or-set_other tally n k (slice_index_or tally n 0 + 1) 0 (grind (arith, nat_tests, is)) ∙ old k ∙ sym (counted false is)

blank : (n k : ℕ) → slice_index_or (replicate {A = ℕ} n 0) k 0 ≡ 0
blank zero k = refl
blank (suc n) zero = refl
blank (suc n) (suc k) = blank n k

pub none_yet : IsTally [] (replicate {A = ℕ} 18 0)
none_yet k = blank 18 k
