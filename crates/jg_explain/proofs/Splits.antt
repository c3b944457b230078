-- The oldest entries of a history, of fronts within fronts.
use Rattle.std.proofs.Common.{◌≡◌, ◌+◌, ◌-◌, ◌<◌, ◌≤◌, ℕ, zero, suc, List, [], ◌∷◌, ◌++◌, length, inl, inr, ap, sym, ◌∙◌, subst, arith, take_all}
use Rattle.std.specs.Prelude.{reverse}
use Rattle.std.proofs.lemmas.List.{length-reverse, reverse-reverse}
use Rattle.std.proofs.lemmas.Option.{slice_get_cases}
use Rattle.jg_words.specs.Entry.{Entry}
use Rattle.jg_lists.proofs.Oldest.{oldest, oldest_more}
use Rattle.jg_policy.specs.Stated.{StatedSetup}
use Rattle.jg_rules.specs.Legal.{Legal}
use Rattle.jg_laws.proofs.Fresh.{Legal-before}

-- what is behind a front in a longer one
pub record Behind (i j : ℕ) (h : List Entry) : Type 0 where
  pub later : List Entry
  pub is : oldest j h ≡ later ++ oldest i h

one_behind : (i n : ℕ) (h : List Entry) → n < length h → Behind i n h → Behind i (n + 1) h
one_behind i n h below so_far =
    elim (slice_get_cases (reverse h) n).1 [
      | inl found ↦ record { later = found.0 ∷ so_far.later; is = oldest_more h n found.0 found.2 ∙ ap (λ l. found.0 ∷ l) so_far.is }
      | inr past ↦ absurd (omega (arith, past.0, below, length-reverse h))
    ]

some_behind : (i d : ℕ) (h : List Entry) → i + d ≤ length h → Behind i (i + d) h
some_behind i zero h within = record { later = []; is = ap (λ k. oldest k h) (omega arith) }
some_behind i (suc d) h within =
    let next : i + d + 1 ≡ i + suc d = omega arith in
    subst (λ k. Behind i k h) next (one_behind i (i + d) h (omega (arith, within)) (some_behind i d h (omega (arith, within))))

pub behind : (i j : ℕ) (h : List Entry) → i ≤ j → j ≤ length h → Behind i j h
behind i j h le within =
    let all : i + (j - i) ≡ j = omega (arith, le) in
    subst (λ k. Behind i k h) all (some_behind i (j - i) h (omega (arith, all, within)))

oldest_all : (h : List Entry) → oldest (length h) h ≡ h
oldest_all h = ap reverse (take_all (length h) (reverse h) (omega (arith, length-reverse h))) ∙ reverse-reverse h

-- each front of a legal history is legal
pub front_legal : (s : StatedSetup) (h : List Entry) (i : ℕ) → i ≤ length h → Legal s h → Legal s (oldest i h)
front_legal s h i le legal =
    let rest = behind i (length h) h le (omega arith) in
    Legal-before s rest.later (oldest i h) (subst (λ (l : List Entry). Legal s l) (sym (oldest_all h) ∙ rest.is) legal)
