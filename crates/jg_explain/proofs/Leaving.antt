-- Watches that are written where they stand; what is left is watched to the journal's end.
use Rattle.std.proofs.Common.{◌≡◌, ℕ, List, [], ◌∷◌, ◌++◌, length, map, take, drop, refl, ap, sym, ◌∙◌, arith}
use Rattle.std.specs.Prelude.{min}
use Rattle.std.proofs.lemmas.List.{length-map}
use Rattle.std.proofs.Math.Seq.{take-append_seam}
use Rattle.jg_words.specs.Entry.{Entry}
use Rattle.jg_policy.specs.Stated.{StatedSetup}
use Rattle.jg_breaches.specs.declared.condition.Condition.{Condition}
use Rattle.jg_explain.specs.declared.left.Left.{Left}
use Rattle.jg_explain.specs.declared.watching.Watch.{Watch}
use Rattle.jg_explain.specs.Explained.{known, turns_before, was}
use Rattle.jg_explain.specs.Left.{known_left, presence, watch_of}
use Rattle.jg_explain.specs.Watched.{watched}

-- what is written through a slice of all items of a vector are its items then
pub through : (f : Watch → Watch) (len : ℕ) (items lent new : List Watch) → len ≡ length items → lent ≡ items → new ≡ map f lent
    → take len (new ++ drop (length new) items) ≡ map f items
through f len items lent new long is done =
    let same : len ≡ length new = long ∙ sym (ap length done ∙ length-map lent f ∙ ap length is) in
    ap (λ n. take n (new ++ drop (length new) items)) same ∙ take-append_seam new (drop (length new) items) ∙ done ∙ ap (map f) is

module _ (s : StatedSetup) (journal : List Entry) where
  at_place : ℕ → Condition → ℕ → Watch
  at_place place c i = record { place = place; condition = c; holds = was s c journal i; turns = turns_before s c journal i }

  to_the_end : (n : ℕ) (xs : List Left) → map (watched s journal n) (map (watch_of n) xs) ≡ map (λ x. known s journal n (presence x)) xs
  unfolding at_place
  to_the_end n [] = refl
  to_the_end n (x ∷ xs) =
      let same : min n n ≡ n = omega arith in
      ap (λ i. at_place n (presence x) i ∷ map (watched s journal n) (map (watch_of n) xs)) same
      ∙ ap (λ l. known s journal n (presence x) ∷ l) (to_the_end n xs)

pub all_left_known : (s : StatedSetup) (journal : List Entry) (n : ℕ) → n ≡ length journal → (xs : List Left)
    → map (watched s journal n) (map (watch_of n) xs) ≡ map (known_left s journal) xs
all_left_known s journal n is xs = to_the_end s journal n xs ∙ ap (λ k. map (λ x. known s journal k (presence x)) xs) is
