-- The oldest of a list that has its newest first.
use Rattle.std.proofs.Common.{◌≡◌, ◌+◌, ◌≤◌, ℕ, suc, List, [], ◌∷◌, ◌++◌, length, take, drop, Some, ap, sym, ◌∙◌, arith, length-take-le, append_assoc}
use Rattle.std.specs.Prelude.{reverse, slice_get}
use Rattle.std.proofs.lemmas.List.{take_more, length-reverse, reverse-append, reverse-reverse}
use Rattle.std.proofs.lemmas.Option.{slice_get_within, get_or_from_slice_get}
use Rattle.std.proofs.Math.Seq.{split_at}

-- the n oldest, the newest of them first
abbrev pub oldest : {X : Type 0} → ℕ → List X → List X
oldest n h = reverse (take n (reverse h))

module _ {X : Type 0} (h : List X) (n : ℕ) where
  pub oldest_more : (x : X) → slice_get (reverse h) n ≡ Some x → oldest (n + 1) h ≡ x ∷ oldest n h
  oldest_more x at =
      let more = take_more (reverse h) n x (slice_get_within (reverse h) n x at)
      ∙ ap (λ y. take n (reverse h) ++ y ∷ []) (get_or_from_slice_get (reverse h) n x x at) in
      ap reverse more ∙ reverse-append (take n (reverse h)) (x ∷ [])

  pub length-oldest : n ≤ length h → length (oldest n h) ≡ n
  length-oldest within = length-reverse (take n (reverse h)) ∙ length-take-le n (reverse h) (omega (arith, length-reverse h, within))

  -- what stands in front of one of them
  pub oldest_before : (x : X) → slice_get (reverse h) n ≡ Some x → h ≡ reverse (drop (suc n) (reverse h)) ++ x ∷ oldest n h
  oldest_before x at =
      let split = split_at (reverse h) n x (slice_get_within (reverse h) n x at)
      ∙ ap (λ y. take n (reverse h) ++ y ∷ drop (suc n) (reverse h)) (get_or_from_slice_get (reverse h) n x x at) in
      sym (reverse-reverse h) ∙ ap reverse split ∙ reverse-append (take n (reverse h)) (x ∷ drop (suc n) (reverse h))
      ∙ ap (λ front. front ++ oldest n h) (reverse-append (x ∷ []) (drop (suc n) (reverse h)))
      ∙ append_assoc (reverse (drop (suc n) (reverse h))) (x ∷ []) (oldest n h)
