-- Many conditions, each watched up to a place of its own: one entry more.
use Rattle.std.proofs.Common.{◌≡◌, ◌+◌, ◌<◌, ◌≤◌, ℕ, Bool, true, false, List, [], ◌∷◌, ◌++◌, length, map, take, drop, set, get_or, refl, ap, sym, ◌∙◌, arith}
use Rattle.std.proofs.lemmas.List.Edits.{map_over_more}
use Rattle.std.proofs.lemmas.Option.{slice_get-get_or, get_or_from_slice_get}
use Rattle.std.specs.Prelude.{nat_lt, min}
use Rattle.std.proofs.lemmas.Bool.{ltb-true, ltb-false}
use Rattle.jg_words.specs.Entry.{Entry}
use Rattle.jg_policy.specs.Stated.{StatedSetup}
use Rattle.jg_guard.specs.Guard.{State}
use Rattle.jg_breaches.specs.declared.turns.Turns.{Turns}
use Rattle.jg_breaches.specs.Turns.{turned, same}
use Rattle.jg_explain.specs.declared.watching.Watch.{Watch}
use Rattle.jg_explain.specs.Explained.{as_it_was, after, was, turns_before, IsFront}
use Rattle.jg_explain.specs.Watched.{watched, asked_if, asked_at}
use Rattle.jg_explain.proofs.Turning.{turns_more}

-- a loop that writes f of each element over it: one element more
pub written_more : {X : Type 0} (f : X → X) (xs ys : List X) (i : ℕ) (d y : X) → i < length xs → length ys ≡ length xs → ys ≡ map f (take i xs) ++ drop i xs
    → y ≡ f (get_or ys i d)
    → set ys i y ≡ map f (take (i + 1) xs) ++ drop (i + 1) xs
written_more f xs ys i d y below long so_far is =
    let inside : i < length ys = omega (arith, below, long) in
    ap (λ v. set ys i v) is
    ∙ map_over_more f xs ys i (get_or ys i d) below so_far (sym (get_or_from_slice_get ys i (get_or ys i d) (get_or ys i d) (slice_get-get_or ys i d inside)))

module _ (s : StatedSetup) (h : List Entry) (n : ℕ) (below : n < length h) where
  abbrev at_place : Watch → ℕ → Watch
  at_place w i = record { place = w.place; condition = w.condition; holds = was s w.condition h i; turns = turns_before s w.condition h i }

  abbrev with_turns : Watch → Turns → Watch
  with_turns w ts = record { place = w.place; condition = w.condition; holds = was s w.condition h (n + 1); turns = ts }

  by_test : (w : Watch) (b : Bool) → nat_lt n w.place ≡ b → asked_if b s (as_it_was (n + 1) h) n (watched s h n w) ≡ watched s h (n + 1) w
  by_test w true e =
      let inside : n < w.place = ltb-true n w.place e in
      let this : min n w.place ≡ n = omega (arith, inside) in
      let next : min (n + 1) w.place ≡ n + 1 = omega (arith, inside) in
      ap (λ i. with_turns w (turned (same (was s w.condition h i) (was s w.condition h (n + 1))) n (turns_before s w.condition h i))) this
      ∙ ap (λ ts. with_turns w ts) (sym (turns_more (after s w.condition) h n below)) ∙ ap (λ i. at_place w i) (sym next)
  by_test w false e =
      let outside : w.place ≤ n = ltb-false n w.place e in
      let same_place : min n w.place ≡ min (n + 1) w.place = omega (arith, outside) in
      ap (λ i. at_place w i) same_place

  all_watches : (ws : List Watch) → map (asked_at s (as_it_was (n + 1) h) n) (map (watched s h n) ws) ≡ map (watched s h (n + 1)) ws
  all_watches [] = refl
  all_watches (w ∷ ws) =
      ap (λ x. x ∷ map (asked_at s (as_it_was (n + 1) h) n) (map (watched s h n) ws)) (by_test w (nat_lt n w.place) refl)
      ∙ ap (λ xs. watched s h (n + 1) w ∷ xs) (all_watches ws)

pub all_asked : (whole again : State) (n : ℕ) → n < length whole.journal → IsFront whole again (n + 1) → (ws : List Watch)
    → map (asked_at again.setup again.journal n) (map (watched whole.setup whole.journal n) ws) ≡ map (watched whole.setup whole.journal (n + 1)) ws
all_asked whole again n below front ws =
    let told = map (watched whole.setup whole.journal n) ws in
    ap (λ s. map (asked_at s again.journal n) told) front.setup ∙ ap (λ h. map (asked_at whole.setup h n) told) front.journal
    ∙ all_watches whole.setup whole.journal n below ws
