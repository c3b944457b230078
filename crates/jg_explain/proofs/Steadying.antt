-- One entry more, of what is asked after each entry that may turn it.
use Rattle.std.proofs.Common.{◌≡◌, ◌+◌, ◌<◌, ◌∙◌, ℕ, Bool, true, false, List, length, map, Some, refl, ap, sym, All}
use Rattle.std.specs.Prelude.{reverse, slice_get}
use Rattle.std.proofs.lemmas.List.Elements.{All-map, All-weaker}
use Rattle.jg_words.specs.Entry.{Entry}
use Rattle.jg_lists.proofs.Oldest.{oldest, oldest_more}
use Rattle.jg_policy.specs.Stated.{StatedSetup}
use Rattle.jg_breaches.specs.declared.turns.Turns.{Turns}
use Rattle.jg_breaches.specs.Turns.{turned, same}
use Rattle.jg_explain.specs.declared.steady.Steady.{Steady}
use Rattle.jg_explain.specs.Explained.{after, as_it_was, turns_before, was}
use Rattle.jg_explain.specs.Followed.{IsSteady, asked_steady, asked_when, can_turn}
use Rattle.jg_explain.proofs.Elsewhere.{unturned}
use Rattle.jg_explain.proofs.Turning.{one_turn, turns_more}

unmoved : (b d : Bool) (n : ℕ) (ts : Turns) → d ≡ b → turned (same b d) n ts ≡ ts
unmoved true true n ts is = refl
unmoved false false n ts is = refl
unmoved true false n ts is = absurd cc
unmoved false true n ts is = absurd cc

module _ (s : StatedSetup) (h : List Entry) (n : ℕ) (x : Entry) (below : n < length h) (at : slice_get (reverse h) n ≡ Some x) where
  by_test : (c : Steady) (b : Bool) → can_turn c.condition x ≡ b → IsSteady s h n c → IsSteady s h (n + 1) (asked_when b s (as_it_was (n + 1) h) n c)
  by_test c true may old = record {
    holds = refl;
    turns = one_turn s c.condition h n c.holds (was s c.condition h (n + 1)) c.turns _ below old.holds refl old.turns refl;
  }
  by_test c false cannot old =
      let still : was s c.condition h (n + 1) ≡ was s c.condition h n =
      ap (after s c.condition) (oldest_more h n x at) ∙ unturned s (oldest n h) x c.condition cannot in
      record {
        holds = old.holds ∙ sym still;
        turns = old.turns ∙ sym (turns_more (after s c.condition) h n below
            ∙ unmoved (was s c.condition h n) (was s c.condition h (n + 1)) n (turns_before s c.condition h n) still);
      }

  pub all_asked_steady : (cs : List Steady) → All (IsSteady s h n) cs → All (IsSteady s h (n + 1)) (map (asked_steady s (as_it_was (n + 1) h) x n) cs)
  all_asked_steady cs old =
      All-map (IsSteady s h (n + 1)) (asked_steady s (as_it_was (n + 1) h) x n) cs
      (All-weaker (IsSteady s h n) (λ c. IsSteady s h (n + 1) (asked_steady s (as_it_was (n + 1) h) x n c)) (λ c is. by_test c (can_turn c.condition x) refl is)
      cs old)
