-- Why one call was denied, and what is known of the conditions.
use Rattle.std.proofs.Common.{◌≡◌, ◌≤◌, ◌<◌, ℕ, List, [], ◌∷◌, length, map, get_or, Option, Some, None, refl, ap, ◌∙◌, subst, arith}
use Rattle.std.specs.Prelude.{flat_map, reverse, slice_get}
use Rattle.std.proofs.lemmas.List.{append-nil}
use Rattle.std.proofs.lemmas.List.Concat.{flat_map-cons}
use Rattle.jg_words.specs.Entry.{Entry, rule_in}
use Rattle.jg_lists.proofs.Oldest.{oldest, length-oldest}
use Rattle.jg_policy.specs.Stated.{StatedSetup}
use Rattle.jg_explain.specs.declared.denials.Denial.{Denial}
use Rattle.jg_explain.specs.declared.watching.Watch.{Watch}
use Rattle.jg_explain.specs.Explained.{AreWithin, Cause, all_known, cause_at, causes_at, denial_of, watches_of}
use Rattle.jg_explain.specs.Watched.{watched}
use Rattle.jg_explain.proofs.Causing.{at_most_one, every_known, newest_within}

of_entry : (s : StatedSetup) (h : List Entry) (found : Option Entry) → AreWithin (length h) (causes_at s h found)
of_entry s h None = tt
of_entry s h (Some x) = newest_within s h x (rule_in x.outcome)

pub cause_within : (s : StatedSetup) (h : List Entry) (place : ℕ) → place ≤ length h → AreWithin place (cause_at s h place)
cause_within s h place below =
    subst (λ n. AreWithin n (cause_at s h place)) (length-oldest h place below) (of_entry s (oldest place h) (slice_get (reverse h) place))

module _ (s : StatedSetup) (h : List Entry) (place : ℕ) (ds : List Denial) (d : Denial) (ws items : List Watch) where
  abbrev Explains : List Cause → Type 0
  Explains cs = (c : Cause) × (cs ≡ c ∷ []) × (d.rule ≡ c.rule) × (d.breach ≡ c.breach) × (items ≡ all_known s h c)

  by_cause : (cs : List Cause) → length cs ≤ 1 → AreWithin place cs → 0 < length ds → ds ≡ map denial_of cs → d ≡ get_or ds 0 d → ws ≡ flat_map watches_of cs
      → items ≡ map (watched s h place) ws
      → Explains cs
  by_cause [] few within some denials first watches known = absurd (omega (arith, some, ap length denials))
  by_cause (c ∷ []) few within some denials first watches known =
      let is : d ≡ denial_of c = first ∙ ap (λ l. get_or l 0 d) denials in
      let all : items ≡ all_known s h c =
      known ∙ ap (map (watched s h place)) watches ∙ every_known s h place (c ∷ []) within ∙ flat_map-cons (all_known s h) c [] ∙ append-nil (all_known s h c)
      in
      (c, refl, ap (λ x. x.rule) is, ap (λ x. x.breach) is, all)
  by_cause (c ∷ b ∷ cs) few within some denials first watches known = absurd (omega (arith, few))

-- the one denial there, and what its watches know
pub one_explained : (s : StatedSetup) (h : List Entry) (place : ℕ) (ds : List Denial) (d : Denial) (ws items : List Watch) → place ≤ length h → 0 < length ds
    → ds ≡ map denial_of (cause_at s h place) → d ≡ get_or ds 0 d → ws ≡ flat_map watches_of (cause_at s h place) → items ≡ map (watched s h place) ws
    → (c : Cause) × (cause_at s h place ≡ c ∷ []) × (d.rule ≡ c.rule) × (d.breach ≡ c.breach) × (items ≡ all_known s h c)
one_explained s h place ds d ws items below some denials first watches known =
    by_cause s h place ds d ws items (cause_at s h place) (at_most_one s (oldest place h) (slice_get (reverse h) place)) (cause_within s h place below) some
    denials first watches known
