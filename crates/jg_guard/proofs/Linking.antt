-- The same methods, linked and unlinked.
use Rattle.std.proofs.Common.{ℕ, ◌≡◌, Option, subst}
use Rattle.jg_policy.specs.Stated.{StatedSetup}
use Rattle.jg_rules.specs.Parts.{Parts, TableRows, TablesStand}
use Rattle.jg_guard.specs.Settled.{linked_on, unlinked_on}

pub linked_at : (s : StatedSetup) (rows : TableRows) (p : Parts) (class class' native native' : Option ℕ) → class ≡ class' → native ≡ native'
    → TablesStand s rows (linked_on class native p) → TablesStand s rows (linked_on class' native' p)
linked_at s rows p class class' native native' same_class same_native stand =
    subst (λ (n : Option ℕ). TablesStand s rows (linked_on class' n p)) same_native
    (subst (λ (k : Option ℕ). TablesStand s rows (linked_on k native p)) same_class stand)

pub unlinked_at : (s : StatedSetup) (rows : TableRows) (p : Parts) (class class' : Option ℕ) → class ≡ class'
    → TablesStand s rows (unlinked_on class p) → TablesStand s rows (unlinked_on class' p)
unlinked_at s rows p class class' same_class stand = subst (λ (k : Option ℕ). TablesStand s rows (unlinked_on k p)) same_class stand
