-- The limits of a setup, lt-ltb what is kept of it.
use Rattle.std.proofs.Common.{◌≡◌, ℕ, ◌≤◌, ◌<◌, zero, suc, false, ◌||◌, List, [], ◌∷◌, length, map, Some, slice_get, String, Global, refl}
use Rattle.std.proofs.lemmas.List.{length-map}
use Rattle.std.proofs.lemmas.Bool.{ltb-false, lt-ltb, or_parts}
use Rattle.std.specs.List.{list_any}
use Rattle.jg_policy.specs.declared.class.Class.{Class}
use Rattle.jg_policy.specs.declared.grant.Grant.{Grant}
use Rattle.jg_policy.specs.Stated.{StatedSetup}
use Rattle.jg_policy.specs.Findings.{has_many_members, is_too_large}
use Rattle.jg_policy.specs.Kept.{member_view, grant_view, class_view, has_many_kept, is_large_kept}

any_many : (es : List (String Global × Class)) → list_any has_many_kept (map (λ e. e.1) es) ≡ list_any has_many_members (map class_view es)
any_many [] = refl
any_many (e ∷ es) = rw (length-map e.1.fields.keys member_view, length-map e.1.natives.keys member_view, any_many es) refl

-- what is kept is too large exactly where what it stands for is
pub large_kept : (s : StatedSetup) (gs : List Grant) (es : List (String Global × Class)) → map grant_view gs ≡ s.grants → map class_view es ≡ s.classes
    → is_large_kept gs es ≡ is_too_large s
large_kept s gs es grants classes =
    rw (← grants, ← classes, length-map gs grant_view, length-map es class_view, any_many es) refl

-- what the invariant of a setup says of its classes
pub few_classes : (gs : List Grant) (es : List (String Global × Class)) → is_large_kept gs es ≡ false → length es ≤ 1000
few_classes gs es h = ltb-false 1000 (length es) (or_parts _ _ (or_parts _ _ h).0).0

-- and of each one
pub record HasFew (c : Class) : Type 0 where
  pub fields : length c.fields.keys ≤ 100
  pub natives : length c.natives.keys ≤ 100

few_in : (es : List (String Global × Class)) → list_any has_many_kept (map (λ e. e.1) es) ≡ false → (i : ℕ) (e : String Global × Class)
    → slice_get es i ≡ Some e → HasFew e.1
few_in [] none i e at = absurd (let no : ⊥ = cc in no)
few_in (x ∷ es) none zero e at =
    let is : x ≡ e = cc in
    let few = or_parts _ _ (or_parts _ _ none).0 in
    rw (← is) (record { fields = ltb-false 100 _ few.0; natives = ltb-false 100 _ few.1 })
few_in (x ∷ es) none (suc i) e at = few_in es (or_parts _ _ none).1 i e at

pub few_members : (gs : List Grant) (es : List (String Global × Class)) → is_large_kept gs es ≡ false
    → (i : ℕ) (e : String Global × Class) → slice_get es i ≡ Some e → HasFew e.1
few_members gs es h = few_in es (or_parts _ _ h).1
