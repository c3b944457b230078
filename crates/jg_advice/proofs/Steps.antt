-- What a step leaves of what is kept.
use Rattle.std.proofs.Common.{◌≡◌, ◌<◌, ℕ, suc, Bool, true, false, List, [], ◌∷◌, length, Some, None, ◌∙◌, ap, refl, arith}
use Rattle.std.specs.Prelude.{if◌then◌else◌, reverse}
use Rattle.std.specs.Ordering.{nat_cmp, eq_by_cmp}
use Rattle.std.proofs.lemmas.Map.Keys.{IsDistinct-from_apart}
use Rattle.jg_lists.specs.ByThread.{IsOnce}
use Rattle.jg_advice.specs.declared.advice.Source.{Source}
use Rattle.std.specs.Map.{lookup}
use Rattle.std.specs.Option.{unwrap_or}
use Rattle.jg_lists.specs.ByMaker.{Name, same_name, named}
use Rattle.jg_lists.proofs.Named.{equal_names}
use Rattle.jg_advice.specs.declared.doing.Doing.{Doing}
use Rattle.jg_advice.specs.Doing.{idle}
use Rattle.jg_advice.specs.Standing.{Table, kept}

-- what was put is made of what was kept
pub doing_put : (old new : Table Doing) (name q : Name) (f : Doing → Doing)
    → lookup (same_name q) (named new) ≡ (if same_name name q then Some (f (kept old name)) else lookup (same_name q) (named old))
    → kept new q ≡ (if same_name name q then f (kept old q) else kept old q)
doing_put old new name q f put = by (same_name name q) refl put
  where
    by : (b : Bool) → same_name name q ≡ b
        → lookup (same_name q) (named new) ≡ (if b then Some (f (kept old name)) else lookup (same_name q) (named old))
        → kept new q ≡ (if b then f (kept old q) else kept old q)
    by true is put = ap (λ found. unwrap_or found idle) put ∙ ap (λ n. f (kept old n)) (equal_names name q is)
    by false is put = ap (λ found. unwrap_or found idle) put

pub again : {X : Type 0} (b : Bool) (x y z : X) → (if b then x else (if b then y else z)) ≡ (if b then x else z)
again true x y z = refl
again false x y z = refl

pub none_once : IsOnce {V = Source} []
none_once = IsDistinct-from_apart (eq_by_cmp nat_cmp) [] (λ i j d less within. absurd (none_within j within))
  where
    none_within : (j : ℕ) → j < 0 → ⊥
    none_within j within = omega (arith, within)

pub none_left : {X : Type 0} (xs : List X) → length xs ≡ 0 → reverse xs ≡ []
none_left [] none = refl
none_left (x ∷ xs) none = absurd (more (length xs) none)
  where
    more : (n : ℕ) → suc n ≡ 0 → ⊥
    more n is = omega (arith, is)

-- nothing is kept of what was cleared, nor of what was removed
pub doing_gone : (old new : Table Doing) (q : Name) (b : Bool)
    → lookup (same_name q) (named new) ≡ (if b then None else lookup (same_name q) (named old))
    → kept new q ≡ (if b then idle else kept old q)
doing_gone old new q true is = ap (λ found. unwrap_or found idle) is
doing_gone old new q false is = ap (λ found. unwrap_or found idle) is
