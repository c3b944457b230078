-- What is told beside a guard.
use Rattle.std.proofs.Common.{◌≡◌, ℕ, suc, List, [], ◌∷◌, length, refl, arith}
use Rattle.jg_core.specs.declared.fact.Fact.{Fact}
use Rattle.jg_rules.specs.Parts.{Parts}
use Rattle.jg_advice.specs.Moments.{Moment}
use Rattle.jg_guard_advice.specs.Logged.{with_facts}

pub none_told : (n : ℕ) (p : Parts) (facts : List Fact) (h : List Moment) → length facts ≡ 0 → with_facts n p facts h ≡ h
none_told n p [] h none = refl
none_told n p (x ∷ facts) h none = absurd (more (length facts) none)
  where
    more : (n : ℕ) → suc n ≡ 0 → ⊥
    more n is = omega (arith, is)
