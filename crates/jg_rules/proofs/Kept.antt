-- A call with no verdict breaks no rule.
use Rattle.std.proofs.Common.{◌≡◌, ℕ, Bool, true, false, List, [], ◌∷◌, Option, Some, None, refl}
use Rattle.std.specs.Prelude.{cond}
use Rattle.std.specs.List.{find}
use Rattle.jg_words.specs.declared.thread.EnvId.{EnvId}
use Rattle.jg_words.specs.declared.call.Call.{Call}
use Rattle.jg_words.specs.declared.rule.Rule.{Rule}
use Rattle.jg_policy.specs.Stated.{StatedSetup}
use Rattle.jg_rules.specs.Parts.{Parts}
use Rattle.jg_rules.specs.Rules.{verdict, rules_in_order, broken}
use Rattle.jg_rules.specs.Unbroken.{Unbroken}

clash : (rule : Rule) → Some rule ≡ None → ⊥
clash rule e = cc

head_fails : (b : Bool) (rule : Rule) (rest : Option Rule) → cond b (Some rule) rest ≡ None → (b ≡ false) × (rest ≡ None)
head_fails true rule rest is = absurd (clash rule is)
head_fails false rule rest is = (refl, is)

abbrev AllFail : (Rule → Bool) → List Rule → Type 0
AllFail test [] = Unit {0}
AllFail test (rule ∷ rules) = (test rule ≡ false) × AllFail test rules

each_fails : (test : Rule → Bool) (rules : List Rule) → find test rules ≡ None → AllFail test rules
each_fails test [] is = tt
each_fails test (rule ∷ rules) is =
    let h : (test rule ≡ false) × (find test rules ≡ None) = head_fails (test rule) rule (find test rules) is in
    (h.0, each_fails test rules h.1)

pub unbroken : (s : StatedSetup) (p : Parts) (t : ℕ) (env : Option EnvId) (call : Call) → verdict s p t env call ≡ None → Unbroken s p t env call
unbroken s p t env call is =
    let a : AllFail (λ rule. broken rule s p t env call) rules_in_order = each_fails (λ rule. broken rule s p t env call) rules_in_order is in
    record {
      own_thread = a.0;
      is_attached = a.1.0;
      not_critical = a.1.1.0;
      calm = a.1.1.1.0;
      own_locals = a.1.1.1.1.0;
      alive = a.1.1.1.1.1.0;
      right_kind = a.1.1.1.1.1.1.0;
      not_null = a.1.1.1.1.1.1.1.0;
      right_type = a.1.1.1.1.1.1.1.1.0;
      right_field = a.1.1.1.1.1.1.1.1.1.0;
      right_buffer = a.1.1.1.1.1.1.1.1.1.1.0;
      right_argument = a.1.1.1.1.1.1.1.1.1.1.1.0;
      not_pinned = a.1.1.1.1.1.1.1.1.1.1.1.1.0;
      owned = a.1.1.1.1.1.1.1.1.1.1.1.1.1.0;
      right_frame = a.1.1.1.1.1.1.1.1.1.1.1.1.1.1.0;
      accessible = a.1.1.1.1.1.1.1.1.1.1.1.1.1.1.1.0;
      is_linked = a.1.1.1.1.1.1.1.1.1.1.1.1.1.1.1.1.0;
    }
