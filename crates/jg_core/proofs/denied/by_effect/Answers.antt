use Rattle.std.proofs.Common.{◌≡◌, ◌∙◌, List, refl}
use Rattle.jg_words.specs.declared.thread.Tid.{Tid}
use Rattle.jg_words.specs.declared.rule.Rule.{Rule}
use Rattle.jg_rows.specs.declared.row.Effect.{Effect}
use Rattle.jg_rows.specs.declared.row.Effect.TheVariants.{GivesBack, Pops, Detaches}
use Rattle.jg_judge.specs.declared.argument.Argument.{Argument}
use Rattle.jg_judge.specs.Asked.{first_reference}
use Rattle.jg_core.specs.declared.expected.Expected.{Expected}
use Rattle.jg_core.specs.Denied.{by_rule, by_effect}
use Rattle.jg_core.proofs.denied.by_effect.Goals as goal

-- of the other effects the rule says it
of_others : (rule : Rule) (effect : Effect) (t : Tid) (passed : Expected) (xs : List Argument) → (effect ≡ GivesBack → ⊥) → (effect ≡ Pops → ⊥)
    → (effect ≡ Detaches → ⊥)
    → by_rule rule passed (first_reference xs) ≡ by_effect rule effect t passed xs
of_others rule GivesBack t passed xs back pops detaches = absurd (back refl)
of_others rule Pops t passed xs back pops detaches = absurd (pops refl)
of_others rule Detaches t passed xs back pops detaches = absurd (detaches refl)
of_others rule effect t passed xs back pops detaches = refl

pub returns-in_default : goal.returns-in_default
returns-in_default g c = λ p stands.
    c.by_rule.ensures p stands
    ∙ of_others c.args.rule c.args.row.now.effect c.args.tid _ c.args.arguments.now c.in_default.not-GivesBack c.in_default.not-Pops c.in_default.not-Detaches
