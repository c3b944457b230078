-- The explanations of the first denied questions of a record.
use Rattle.std.specs.Prelude.{◌≡◌, ◌<◌, ◌+◌, ◌++◌, ◌⊎◌, ℕ, if◌then◌else◌, List, [], ◌∷◌, codes, length, nat_lt, Option, Some, None}
use Rattle.jg_judge.specs.declared.argument.Argument.{Argument}
use Rattle.jg_record.specs.declared.reply.Reply.{Reply}
use Rattle.jg_record.specs.declared.reply.Reply.TheVariants.{Denied}
use Rattle.jg_record.specs.Texts.{argument_text}
use Rattle.jg_denial_text.specs.Sentences.{denial_text, rule_text}
use Rattle.jg_watch.specs.Lines.{Answered, denials_in}

-- what contracts see of explanations: how many are made at the most, and their text so far, which is lost where memory
-- ran out
pub record Explaining : Type 0 where
  pub most : ℕ
  pub text : Option (List ℕ)

-- ` of ` and the operand, as the record spells it
abbrev pub subject_text : Option Argument → List ℕ
subject_text None = []
subject_text (Some x) = codes " of " ++ argument_text x

-- of line number n, where it is a denied question
abbrev pub explanation : ℕ → Reply → Option Argument → List ℕ
explanation n (Denied rule) operand = denial_text n rule ++ subject_text operand ++ 10 ∷ rule_text rule
explanation n reply operand = []

-- of these lines, the newest first, so many at the most: the first ones
abbrev pub explanations : ℕ → List Answered → List ℕ
explanations most [] = []
explanations most (l ∷ lines) = explanations most lines
    ++ (if nat_lt (denials_in lines) most then explanation (length lines + 1) l.reply l.operand else [])

-- those are the text, unless memory ran out for one of them
abbrev pub AreExplained : List Answered → Explaining → Type 0
AreExplained lines x = ((x.text ≡ None) × (0 < x.most)) ⊎ (x.text ≡ Some (explanations x.most lines))
