-- What is noted of a line that isn't explained.
use Rattle.std.proofs.Common.{◌≡◌, ◌∙◌, ◌++◌, ◌⊎◌, ◌<◌, ℕ, Bool, true, false, if◌then◌else◌, List, [], Option, Some, None, append-nil, ap, inl, inr, refl, sym}
use Rattle.jg_words.specs.declared.rule.Rule.{Rule}
use Rattle.jg_judge.specs.declared.argument.Argument.{Argument}
use Rattle.jg_record.specs.declared.reply.Reply.{Reply}
use Rattle.jg_record.specs.declared.reply.Reply.TheVariants.{Passed, Denied, Environment, Reference, Buffer, Object, Nothing}
use Rattle.jg_watch.specs.Explained.{Explaining, explanation}
use Rattle.jg_watch.specs.Steps.{Adds}

-- nothing was added
pub adds_nothing : (x : Explaining) (more : List ℕ) → more ≡ [] → Adds x x more
adds_nothing x more none = record { most = refl; text = by x.text refl }
  where
    by : (text : Option (List ℕ)) → x.text ≡ text
        → ((x.text ≡ None) × ((x.text ≡ None) ⊎ (0 < x.most))) ⊎ ((so_far : List ℕ) × (x.text ≡ Some so_far) × (x.text ≡ Some (so_far ++ more)))
    by None is = inl (is, inl is)
    by (Some so_far) is = inr (so_far, is, is ∙ ap Some (sym (ap (λ it. so_far ++ it) none ∙ append-nil so_far)))

-- what was answered otherwise than by a denial isn't explained
pub not_explained : (n : ℕ) (b : Bool) (reply : Reply) (operand : Option Argument) → ((rule : Rule) → ¬ (reply ≡ Denied rule))
    → (if b then explanation n reply operand else []) ≡ []
not_explained n false reply operand otherwise = refl
not_explained n true Passed operand otherwise = refl
not_explained n true (Denied rule) operand otherwise = absurd (otherwise rule refl)
not_explained n true (Environment env) operand otherwise = refl
not_explained n true (Reference r) operand otherwise = refl
not_explained n true (Buffer b) operand otherwise = refl
not_explained n true (Object o) operand otherwise = refl
not_explained n true Nothing operand otherwise = refl
