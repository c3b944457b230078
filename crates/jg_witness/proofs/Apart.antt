-- A question about words is answered by what concerns its thread, and those who were handed its references.
use Rattle.std.proofs.Common.{ℕ, ◌≡◌, Bool, true, false, List, [], ◌∷◌, Option, Some, None, refl, ap, ◌∙◌}
use Rattle.std.specs.Prelude.{◌==◌, not, if◌then◌else◌}
use Rattle.std.specs.List.{list_any, AllByRecursion}
use Rattle.jg_words.specs.declared.thread.Tid.{Tid}
use Rattle.jg_words.specs.declared.reference.Ref.{Ref}
use Rattle.jg_words.specs.declared.reference.Ref.TheVariants.{Null, To}
use Rattle.jg_judge.specs.declared.argument.Argument.{Argument}
use Rattle.jg_judge.specs.declared.argument.Argument.TheVariants.{Reference}
use Rattle.jg_core.specs.Asking.{asked}
use Rattle.jg_core.specs.Facts.{parts_of, is_in_being}
use Rattle.jg_core_laws.specs.Apart.{is_theirs, concerning}
use Rattle.jg_core_laws.specs.Laws.{references, is_buffer}
use Rattle.jg_core_laws.proofs.Judged.{or_both, or_parts}
use Rattle.jg_core_laws.proofs.Apart.{answered_apart, named_apart}
use Rattle.jg_witness.specs.declared.operand.Operand.{Operand}
use Rattle.jg_witness.specs.declared.operand.Operand.TheVariants.{Word, Other}
use Rattle.jg_witness.specs.Events.{Event, facts_of, if_in_being, meaning, newest}
use Rattle.jg_witness.specs.Words.{or_dead, named_for, argument_of, arguments_of}
use Rattle.jg_witness.specs.Laws.{IsTheirs, IsSame, WordsAnsweredApart}

module _ (those : ℕ → Bool) (t : Tid) (one : those t.0 ≡ true) where
  abbrev AreTheirs : List Argument → Type 0
  AreTheirs xs = list_any (λ r. not (is_theirs those r)) (references xs) ≡ false

  module _ (d e : List Event) (same : concerning those (facts_of d) ≡ concerning those (facts_of e)) where
    being_same : (name : Ref) → is_theirs those name ≡ true → is_in_being (parts_of (facts_of d)) name ≡ is_in_being (parts_of (facts_of e)) name
    being_same Null own = refl
    being_same (To kind maker n) own = rw (named_apart those maker.0 (To kind maker n) (facts_of d) (facts_of e) own own same) refl

    meant_same : (name : Option Ref) → IsTheirs those name → if_in_being (parts_of (facts_of d)) name ≡ if_in_being (parts_of (facts_of e)) name
    meant_same None own = refl
    meant_same (Some name) own = rw (being_same name own) refl

    word_same : (word : ℕ) → IsSame those d e (Word word) → named_for t d word ≡ named_for t e word
    word_same word is =
        let meant : meaning word d ≡ meaning word e = rw is.0 (meant_same (newest word e) is.1) in
        rw meant refl

    operand_same : (x : Operand) → IsSame those d e x → argument_of t d x ≡ argument_of t e x
    operand_same (Word word) is = ap Reference (word_same word is)
    operand_same (Other x) is = refl

    all_same : (xs : List Operand) → AllByRecursion (IsSame those d e) xs → arguments_of t d xs ≡ arguments_of t e xs
    all_same [] all = refl
    all_same (x ∷ xs) all = rw (operand_same x all.0, all_same xs all.1) refl

    -- ---- what words are asked as is of theirs

    meant_theirs : (b : Bool) (name : Ref) → is_theirs those name ≡ true → is_theirs those (or_dead t (if b then Some name else None)) ≡ true
    meant_theirs true name own = own
    meant_theirs false name own = one

    dead_theirs : (name : Option Ref) → IsTheirs those name → is_theirs those (or_dead t (if_in_being (parts_of (facts_of e)) name)) ≡ true
    dead_theirs None own = one
    dead_theirs (Some name) own = meant_theirs (is_in_being (parts_of (facts_of e)) name) name own

    asked_theirs : (b : Bool) (r : Ref) → is_theirs those r ≡ true → is_theirs those (if b then Null else r) ≡ true
    asked_theirs true r own = refl
    asked_theirs false r own = own

    word_theirs : (word : ℕ) → IsSame those d e (Word word) → not (is_theirs those (named_for t e word)) ≡ false
    word_theirs word is = ap not (asked_theirs (word == 0) (or_dead t (meaning word e)) (dead_theirs (newest word e) is.1))

    front : (x : Argument) (xs : List Argument) → AreTheirs (x ∷ []) → AreTheirs xs → AreTheirs (x ∷ xs)
    front (Reference r) xs first rest = or_both _ _ (or_parts (not (is_theirs those r)) false first).0 rest
    front x xs first rest = rest

    arguments_theirs : (xs : List Operand) → AllByRecursion (IsSame those d e) xs → AreTheirs (arguments_of t e xs)
    arguments_theirs [] all = refl
    arguments_theirs (Word word ∷ xs) all = or_both _ _ (word_theirs word all.0) (arguments_theirs xs all.1)
    arguments_theirs (Other x ∷ xs) all = front x (arguments_of t e xs) all.0.1 (arguments_theirs xs all.1)

    unlent : (xs : List Operand) → AllByRecursion (IsSame those d e) xs → list_any is_buffer (arguments_of t e xs) ≡ false
    unlent [] all = refl
    unlent (Word word ∷ xs) all = unlent xs all.1
    unlent (Other x ∷ xs) all = or_both _ _ all.0.0 (unlent xs all.1)

pub words_answered_apart : WordsAnsweredApart
words_answered_apart bounds s t env function xs those d e plain one of_one all same =
    ap (λ ys. asked bounds s (parts_of (facts_of d)) t env function ys) (all_same those t one d e same xs all)
    ∙ answered_apart bounds s t env function (arguments_of t e xs) those (facts_of d) (facts_of e) plain (unlent those t one d e same xs all) one of_one
    (arguments_theirs those t one d e same xs all) same
