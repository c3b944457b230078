-- What one pass over the operands finds is what each rule says of all of them.
use Rattle.std.proofs.Common.{◌≡◌, ◌∙◌, ◌+◌, ℕ, Bool, true, false, List, [], ◌∷◌, Option, Some, None, map, refl, ap, subst, sym}
use Rattle.std.specs.Prelude.{◌&&◌, ◌||◌, not, if◌then◌else◌}
use Rattle.std.specs.List.{list_any}
use Rattle.std.specs.Option.{is_some, option_or}
use Rattle.jg_words.specs.declared.rule.Rule.{Rule}
use Rattle.jg_words.specs.declared.rule.Rule.TheVariants.{ForeignLocal, DeadReference, NullReference, WrongType, BadField, BadBuffer, BadArgument}
use Rattle.jg_policy.specs.Stated.{StatedSetup}
use Rattle.jg_rules.specs.Parts.{Parts}
use Rattle.jg_rules.specs.Names.{names}
use Rattle.jg_rules.specs.Rules.{is_foreign, is_nothing, is_null}
use Rattle.jg_rows.specs.declared.row.Takes.{Takes}
use Rattle.jg_judge.specs.declared.argument.Argument.{Argument}
use Rattle.jg_judge.specs.Asked.{judged_of}
use Rattle.jg_judge.specs.Broken.{is_wrong_kind, is_unfit, is_wrong_buffer, is_out_of_bounds}
use Rattle.jg_judge.specs.Faults.{Beside, Faults, Places, faults_of, faults_in, either, no_faults, breaks, first_that, places_from, or_here, with_one}

-- what all operands break, rule by rule
abbrev pub told : StatedSetup → Parts → ℕ → Beside → List (Takes × Argument) → Faults
told s p t beside xs = record {
  foreign_local = list_any (λ x. is_foreign t x.reference) (map (λ x. judged_of x.0 x.1) xs);
  dead_reference = list_any (λ x. is_nothing (names p t x.reference)) (map (λ x. judged_of x.0 x.1) xs);
  null_reference = list_any (λ x. not x.nullable && is_null (names p t x.reference)) (map (λ x. judged_of x.0 x.1) xs);
  wrong_type = list_any (λ x. is_wrong_kind s p x.kind (names p t x.reference)) (map (λ x. judged_of x.0 x.1) xs);
  bad_field = list_any (λ x. is_unfit x.1) xs;
  bad_buffer = list_any (λ x. is_wrong_buffer p t beside.via x.0 x.1) xs;
  bad_argument = list_any (λ x. is_out_of_bounds beside.bounds s p beside.info x.0 x.1) xs;
}

pub each_found : (s : StatedSetup) (p : Parts) (t : ℕ) (beside : Beside) (xs : List (Takes × Argument)) → faults_in s p t beside xs ≡ told s p t beside xs
each_found s p t beside [] = refl
each_found s p t beside (x ∷ xs) = ap (either (faults_of s p t beside x.0 x.1)) (each_found s p t beside xs)

-- ---- the places

-- those that were found first, and where there is none the later ones
abbrev pub joined : Places → Places → Places
joined a b = record {
  foreign_local = option_or a.foreign_local b.foreign_local;
  dead_reference = option_or a.dead_reference b.dead_reference;
  null_reference = option_or a.null_reference b.null_reference;
  wrong_type = option_or a.wrong_type b.wrong_type;
  bad_field = option_or a.bad_field b.bad_field;
  bad_buffer = option_or a.bad_buffer b.bad_buffer;
  bad_argument = option_or a.bad_argument b.bad_argument;
}

or_none : (a : Option ℕ) → option_or a None ≡ a
or_none None = refl
or_none (Some n) = refl

or_later : (a : Option ℕ) (n : ℕ) (b : Bool) (later : Option ℕ) → option_or (or_here a n b) later ≡ option_or a (if b then Some n else later)
or_later (Some i) n true later = refl
or_later (Some i) n false later = refl
or_later None n true later = refl
or_later None n false later = refl

-- one operand more: what was found before it, and what it breaks itself
pub one_joined : (s : StatedSetup) (p : Parts) (t : ℕ) (beside : Beside) (a : Places) (n : ℕ) (x : Takes × Argument) (xs : List (Takes × Argument))
    → joined (with_one a n (faults_of s p t beside x.0 x.1)) (places_from s p t beside (n + 1) xs) ≡ joined a (places_from s p t beside n (x ∷ xs))
one_joined s p t beside a n x xs =
    let f : Faults = faults_of s p t beside x.0 x.1 in
    let later : Places = places_from s p t beside (n + 1) xs in
    rw (
      or_later a.foreign_local n f.foreign_local later.foreign_local,
      or_later a.dead_reference n f.dead_reference later.dead_reference,
      or_later a.null_reference n f.null_reference later.null_reference,
      or_later a.wrong_type n f.wrong_type later.wrong_type,
      or_later a.bad_field n f.bad_field later.bad_field,
      or_later a.bad_buffer n f.bad_buffer later.bad_buffer,
      or_later a.bad_argument n f.bad_argument later.bad_argument,
    ) refl

-- no operand more
pub no_more : (s : StatedSetup) (p : Parts) (t : ℕ) (beside : Beside) (places all : Places) (n : ℕ) (xs : List (Takes × Argument)) → xs ≡ []
    → joined places (places_from s p t beside n xs) ≡ all → places ≡ all
no_more s p t beside places all n xs end so_far =
    let none : joined places (places_from s p t beside n []) ≡ places = rw (
      or_none places.foreign_local,
      or_none places.dead_reference,
      or_none places.null_reference,
      or_none places.wrong_type,
      or_none places.bad_field,
      or_none places.bad_buffer,
      or_none places.bad_argument,
    ) refl in
    sym none ∙ subst (λ x. joined places (places_from s p t beside n x) ≡ all) end so_far

-- ---- an operand breaks a rule exactly where there is a first one that does

none_breaks : (rule : Rule) → breaks rule no_faults ≡ false
none_breaks ForeignLocal = refl
none_breaks DeadReference = refl
none_breaks NullReference = refl
none_breaks WrongType = refl
none_breaks BadField = refl
none_breaks BadBuffer = refl
none_breaks BadArgument = refl
none_breaks rule = refl

either_breaks : (rule : Rule) (a b : Faults) → breaks rule (either a b) ≡ (breaks rule a || breaks rule b)
either_breaks ForeignLocal a b = refl
either_breaks DeadReference a b = refl
either_breaks NullReference a b = refl
either_breaks WrongType a b = refl
either_breaks BadField a b = refl
either_breaks BadBuffer a b = refl
either_breaks BadArgument a b = refl
either_breaks rule a b = refl

some_or : (b c : Bool) (n : ℕ) (later : Option ℕ) → is_some later ≡ c → is_some (if b then Some n else later) ≡ (b || c)
some_or true c n later same = refl
some_or false c n later same = same

pub there_is_first : (s : StatedSetup) (p : Parts) (t : ℕ) (beside : Beside) (rule : Rule) (n : ℕ) (xs : List (Takes × Argument))
    → is_some (first_that s p t beside rule n xs) ≡ breaks rule (faults_in s p t beside xs)
there_is_first s p t beside rule n [] = sym (none_breaks rule)
there_is_first s p t beside rule n (x ∷ xs) =
    some_or (breaks rule (faults_of s p t beside x.0 x.1)) (breaks rule (faults_in s p t beside xs)) n (first_that s p t beside rule (n + 1) xs)
    (there_is_first s p t beside rule (n + 1) xs) ∙ sym (either_breaks rule (faults_of s p t beside x.0 x.1) (faults_in s p t beside xs))
