-- What one pass over the operands has found.
use Rattle.std.proofs.Common.{◌≡◌, ◌∙◌, ◌+◌, ℕ, true, false, List, [], ◌∷◌, Option, Some, None, arith, length, refl, ap, subst, sym}
use Rattle.std.specs.Prelude.{if◌then◌else◌}
use Rattle.std.specs.Option.{option_or, unwrap_or}
use Rattle.jg_words.specs.declared.rule.Rule.{Rule}
use Rattle.jg_policy.specs.Stated.{StatedSetup}
use Rattle.jg_rules.specs.declared.named.Named.{Named}
use Rattle.jg_rules.specs.declared.named.Named.TheVariants.{Null}
use Rattle.jg_rules.specs.Parts.{Parts}
use Rattle.jg_rules.specs.Names.{names}
use Rattle.jg_rows.specs.declared.row.Takes.{Takes}
use Rattle.jg_judge.specs.declared.argument.Argument.{Argument}
use Rattle.jg_judge.specs.declared.argument.Argument.TheVariants.{Reference, Buffer, Number, Value, Id, Class, Native, Name, List as ListOf}
use Rattle.jg_judge.specs.declared.argument.Bounds.{Bounds}
use Rattle.jg_judge.specs.declared.judge.Broken.{Broken}
use Rattle.jg_judge.specs.Asked.{is_last, paired, first_reference}
use Rattle.jg_judge.specs.Faults.{Beside, Faults, Places, faults_of, first_of, of_operands, places_from, with_one, with_rule}
use Rattle.jg_judge.specs.Question.{AreFound, beside_of, named_in, first_named}
use Rattle.jg_judge.proofs.Found.{joined, no_more, one_joined}
use Rattle.jg_judge.proofs.Kept.{one_kept}

-- the operands before the rest, what the first reference among them names, and what they break
pub record AreSoFar (s : StatedSetup) (p : Parts) (t : ℕ) (beside : Beside) (takes : List Takes) (xs : List Argument) (first : Option Named)
    (broken : Option Broken) (n : ℕ)
    (wanted : List Takes) (rest : List Argument) : Type 0 where
  pub places : Places
  pub broken_is : broken ≡ of_operands places false
  pub placed : joined places (places_from s p t beside n (paired wanted rest)) ≡ places_from s p t beside 0 (paired takes xs)
  pub named : option_or first (first_named p t rest) ≡ first_named p t xs

abbrev no_places : Places
no_places = record {
  foreign_local = None;
  dead_reference = None;
  null_reference = None;
  wrong_type = None;
  bad_field = None;
  bad_buffer = None;
  bad_argument =
      None;
}

pub at_first : (s : StatedSetup) (p : Parts) (t : ℕ) (beside : Beside) (takes : List Takes) (xs : List Argument)
    → AreSoFar s p t beside takes xs None None 0 takes xs
at_first s p t beside takes xs = record { places = no_places; broken_is = refl; placed = refl; named = refl }

or_or : (a b c : Option Named) → option_or (option_or a b) c ≡ option_or a (option_or b c)
or_or None b c = refl
or_or (Some x) b c = refl

or_none : (a : Option Named) → option_or a None ≡ a
or_none None = refl
or_none (Some x) = refl

one_seen : (s : StatedSetup) (p : Parts) (t : ℕ) (beside : Beside) (all : List Takes) (xs : List Argument) (first : Option Named) (broken : Option Broken)
    (n : ℕ)
    (takes : Takes) (x : Argument) (more : List Takes) (later : List Argument) → AreSoFar s p t beside all xs first broken n (takes ∷ more) (x ∷ later)
    → AreSoFar s p t beside all xs (option_or first (named_in p t x)) (with_rule broken (first_of (faults_of s p t beside takes x)) n) (n + 1)
    (if is_last takes then takes ∷ more else more) later
one_seen s p t beside all xs first broken n takes x more later so_far =
    let f : Faults = faults_of s p t beside takes x in record {
      places = with_one so_far.places n f;
      broken_is = ap (λ b. with_rule b (first_of f) n) so_far.broken_is ∙ one_kept so_far.places f n;
      placed = one_joined s p t beside so_far.places n (takes, x) (paired (if is_last takes then takes ∷ more else more) later) ∙ so_far.placed;
      named = or_or first (named_in p t x) (first_named p t later) ∙ so_far.named;
    }

step : (s : StatedSetup) (p : Parts) (t : ℕ) (beside : Beside) (all : List Takes) (xs : List Argument) (first next seen : Option Named)
    (broken later_broken : Option Broken) (rule : Option Rule) (n : ℕ)
    (takes : Takes) (x : Argument) (wanted more : List Takes) (rest later : List Argument)
    → wanted ≡ takes ∷ more → rest ≡ x ∷ later → seen ≡ named_in p t x → rule ≡ first_of (faults_of s p t beside takes x) → next ≡ option_or first seen
    → later_broken ≡ with_rule broken rule n
    → AreSoFar s p t beside all xs first broken n wanted rest
    → AreSoFar s p t beside all xs next later_broken (n + 1) (if is_last takes then takes ∷ more else more) later
step s p t beside all xs first next seen broken later_broken rule n takes x wanted more rest later wanted_is rest_is seen_is rule_is next_is broken_is so_far =
    subst (λ b. AreSoFar s p t beside all xs next b (n + 1) (if is_last takes then takes ∷ more else more) later)
    (sym (broken_is ∙ ap (λ r. with_rule broken r n) rule_is))
    (subst (λ f. AreSoFar s p t beside all xs f (with_rule broken (first_of (faults_of s p t beside takes x)) n) (n + 1)
    (if is_last takes then takes ∷ more else more) later)
    (sym (next_is ∙ ap (option_or first) seen_is))
    (one_seen s p t beside all xs first broken n takes x more later
    (subst (λ w. AreSoFar s p t beside all xs first broken n w (x ∷ later)) wanted_is
    (subst (λ r. AreSoFar s p t beside all xs first broken n wanted r) rest_is so_far))))

pub one_more : (s : StatedSetup) (p : Parts) (t : ℕ) (beside : Beside) (all : List Takes) (xs : List Argument) (first next seen : Option Named)
    (broken later_broken : Option Broken) (rule : Option Rule)
    (n : ℕ) (takes : Takes) (x : Argument) (wanted more : List Takes) (rest later : List Argument)
    → wanted ≡ takes ∷ more → rest ≡ x ∷ later → seen ≡ named_in p t x → rule ≡ first_of (faults_of s p t beside takes x) → next ≡ option_or first seen
    → later_broken ≡ with_rule broken rule n
    → AreSoFar s p t beside all xs first broken n wanted rest → is_last takes ≡ false → AreSoFar s p t beside all xs next later_broken (n + 1) more later
one_more s p t beside all xs first next seen broken later_broken rule n takes x wanted more rest later wanted_is rest_is seen_is rule_is next_is broken_is
    so_far last =
    subst (λ b. AreSoFar s p t beside all xs next later_broken (n + 1) (if b then takes ∷ more else more) later) last
    (step s p t beside all xs first next seen broken later_broken rule n takes x wanted more rest later wanted_is rest_is seen_is rule_is next_is broken_is
    so_far)

pub one_more_argument : (s : StatedSetup) (p : Parts) (t : ℕ) (beside : Beside) (all : List Takes) (xs : List Argument) (first next seen : Option Named)
    (broken later_broken : Option Broken)
    (rule : Option Rule) (n : ℕ) (takes : Takes) (x : Argument) (wanted more : List Takes) (rest later : List Argument)
    → wanted ≡ takes ∷ more → rest ≡ x ∷ later → seen ≡ named_in p t x → rule ≡ first_of (faults_of s p t beside takes x) → next ≡ option_or first seen
    → later_broken ≡ with_rule broken rule n
    → AreSoFar s p t beside all xs first broken n wanted rest → is_last takes ≡ true → AreSoFar s p t beside all xs next later_broken (n + 1) wanted later
one_more_argument s p t beside all xs first next seen broken later_broken rule n takes x wanted more rest later wanted_is rest_is seen_is rule_is next_is
    broken_is so_far last =
    subst (λ w. AreSoFar s p t beside all xs next later_broken (n + 1) w later) (sym wanted_is)
    (subst (λ b. AreSoFar s p t beside all xs next later_broken (n + 1) (if b then takes ∷ more else more) later) last
    (step s p t beside all xs first next seen broken later_broken rule n takes x wanted more rest later wanted_is rest_is seen_is rule_is next_is broken_is
    so_far))

-- what the first reference names, null where there is none
first_names : (p : Parts) (t : ℕ) (xs : List Argument) → unwrap_or (first_named p t xs) Null ≡ names p t (first_reference xs)
first_names p t [] = refl
first_names p t (Reference r ∷ xs) = refl
first_names p t (Buffer b ∷ xs) = first_names p t xs
first_names p t (Number n ∷ xs) = first_names p t xs
first_names p t (Value v ∷ xs) = first_names p t xs
first_names p t (Id fits ∷ xs) = first_names p t xs
first_names p t (Class class ∷ xs) = first_names p t xs
first_names p t (Native native ∷ xs) = first_names p t xs
first_names p t (Name ∷ xs) = first_names p t xs
first_names p t (ListOf count fits ∷ xs) = first_names p t xs

none_left : (xs : List Argument) → length xs ≡ 0 → xs ≡ []
none_left [] is = refl
none_left (x ∷ xs) is = absurd (omega (arith, is))

pub all_seen : (bounds : Bounds) (s : StatedSetup) (p : Parts) (t : ℕ) (takes : List Takes) (xs : List Argument) (first : Option Named) (broken : Option Broken)
    (n : ℕ) (named : Named)
    (wanted : List Takes) (rest : List Argument)
    → AreSoFar s p t (beside_of bounds p xs) takes xs first broken n wanted rest → length rest ≡ 0 → named ≡ unwrap_or first Null
    → AreFound bounds s p t takes xs (record { named = named; broken = broken })
all_seen bounds s p t takes xs first broken n named wanted rest so_far is_end named_is =
    let done : AreSoFar s p t (beside_of bounds p xs) takes xs first broken n wanted [] =
    subst (λ r. AreSoFar s p t (beside_of bounds p xs) takes xs first broken n wanted r) (none_left rest is_end) so_far in
    record {
      named = named_is ∙ (ap (λ x. unwrap_or x Null) (sym (or_none first) ∙ done.named) ∙ first_names p t xs);
      broken = done.broken_is ∙ ap (λ places. of_operands places false)
          (no_more s p t (beside_of bounds p xs) done.places (places_from s p t (beside_of bounds p xs) 0 (paired takes xs)) n
          (paired wanted []) refl done.placed);
    }
