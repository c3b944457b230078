-- What the rules on operands see of a question, where what its references name stays.
use Rattle.std.proofs.Common.{ℕ, ◌≡◌, Bool, true, false, List, [], ◌∷◌, None, refl}
use Rattle.std.specs.Prelude.{◌&&◌, ◌||◌, not, if◌then◌else◌}
use Rattle.std.specs.List.{list_any, AllByRecursion}
use Rattle.jg_words.specs.declared.reference.Ref.{Ref}
use Rattle.jg_words.specs.declared.reference.Ref.TheVariants.{Null}
use Rattle.jg_policy.specs.Stated.{StatedSetup}
use Rattle.jg_rules.specs.declared.named.Named.{Named}
use Rattle.jg_rules.specs.declared.named.Named.TheVariants.{Nothing, Null as NamesNull, Object}
use Rattle.jg_rules.specs.Parts.{Parts}
use Rattle.jg_rules.specs.Names.{names, class_of}
use Rattle.jg_rules.specs.Rules.{is_nothing, is_null}
use Rattle.jg_rows.specs.declared.row.ObjectKind.{ObjectKind}
use Rattle.jg_rows.specs.declared.row.Takes.{Takes}
use Rattle.jg_rows.specs.declared.row.Takes.TheVariants.{Reference as TakesReference, Nullable, Arguments, Item, Value}
use Rattle.jg_judge.specs.declared.argument.Argument.{Argument}
use Rattle.jg_judge.specs.declared.argument.Argument.TheVariants.{Reference, Buffer, Number, Value as ValueOf, Class, List as ListOf}
use Rattle.jg_judge.specs.declared.argument.Bounds.{Bounds}
use Rattle.jg_judge.specs.Asked.{Judged, paired, judged, judged_of, is_last, first_buffer}
use Rattle.jg_judge.specs.Broken.{is_wrong_kind, is_wrong_buffer, is_out_of_bounds}
use Rattle.jg_core_laws.specs.Laws.{is_buffer, references}
use Rattle.jg_core_laws.proofs.Classes.{kind_same}

pub or_parts : (a b : Bool) → (a || b) ≡ false → (a ≡ false) × (b ≡ false)
or_parts true b is = absurd cc
or_parts false b is = (refl, is)

pub or_both : (a b : Bool) → a ≡ false → b ≡ false → (a || b) ≡ false
or_both a b first second = rw (first, second) refl

-- what a reference names is the same, and of the same class
pub record Same (s : StatedSetup) (p q : Parts) (t : ℕ) (r : Ref) : Type 0 where
  pub named : is_nothing (names p t r) ≡ false → names q t r ≡ names p t r
  pub class : (o : ℕ) → names p t r ≡ Object (record { 0 = o }) → class_of s q o ≡ class_of s p o

-- a claim on the references of a question is one on what the rules see of its operands
module _ (K : Ref → Type 0) (null : K Null) where
  abbrev OfOperand : Argument → Type 0
  OfOperand (Reference r) = K r
  OfOperand x = Unit {0}

  pub first_of : (x : Argument) (xs : List Argument) → AllByRecursion K (references (x ∷ xs)) → OfOperand x × AllByRecursion K (references xs)
  first_of (Reference r) xs all = (all.0, all.1)
  first_of x xs all = (tt, all)

  pub operand : (takes : Takes) (x : Argument) → OfOperand x → K (judged_of takes x).reference
  operand (TakesReference kind) (Reference r) here = here
  operand (TakesReference kind) x here = null
  operand Nullable (Reference r) here = here
  operand Nullable x here = null
  operand Arguments (Reference r) here = here
  operand Arguments x here = null
  operand takes x here = null

  pub each_judged : (takes : List Takes) (xs : List Argument) → AllByRecursion K (references xs) → AllByRecursion (λ j. K j.reference) (judged takes xs)
  each_judged takes [] all = tt
  each_judged [] (x ∷ xs) all = tt
  each_judged (take ∷ takes) (x ∷ xs) all =
      let both = first_of x xs all in
      (operand take x both.0, each_judged (if is_last take then take ∷ takes else takes) xs both.1)

module _ (s : StatedSetup) (p q : Parts) (t : ℕ) where
  abbrev Sames : List Judged → Type 0
  Sames js = AllByRecursion (λ j. Same s p q t j.reference) js

  pub dead_none : (js : List Judged) → Sames js → list_any (λ j. is_nothing (names p t j.reference)) js ≡ false
      → list_any (λ j. is_nothing (names q t j.reference)) js ≡ false
  dead_none [] same alive = refl
  dead_none (j ∷ js) same alive =
      let both = or_parts (is_nothing (names p t j.reference)) _ alive in
      or_both _ _ (rw (same.0.named both.0) both.0) (dead_none js same.1 both.1)

  -- a rule that fails of each operand fails of all, where it may be told by what the operand names
  module _ (old new : Judged → Bool)
      (each : (j : Judged) → Same s p q t j.reference → is_nothing (names p t j.reference) ≡ false → old j ≡ false → new j ≡ false) where
    pub none_more : (js : List Judged) → Sames js → list_any (λ j. is_nothing (names p t j.reference)) js ≡ false → list_any old js ≡ false
        → list_any new js ≡ false
    none_more [] same alive none = refl
    none_more (j ∷ js) same alive none =
        let living = or_parts (is_nothing (names p t j.reference)) _ alive in
        let both = or_parts (old j) _ none in
        or_both _ _ (each j same.0 living.0 both.0) (none_more js same.1 living.1 both.1)

  null_still : (j : Judged) → Same s p q t j.reference → is_nothing (names p t j.reference) ≡ false
      → (not j.nullable && is_null (names p t j.reference)) ≡ false → (not j.nullable && is_null (names q t j.reference)) ≡ false
  null_still j same alive none = rw (same.named alive) none

  kind_by : (kind : ObjectKind) (r : Ref) (named : Named) → names p t r ≡ named → ((o : ℕ) → names p t r ≡ Object (record { 0 = o }) → class_of s q o ≡ class_of s p o)
      → is_wrong_kind s p kind named ≡ false → is_wrong_kind s q kind named ≡ false
  kind_by kind r Nothing is class none = refl
  kind_by kind r NamesNull is class none = refl
  kind_by kind r (Object o) is class none = rw (kind_same s p q kind o.0 (class o.0 is)) none

  kind_still : (j : Judged) → Same s p q t j.reference → is_nothing (names p t j.reference) ≡ false
      → is_wrong_kind s p j.kind (names p t j.reference) ≡ false → is_wrong_kind s q j.kind (names q t j.reference) ≡ false
  kind_still j same alive none = rw (same.named alive) (kind_by j.kind j.reference (names p t j.reference) refl same.class none)

  pub null_none : (js : List Judged) → Sames js → list_any (λ j. is_nothing (names p t j.reference)) js ≡ false
      → list_any (λ j. not j.nullable && is_null (names p t j.reference)) js ≡ false → list_any (λ j. not j.nullable && is_null (names q t j.reference)) js ≡ false
  null_none js same alive none =
      none_more (λ j. not j.nullable && is_null (names p t j.reference)) (λ j. not j.nullable && is_null (names q t j.reference)) null_still js same alive none

  pub kind_none : (js : List Judged) → Sames js → list_any (λ j. is_nothing (names p t j.reference)) js ≡ false
      → list_any (λ j. is_wrong_kind s p j.kind (names p t j.reference)) js ≡ false → list_any (λ j. is_wrong_kind s q j.kind (names q t j.reference)) js ≡ false
  kind_none js same alive none =
      none_more (λ j. is_wrong_kind s p j.kind (names p t j.reference)) (λ j. is_wrong_kind s q j.kind (names q t j.reference)) kind_still js same alive none

-- ---- with no buffer among the operands

pub no_buffer : (xs : List Argument) → list_any is_buffer xs ≡ false → first_buffer xs ≡ None
no_buffer [] none = refl
no_buffer (Buffer b ∷ xs) none = absurd cc
no_buffer (x ∷ xs) none = no_buffer xs none

pub buffer_right : (p : Parts) (t : ℕ) (r : Ref) (takes : Takes) (x : Argument) → is_buffer x ≡ false → is_wrong_buffer p t r takes x ≡ false
buffer_right p t r takes (Buffer b) none = absurd cc
buffer_right p t r takes x none = refl

pub buffers_right : (p : Parts) (t : ℕ) (r : Ref) (takes : List Takes) (xs : List Argument) → list_any is_buffer xs ≡ false
    → list_any (λ x. is_wrong_buffer p t r x.0 x.1) (paired takes xs) ≡ false
buffers_right p t r takes [] none = refl
buffers_right p t r [] (x ∷ xs) none = refl
buffers_right p t r (take ∷ takes) (x ∷ xs) none =
    let both = or_parts (is_buffer x) (list_any is_buffer xs) none in
    or_both _ _ (buffer_right p t r take x both.0) (buffers_right p t r (if is_last take then take ∷ takes else takes) xs both.1)

pub bounds_same : (bounds : Bounds) (s : StatedSetup) (p q : Parts) (takes : Takes) (x : Argument)
    → is_out_of_bounds bounds s q None takes x ≡ is_out_of_bounds bounds s p None takes x
bounds_same bounds s p q Item (ValueOf v) = refl
bounds_same bounds s p q (Value item) (ValueOf v) = refl
bounds_same bounds s p q takes (ValueOf v) = refl
bounds_same bounds s p q takes (Number n) = refl
bounds_same bounds s p q takes (ListOf count fits) = refl
bounds_same bounds s p q takes (Class class) = refl
bounds_same bounds s p q takes x = refl

pub all_bounds_same : (bounds : Bounds) (s : StatedSetup) (p q : Parts) (pairs : List (Takes × Argument))
    → list_any (λ x. is_out_of_bounds bounds s q None x.0 x.1) pairs ≡ list_any (λ x. is_out_of_bounds bounds s p None x.0 x.1) pairs
all_bounds_same bounds s p q [] = refl
all_bounds_same bounds s p q (x ∷ pairs) = rw (bounds_same bounds s p q x.0 x.1, all_bounds_same bounds s p q pairs) refl
