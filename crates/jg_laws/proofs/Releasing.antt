-- A buffer that may be released is of the object that the operand names.
use Rattle.std.proofs.Common.{ℕ, ◌≡◌, Bool, true, false, Option, Some, None, refl, subst, eqb-true}
use Rattle.std.specs.Prelude.{◌==◌, ◌&&◌, ◌||◌, not}
use Rattle.std.specs.Option.{option_map}
use Rattle.std.proofs.lemmas.Bool.{not-false}
use Rattle.jg_words.specs.declared.buffer.BufId.{BufId}
use Rattle.jg_words.specs.declared.reference.Ref.{Ref}
use Rattle.jg_table_buffers.specs.History.{Buffer, opened, info_of}
use Rattle.jg_table_buffers.specs.declared.family.Family.{Family}
use Rattle.jg_rules.specs.Parts.{Parts}
use Rattle.jg_rules.specs.Names.{names, object_named, the_object}
use Rattle.jg_rules.specs.Buffers.{is_open_and, family_number, is_of_family, is_of_object, is_anothers}
use Rattle.jg_rules.specs.Rules.{is_nothing, is_null, is_releasable}
use Rattle.jg_laws.proofs.HandsHere.{the_named}

-- the buffer is of this family and of this object
pub record Released (p : Parts) (b : BufId) (family : Family) (o : ℕ) : Type 0 where
  pub buffer : Buffer
  pub is_open : opened p.buffers b.maker.0 b.n ≡ Some buffer
  pub family_of : family_number buffer.family ≡ family_number family
  pub object : buffer.object ≡ o

both : (a c d : Bool) → (a && (c && d)) ≡ true → (a ≡ true) × (c ≡ true)
both true true d is = (refl, refl)
both true false d is = absurd cc
both false c d is = absurd cc

released_if : (p : Parts) (t : ℕ) (family : Family) (b : BufId) (o : ℕ) (named : Option ℕ) (found : Option Buffer) → opened p.buffers b.maker.0 b.n ≡ found
    → named ≡ Some o
    → is_open_and (λ x. is_of_family family x && (is_of_object named x && not (is_anothers t x))) (option_map info_of found) ≡ true → Released p b family o
released_if p t family b o named None is names_it may = absurd cc
released_if p t family b o named (Some x) is names_it may =
    let two = both (is_of_family family (info_of x)) (is_of_object named (info_of x)) (not (is_anothers t (info_of x))) may in
    let own : (x.object == o) ≡ true = subst (λ (found : Option ℕ). is_of_object found (info_of x) ≡ true) names_it two.1 in
    record {
      buffer = x;
      is_open = is;
      family_of = eqb-true (family_number x.family) (family_number family) two.0;
      object = eqb-true x.object o own;
    }

pub released : (p : Parts) (t : ℕ) (family : Family) (r : Ref) (b : BufId) → (is_nothing (names p t r) || false) ≡ false
    → ((true && is_null (names p t r)) || false) ≡ false
    → not (is_releasable p t family r b) ≡ false → Released p b family (the_object p t r)
released p t family r b alive there may =
    released_if p t family b (the_object p t r) (object_named p t r) (opened p.buffers b.maker.0 b.n) refl (the_named (names p t r) false false alive there)
    (not-false (is_releasable p t family r b) may)
