-- What the store has of the object that a field's function takes.
use Rattle.std.proofs.Common.{ℕ, ◌≡◌, ◌<◌, ◌≤◌, Bool, true, false, Option, arith}
use Rattle.std.specs.Prelude.{◌==◌, ◌&&◌, ◌||◌, not}
use Rattle.std.specs.List.{AllByRecursion}
use Rattle.std.specs.Option.{unwrap_or}
use Rattle.std.proofs.lemmas.Bool.{eqb-true}
use Rattle.jg_words.specs.declared.object.FieldId.{FieldId}
use Rattle.jg_words.specs.declared.object.Primitive.{Primitive}
use Rattle.jg_policy.specs.Stated.{StatedSetup}
use Rattle.jg_policy.specs.Classes.{field_type}
use Rattle.jg_table_heap.specs.Making.{HasFields}
use Rattle.jg_table_heap.specs.Rows.{count_in, class_at as class_in_row, length_at}
use Rattle.jg_rules.specs.declared.named.Named.{Named}
use Rattle.jg_rules.specs.declared.named.Named.TheVariants.{Nothing, Null as NamesNull, Object}
use Rattle.jg_rules.specs.Parts.{Parts, TableRows, TablesStand}
use Rattle.jg_rules.specs.Names.{object_in, class_of, slot_place}
use Rattle.jg_rules.specs.Rules.{is_nothing, is_null, is_stated_as, is_of_class}
use Rattle.jg_rules.proofs.Objects.{is_there}
use Rattle.jg_laws.specs.Laws.{MakesStated}
use Rattle.jg_laws.proofs.Makings.{length_stated}
use Rattle.jg_laws.proofs.StatedFields.{IsStatedField, stated_field, both_true}

-- the object is in the store and has a slot for the field
pub record HasSlot (rows : TableRows) (o : ℕ) (field : FieldId) : Type 0 where
  pub named : 1 ≤ field.field
  pub made : o < count_in rows.heap
  pub fields : HasFields (class_in_row rows.heap o)
  pub within : slot_place field < length_at rows.heap o

-- ---- the object of that class

slot_here : (s : StatedSetup) (rows : TableRows) (p : Parts) (o : ℕ) (field : FieldId) → TablesStand s rows p → AllByRecursion (MakesStated s) p.heap
    → IsStatedField s field.class field.field → class_of s p o ≡ field.class → HasSlot rows o field
slot_here s rows p o field stand stated is same =
    let there = is_there s rows p o field.class stand same (omega (arith, is.high)) in
    let wide = length_stated s p o field.class stated same (omega (arith, is.high)) in
    record {
      named = is.named;
      made = there.made;
      fields = λ more. omega (arith, there.class, is.high);
      within = omega (arith, there.len, wide, is.within);
    }

-- where the call breaks no rule
pub has_slot : (s : StatedSetup) (rows : TableRows) (p : Parts) (wanted : Option Primitive) (named : Named) (field : FieldId) (a b : Bool)
    → TablesStand s rows p
    → AllByRecursion (MakesStated s) p.heap → (is_nothing named || a) ≡ false → ((true && is_null named) || b) ≡ false
    → not (is_stated_as wanted (field_type s field.class field.field) && is_of_class s p field.class named) ≡ false
    → HasSlot rows (unwrap_or (object_in named) 0) field
has_slot s rows p wanted Nothing field a b stand stated alive there right = absurd cc
has_slot s rows p wanted NamesNull field a b stand stated alive there right = absurd cc
has_slot s rows p wanted (Object x) field a b stand stated alive there right =
    let both = both_true (is_stated_as wanted (field_type s field.class field.field)) (class_of s p x.0 == field.class) right in
    slot_here s rows p x.0 field stand stated (stated_field s field.class field.field wanted both.0) (eqb-true (class_of s p x.0) field.class both.1)
