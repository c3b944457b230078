-- What reads the same gives a call the same operands.
use Rattle.std.proofs.Common.{◌≡◌, ◌∙◌, ℕ, Bool, [], ◌∷◌, Option, Some, None, refl, ap}
use Rattle.std.specs.Prelude.{◌==◌, ◌&&◌, not}
use Rattle.jg_words.specs.declared.object.FieldId.{FieldId}
use Rattle.jg_words.specs.declared.object.Primitive.{Primitive}
use Rattle.jg_words.specs.declared.reference.Ref.{Ref}
use Rattle.jg_words.specs.declared.call.Call.{Call}
use Rattle.jg_words.specs.declared.call.Call.TheVariants.{Vm, Objects}
use Rattle.jg_words.specs.declared.call.vm.VmCall.{VmCall}
use Rattle.jg_words.specs.declared.call.vm.VmCall.TheVariants.{RegisterNatives}
use Rattle.jg_words.specs.declared.call.objects.ObjectsCall.{ObjectsCall}
use Rattle.jg_words.specs.declared.call.objects.ObjectsCall.TheVariants.{GetField, GetObjectField, SetField, SetObjectField}
use Rattle.jg_policy.specs.Stated.{StatedSetup}
use Rattle.jg_policy.specs.Classes.{field_type}
use Rattle.jg_rules.specs.declared.named.Named.{Named}
use Rattle.jg_rules.specs.declared.named.Named.TheVariants.{Nothing, Null as NamesNull, Object}
use Rattle.jg_rules.specs.Parts.{Parts}
use Rattle.jg_rules.specs.Names.{names}
use Rattle.jg_rules.specs.Rules.{field_of_another, is_of_class, is_stated_as}
use Rattle.jg_judge.specs.declared.argument.Argument.TheVariants.{Reference, Id, Value}
use Rattle.jg_judge.specs.Written.{arguments_of, objects_arguments, vm_arguments}
use Rattle.jg_entry_facts_laws.specs.Alike.{ReadAlike}
use Rattle.jg_entry_facts_laws.proofs.Judged.{names_same, object_same}

module _ (s : StatedSetup) (p q : Parts) (same : ReadAlike s p q) where
  class_same : (class : ℕ) (named : Named) → is_of_class s p class named ≡ is_of_class s q class named
  class_same class Nothing = refl
  class_same class NamesNull = refl
  class_same class (Object o) = ap (λ (c : ℕ). c == class) (same.classes o.0)

  field_same : (t : ℕ) (wanted : Option Primitive) (r : Ref) (f : FieldId) → field_of_another s p t wanted r f ≡ field_of_another s q t wanted r f
  field_same t wanted r f =
      ap (λ (b : Bool). not (is_stated_as wanted (field_type s f.class f.field) && b))
      (ap (is_of_class s p f.class) (names_same s p q same t r) ∙ class_same f.class (names q t r))

  objects : (t : ℕ) (call : ObjectsCall) → objects_arguments s p t call ≡ objects_arguments s q t call
  objects t (GetField primitive r f) = ap (λ (b : Bool). Reference r ∷ Id (not b) ∷ []) (field_same t (Some primitive) r f)
  objects t (GetObjectField r f) = ap (λ (b : Bool). Reference r ∷ Id (not b) ∷ []) (field_same t None r f)
  objects t (SetField primitive r f value) = ap (λ (b : Bool). Reference r ∷ Id (not b) ∷ Value value ∷ []) (field_same t (Some primitive) r f)
  objects t (SetObjectField r f value) = ap (λ (b : Bool). Reference r ∷ Id (not b) ∷ Reference value ∷ []) (field_same t None r f)
  objects t call = refl

  vm : (t : ℕ) (call : VmCall) → vm_arguments s p t call ≡ vm_arguments s q t call
  vm t (RegisterNatives class method signature) = rw (object_same s p q same t class) refl
  vm t call = refl

  pub same_arguments : (t : ℕ) (call : Call) → arguments_of s p t call ≡ arguments_of s q t call
  same_arguments t (Vm call) = vm t call
  same_arguments t (Objects call) = objects t call
  same_arguments t call = refl
