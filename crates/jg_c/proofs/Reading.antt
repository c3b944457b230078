-- Operands read one after another.
use Rattle.std.proofs.Common.{◌≡◌, ◌∷◌, ◌++◌, ◌∙◌, List, [], Option, Some, None, append_assoc, refl, ap, sym}
use Rattle.std.specs.Option.{option_map, option_and_then}
use Rattle.std.proofs.lemmas.List.{append-nil}
use Rattle.jg_c.specs.declared.value.JgValue.{JgValue}
use Rattle.jg_c.specs.Questions.{operands_of}

-- what is left gives the rest of all
abbrev pub Leaves : {A : Type 0} → (JgValue → Option A) → List JgValue → List A → List JgValue → Type 0
Leaves reading all read left = operands_of reading all ≡ option_map (λ xs. read ++ xs) (operands_of reading left)

whole : {A : Type 0} (o : Option (List A)) → o ≡ option_map (λ xs. [] ++ xs) o
whole None = refl
whole (Some xs) = refl

pub all_left : {A : Type 0} (reading : JgValue → Option A) (all : List JgValue) → Leaves reading all [] all
all_left reading all = whole (operands_of reading all)

behind : {A : Type 0} (read : List A) (x : A) (o : Option (List A))
    → option_map (λ xs. read ++ xs) (option_map (λ xs. x ∷ xs) o) ≡ option_map (λ xs. (read ++ x ∷ []) ++ xs) o
behind read x None = refl
behind read x (Some xs) = ap Some (sym (append_assoc read (x ∷ []) xs))

-- one value more is read
pub one_more : {A : Type 0} (reading : JgValue → Option A) (all : List JgValue) (read : List A) (v : JgValue) (left : List JgValue) (x : A)
    → reading v ≡ Some x → Leaves reading all read (v ∷ left) → Leaves reading all (read ++ x ∷ []) left
one_more {A = A} reading all read v left x is old =
    old ∙ ap (λ (o : Option A). option_map (λ xs. read ++ xs) (option_and_then (λ y. option_map (λ xs. y ∷ xs) (operands_of reading left)) o)) is
    ∙ behind read x (operands_of reading left)

-- one is no operand
pub none_read : {A : Type 0} (reading : JgValue → Option A) (all : List JgValue) (read : List A) (v : JgValue) (left : List JgValue)
    → reading v ≡ None → Leaves reading all read (v ∷ left) → operands_of reading all ≡ None
none_read {A = A} reading all read v left is old =
    old ∙ ap (λ (o : Option A). option_map (λ xs. read ++ xs) (option_and_then (λ y. option_map (λ xs. y ∷ xs) (operands_of reading left)) o)) is

-- none is left
pub all_read : {A : Type 0} (reading : JgValue → Option A) (all : List JgValue) (read : List A) → Leaves reading all read []
    → operands_of reading all ≡ Some read
all_read reading all read old = old ∙ ap Some (append-nil read)
