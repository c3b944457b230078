-- The references among a call's operands that rules speak of, as the row of its function takes them.
use Rattle.std.specs.Prelude.{List, [], ◌∷◌, Option, Some, None, true, false}
use Rattle.jg_words.specs.declared.object.ItemType.TheVariants.{Of, Float, Double}
use Rattle.jg_rows.specs.declared.row.ObjectKind.{ObjectKind}
use Rattle.jg_rows.specs.declared.row.ObjectKind.TheVariants as kind
use Rattle.jg_rows.specs.declared.row.Takes.{Takes}
use Rattle.jg_rows.specs.declared.row.Takes.TheVariants.{Reference as TakesReference, Nullable}
use Rattle.jg_rules.specs.declared.operand.ObjectType.{ObjectType}
use Rattle.jg_rules.specs.declared.operand.ObjectType.TheVariants.{AnyObject, ClassObject, PlainClass, ThrowableObject, StringObject, AnyArray, PrimitiveArray, ArrayOf, ObjectArray}
use Rattle.jg_rules.specs.declared.operand.Operand.{Operand}
use Rattle.jg_rules.specs.Operands.{required, optional}
use Rattle.jg_judge.specs.declared.argument.Argument.{Argument}
use Rattle.jg_judge.specs.declared.argument.Argument.TheVariants.{Reference}

-- the type of the kind's objects; no call of the written machine takes the last three
abbrev pub type_of : ObjectKind → ObjectType
type_of kind.AnyObject = AnyObject
type_of kind.ClassObject = ClassObject
type_of kind.PlainClass = PlainClass
type_of kind.ThrowableObject = ThrowableObject
type_of kind.StringObject = StringObject
type_of kind.AnyArray = AnyArray
type_of kind.PrimitiveArray = PrimitiveArray
type_of (kind.ArrayOf (Of element)) = ArrayOf element
type_of kind.ObjectArray = ObjectArray
type_of kind.InstanceClass = ClassObject
type_of (kind.ArrayOf Float) = PrimitiveArray
type_of (kind.ArrayOf Double) = PrimitiveArray

-- the reference that the operand is, where rules speak of it
abbrev pub operand_in : Takes → Argument → Option Operand
operand_in (TakesReference of) (Reference r) = Some (required r (type_of of))
operand_in Nullable (Reference r) = Some (optional r)
operand_in takes x = None

abbrev pub also : Option Operand → List Operand → List Operand
also None operands = operands
also (Some operand) operands = operand ∷ operands

abbrev pub referred : List Takes → List Argument → List Operand
referred takes [] = []
referred [] (x ∷ xs) = []
referred (take ∷ takes) (x ∷ xs) = also (operand_in take x) (referred takes xs)
