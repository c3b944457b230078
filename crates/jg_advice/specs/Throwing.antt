-- Which calls may have thrown. A function that reads or writes a part of a string or an array throws where the part
-- isn't within it, and SetObjectArrayElement of an object also where this isn't of the array's element class (JNI
-- Specification, chapter 4, "String Operations" and "Array Operations").
use Rattle.std.specs.Prelude.{ℕ, ℤ, pos, ◌+◌, ◌&&◌, Bool, false, not, if◌then◌else◌, int_lt, nat_le, List, [], ◌∷◌, Option, Some, None, option_and_then}
use Rattle.jg_words.specs.declared.reference.Ref.{Ref}
use Rattle.jg_words.specs.declared.reference.Ref.TheVariants.{Null}
use Rattle.jg_policy.specs.Stated.{StatedSetup, class_count}
use Rattle.jg_table_heap.specs.History.{Event, is_there, making_at}
use Rattle.jg_table_heap.specs.Making.{length_in}
use Rattle.jg_table_heap.specs.Reading.{natural}
use Rattle.jg_rows.specs.Columns.{Columns}
use Rattle.jg_rules.specs.Names.{object_named}
use Rattle.jg_rules.specs.Parts.{Parts}
use Rattle.jg_judge.specs.declared.argument.Argument.{Argument}
use Rattle.jg_judge.specs.declared.argument.Argument.TheVariants.{Reference, Number, List as ListOf}
use Rattle.jg_advice.specs.declared.parts.Part.{Part}
use Rattle.jg_advice.specs.Functions.{meets, throws_untold}

-- ---- the part that a call reads or writes, where the operands behind its reference say one

-- as many as the number says, where it isn't negative
abbrev pub so_many : ℤ → Option ℕ
so_many n = if int_lt n (pos 0) then None else Some (natural n)

-- how many items it has by the operand behind its start: so many are read, these are written, or null is, into one
abbrev pub count_by : Argument → Option ℕ
count_by (Number n) = so_many n
count_by (ListOf n fits) = Some n
count_by (Reference Null) = Some 1
count_by x = None

abbrev pub part_by : Ref → Option ℕ → Option ℕ → Option Part
part_by r None n = None
part_by r (Some start) None = None
part_by r (Some start) (Some n) = Some (record { whole = r; start = start; count = n })

-- one item is read, or as many as the operand behind its start says are read or written
abbrev pub part_of : List Argument → Option Part
part_of (Reference r ∷ Number start ∷ []) = part_by r (so_many start) (Some 1)
part_of (Reference r ∷ Number start ∷ x ∷ []) = part_by r (so_many start) (count_by x)
part_of xs = None

-- ---- what is known of its length

-- how many characters a string has, items an array, where it is there
abbrev pub length_here : ℕ → List Event → ℕ → Option ℕ
length_here k e o = if is_there k e o then Some (length_in (making_at k e o)) else None

-- so many has what the reference names for t
abbrev pub length_named : StatedSetup → Parts → ℕ → Ref → Option ℕ
length_named s p t r = option_and_then (length_here (class_count s) p.heap) (object_named p t r)

abbrev pub is_up_to : ℕ → Option ℕ → Bool
is_up_to n None = false
is_up_to n (Some length) = nat_le n length

-- the part lies within what is known of it
abbrev pub is_within : StatedSetup → Parts → ℕ → Option Part → Bool
is_within s p t None = false
is_within s p t (Some part) = is_up_to (part.start + part.count) (length_named s p t part.whole)

-- ---- in all

-- the call of t may have thrown, and its answer doesn't tell
abbrev pub may_throw : StatedSetup → Parts → ℕ → Option Columns → List Argument → Bool
may_throw s p t row xs = meets throws_untold row && not (is_within s p t (part_of xs))
