-- Buffers that native code was lent: which one a call means, whose it is, and what its items are.
use Rattle.std.specs.Prelude.{ℕ, ℤ, pos, ◌==◌, ◌&&◌, Bool, true, false, not, nat_lt, int_le, ◌∷◌, slice_index_or, Option, Some, None}
use Rattle.std.specs.Option.{option_map}
use Rattle.jg_words.specs.declared.buffer.BufId.{BufId}
use Rattle.jg_words.specs.declared.object.Primitive.{Primitive}
use Rattle.jg_policy.specs.Stated.{StatedSetup}
use Rattle.jg_words.specs.Classes.{array_class, element_of}
use Rattle.jg_words.specs.declared.object.ItemType.TheVariants.{Of, Float, Double}
use Rattle.jg_table_heap.specs.Reading.{natural}
use Rattle.jg_table_buffers.specs.History.{opened, content, info_of, is_critical}
use Rattle.jg_table_buffers.specs.declared.family.Family.{Family}
use Rattle.jg_table_buffers.specs.declared.family.Family.TheVariants.{Elements, Chars, UtfChars, ArrayCritical, StringCritical}
use Rattle.jg_table_buffers.specs.declared.info.Info.{Info}
use Rattle.jg_rules.specs.Parts.{Parts}
use Rattle.jg_rules.specs.Names.{class_of, units_of, slot_of, number_in}
use Rattle.jg_rules.specs.Numbers.{is_within, is_value_of}

-- the open buffer of that name
abbrev pub buffer_named : Parts → BufId → Option Info
buffer_named p b = option_map info_of (opened p.buffers b.maker.0 b.n)

-- it is open, and meets the test
abbrev pub is_open_and : (Info → Bool) → Option Info → Bool
is_open_and test None = false
is_open_and test (Some info) = test info

-- two families are one where their numbers are equal
abbrev pub family_number : Family → ℕ
family_number Chars = 0
family_number UtfChars = 1
family_number ArrayCritical = 2
family_number StringCritical = 3
family_number (Elements (Of element)) = array_class element
family_number (Elements Float) = 10
family_number (Elements Double) = 11

abbrev pub is_of_family : Family → Info → Bool
is_of_family family info = family_number info.family == family_number family

-- it is of that object; a reference that names no object doesn't break the rule on buffers
abbrev pub is_of_object : Option ℕ → Info → Bool
is_of_object None info = true
is_of_object (Some o) info = info.object.0 == o

-- a critical buffer belongs to the thread that it was lent to
abbrev pub is_anothers : ℕ → Info → Bool
is_anothers t info = is_critical info.family && not (info.maker.0 == t)

-- its items are those of an array, and may be written; a string's may not (JNI Specification, chapter 4, "String
-- Operations")
abbrev pub is_of_array : Family → Bool
is_of_array (Elements item) = true
is_of_array Chars = false
is_of_array UtfChars = false
is_of_array ArrayCritical = true
is_of_array StringCritical = false

-- 0, JNI_COMMIT or JNI_ABORT (JNI Specification, chapter 4, "Array Operations")
abbrev pub is_mode : ℤ → Bool
is_mode mode = is_within (pos 0) (pos 2) mode

abbrev pub is_commit : ℤ → Bool
is_commit mode = natural mode == 1

-- mode 0 and JNI_COMMIT write the items of a copy back
abbrev pub writes_back : ℤ → Bool
writes_back mode = is_within (pos 0) (pos 1) mode

-- the place of one of so many items, counted from 0
abbrev pub is_place : ℤ → ℕ → Bool
is_place index n = int_le (pos 0) index && nat_lt (natural index) n

-- the type of a buffer's items, where they may be written
abbrev pub item_type : StatedSetup → Parts → Info → Family → Option Primitive
item_type s p info (Elements (Of element)) = Some element
item_type s p info (Elements Float) = None
item_type s p info (Elements Double) = None
item_type s p info Chars = None
item_type s p info UtfChars = None
item_type s p info ArrayCritical = element_of (class_of s p info.object.0)
item_type s p info StringCritical = None

abbrev pub is_value_of_type : Option Primitive → ℤ → Bool
is_value_of_type None v = true
is_value_of_type (Some element) v = is_value_of element v

-- an item of an open buffer: of a copy its own, of a pinned one what the object has there now
abbrev pub item_of : StatedSetup → Parts → BufId → Info → ℕ → Family → ℤ
item_of s p b info index (Elements item) = content p.buffers b.maker.0 b.n index
item_of s p b info index Chars = content p.buffers b.maker.0 b.n index
item_of s p b info index UtfChars = content p.buffers b.maker.0 b.n index
item_of s p b info index ArrayCritical = number_in (slot_of s p info.object.0 index)
item_of s p b info index StringCritical = pos (slice_index_or (units_of s p info.object.0) index 0)

abbrev pub item_read : StatedSetup → Parts → BufId → ℕ → Option Info → ℤ
item_read s p b index None = pos 0
item_read s p b index (Some info) = item_of s p b info index info.family
