-- The spelling of the names and types that a setup has.
use Rattle.std.specs.Prelude.{ℕ, Bool, ◌&&◌, ◌||◌, ◌==◌, nat_le, nat_lt, List, length, drop, slice_index, slice_range, codes, ◌-◌, count_by}
use Rattle.std.specs.List.{list_all, list_any, slice_split}
use Rattle.std.specs.Str.{bytes_eq}
use Rattle.jg_policy.specs.declared.names.Spelling.{Spelling}
use Rattle.jg_policy.specs.declared.names.Spelling.TheVariants.{ModuleName, ClassName, MemberName, FieldType, NativeType}

-- a letter, a digit, `_` or `$`
abbrev pub is_segment_byte : ℕ → Bool
is_segment_byte b =
    (nat_le 48 b && nat_le b 57) || ((nat_le 65 b && nat_le b 90)
    || ((nat_le 97 b && nat_le b 122) || (b == 95 || b == 36)))

-- one or more such bytes
abbrev pub is_segment : List ℕ → Bool
is_segment text = nat_lt 0 (length text) && list_all is_segment_byte text

abbrev has_name_length : List ℕ → Bool
has_name_length text = nat_le (length text) 255

-- segments with this byte between them
abbrev pub is_dotted : ℕ → List ℕ → Bool
is_dotted separator text = has_name_length text && list_all is_segment (slice_split (λ b. b == separator) text)

abbrev pub is_class_name : List ℕ → Bool
is_class_name = is_dotted 47

abbrev pub is_module_name : List ℕ → Bool
is_module_name text = bytes_eq text (codes "ALL-UNNAMED") || is_dotted 46 text

abbrev pub is_member_name : List ℕ → Bool
is_member_name text = has_name_length text && is_segment text

-- a letter for a number type, or `L`, a class name and `;`
abbrev pub is_field_type : List ℕ → Bool
is_field_type text =
    (length text == 1 && list_any (λ b. slice_index text 0 == b) (codes "ZBCSIJ"))
    || ((nat_lt 2 (length text) && (slice_index text 0 == 76 && slice_index text (length text - 1) == 59))
    && is_class_name (slice_range text 1 (length text - 1)))

abbrev pub is_type_byte : ℕ → Bool
is_type_byte b = is_segment_byte b || (b == 47 || (b == 59 || b == 91))

-- `(`, then `)`, with such bytes between them and after
abbrev pub is_native_type : List ℕ → Bool
is_native_type text =
    (has_name_length text && count_by (λ b. b == 41) text == 1)
    && (slice_index text 0 == 40 && list_all (λ b. is_type_byte b || b == 41) (drop 1 text))

-- whether a text is spelt as this kind of name or type is
abbrev pub accepts : Spelling → List ℕ → Bool
accepts ModuleName = is_module_name
accepts ClassName = is_class_name
accepts MemberName = is_member_name
accepts FieldType = is_field_type
accepts NativeType = is_native_type
