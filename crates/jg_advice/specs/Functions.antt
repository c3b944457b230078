-- What the table says of a function, as far as advice looks at it.
use Rattle.std.specs.Prelude.{ℕ, Bool, true, false, ◌&&◌, not, List, [], ◌∷◌, Option, Some, None, slice_get}
use Rattle.jg_rows.specs.declared.row.Section.{Section}
use Rattle.jg_rows.specs.declared.row.Section.TheVariants.{Exceptions, Own}
use Rattle.jg_rows.specs.declared.row.Passes.{Passes}
use Rattle.jg_rows.specs.declared.row.Passes.TheVariants.{Usual, Pending, Critical, Both}
use Rattle.jg_rows.specs.declared.row.Throws.{Throws}
use Rattle.jg_rows.specs.declared.row.Throws.TheVariants.{Untold}
use Rattle.jg_rows.specs.declared.row.Effect.{Effect}
use Rattle.jg_rows.specs.declared.row.Effect.TheVariants.{GivesBack, Collects}
use Rattle.jg_rows.specs.declared.row.Takes.{Takes}
use Rattle.jg_rows.specs.declared.row.Takes.TheVariants.{Writable}
use Rattle.jg_rows.specs.Columns.{Columns}
use Rattle.jg_rows.specs.Table.{functions}

abbrev pub meets : (Columns → Bool) → Option Columns → Bool
meets test None = false
meets test (Some row) = test row

-- the function at this place of the table meets the test
abbrev pub is : (Columns → Bool) → ℕ → Bool
is test f = meets test (slice_get functions f)

abbrev pub is_own_section : Section → Bool
is_own_section Own = true
is_own_section section = false

-- it is one of the JNI, and none of this guard's own
abbrev pub is_jni : Columns → Bool
is_jni row = not (is_own_section row.section)

abbrev pub is_exceptions : Section → Bool
is_exceptions Exceptions = true
is_exceptions section = false

abbrev pub may_be_pending : Passes → Bool
may_be_pending Usual = false
may_be_pending Pending = true
may_be_pending Critical = false
may_be_pending Both = true

-- it asks for a pending exception or clears it, or ends the program: ExceptionCheck, ExceptionOccurred,
-- ExceptionDescribe, ExceptionClear and FatalError (JNI Specification, chapter 4, "Exceptions")
abbrev pub asks : Columns → Bool
asks row = is_exceptions row.section && may_be_pending row.passes

-- it may not be made with an exception pending (chapter 2, "Exceptions and Error Codes")
abbrev pub wants_none : Columns → Bool
wants_none row = is_jni row && not (may_be_pending row.passes)

abbrev pub is_untold : Throws → Bool
is_untold Untold = true
is_untold throws = false

-- some call of it may throw, and its answer doesn't tell
abbrev pub throws_untold : Columns → Bool
throws_untold row = is_jni row && is_untold row.throws

abbrev pub begins_writable : List Takes → Bool
begins_writable [] = false
begins_writable (Writable ∷ takes) = true
begins_writable (take ∷ takes) = false

-- it writes an item of the buffer that is its first operand
abbrev pub writes : Columns → Bool
writes row = begins_writable row.takes

abbrev pub is_back : Effect → Bool
is_back GivesBack = true
is_back effect = false

-- it gives the buffer back that is its second operand
abbrev pub gives_back : Columns → Bool
gives_back row = is_back row.effect

abbrev pub is_collection : Effect → Bool
is_collection Collects = true
is_collection effect = false

abbrev pub collects : Columns → Bool
collects row = is_collection row.effect

-- FindClass, by its place in the table
abbrev pub find_class : ℕ
find_class = 2
