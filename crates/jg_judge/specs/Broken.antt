-- The rules, by the row of the function that is asked for: each as its own definition, and the first that is broken.
use Rattle.std.specs.Prelude.{ℕ, ℤ, pos, ◌==◌, ◌&&◌, ◌||◌, Bool, true, false, not, if◌then◌else◌, nat_lt, int_lt, List, slice_get, option_and_then, Option, Some, None}
use Rattle.std.specs.List.{list_any, find}
use Rattle.std.specs.Option.{is_some, is_none}
use Rattle.jg_words.specs.declared.thread.EnvId.{EnvId}
use Rattle.jg_words.specs.declared.reference.Kind.TheVariants.{Local, Global, Weak}
use Rattle.jg_words.specs.declared.reference.Ref.{Ref}
use Rattle.jg_words.specs.declared.buffer.BufId.{BufId}
use Rattle.jg_words.specs.declared.rule.Rule.{Rule}
use Rattle.jg_words.specs.declared.rule.Rule.TheVariants.{WrongThread, Detached, InCritical, Pending, ForeignLocal, DeadReference, WrongRefKind, NullReference, WrongType, BadField, BadBuffer, BadArgument, Pinned, NotOwner, BadFrame, NoNativeAccess, NotLinked}
use Rattle.jg_words.specs.declared.object.ItemType.{ItemType}
use Rattle.jg_words.specs.declared.object.ItemType.TheVariants.{Of, Float, Double}
use Rattle.jg_table_buffers.specs.declared.info.Info.{Info}
use Rattle.jg_table_buffers.specs.History as buffers
use Rattle.jg_policy.specs.Stated.{StatedSetup, class_count}
use Rattle.jg_policy.specs.declared.access.Operation.TheVariants.{Load, Register, Link}
use Rattle.jg_rules.specs.declared.named.Named.{Named}
use Rattle.jg_rules.specs.declared.named.Named.TheVariants.{Nothing, Null as NamesNull, Object}
use Rattle.jg_rules.specs.Parts.{Parts}
use Rattle.jg_rules.specs.Numbers.{is_within, is_value_of}
use Rattle.jg_rules.specs.Names.{names, session, depth, open_frames, pending, class_meant, object_named}
use Rattle.jg_rules.specs.Buffers.{buffer_named, is_mode, item_type, is_value_of_type}
use Rattle.jg_rules.specs.NativeUse.{refuses}
use Rattle.jg_rules.specs.Rules.{of_another, wrong_caller, is_session, is_foreign, is_nothing, is_null, is_not, is_releasable, is_readable, is_writable, is_outside_of, is_not_owned, is_linked, rules_in_order}
use Rattle.jg_rows.specs.declared.row.ObjectKind.{ObjectKind}
use Rattle.jg_rows.specs.declared.row.Takes.{Takes}
use Rattle.jg_rows.specs.declared.row.Takes.TheVariants.{Buffer as TakesBuffer, Readable, Writable, Capacity, Length, Count, Mode, Place, Item, Value}
use Rattle.jg_rows.specs.declared.row.Passes.{Passes}
use Rattle.jg_rows.specs.declared.row.Passes.TheVariants.{Usual, Pending as PassesPending, Critical, Both}
use Rattle.jg_rows.specs.declared.row.Effect.{Effect}
use Rattle.jg_rows.specs.declared.row.Effect.TheVariants.{Ends, Pops, Frees, Detaches, Enters, Leaves, Loads, Links, Collects}
use Rattle.jg_rows.specs.Columns.{Columns}
use Rattle.jg_judge.specs.declared.argument.Argument.{Argument}
use Rattle.jg_judge.specs.declared.argument.Argument.TheVariants.{Buffer, Number, Value as ValueOf, Id, Class, Native, List as ListOf}
use Rattle.jg_judge.specs.declared.argument.Bounds.{Bounds}
use Rattle.jg_judge.specs.Asked.{paired, judged, first_reference, first_buffer}
use Rattle.jg_judge.specs.Kinds.{is_kind}

-- the virtual machine itself collects
abbrev pub is_collection : Effect → Bool
is_collection Collects = true
is_collection effect = false

-- 1, as `wrong_thread` of jg_rules has it
abbrev pub wrong_thread : ℕ → Option EnvId → Columns → Bool
wrong_thread t env row = wrong_caller t (is_collection row.effect) || of_another t env

-- 2, as `detached`
abbrev pub detached : Parts → ℕ → Option EnvId → Columns → Bool
detached p t None row = row.takes_env
detached p t (Some env) row = not ((env.tid.0 == t) && is_session (session p t) env.session)

abbrev pub passes_critical : Passes → Bool
passes_critical Usual = false
passes_critical PassesPending = false
passes_critical Critical = true
passes_critical Both = true

-- 3, as `in_critical`
abbrev pub in_critical : Parts → ℕ → Columns → Bool
in_critical p t row = not (passes_critical row.passes) && buffers.in_critical p.buffers t

abbrev pub passes_pending : Passes → Bool
passes_pending Usual = false
passes_pending PassesPending = true
passes_pending Critical = false
passes_pending Both = true

-- 4, as `while_pending`
abbrev pub while_pending : Parts → ℕ → Columns → Bool
while_pending p t row = not (passes_pending row.passes) && is_some (pending p t)

-- 5, as `foreign_local`
abbrev pub foreign_local : ℕ → Columns → List Argument → Bool
foreign_local t row xs = list_any (λ x. is_foreign t x.reference) (judged row.takes xs)

-- 6, as `dead_reference`
abbrev pub dead_reference : Parts → ℕ → Columns → List Argument → Bool
dead_reference p t row xs = list_any (λ x. is_nothing (names p t x.reference)) (judged row.takes xs)

-- 7, as `wrong_kind`
abbrev pub wrong_kind : Effect → Ref → Bool
wrong_kind (Ends kind) r = is_not kind r
wrong_kind effect r = false

-- 8, as `null_reference`
abbrev pub null_reference : Parts → ℕ → Columns → List Argument → Bool
null_reference p t row xs = list_any (λ x. not x.nullable && is_null (names p t x.reference)) (judged row.takes xs)

-- the object is not of the kind; a reference that names no object doesn't break this rule
abbrev pub is_wrong_kind : StatedSetup → Parts → ObjectKind → Named → Bool
is_wrong_kind s p kind Nothing = false
is_wrong_kind s p kind NamesNull = false
is_wrong_kind s p kind (Object o) = not (is_kind s p kind o.0)

-- 9, as `wrong_type`
abbrev pub wrong_type : StatedSetup → Parts → ℕ → Columns → List Argument → Bool
wrong_type s p t row xs = list_any (λ x. is_wrong_kind s p x.kind (names p t x.reference)) (judged row.takes xs)

abbrev pub is_unfit : Argument → Bool
is_unfit (Id fits) = not fits
is_unfit x = false

-- 10: an ID that doesn't fit
abbrev pub bad_field : Columns → List Argument → Bool
bad_field row xs = list_any (λ x. is_unfit x.1) (paired row.takes xs)

-- a buffer that the function may not be given; the reference is the one that a release names
abbrev pub is_refused_buffer : Parts → ℕ → Ref → Takes → BufId → Bool
is_refused_buffer p t r (TakesBuffer family) b = not (is_releasable p t family r b)
is_refused_buffer p t r Readable b = not (is_readable p t b)
is_refused_buffer p t r Writable b = not (is_writable p t b)
is_refused_buffer p t r takes b = false

abbrev pub is_wrong_buffer : Parts → ℕ → Ref → Takes → Argument → Bool
is_wrong_buffer p t r takes (Buffer b) = is_refused_buffer p t r takes b
is_wrong_buffer p t r takes x = false

-- 11, as `bad_buffer`
abbrev pub bad_buffer : Parts → ℕ → Columns → List Argument → Bool
bad_buffer p t row xs = list_any (λ x. is_wrong_buffer p t (first_reference xs) x.0 x.1) (paired row.takes xs)

-- the open buffer that a name means, where there is one
abbrev pub buffer_meant : Parts → Option BufId → Option Info
buffer_meant p None = None
buffer_meant p (Some b) = buffer_named p b

-- an open buffer can't hold the number
abbrev pub is_wrong_item : StatedSetup → Parts → ℤ → Option Info → Bool
is_wrong_item s p v None = false
is_wrong_item s p v (Some info) = not (is_value_of_type (item_type s p info info.family) v)

-- a value of a field; a float and a double are any bits
abbrev pub is_item_value : ItemType → ℤ → Bool
is_item_value (Of primitive) v = is_value_of primitive v
is_item_value Float v = true
is_item_value Double v = true

-- a number that isn't what its function bounds it to
abbrev pub is_wrong_number : Bounds → Option Info → Takes → ℤ → Bool
is_wrong_number bounds info Capacity n = not (is_within (pos 0) bounds.capacity n)
is_wrong_number bounds info Length n = not (is_within (pos 0) bounds.length n)
is_wrong_number bounds info Count n = int_lt bounds.items n
is_wrong_number bounds info Mode n = not (is_mode n)
is_wrong_number bounds info Place n = is_outside_of n info
is_wrong_number bounds info takes n = false

-- a value that the buffer, or a field of the type, can't hold
abbrev pub is_wrong_value : StatedSetup → Parts → Option Info → Takes → ℤ → Bool
is_wrong_value s p info Item v = is_wrong_item s p v info
is_wrong_value s p info (Value item) v = not (is_item_value item v)
is_wrong_value s p info takes v = false

abbrev pub stated : StatedSetup → Option ℕ → Option ℕ
stated s None = None
stated s (Some class) = if nat_lt class (class_count s) then Some class else None

-- an operand that isn't: a list with an item that isn't of its type, or the name of a class that the setup doesn't
-- state
abbrev pub is_out_of_bounds : Bounds → StatedSetup → Parts → Option Info → Takes → Argument → Bool
is_out_of_bounds bounds s p info takes (Number n) = is_wrong_number bounds info takes n
is_out_of_bounds bounds s p info takes (ValueOf v) = is_wrong_value s p info takes v
is_out_of_bounds bounds s p info takes (ListOf count fits) = not fits
is_out_of_bounds bounds s p info takes (Class class) = is_none (stated s class)
is_out_of_bounds bounds s p info takes x = false

-- 12, as `bad_argument`, under these bounds
abbrev pub bad_argument : Bounds → StatedSetup → Parts → Columns → List Argument → Bool
bad_argument bounds s p row xs =
    list_any (λ x. is_out_of_bounds bounds s p (buffer_meant p (first_buffer xs)) x.0 x.1) (paired row.takes xs)

-- 13, as `pinned`
abbrev pub pinned : Parts → Effect → Ref → Bool
pinned p (Ends Local) r = false
pinned p (Ends Global) r = buffers.pinned_by p.buffers r
pinned p (Ends Weak) r = buffers.pinned_by p.buffers r
pinned p effect r = false

-- 14, as `not_owner`
abbrev pub not_owner : Parts → ℕ → Effect → Ref → Bool
not_owner p t Frees r = is_not_owned p t (object_named p t r)
not_owner p t effect r = false

-- 15, as `bad_frame`
abbrev pub bad_frame : Parts → ℕ → Effect → Bool
bad_frame p t Detaches = nat_lt 0 (depth p t)
bad_frame p t Leaves = depth p t == 0
bad_frame p t Pops = open_frames p t == 0
bad_frame p t effect = false

-- the class of the setup that an operand names, if the setup has so many
abbrev pub class_in : StatedSetup → Argument → Option ℕ
class_in s (Class class) = stated s class
class_in s x = None

-- the class that the first operand names
abbrev pub class_by_name : StatedSetup → List Argument → Option ℕ
class_by_name s xs = option_and_then (class_in s) (slice_get xs 0)

-- 16, as `no_access`
abbrev pub no_access : StatedSetup → Parts → ℕ → Effect → Ref → List Argument → Bool
no_access s p t Enters r xs = refuses s Link (class_by_name s xs)
no_access s p t Loads r xs = refuses s Load (class_by_name s xs)
no_access s p t Links r xs = refuses s Register (class_meant s p t r)
no_access s p t effect r xs = false

abbrev pub native_in : Argument → Option ℕ
native_in (Native native) = native
native_in x = None

-- the native method that the second operand names
abbrev pub native_by_name : List Argument → Option ℕ
native_by_name xs = option_and_then native_in (slice_get xs 1)

-- 17, as `not_linked`
abbrev pub not_linked : StatedSetup → Parts → Effect → List Argument → Bool
not_linked s p Enters xs = not (is_linked p (class_by_name s xs) (native_by_name xs))
not_linked s p effect xs = false

-- a question for the function of this row, with these operands, breaks the rule
abbrev pub broken : Rule → Bounds → StatedSetup → Parts → ℕ → Option EnvId → Columns → List Argument → Bool
broken WrongThread bounds s p t env row xs = wrong_thread t env row
broken Detached bounds s p t env row xs = detached p t env row
broken InCritical bounds s p t env row xs = in_critical p t row
broken Pending bounds s p t env row xs = while_pending p t row
broken ForeignLocal bounds s p t env row xs = foreign_local t row xs
broken DeadReference bounds s p t env row xs = dead_reference p t row xs
broken WrongRefKind bounds s p t env row xs = wrong_kind row.effect (first_reference xs)
broken NullReference bounds s p t env row xs = null_reference p t row xs
broken WrongType bounds s p t env row xs = wrong_type s p t row xs
broken BadField bounds s p t env row xs = bad_field row xs
broken BadBuffer bounds s p t env row xs = bad_buffer p t row xs
broken BadArgument bounds s p t env row xs = bad_argument bounds s p row xs
broken Pinned bounds s p t env row xs = pinned p row.effect (first_reference xs)
broken NotOwner bounds s p t env row xs = not_owner p t row.effect (first_reference xs)
broken BadFrame bounds s p t env row xs = bad_frame p t row.effect
broken NoNativeAccess bounds s p t env row xs = no_access s p t row.effect (first_reference xs) xs
broken NotLinked bounds s p t env row xs = not_linked s p row.effect xs

-- the first of rules 1 to 4, which are about the caller
abbrev pub by_caller : Parts → ℕ → Option EnvId → Columns → Option Rule
by_caller p t env row =
    if wrong_thread t env row then Some WrongThread
    else if detached p t env row then Some Detached
    else if in_critical p t row then Some InCritical
    else if while_pending p t row then Some Pending
    else None

-- the first of rules 13 to 17
abbrev pub of_effect : StatedSetup → Parts → ℕ → Effect → Ref → List Argument → Option Rule
of_effect s p t effect r xs =
    if pinned p effect r then Some Pinned
    else if not_owner p t effect r then Some NotOwner
    else if bad_frame p t effect then Some BadFrame
    else if no_access s p t effect r xs then Some NoNativeAccess
    else if not_linked s p effect xs then Some NotLinked
    else None

-- the first rule that it breaks
abbrev pub verdict : Bounds → StatedSetup → Parts → ℕ → Option EnvId → Columns → List Argument → Option Rule
verdict bounds s p t env row xs = find (λ rule. broken rule bounds s p t env row xs) rules_in_order
