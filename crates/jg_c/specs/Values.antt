-- Values as C holds them: which numbers stand for what. jg.h names the kinds.
use Rattle.std.specs.Prelude.{ℕ, Option, Some, None, if◌then◌else◌, nat_eq, nat_lt}
use Rattle.std.specs.Option.{option_map, option_and_then}
use Rattle.jg_words.specs.declared.buffer.BufId.{BufId}
use Rattle.jg_words.specs.declared.object.ObjId.{ObjId}
use Rattle.jg_words.specs.declared.reference.Kind.{Kind}
use Rattle.jg_words.specs.declared.reference.Kind.TheVariants.{Local, Global, Weak}
use Rattle.jg_words.specs.declared.reference.Ref.{Ref}
use Rattle.jg_words.specs.declared.reference.Ref.TheVariants.{Null, To}
use Rattle.jg_words.specs.declared.thread.EnvId.{EnvId}
use Rattle.jg_words.specs.declared.thread.Tid.{Tid}
use Rattle.jg_c.specs.declared.value.JgValue.{JgValue}

-- the thread of this number, of which there are 65,536
abbrev pub thread_of : ℕ → Option Tid
thread_of n = if nat_lt n 65536 then Some (record { 0 = n }) else None

-- the kind of a reference
abbrev pub kind_of : ℕ → Option Kind
kind_of n = if nat_eq n 2 then Some Local else if nat_eq n 3 then Some Global else if nat_eq n 4 then Some Weak else None

abbrev pub number_of : Kind → ℕ
number_of Local = 2
number_of Global = 3
number_of Weak = 4

-- ---- what a value names

-- the reference, if it is one
abbrev pub reference_of : JgValue → Option Ref
reference_of v = if nat_eq v.kind 1 then Some Null
    else option_and_then (λ kind. option_map (λ maker. To kind maker v.number) (thread_of v.detail)) (kind_of v.kind)

-- the buffer
abbrev pub buffer_of : JgValue → Option BufId
buffer_of v = if nat_eq v.kind 5
    then option_map (λ maker. record { maker = maker; n = v.number }) (thread_of v.detail) else None

-- the environment, or none
abbrev pub environment_of : JgValue → Option (Option EnvId)
environment_of v = if nat_eq v.kind 0 then Some None
    else if nat_eq v.kind 6
    then option_map (λ tid. Some (record { tid = tid; session = v.number })) (thread_of v.detail) else None

-- the object, or null
abbrev pub object_of : JgValue → Option (Option ObjId)
object_of v = if nat_eq v.kind 1 then Some None
    else if nat_eq v.kind 7 then Some (Some (record { 0 = v.number })) else None

-- ---- the values of names

abbrev pub of_reference : Ref → JgValue
of_reference Null = record { kind = 1; detail = 0; number = 0 }
of_reference (To kind maker n) = record { kind = number_of kind; detail = maker.0; number = n }

abbrev pub of_buffer : BufId → JgValue
of_buffer b = record { kind = 5; detail = b.maker.0; number = b.n }

abbrev pub of_environment : EnvId → JgValue
of_environment e = record { kind = 6; detail = e.tid.0; number = e.session }

abbrev pub of_object : ObjId → JgValue
of_object o = record { kind = 7; detail = 0; number = o.0 }
