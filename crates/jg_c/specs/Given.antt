-- What a machine says, and what it is given, as C holds them.
use Rattle.std.specs.Prelude.{ℕ, Option, Some, None, if◌then◌else◌, nat_eq, nat_lt}
use Rattle.jg_core.specs.declared.says.Given.{Given}
use Rattle.jg_core.specs.declared.says.Given.TheVariants.{Nothing, Reference, Buffer, Environment, Object as TheObject}
use Rattle.jg_core.specs.declared.says.Says.{Says}
use Rattle.jg_core.specs.declared.says.Says.TheVariants.{Done, Null, Object, Items, Threw}
use Rattle.jg_c.specs.declared.value.JgValue.{JgValue}
use Rattle.jg_c.specs.Values.{of_buffer, of_environment, of_object, of_reference}

-- so many items, if 32 bits hold how many
abbrev pub items_of : ℕ → Option Says
items_of n = if nat_lt n 4294967296 then Some (Items n) else None

-- what the value says, if it says anything
abbrev pub says_of : JgValue → Option Says
says_of v =
    if nat_eq v.kind 0 then Some Done
    else if nat_eq v.kind 1 then Some Null
    else if nat_eq v.kind 7 then Some (Object (record { 0 = v.number }))
    else if nat_eq v.kind 15 then items_of v.number
    else if nat_eq v.kind 16 then Some (Threw (record { 0 = v.number }))
    else None

abbrev pub nothing : JgValue
nothing = record { kind = 0; detail = 0; number = 0 }

-- the name of what is given
abbrev pub of_given : Given → JgValue
of_given Nothing = nothing
of_given (Reference r) = of_reference r
of_given (Buffer b) = of_buffer b
of_given (Environment e) = of_environment e
of_given (TheObject o) = of_object o
