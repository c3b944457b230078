-- What keeps an object from being gone, as C holds it.
use Rattle.std.specs.Prelude.{Option, Some, None, if◌then◌else◌, nat_eq}
use Rattle.std.specs.Option.{option_map}
use Rattle.jg_core.specs.declared.gone.Holder.{Holder}
use Rattle.jg_core.specs.declared.gone.Holder.TheVariants.{Nothing, Setup, Reference, Pending, Buffer, Monitor}
use Rattle.jg_c.specs.declared.held.JgHeld.{JgHeld}
use Rattle.jg_c.specs.Values.{buffer_of, reference_of, thread_of}

-- by its number, and the thread or the name that it is of
abbrev pub holder_of : JgHeld → Option Holder
holder_of h =
    if nat_eq h.by 0 then Some Nothing
    else if nat_eq h.by 1 then Some Setup
    else if nat_eq h.by 2 then option_map (λ r. Reference r) (reference_of h.name)
    else if nat_eq h.by 3 then option_map (λ tid. Pending tid) (thread_of h.thread)
    else if nat_eq h.by 4 then option_map (λ b. Buffer b) (buffer_of h.name)
    else if nat_eq h.by 5 then option_map (λ tid. Monitor tid) (thread_of h.thread)
    else None
