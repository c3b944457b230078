-- The events of what an answer makes.
use Rattle.std.specs.Prelude.{ℕ, Bool, false, List, [], ◌∷◌, ◌++◌, Option}
use Rattle.jg_words.specs.declared.object.ObjId.{ObjId}
use Rattle.jg_words.specs.declared.value.Value.{Value}
use Rattle.jg_words.specs.declared.value.Thrown.{Thrown}
use Rattle.jg_words.specs.declared.entry.Reply.{Reply}
use Rattle.jg_table_threads.specs.History as threads
use Rattle.jg_table_locals.specs.History as locals
use Rattle.jg_table_globals.specs.History as globals
use Rattle.jg_table_heap.specs.History as heap
use Rattle.jg_table_heap.specs.Making.{Plain}
use Rattle.jg_rules.specs.Parts.{Parts}
use Rattle.jg_table_buffers.specs.History as buffers
use Rattle.jg_rules.specs.Effects.{warning, deletes_local, linking, unlinking}
use Rattle.jg_words.specs.Classes.{class_thrown}
use Rattle.jg_rules.specs.Holding.{roots, going}
use Rattle.jg_policy.specs.Stated.{StatedSetup}
use Rattle.std.specs.Prelude.{map}
use Rattle.jg_words.specs.declared.reference.Ref.{Ref}

-- t was handed out local n for the object
abbrev pub local_on : ℕ → ℕ → ObjId → Parts → Parts
local_on t n o p = record p {
  threads = threads.by t threads.CountRef ∷ p.threads;
  locals = locals.by t (locals.Make n o.0) ∷ p.locals;
}

abbrev pub strong_on : ℕ → ℕ → ℕ → ObjId → Parts → Parts
strong_on t maker n o p = record p {
  threads = threads.by t threads.CountRef ∷ p.threads;
  globals = globals.MakeStrong maker n o.0 ∷ p.globals;
}

abbrev pub weak_on : ℕ → ℕ → ℕ → ObjId → Parts → Parts
weak_on t maker n o p = record p {
  threads = threads.by t threads.CountRef ∷ p.threads;
  globals = globals.MakeWeak maker n o.0 ∷ p.globals;
}

-- an exception was made, and is pending for t
abbrev pub thrown_on : ℕ → Thrown → ObjId → Parts → Parts
thrown_on t kind o p = record p {
  threads = threads.by t (threads.Raise o.0) ∷ p.threads;
  heap = heap.Made (Plain (class_thrown kind) []) ∷ p.heap;
}

abbrev pub lent_on : ℕ → Parts → Parts
lent_on t p = record p { threads = threads.by t threads.CountBuffer ∷ p.threads }

abbrev pub warned_on : Bool → Option ℕ → Parts → Parts
warned_on warned home p = record p { links = warning warned home ++ p.links }

-- the value, with no warning and no notice
abbrev pub saying_of : Value → Reply
saying_of value = record { value = value; warned = false; noticed = false }

-- t's local was deleted, if it is one
abbrev pub deleted_on : ℕ → Ref → Parts → Parts
deleted_on t r p = record p { locals = map (locals.by t) (deletes_local r) ++ p.locals }

-- the class's native method was linked; all of the class were unlinked
abbrev pub linked_on : Option ℕ → Option ℕ → Parts → Parts
linked_on class native p = record p { links = linking class native ++ p.links }

abbrev pub unlinked_on : Option ℕ → Parts → Parts
unlinked_on class p = record p { links = unlinking class ++ p.links }

-- what nothing held went, and weak references to it were cleared
abbrev pub collected_on : StatedSetup → Parts → Parts
collected_on s p = record p {
  globals = map (λ o. globals.Clear o) (going s p) ++ p.globals;
  heap = heap.Collected (roots s p) ∷ p.heap;
}

-- buffers were opened, written or closed
abbrev pub buffers_on : List buffers.Event → Parts → Parts
buffers_on e p = record p { buffers = e ++ p.buffers }

-- what was written was written into the store
abbrev pub heap_on : List heap.Event → Parts → Parts
heap_on e p = record p { heap = e ++ p.heap }
