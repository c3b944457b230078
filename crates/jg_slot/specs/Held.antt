-- What a handle owns: nothing, or a value in a box.
use Rattle.std.specs.Prelude.{Option, Some, None}
use mir.Syntax.{Ty}
use base.Fml.{Fml, feq}
use denote.RattleType.{RattleType}
use denote.RawPtr.{Ptr, null_ptr}
use Rattle.std.specs.Box.Ownership.{box_owns}
use Rattle.std.specs.declared.alloc.Global.{Global}
use Rattle.std.specs.contracts.impls.GlobalAllocator.TheImpl.{ghosts}

-- the heap's allocator, of which there is one value
abbrev pub the_heap : Global
the_heap = record { memory = record { seal = tt } }

-- the right to give a block back to the heap
abbrev pub to_free : Ty → Ptr → Fml
to_free = ghosts.dealloc_token the_heap

-- at null there is no value, and elsewhere the box of one
abbrev pub held : (R : RattleType) → Ptr → Option R.Denot → Fml
held R p None = feq Ptr p null_ptr
held R p (Some x) = box_owns to_free R p x
