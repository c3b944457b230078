use Rattle.std.proofs.Common.{◌≡◌, ◌≤◌, map, take}
use Rattle.std.specs.Prelude.{vec_capacity}
use Rattle.jg_table_locals.specs.Seen.{named}
use Rattle.jg_table_locals.proofs.slot_list.name_all.Given as goal

-- the objects of the slots so far
abbrev pub invariant-loop-slot : goal.invariant-loop-slot
invariant-loop-slot g l = record {
  items : l.objects.items ≡ map named (take l.slot-index l.slots);
  capacity : vec_capacity l.initial.objects ≤ vec_capacity l.objects;
}
