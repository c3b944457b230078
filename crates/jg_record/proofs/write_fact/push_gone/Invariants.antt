use Rattle.std.proofs.Common.{length}
use Rattle.std.specs.Prelude.{string_bytes}
use Rattle.jg_record.specs.Words.{object_text, FitsObject}
use Rattle.jg_record.proofs.Appending.{LeavesWords}
use Rattle.jg_record.proofs.write_fact.push_gone.Given as goal

abbrev pub invariant-loop-object : goal.invariant-loop-object
invariant-loop-object l = LeavesWords object_text FitsObject (string_bytes l.initial.out) l.objects (string_bytes l.out) l.rest

abbrev pub decreases-loop-object : goal.decreases-loop-object
decreases-loop-object l = length l.rest
