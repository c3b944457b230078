use Rattle.std.proofs.Common.{◌≡◌, ◌++◌, take, string_bytes}
use Rattle.std.specs.List.{flat_map}
use Rattle.jg_script.specs.Leaks.{ref_line}
use Rattle.jg_script.proofs.leaks.push_refs.Given as goal

-- the lines so far
abbrev pub invariant-loop-reference : goal.invariant-loop-reference
invariant-loop-reference l = string_bytes l.out ≡ string_bytes l.initial.out ++ flat_map ref_line (take l.reference-index l.refs)
