use Rattle.std.proofs.Common.{◌≡◌, ◌++◌, take, string_bytes}
use Rattle.std.specs.List.{flat_map}
use Rattle.jg_script.specs.Leaks.{buffer_line}
use Rattle.jg_script.proofs.leaks.push_buffers.Given as goal

-- the lines so far
abbrev pub invariant-loop-buffer : goal.invariant-loop-buffer
invariant-loop-buffer l = string_bytes l.out ≡ string_bytes l.initial.out ++ flat_map buffer_line (take l.buffer-index l.buffers)
