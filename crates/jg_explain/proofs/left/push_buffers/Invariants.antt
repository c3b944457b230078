use Rattle.std.proofs.Common.{◌≡◌, ◌++◌, map, take}
use Rattle.jg_explain.specs.declared.left.Left.TheVariants.{Buffer}
use Rattle.jg_explain.proofs.left.push_buffers.Given as goal

-- the buffers so far are in the list
abbrev pub invariant-loop-buffer : goal.invariant-loop-buffer
invariant-loop-buffer l = l.all.items ≡ l.initial.all.items ++ map Buffer (take l.buffer-index l.buffers)
