use Rattle.std.proofs.Common.{string_bytes}
use Rattle.jg_script.specs.Leaks.{buffer_line}
use Rattle.jg_script.proofs.Leaking.{line_more}
use Rattle.jg_script.proofs.leaks.push_buffers.Goals as goal

pub loop-buffer-preserved : goal.loop-buffer-preserved
loop-buffer-preserved c =
    line_more buffer_line c.args.buffers.now c.loop-buffer.buffer-index _ (string_bytes c.args.out.now) (string_bytes c.loop-buffer.out) _
    c.loop-buffer-test.true c.loop-buffer.invariant
    c.in_ok-push_buffer_line.ensures
