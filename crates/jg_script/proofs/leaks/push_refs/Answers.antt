use Rattle.std.proofs.Common.{string_bytes}
use Rattle.jg_script.specs.Leaks.{ref_line}
use Rattle.jg_script.proofs.Leaking.{line_more}
use Rattle.jg_script.proofs.leaks.push_refs.Goals as goal

pub loop-reference-preserved : goal.loop-reference-preserved
loop-reference-preserved c =
    line_more ref_line c.args.refs.now c.loop-reference.reference-index _ (string_bytes c.args.out.now) (string_bytes c.loop-reference.out) _
    c.loop-reference-test.true c.loop-reference.invariant
    c.in_ok-push_ref_line.ensures
