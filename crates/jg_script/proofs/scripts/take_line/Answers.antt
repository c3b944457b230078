use Rattle.std.proofs.Common.{arith}
use Rattle.jg_script.proofs.Threads.{taken}
use Rattle.jg_script.proofs.scripts.take_line.Goals as goal

pub returns : goal.returns
returns c =
    taken c.args.text.now c.args.number c.args.threads.now.items c.add.new.threads.items c.in-Ok.spelt.0 c.in-Ok.spelt.1 c.in-Ok.spelt.2 c.in-Ok.ensures.spelt
    (omega (arith, c.if-number-gt-MAX_LINES.false)) c.add.result c.add.ensures.ok c.add.ensures.err
