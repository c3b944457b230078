use Rattle.jg_script.proofs.Runs.{none_checked, none_read}
use Rattle.jg_script.proofs.run.check.Goals as goal

pub returns-in_default-clause-checks : goal.returns-in_default-clause-checks
returns-in_default-clause-checks g c =
    none_checked (g.R.Read.remaining c.args.reader.now.device) (g.W.Write.contents c.args.writer.now.device) c.args.guard.now.limit c.args.guard.now.journal
    c.requires

pub returns-in_default-clause-reads : goal.returns-in_default-clause-reads
returns-in_default-clause-reads g c = none_read (g.R.Read.remaining c.args.reader.now.device) c.args.guard.now.journal c.requires
