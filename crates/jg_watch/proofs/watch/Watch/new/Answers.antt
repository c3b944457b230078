use Rattle.jg_watch.proofs.Counting.{none_yet}
use Rattle.jg_watch.proofs.watch.Watch.new.Goals as goal

pub returns-clause-tally : goal.returns-clause-tally
returns-clause-tally g c = none_yet
