use Rattle.std.proofs.Common.{refl}
use Rattle.jg_lists.specs.Searches.{home}
use Rattle.jg_lists.proofs.Searched.{home_within}
use Rattle.jg_lists.proofs.slots.home.Goals as goal

pub returns-clause-value : goal.returns-clause-value
unfolding home
returns-clause-value c = refl

pub returns-clause-within : goal.returns-clause-within
unfolding home
returns-clause-within c = home_within c.args.count c.args.number c.requires
