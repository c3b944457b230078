use Rattle.std.proofs.Common.{length}
use Rattle.jg_text.proofs.place.«+first_bad».Given as goal

abbrev pub decreases-first_bad : goal.decreases-first_bad
decreases-first_bad l = length l.kinds.now
