-- What other crates rest on: each is a law of specs/Laws.
use Rattle.jg_table_buffers.specs.Laws.{CriticalMeans, PinnedMeans, PinnedObjectMeans, NewNumberIsAbove}
use Rattle.jg_table_buffers.proofs.Means.{critical_there, critical_back, pinned_there, pinned_back, object_there, object_back, above_all}
pub use Rattle.jg_table_buffers.proofs.Counts.{same_ref_is}
pub use Rattle.jg_table_buffers.proofs.Means.{ref_self}
pub use Rattle.jg_table_buffers.proofs.Lookups.{still_lent}

pub critical_law : CriticalMeans
critical_law e t = (critical_there e t, critical_back e t)

pub pinned_law : PinnedMeans
pinned_law e r = (pinned_there e r, pinned_back e r)

pub pinned_object_law : PinnedObjectMeans
pinned_object_law e o = (object_there e o, object_back e o)

pub above_law : NewNumberIsAbove
above_law rows e maker n stands below = above_all rows e maker n stands below
