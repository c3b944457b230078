-- What other crates rest on: facts of lists of acts, and laws of specs/Laws.
pub use Rattle.jg_lists.proofs.Acts.{acts_more, acts_same, each_thread}
use Rattle.jg_table_locals.specs.Laws.{HeldMeans, SessionHasFrame, TopMeans, PushedMeans, EnteredMeans, NewNumberIsAbove, LiveIsBelow}
use Rattle.jg_table_locals.proofs.Above.{has_frame, above_rows, live_is_made_below}
use Rattle.jg_table_locals.proofs.Held.{held_means}
use Rattle.jg_table_locals.proofs.Lookups.{pushed_told, depth_law}
use Rattle.jg_table_locals.proofs.Tops.{top_told}

pub held_law : HeldMeans
held_law e o = held_means e o

pub has_frame_law : SessionHasFrame
has_frame_law rows e t stands is = has_frame rows e t stands is

pub top_is : TopMeans
top_is rows e t stands = top_told rows e t stands

pub pushed_law : PushedMeans
pushed_law rows e t stands = pushed_told rows e t stands

pub entered_law : EnteredMeans
entered_law rows e t stands = depth_law rows e t stands

pub above_law : NewNumberIsAbove
above_law rows e t n stands below = above_rows rows e t n stands below

pub live_below : LiveIsBelow
live_below n k o acts below is = live_is_made_below n k o acts below is
