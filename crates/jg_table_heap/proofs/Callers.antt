-- What other crates rest on: each is a law of specs/Laws.
use Rattle.jg_table_heap.specs.Laws.{ClassesStay, HeldMeans, RootsMean, RowsMean, StaysGone}
use Rattle.jg_table_heap.proofs.Laws.{classes_stay, held_means, roots_mean, rows_mean, stays_gone}
pub use Rattle.jg_table_heap.proofs.Steps.{gone_past}
pub use Rattle.jg_table_heap.proofs.Laws.{classes_counted}

pub classes_law : ClassesStay
classes_law k e o is = classes_stay k e o is

pub held_law : HeldMeans
held_law k roots e o = held_means k roots e o

pub gone_law : StaysGone
gone_law k later before o is = stays_gone k later before o is

pub roots_law : RootsMean
roots_law is_held n o made = roots_mean is_held n o made

pub rows_law : RowsMean
rows_law rows e stands = rows_mean rows e stands
