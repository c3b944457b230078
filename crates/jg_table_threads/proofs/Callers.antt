-- What other crates may rest on: each is a law of specs/Laws.
use Rattle.std.proofs.Common.{sym}
use Rattle.jg_table_threads.specs.Laws.{IsPendingMeans, LeavesAtMostEnters, NoRowMeans}
use Rattle.jg_table_threads.proofs.Means.{is_pending_means}
use Rattle.jg_table_threads.proofs.Steps.{leaves_at_most, never_attached}

pub leaves_at_most_enters : LeavesAtMostEnters
leaves_at_most_enters acts allowed = leaves_at_most acts allowed

pub no_row_law : NoRowMeans
no_row_law acts allowed never = sym (never_attached acts allowed never)

pub is_pending_law : IsPendingMeans
is_pending_law e o = is_pending_means e o
