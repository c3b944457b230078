use Rattle.std.proofs.Common.{ℕ, List, subst, sym}
use Rattle.jg_lists.proofs.Visited.{marks_alike}
use Rattle.jg_table_threads.specs.Rows.{Row}
use Rattle.jg_table_threads.specs.Standing.{Stands}
use Rattle.jg_table_threads.proofs.Pending.{pending_law}
use Rattle.jg_table_threads.proofs.threads.Threads.mark_held.Goals as goal

pub returns : goal.returns
returns g c = λ e stands.
    let P : List (ℕ × Row) → Type 0 = λ rows. Stands rows e in
    let was = subst P (sym c.self.view_is) stands in
    marks_alike _ _ _ _ (λ o. pending_law _ e o c.mark_pending.ensures.once was) c.mark_pending.ensures.marks
