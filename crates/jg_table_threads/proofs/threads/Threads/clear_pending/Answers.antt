use Rattle.std.proofs.Common.{◌≡◌, ◌+◌, ◌-◌, ℕ, List, None, inr, refl, ◌∙◌, ap, sym, subst}
use Rattle.jg_table_threads.specs.Rows.{Row, row_of}
use Rattle.jg_table_threads.proofs.Steps.{Written, calm_law, written_by, row_now}
use Rattle.jg_table_threads.proofs.threads.Threads.clear_pending.Goals as goal

pub returns-clause-stands : goal.returns-clause-stands
returns-clause-stands g c = λ e stands.
    calm_law c.self.inside.rows c.replace.new.self c.args.self.now e c.args.tid.0 c.self.view_is c.replace.ensures.was_once c.replace.ensures.once stands
    (written_by c.self.inside.rows c.replace.new.self c.args.tid.0 (λ (r : Row). record r { pending = None }) _
    (ap (λ (r : Row). record r { pending = None }) (c.row-row.ensures ∙ ap (λ (rows : List (ℕ × Row)). row_of rows c.args.tid.0) (sym c.self.view_is)))
    c.replace.ensures.put)

pub returns-clause-row : goal.returns-clause-row
returns-clause-row g c =
    let change = λ (r : Row). record r { pending = None } in
    row_now c.args.self.now c.replace.new.self c.args.tid.0 change
    (subst (λ (rows : List (ℕ × Row)). Written rows c.replace.new.self c.args.tid.0 change) c.self.view_is
    (written_by c.self.inside.rows c.replace.new.self c.args.tid.0 change _
    (ap change (c.row-row.ensures ∙ ap (λ (rows : List (ℕ × Row)). row_of rows c.args.tid.0) (sym c.self.view_is)))
    c.replace.ensures.put))
    (inr refl)
