use Rattle.std.proofs.Common.{◌≡◌, ◌+◌, ◌-◌, ℕ, List, inl, ◌∙◌, ap, sym, subst}
use Rattle.jg_table_threads.specs.Rows.{Row, row_of}
use Rattle.jg_table_threads.proofs.Steps.{Written, enter_law, written_by, row_now}
use Rattle.jg_table_threads.proofs.threads.Threads.enter_native.Goals as goal

pub returns-clause-stands : goal.returns-clause-stands
returns-clause-stands g c = λ e stands.
    enter_law c.self.inside.rows c.replace_rest.new.self c.args.self.now e c.args.tid.0 c.self.view_is c.replace_rest.ensures.was_once
    c.replace_rest.ensures.once stands c.requires.seen
    (written_by c.self.inside.rows c.replace_rest.new.self c.args.tid.0 (λ (r : Row). record r { depth = r.depth + 1 }) _
    (ap (λ (r : Row). record r { depth = r.depth + 1 }) (c.row-row.ensures ∙ ap (λ (rows : List (ℕ × Row)). row_of rows c.args.tid.0) (sym c.self.view_is)))
    c.replace_rest.ensures.put)

pub returns-clause-row : goal.returns-clause-row
returns-clause-row g c =
    let change = λ (r : Row). record r { depth = r.depth + 1 } in
    row_now c.args.self.now c.replace_rest.new.self c.args.tid.0 change
    (subst (λ (rows : List (ℕ × Row)). Written rows c.replace_rest.new.self c.args.tid.0 change) c.self.view_is
    (written_by c.self.inside.rows c.replace_rest.new.self c.args.tid.0 change _
    (ap change (c.row-row.ensures ∙ ap (λ (rows : List (ℕ × Row)). row_of rows c.args.tid.0) (sym c.self.view_is)))
    c.replace_rest.ensures.put))
    (inl c.requires.seen)
