use Rattle.std.proofs.Common.{◌≡◌, ℕ, List, Option, Some, None, ◌∙◌, ap, sym, subst}
use Rattle.std.specs.Prelude.{◌==◌}
use Rattle.jg_table_buffers.specs.declared.pinned.Pinned.{Pinned}
use Rattle.jg_lists.specs.ByMaker.{Name}
use Rattle.jg_lists.specs.declared.by_number.Numbered.{Numbered}
use Rattle.jg_lists.proofs.Found.{number_where, name_where, name_past, name_here}
use Rattle.jg_table_buffers.proofs.visits.name_of.Goals as goal

pub loop-table-preserved : goal.loop-table-preserved
loop-table-preserved g c =
    name_past (λ (w : Pinned). w.object == c.args.object) c.seats-table-items.result.now c.loop-table.table-index c.table-item.result c.loop-table-test.true
    c.loop-table.invariant
    (subst (λ (table : Numbered (List (ℕ × Pinned))). None ≡ number_where (λ (w : Pinned). w.object == c.args.object) table.value) c.table-item.is
    c.in_default.ensures)

pub returns-in-Some : goal.returns-in-Some
returns-in-Some g c =
    let p = λ (w : Pinned). w.object == c.args.object in
    subst (λ (table : Numbered (List (ℕ × Pinned))). ◌≡◌ {A = Option Name} (Some (table.number, c.in-Some.n)) (name_where p c.args.pins.now))
    (sym c.table-item.is)
    (name_here p c.seats-table-items.result.now c.loop-table.table-index c.table-item.result c.loop-table-test.true c.loop-table.invariant c.in-Some.n
    (subst (λ (table : Numbered (List (ℕ × Pinned))). Some c.in-Some.n ≡ number_where p table.value) c.table-item.is c.in-Some.ensures)
    ∙ ap (name_where p) c.seats-table-items.ensures.seats)
