use Rattle.std.proofs.Common.{◌≡◌, ℕ, List, Option, Some, None, ◌∙◌, ap, sym, subst}
use Rattle.std.specs.Prelude.{◌==◌}
use Rattle.jg_words.specs.declared.object.ObjId.{ObjId}
use Rattle.jg_lists.specs.ByMaker.{Name}
use Rattle.jg_lists.specs.declared.by_number.Numbered.{Numbered}
use Rattle.jg_lists.proofs.Found.{number_where, name_where, name_past, name_here}
use Rattle.jg_table_globals.proofs.visits.name_of.Goals as goal

pub loop-table-preserved : goal.loop-table-preserved
loop-table-preserved g c =
    name_past (λ (o : ObjId). o.0 == c.args.object.0) c.seats-table-items.result.now c.loop-table.table-index c.table-item.result c.loop-table-test.true
    c.loop-table.invariant
    (subst (λ (table : Numbered (List (ℕ × ObjId))). None ≡ number_where (λ (o : ObjId). o.0 == c.args.object.0) table.value) c.table-item.is
    c.in_default.ensures)

pub returns-in-Some : goal.returns-in-Some
returns-in-Some g c =
    let p = λ (o : ObjId). o.0 == c.args.object.0 in
    subst (λ (table : Numbered (List (ℕ × ObjId))). ◌≡◌ {A = Option Name} (Some (table.number, c.in-Some.n)) (name_where p c.args.rows.now))
    (sym c.table-item.is)
    (name_here p c.seats-table-items.result.now c.loop-table.table-index c.table-item.result c.loop-table-test.true c.loop-table.invariant c.in-Some.n
    (subst (λ (table : Numbered (List (ℕ × ObjId))). Some c.in-Some.n ≡ number_where p table.value) c.table-item.is c.in-Some.ensures)
    ∙ ap (name_where p) c.seats-table-items.ensures.seats)
