use Rattle.std.proofs.Common.{◌≡◌, ℕ, ◌∙◌, ◌++◌, List, ap, arith, subst}
use Rattle.std.specs.Prelude.{filter, map}
use Rattle.std.proofs.lemmas.List.{take_all}
use Rattle.jg_lists.specs.ByNumber.{seen}
use Rattle.jg_lists.specs.declared.by_number.Numbered.{Numbered}
use Rattle.jg_lists.specs.ByMaker.{Name, named}
use Rattle.jg_table_buffers.specs.History.{same_ref}
use Rattle.jg_table_buffers.specs.Seen.{key_name}
use Rattle.jg_table_buffers.specs.declared.pinned.Pinned.{Pinned}
use Rattle.jg_table_buffers.proofs.Listed.{passing_more}
use Rattle.jg_table_buffers.proofs.visits.list_pins_through.Goals as goal

pub loop-table-preserved : goal.loop-table-preserved
loop-table-preserved g c =
    passing_more key_name (λ (e : Name × Pinned). same_ref e.1.via c.args.via) c.seats-table-items.result.now
    c.loop-table.table-index c.table-item.result c.args.buffers.now.items c.loop-table.buffers.items
    c.list_in_through.new.buffers.items
    c.loop-table-test.true c.loop-table.invariant
    (subst (λ (table : Numbered (List (ℕ × Pinned))). c.list_in_through.new.buffers.items
    ≡ c.loop-table.buffers.items ++ map (λ e. key_name (table.number, e.0))
    (filter (λ e. same_ref e.1.via c.args.via) table.value)) c.table-item.is
    c.in_ok-list_in_through.ensures)

pub returns : goal.returns
returns g c =
    c.loop-table.invariant
    ∙ ap (λ (tables : List (ℕ × List (ℕ × Pinned))). c.args.buffers.now.items
    ++ map (λ (e : Name × Pinned). key_name e.0) (filter (λ e. same_ref e.1.via c.args.via) (named tables)))
    (ap (map seen) (take_all c.loop-table.table-index c.seats-table-items.result.now (omega (arith, c.loop-table-test.false)))
    ∙ c.seats-table-items.ensures.seats)
