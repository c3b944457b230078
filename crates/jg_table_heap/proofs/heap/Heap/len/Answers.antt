use Rattle.std.proofs.Common.{ap, ◌∙◌, sym, length}
use Rattle.std.proofs.lemmas.List.{length-map}
use Rattle.jg_table_heap.specs.Rows.{Rows}
use Rattle.jg_table_heap.specs.Kept.{objects_of, row_of}
use Rattle.jg_table_heap.proofs.Objects.{length-objects_of}
use Rattle.jg_table_heap.proofs.Told.{count_stands}
use Rattle.jg_table_heap.proofs.heap.Heap.len.Goals as goal

pub returns-clause-history : goal.returns-clause-history
returns-clause-history g c e s =
    c.len.ensures ∙ c.self.inside.objects.ok.0
    ∙ sym (length-map (objects_of c.self.inside.objects.items c.self.inside.there.items) row_of
    ∙ length-objects_of c.self.inside.objects.items c.self.inside.there.items c.self.invariant.0.same)
    ∙ ap (λ (r : Rows). length r.objects) c.self.view_is ∙ count_stands c.args.self.now e s
