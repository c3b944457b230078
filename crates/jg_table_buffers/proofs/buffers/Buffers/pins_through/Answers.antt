use Rattle.std.proofs.Common.{◌≡◌, ◌++◌, ◌∙◌, List, filter, map, refl, ap, sym, subst}
use Rattle.jg_words.specs.declared.buffer.BufId.{BufId}
use Rattle.jg_lists.specs.ByMaker.{Name, named}
use Rattle.jg_table_buffers.specs.History.{same_ref}
use Rattle.jg_table_buffers.specs.Rows.{Rows}
use Rattle.jg_table_buffers.specs.Seen.{key_name}
use Rattle.jg_table_buffers.specs.Standing.{Stands}
use Rattle.jg_table_buffers.specs.declared.pinned.Pinned.{Pinned}
use Rattle.jg_table_buffers.proofs.Ordered.{sorted_pins}
use Rattle.jg_table_buffers.proofs.buffers.Buffers.pins_through.Goals as goal

pub returns : goal.returns
returns g c e stands =
    let fs : List (Name × Pinned) = named c.self.inside.pins in
    let names : List BufId = map (λ f. key_name f.0) (filter (λ (f : Name × Pinned). same_ref f.1.via c.args.reference) fs) in
    let listed : c.list_pins_through.new.buffers.items ≡ names =
    c.in_ok-list_pins_through.ensures ∙ ap (λ (xs : List BufId). xs ++ names) c.new-buffers.ensures.items in
    sorted_pins g.I.Items.items_of c.self.inside.copies.entries fs e (subst (λ (r : Rows). Stands r e) (sym c.self.view_is) stands)
    (λ b. same_ref b.via c.args.reference) (λ b items. refl)
    (λ f. same_ref f.1.via c.args.reference) (λ f. refl)
    c.list_pins_through.new.buffers.items c.sort_names.new.buffers.items listed c.sort_names.ensures.same c.sort_names.ensures.ascends
