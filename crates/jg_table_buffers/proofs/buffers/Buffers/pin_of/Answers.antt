use Rattle.std.proofs.Common.{ℕ, ◌∙◌, ap, is_some, subst, sym, IfSome}
use Rattle.std.specs.Prelude.{◌==◌, ◌++◌, map}
use Rattle.jg_lists.specs.ByMaker.{named}
use Rattle.jg_lists.proofs.Found.{any_found}
use Rattle.jg_table_buffers.specs.declared.pinned.Pinned.{Pinned}
use Rattle.jg_table_buffers.specs.History.{IsPinOf}
use Rattle.jg_table_buffers.specs.Standing.{Stands}
use Rattle.jg_table_buffers.specs.Seen.{copy_seen, pin_seen, key_name}
use Rattle.jg_table_buffers.proofs.Lookups.{reopened}
use Rattle.jg_table_buffers.proofs.Pins.{object_law, named_law}
use Rattle.jg_table_buffers.proofs.buffers.Buffers.pin_of.Goals as goal

pub returns-in-None-clause-held : goal.returns-in-None-clause-held
returns-in-None-clause-held g c e stands =
    let was : Stands (record { lent = map (copy_seen g.I.Items.items_of) c.self.inside.copies.entries ++ map pin_seen (named c.self.inside.pins) }) e =
    reopened _ _ e c.self.view_is stands in
    ap is_some c.in-None.ensures
    ∙ any_found (λ (f : (ℕ × ℕ) × Pinned). f.0) (λ f. f.1.object == c.args.object.0) (named c.self.inside.pins)
    ∙ object_law g.I.Items.items_of c.args.object.0 c.self.inside.copies.entries (named c.self.inside.pins) e was

pub returns-in-Some-clause-held : goal.returns-in-Some-clause-held
returns-in-Some-clause-held g c e stands =
    let was : Stands (record { lent = map (copy_seen g.I.Items.items_of) c.self.inside.copies.entries ++ map pin_seen (named c.self.inside.pins) }) e =
    reopened _ _ e c.self.view_is stands in
    ap is_some c.in-Some.ensures
    ∙ any_found (λ (f : (ℕ × ℕ) × Pinned). f.0) (λ f. f.1.object == c.args.object.0) (named c.self.inside.pins)
    ∙ object_law g.I.Items.items_of c.args.object.0 c.self.inside.copies.entries (named c.self.inside.pins) e was

pub returns-in-Some-clause-names : goal.returns-in-Some-clause-names
returns-in-Some-clause-names g c e stands =
    let was : Stands (record { lent = map (copy_seen g.I.Items.items_of) c.self.inside.copies.entries ++ map pin_seen (named c.self.inside.pins) }) e =
    reopened _ _ e c.self.view_is stands in
    subst (λ found. IfSome found (λ (name : ℕ × ℕ). IsPinOf e c.args.object.0 (key_name name))) (sym c.in-Some.ensures)
    (named_law g.I.Items.items_of c.args.object.0 c.self.inside.copies.entries (named c.self.inside.pins) e was)
