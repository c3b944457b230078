use Rattle.std.proofs.Common.{◌≡◌, refl, ◌∙◌, sym, Some, None}
use Rattle.std.specs.Map.{lookup}
use Rattle.jg_lists.specs.ByMaker.{same_name}
use Rattle.jg_table_buffers.proofs.Lookups.{row_is, info_law}
use Rattle.jg_lists.specs.ByMaker.{named}
use Rattle.jg_table_buffers.proofs.buffers.Buffers.find.Goals as goal

pub returns-in-Some-clause-row : goal.returns-in-Some-clause-row
returns-in-Some-clause-row g c =
    let found : lookup (same_name (c.args.buf.maker.0, c.args.buf.n)) c.self.inside.copies.entries ≡ Some c.in-Some.copy.now = sym c.in-Some.ensures in
    rw (
      row_is g.I.Items.items_of c.self.inside.copies.entries (named c.self.inside.pins) _ c.args.buf.maker.0 c.args.buf.n c.self.view_is,
      found,
      c.family_of_copy.ensures,
      c.count.ensures,
    ) refl

pub returns-in-Some-clause-stands : goal.returns-in-Some-clause-stands
returns-in-Some-clause-stands g c = λ e stands. returns-in-Some-clause-row g c ∙ info_law _ e c.args.buf.maker.0 c.args.buf.n stands

pub returns-in-None-clause-row : goal.returns-in-None-clause-row
returns-in-None-clause-row g c =
    let copy : lookup (same_name (c.args.buf.maker.0, c.args.buf.n)) c.self.inside.copies.entries ≡ None = sym c.in_default.ensures in
    let pin : lookup (same_name (c.args.buf.maker.0, c.args.buf.n)) (named c.self.inside.pins) ≡ None = sym c.in-None.ensures in
    rw (row_is g.I.Items.items_of c.self.inside.copies.entries (named c.self.inside.pins) _ c.args.buf.maker.0 c.args.buf.n c.self.view_is, copy, pin) refl

pub returns-in-None-clause-stands : goal.returns-in-None-clause-stands
returns-in-None-clause-stands g c = λ e stands. returns-in-None-clause-row g c ∙ info_law _ e c.args.buf.maker.0 c.args.buf.n stands

pub returns-in-Some-find-clause-row : goal.returns-in-Some-find-clause-row
returns-in-Some-find-clause-row g c =
    let copy : lookup (same_name (c.args.buf.maker.0, c.args.buf.n)) c.self.inside.copies.entries ≡ None = sym c.in_default.ensures in
    let pin : lookup (same_name (c.args.buf.maker.0, c.args.buf.n)) (named c.self.inside.pins) ≡ Some c.in-Some-find.pin.now = sym c.in-Some-find.ensures in
    rw (
      row_is g.I.Items.items_of c.self.inside.copies.entries (named c.self.inside.pins) _ c.args.buf.maker.0 c.args.buf.n c.self.view_is,
      copy,
      pin,
      c.family_of_pin.ensures,
    ) refl

pub returns-in-Some-find-clause-stands : goal.returns-in-Some-find-clause-stands
returns-in-Some-find-clause-stands g c = λ e stands. returns-in-Some-find-clause-row g c ∙ info_law _ e c.args.buf.maker.0 c.args.buf.n stands
