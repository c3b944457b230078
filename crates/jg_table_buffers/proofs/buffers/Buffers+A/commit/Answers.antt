use Rattle.std.proofs.Common.{◌≡◌, length, ◌∙◌, ap, sym, Some, None}
use Rattle.std.specs.Map.{lookup}
use Rattle.jg_lists.specs.ByMaker.{same_name}
use Rattle.jg_table_buffers.proofs.Lookups.{row_is, long_law, contents_law, pin_items}
use Rattle.jg_lists.specs.ByMaker.{named}
use Rattle.jg_table_buffers.specs.Seen.{listed}
use Rattle.jg_table_buffers.proofs.buffers.Buffers+A.commit.Goals as goal

pub returns-in-Some-clause-row : goal.returns-in-Some-clause-row
returns-in-Some-clause-row g c =
    let found : lookup (same_name (c.args.buf.maker.0, c.args.buf.n)) c.self.inside.copies.entries ≡ Some c.in-Some.copy.now = sym c.in-Some.ensures in
    rw (row_is listed c.self.inside.copies.entries (named c.self.inside.pins) _ c.args.buf.maker.0 c.args.buf.n c.self.view_is, found) c.as_slice.ensures.value

pub returns-in-Some-clause-stands : goal.returns-in-Some-clause-stands
returns-in-Some-clause-stands g c = λ e stands. returns-in-Some-clause-row g c ∙ contents_law _ e c.args.buf.maker.0 c.args.buf.n stands

pub returns-in-None-clause-row : goal.returns-in-None-clause-row
returns-in-None-clause-row g c =
    let found : lookup (same_name (c.args.buf.maker.0, c.args.buf.n)) c.self.inside.copies.entries ≡ None = sym c.in-None.ensures in
    rw (row_is listed c.self.inside.copies.entries (named c.self.inside.pins) _ c.args.buf.maker.0 c.args.buf.n c.self.view_is, found)
    (pin_items (c.args.buf.maker.0, c.args.buf.n) (lookup (same_name (c.args.buf.maker.0, c.args.buf.n)) (named c.self.inside.pins)))

pub returns-in-None-clause-stands : goal.returns-in-None-clause-stands
returns-in-None-clause-stands g c = λ e stands. returns-in-None-clause-row g c ∙ contents_law _ e c.args.buf.maker.0 c.args.buf.n stands

pub returns-in-Some-clause-length : goal.returns-in-Some-clause-length
returns-in-Some-clause-length g c =
    ap length (returns-in-Some-clause-row g c) ∙ sym (long_law listed c.self.inside.copies.entries (named c.self.inside.pins) _ c.args.buf.maker.0 c.args.buf.n
    c.self.view_is)

pub returns-in-None-clause-length : goal.returns-in-None-clause-length
returns-in-None-clause-length g c =
    ap length (returns-in-None-clause-row g c) ∙ sym (long_law listed c.self.inside.copies.entries (named c.self.inside.pins) _ c.args.buf.maker.0 c.args.buf.n
    c.self.view_is)
