use Rattle.std.proofs.Common.{◌≡◌, ◌<◌, ◌∙◌, ap, sym, subst, ℕ, rules}
use Rattle.std.specs.Prelude.{List, ℤ, slice_index_or, pos}
use Rattle.jg_table_buffers.proofs.Lookups.{content_law}
use Rattle.jg_table_buffers.proofs.buffers.Buffers+A.read.Goals as goal
use mir.Syntax.{w64}
use mir.Val.{to_z, of_z}

-- the item is within what is lent
pub item_at-requires : goal.item_at-requires
item_at-requires g c =
    let P : ℕ → Type 0 = λ n. c.args.index < n in
    subst P (sym c.commit.ensures.length) c.requires

pub returns-clause-stands : goal.returns-clause-stands
returns-clause-stands g c = λ e stands.
    let plain : to_z w64 (of_z w64 c.item_at.result) ≡ c.item_at.result = search rules in
    let lent : List ℤ → ℤ = λ l. slice_index_or l c.args.index (pos 0) in
    plain ∙ (c.item_at.ensures ∙ (ap lent c.commit.ensures.row ∙ content_law _ e c.args.buf.maker.0 c.args.buf.n c.args.index stands c.requires))
