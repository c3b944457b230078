use Rattle.std.proofs.lemmas.List.{length-map}
use Rattle.std.specs.Prelude.{IfSome}
use Rattle.std.proofs.Common.{map, arith, ℕ, ◌≡◌, ◌+◌, ◌<◌, ◌≤◌, length, subst}
use Rattle.jg_table_heap.proofs.Next.{next_found, next_only, next_len, next_none}
use Rattle.jg_table_heap.proofs.mutf8.read.next_unit.Goals as goal

pub returns-clause-found : goal.returns-clause-found
returns-clause-found g c =
    next_found (map g.I.MaybeByte.number c.args.items.now) c.args.at c.byte_at.result c.byte_at-2.result c.byte_at-3.result c.unit_at.result c.byte_at.ensures
    c.byte_at-2.ensures c.byte_at-3.ensures c.unit_at.ensures.found

pub returns-clause-only : goal.returns-clause-only
returns-clause-only g c =
    next_only (map g.I.MaybeByte.number c.args.items.now) c.args.at c.byte_at.result c.byte_at-2.result c.byte_at-3.result c.unit_at.result c.byte_at.ensures
    c.byte_at-2.ensures
    c.byte_at-3.ensures c.unit_at.ensures.found

pub returns-clause-len : goal.returns-clause-len
returns-clause-len g c =
    let same : length (map g.I.MaybeByte.number c.args.items.now) ≡ length c.args.items.now = length-map c.args.items.now g.I.MaybeByte.number in
    let inside : c.args.at < length (map g.I.MaybeByte.number c.args.items.now) = omega (arith, c.requires.inside) in
    let P : ℕ → Type 0 = λ n. IfSome c.unit_at.result (λ unit. (0 < unit.1) × (c.args.at + unit.1 ≤ n)) in
    subst P same (next_len (map g.I.MaybeByte.number c.args.items.now) c.args.at c.byte_at.result c.byte_at-2.result c.byte_at-3.result c.unit_at.result
    c.byte_at.ensures c.byte_at-2.ensures
    c.byte_at-3.ensures inside c.unit_at.ensures.found)

pub returns-clause-none : goal.returns-clause-none
returns-clause-none g c =
    next_none (map g.I.MaybeByte.number c.args.items.now) c.args.at c.byte_at.result c.byte_at-2.result c.byte_at-3.result c.unit_at.result c.byte_at.ensures
    c.byte_at-2.ensures
    c.byte_at-3.ensures c.unit_at.ensures.none
