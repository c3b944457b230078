use Rattle.std.proofs.Common.{ap, ◌∙◌, ◌+◌, ◌≡◌, ℕ, List, length, length-append, take, get_or, arith}
use Rattle.std.specs.List.{flat_map}
use Rattle.std.proofs.lemmas.List.{take_more}
use Rattle.jg_table_heap.specs.Spelling.{spelling}
use Rattle.jg_table_heap.proofs.Whole.{spelling-push}
use Rattle.jg_table_heap.proofs.mutf8.spell.mutf8_len.Goals as goal

pub loop-unit-preserved : goal.loop-unit-preserved
loop-unit-preserved c =
    let units = c.args.units.now in
    let i = c.loop-unit.unit-index in
    let more : length (flat_map spelling (take (i + 1) units)) ≡ length (flat_map spelling (take i units)) + length (spelling (get_or units i 0)) =
    ap (λ (xs : List ℕ). length (flat_map spelling xs)) (take_more units i 0 c.loop-unit-test.true)
    ∙ ap length (spelling-push (take i units) (get_or units i 0))
    ∙ length-append (flat_map spelling (take i units)) (spelling (get_or units i 0)) in
    record { total = omega arith; small = omega arith }
