use Rattle.std.proofs.Common.{◌≡◌, ℕ, false, take}
use Rattle.std.specs.Prelude.{◌==◌, ◌&&◌, not, slice_index_or}
use Rattle.std.specs.List.{list_any}
use Rattle.jg_table_heap.proofs.collect.let_all_go.Given as goal

-- the objects so far are let go
abbrev pub invariant-loop-object : goal.invariant-loop-object
invariant-loop-object l = (o : ℕ) → slice_index_or l.there o false
    ≡ (slice_index_or l.initial.there o false && not (list_any (λ p. p == o) (take l.object-index l.unheld)))
