-- What the whole set of tables says of those that hold objects.
use Rattle.std.proofs.Common.{ℕ, List}
use Rattle.jg_table_heap.specs.History.{Event}
use Rattle.jg_policy.specs.Stated.{StatedSetup}
use Rattle.jg_rules.specs.Parts.{HoldersStand, Parts, RowsBeside, StandBeside}

pub holders_stand : {S : Type 0} (Tells : S → ℕ → List Event → Type 0) (s : StatedSetup) (rows : RowsBeside S) (p : Parts)
    → StandBeside Tells s rows p → HoldersStand rows p
holders_stand Tells s rows p stand =
    record { threads = stand.threads; locals = stand.locals; globals = stand.globals; buffers = stand.buffers; monitors = stand.monitors }
