-- What other crates rest on: each is a law of specs/Laws.
use Rattle.jg_table_globals.specs.Laws.{HoldsMeans, NewNumberIsAbove}
use Rattle.jg_table_globals.proofs.Ended.{new_number}
use Rattle.jg_table_globals.proofs.Lookups.{was_made, has_reference}
pub use Rattle.jg_table_globals.proofs.Steps.{cleared_by, strong-clear, weak_target-clear}

pub holds_law : HoldsMeans
holds_law e o = (
  (λ is. let found = has_reference e e o is in (found.0, found.1.0, found.1.1)),
  (λ some. was_made e e some.0 some.1 o some.2 some.2),
)

pub above_law : NewNumberIsAbove
above_law rows e maker n stands below = new_number rows e maker n stands below
