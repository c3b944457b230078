use Rattle.std.proofs.Common.{rules, ◌≡◌}
use Rattle.std.proofs.lemmas.Fn.{always_returns_same}
use Rattle.jg_table_buffers.specs.Ordered.{buffer_key}
use Rattle.jg_table_buffers.proofs.visits.sort_names.Goals as goal

pub returns-clause-ascends : goal.returns-clause-ascends
returns-clause-ascends g c =
    c.sort_unstable_by_key.ensures.sorted buffer_key (always_returns_same _ (λ a r. r ≡ buffer_key a.0.now) _ (λ a r f' k. search rules))
