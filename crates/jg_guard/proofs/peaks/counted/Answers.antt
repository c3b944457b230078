use Rattle.std.proofs.Common.{rules, ap, ◌∙◌}
use Rattle.jg_table_heap.specs.History.{others_in_being}
use Rattle.std.proofs.Common.{length}
use Rattle.jg_rules.specs.Effects.{parts}
use Rattle.jg_guard.specs.Tables.{rows_of}
use Rattle.jg_guard.proofs.Most.{counted_buffers, counted_refs}
use Rattle.jg_guard.proofs.peaks.counted.Goals as goal

pub returns : goal.returns
returns g c s h stands = record {
  references = counted_refs s (rows_of c.args.tables.now) (parts s h) stands _ (search rules);
  objects = c.in_being.ensures.history (parts s h).heap stands.heap.stands ∙ ap (λ k. length (others_in_being k (parts s h).heap)) stands.heap.classes;
  buffers = counted_buffers s (rows_of c.args.tables.now) (parts s h) stands _ c.len-3.ensures.count;
}
