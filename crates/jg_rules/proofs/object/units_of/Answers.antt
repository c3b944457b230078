use Rattle.std.proofs.Common.{ap, sym}
use Rattle.jg_table_heap.specs.Making.{units_in}
use Rattle.jg_rules.proofs.Unmade.{making_at-past}
use Rattle.jg_rules.proofs.object.units_of.Goals as goal

-- past the end the definition tells of a class object, too
pub returns-else-object-len-clause-told : goal.returns-else-object-len-clause-told
returns-else-object-len-clause-told g c = λ p stands.
    sym (ap units_in (making_at-past _ _ p c.args.object.0 c.len.result stands (c.len.ensures.history p.heap stands.heap.stands) c.if-object-len.false))
