use Rattle.std.proofs.Common.{sym}
use Rattle.jg_table_heap.specs.Reading.{natural}
use Rattle.jg_rules.specs.Names.{the_object}
use Rattle.jg_entry_facts.proofs.Made.{writes_make_none}
use Rattle.jg_entry_facts.proofs.own.own_of_arrays.Goals as goal

pub returns-in-SetArrayRegion : goal.returns-in-SetArrayRegion
returns-in-SetArrayRegion c = λ p t.
    rw c.in-SetArrayRegion.is (sym (writes_make_none (the_object p t c.in-SetArrayRegion.array) (natural c.in-SetArrayRegion.start) c.in-SetArrayRegion.values))
