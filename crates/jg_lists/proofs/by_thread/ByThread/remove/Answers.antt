use Rattle.std.specs.Prelude.{◌^◌}
use Rattle.jg_lists.proofs.Values.{removed_below}
use Rattle.jg_lists.proofs.by_thread.ByThread.remove.Goals as goal

pub invariant_of-self : goal.invariant_of-self
invariant_of-self g c = removed_below (2 ^ 16) c.self.inside.numbers c.remove.new.self c.from.result c.remove.result c.self.invariant c.remove.ensures.taken
    c.remove.ensures.none
