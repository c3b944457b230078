use Rattle.jg_lists.proofs.object_marks.ObjectMarks.widen.Goals as goal

pub invariant_of-self : goal.invariant_of-self
invariant_of-self g c = c.widen.ensures.within c.self.inside.turn c.self.invariant
