use Rattle.std.proofs.Common.{◌<◌, ◌-◌, length}
use Rattle.std.proofs.lemmas.List.Elements.{All-take}
use Rattle.jg_lists.specs.Marks.{but_last}
use Rattle.jg_lists.proofs.Marks.{unset, at_most}
use Rattle.jg_lists.proofs.object_marks.ObjectMarks.unset_all.Goals as goal

pub invariant_of-self : goal.invariant_of-self
invariant_of-self g c = at_most c.next_turn-turn.new.turns.items c.next_turn-turn.result (c.next_turn-turn.ensures.past c.self.invariant)

pub returns-clause-unset : goal.returns-clause-unset
returns-clause-unset g c o =
    unset (but_last c.next_turn-turn.new.turns.items) c.next_turn-turn.result o
    (All-take (λ t. t < c.next_turn-turn.result) (length c.next_turn-turn.new.turns.items - 1) c.next_turn-turn.new.turns.items
    (c.next_turn-turn.ensures.past c.self.invariant))
