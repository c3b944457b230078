use Rattle.std.proofs.Common.{arith, ◌<◌, ◌-◌, length}
use Rattle.std.proofs.lemmas.List.Elements.{All-take}
use Rattle.jg_lists.specs.Marks.{but_last}
use Rattle.jg_lists.proofs.Marks.{none_set, unset, at_most, length-but_last}
use Rattle.jg_lists.proofs.object_marks.ObjectMarks.start.Goals as goal

pub invariant_of-self : goal.invariant_of-self
invariant_of-self g c =
    at_most c.widen.new.turns.items c.next_turn-turn.result
    (c.widen.ensures.past c.next_turn-turn.result c.next_turn-turn.ensures.above (c.next_turn-turn.ensures.past c.self.invariant))

pub invariant_of-self-2 : goal.invariant_of-self-2
invariant_of-self-2 g c =
    at_most c.widen.new.turns.items c.next_turn-turn.result
    (c.widen.ensures.past c.next_turn-turn.result c.next_turn-turn.ensures.above (c.next_turn-turn.ensures.past c.self.invariant))

pub returns-in_err-widen-clause-unset : goal.returns-in_err-widen-clause-unset
returns-in_err-widen-clause-unset g c o =
    unset (but_last c.widen.new.turns.items) c.next_turn-turn.result o
    (All-take (λ t. t < c.next_turn-turn.result) (length c.widen.new.turns.items - 1) c.widen.new.turns.items
    (c.widen.ensures.past c.next_turn-turn.result c.next_turn-turn.ensures.above (c.next_turn-turn.ensures.past c.self.invariant)))

pub returns-clause-unset : goal.returns-clause-unset
returns-clause-unset g c o =
    unset (but_last c.widen.new.turns.items) c.next_turn-turn.result o
    (All-take (λ t. t < c.next_turn-turn.result) (length c.widen.new.turns.items - 1) c.widen.new.turns.items
    (c.widen.ensures.past c.next_turn-turn.result c.next_turn-turn.ensures.above (c.next_turn-turn.ensures.past c.self.invariant)))

pub returns-clause-made : goal.returns-clause-made
returns-clause-made g c o below =
    none_set (but_last c.widen.new.turns.items) c.next_turn-turn.result o
    (All-take (λ t. t < c.next_turn-turn.result) (length c.widen.new.turns.items - 1) c.widen.new.turns.items
    (c.widen.ensures.past c.next_turn-turn.result c.next_turn-turn.ensures.above (c.next_turn-turn.ensures.past c.self.invariant)))
    (omega (arith, below, c.in_ok-widen.ensures.ok, length-but_last c.widen.new.turns.items))
