use Rattle.std.proofs.Common.{◌≡◌, ◌∷◌, ◌∙◌, true, sym, subst}
use Rattle.jg_core.specs.Facts.{is_in_being, parts_of}
use Rattle.jg_witness.specs.Events.{Handed, facts_of}
use Rattle.jg_witness.specs.Standing.{WitnessStands, WitnessState, both}
use Rattle.jg_witness.proofs.Alive.{being_counted}
use Rattle.jg_witness.proofs.Returning.{follows}
use Rattle.jg_witness.proofs.witness.Witness.handed.Goals as goal

pub returns-clause-ok : goal.returns-clause-ok
returns-clause-ok g c = λ e stands.
    let w = facts_of e in
    let start = subst (λ (old : WitnessState). WitnessStands old e) (sym c.self.view_is) stands in
    let is : is_in_being (parts_of w) c.args.name ≡ true =
    sym (c.is_in_being.ensures (parts_of w) (c.view.ensures.tells w start.core)) ∙ c.if-not-is_in_being.false in
    c.put.ensures.stands e (c.in_ok-make_room_for.ensures.ok e start) (being_counted c.self.inside.core.setup w c.args.name start.core.history is)

pub invariant_of-self-2 : goal.invariant_of-self-2
invariant_of-self-2 g c =
    follows (both c.self.inside.core c.self.inside.names.entries) (both c.put.new.core c.put.new.names.entries)
    (λ e. Handed c.args.word c.args.name ∷ e)
    (λ e stands. returns-clause-ok g c e (subst (λ (old : WitnessState). WitnessStands old e) c.self.view_is stands)) c.self.invariant
