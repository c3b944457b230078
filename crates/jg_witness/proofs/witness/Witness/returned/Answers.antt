use Rattle.std.proofs.Common.{sym, subst}
use Rattle.jg_witness.specs.Standing.{WitnessStands, WitnessState, both}
use Rattle.jg_witness.specs.Words.{Returned, handed_on, told_on}
use Rattle.jg_witness.proofs.Returning.{follows, returned_stands, stays_both}
use Rattle.jg_witness.proofs.witness.Witness.returned.Goals as goal

pub returns-in-Ok-clause-ok : goal.returns-in-Ok-clause-ok
returns-in-Ok-clause-ok g c =
    subst (λ (old : WitnessState). Returned old (both c.put_given.new.core c.put_given.new.names.entries) c.args.ticket c.args.says c.args.word c.in-Ok.given)
    c.self.view_is
    (returned_stands c.self.inside.core c.make_room_unless_null.new.core c.returned.new.self c.put_given.new.core c.self.inside.names.entries
    c.make_room_unless_null.new.names.entries c.put_given.new.names.entries c.args.ticket c.args.says c.args.word c.in-Ok.given
    c.in_ok-make_room_unless_null.ensures.core c.in_ok-make_room_unless_null.ensures.ok c.in-Ok.ensures.ok c.put_given.ensures.stands)

pub returns-in-Err-clause-err : goal.returns-in-Err-clause-err
returns-in-Err-clause-err g c = λ e stands.
    let start = c.in_ok-make_room_unless_null.ensures.ok e (subst (λ (old : WitnessState). WitnessStands old e) (sym c.self.view_is) stands) in
    c.lapse.ensures.stands e
    (stays_both c.make_room_unless_null.new.core c.returned.new.self c.make_room_unless_null.new.names.entries c.in-Err.ensures.err e start)

pub invariant_of-self-in-Ok : goal.invariant_of-self-in-Ok
invariant_of-self-in-Ok g c =
    let r = returns-in-Ok-clause-ok g c in
    follows (both c.self.inside.core c.self.inside.names.entries) (both c.put_given.new.core c.put_given.new.names.entries)
    (λ e. handed_on c.args.word c.in-Ok.given (told_on r.fact e))
    (λ e stands. r.stands e (subst (λ (old : WitnessState). WitnessStands old e) c.self.view_is stands)) c.self.invariant
