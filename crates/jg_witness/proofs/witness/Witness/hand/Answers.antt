use Rattle.std.proofs.Common.{◌≡◌, ◌∷◌, sym, subst}
use Rattle.jg_words.specs.declared.reference.Ref.{Ref}
use Rattle.jg_words.specs.declared.reference.Ref.TheVariants.{To}
use Rattle.jg_rules.specs.Names.{next_ref}
use Rattle.jg_core.specs.declared.fact.Fact.{Fact}
use Rattle.jg_core.specs.declared.fact.Fact.TheVariants.{Hand}
use Rattle.jg_core.specs.Facts.{on, parts_of}
use Rattle.jg_witness.specs.Events.{Handed, IsCounted, Told, facts_of}
use Rattle.jg_witness.specs.Standing.{WitnessStands, WitnessState, both}
use Rattle.jg_witness.proofs.Counted.{handed_counts}
use Rattle.jg_witness.proofs.Returning.{follows}
use Rattle.jg_witness.proofs.Standing.{told_stands}
use Rattle.jg_witness.proofs.witness.Witness.hand.Goals as goal

pub returns-in-Ok-clause-ok : goal.returns-in-Ok-clause-ok
returns-in-Ok-clause-ok g c = λ e stands.
    let start = c.in_ok-make_room_for.ensures.ok e (subst (λ (old : WitnessState). WitnessStands old e) (sym c.self.view_is) stands) in
    let x : Fact = Hand c.args.tid c.args.kind c.args.object in
    let p = parts_of (facts_of e) in
    let told = told_stands c.make_room_for.new.core c.hand.new.self c.make_room_for.new.names.entries x e start
    (c.in-Ok.ensures.ok.stands (facts_of e) start.core) in
    let is : c.in-Ok.name ≡ To c.args.kind c.args.tid (next_ref p c.args.tid.0) = c.in-Ok.ensures.next (facts_of e) start.core in
    c.put.ensures.stands (Told x ∷ e) told
    (subst (λ (name : Ref). IsCounted (on x p) name) (sym is) (handed_counts c.args.tid.0 c.args.kind c.args.object.0 p))

pub invariant_of-self-in-Ok : goal.invariant_of-self-in-Ok
invariant_of-self-in-Ok g c =
    follows (both c.self.inside.core c.self.inside.names.entries) (both c.put.new.core c.put.new.names.entries)
    (λ e. Handed c.args.word c.in-Ok.name ∷ Told (Hand c.args.tid c.args.kind c.args.object) ∷ e)
    (λ e stands. returns-in-Ok-clause-ok g c e (subst (λ (old : WitnessState). WitnessStands old e) c.self.view_is stands)) c.self.invariant
