use Rattle.std.proofs.Common.{◌∙◌, ap, sym}
use Rattle.std.specs.Option.{option_copied}
use Rattle.jg_entry_facts.proofs.Passed.{passed_so}
use Rattle.jg_entry_facts.proofs.foreseen.Foreseen.push_facts.Goals as goal

pub returns-in_ok-push_warning-in-Some : goal.returns-in_ok-push_warning-in-Some
returns-in_ok-push_warning-in-Some g c = λ s p foreseen.
    passed_so s p c.args.entry.now c.args.self.now c.call-call.result.now c.tid-tid.result c.object-object.result c.in-Some.value.now c.warned.result
    c.deref.result.now
    c.args.out.now.items c.push_own_of.new.out.items c.push_answer.new.out.items c.push_warning.new.out.items
    foreseen (sym c.value.ensures ∙ ap option_copied c.in-Some.is) c.call-call.ensures c.tid-tid.ensures c.object-object.ensures c.warned.ensures
    c.deref.ensures.value
    c.in_ok-push_own_of-in-Some.ensures c.in_ok-push_answer-in-Some.ensures c.in_ok-push_warning-in-Some.ensures
