use Rattle.std.proofs.Common.{rules, ◌≡◌, refl, sym}
use Rattle.jg_guard.specs.Guard.{Takes, next_entry}
use Rattle.jg_explain.proofs.Fronts.{one_more_of}
use Rattle.jg_guard_advice.proofs.replaying.advise_on_entry.Goals as goal

pub returns-in-Ok-take_call-clause-front : goal.returns-in-Ok-take_call-clause-front
returns-in-Ok-take_call-clause-front g c =
    let old = c.args.again.now in
    let new = c.take_call.new.guard in
    let copied : c.in-Ok.call ≡ c.in-Some.entry.now.call = search rules in
    let outcome = (next_entry old c.tid.result c.env.result c.in-Ok.call).outcome in
    let takes : Takes old new c.tid.result c.env.result c.in-Ok.call outcome = record {
      setup = c.take_call.ensures.setup;
      limit = c.take_call.ensures.limit;
      journal = c.in-Ok-take_call.ensures.took.journal;
      answered = refl;
      legal = c.take_call.ensures.legal c.journal_len-same.ensures.legal;
    } in
    one_more_of c.args.guard.now old new c.args.place c.in-Some.entry.now c.tid.result c.env.result c.in-Ok.call outcome c.tid.ensures c.env.ensures copied
    c.journal_len-legal.ensures.legal
    c.requires.front (sym c.in-Some.ensures.entry) takes

pub returns-in-Ok-take_call-clause-logged : goal.returns-in-Ok-take_call-clause-logged
returns-in-Ok-take_call-clause-logged g c = λ logged.
    c.take_call.ensures.follows c.args.advising.now (record { logged = logged; most = refl; all = refl })
