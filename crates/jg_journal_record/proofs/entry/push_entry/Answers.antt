use Rattle.std.proofs.Common.{◌∙◌, string_bytes}
use Rattle.jg_rules.specs.Effects.{parts}
use Rattle.jg_explain.specs.Explained.{as_it_was}
use Rattle.jg_journal_record.proofs.Entries.{entry_so}
use Rattle.jg_journal_record.proofs.entry.push_entry.Goals as goal

pub returns-clause-entry : goal.returns-clause-entry
returns-clause-entry g c =
    let again = c.args.again.now in
    entry_so c.args.guard.now.setup (as_it_was c.args.place c.args.guard.now.journal) again.setup c.view.result.setup.now c.view-2.result.setup.now
    again.journal c.args.entry.now
    c.ask.new.self.foreseen (string_bytes c.args.out.now) (string_bytes c.ask.new.out) (string_bytes c.tell.new.out) c.requires.front.setup
    c.requires.front.journal c.view.ensures.setup
    (c.view-2.ensures.setup ∙ c.in-Ok.ensures.setup) (c.in_ok-ask.ensures.asked (parts again.setup again.journal) c.view.ensures.stands)
    (c.in_ok-ask.ensures.foreseen (parts again.setup again.journal) c.view.ensures.stands) c.in_ok-tell.ensures
