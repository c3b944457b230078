use Rattle.jg_record.specs.declared.event.Event.TheVariants.{Question}
use Rattle.jg_journal_record.specs.Lines.{Line}
use Rattle.jg_journal_record.proofs.Asked.{asked_so}
use Rattle.jg_journal_record.proofs.entry.Room.ask.Goals as goal

pub returns-in-Ok-foresee-clause-asked : goal.returns-in-Ok-foresee-clause-asked
returns-in-Ok-foresee-clause-asked c = λ p stands.
    let gone = c.args.self.now.lists.objects.items in
    let arguments = c.push_arguments.new.out.items in
    let line : Line = record { by = c.tid-tid.result; event = Question c.tid-tid.result c.env.result c.function_of.result; arguments = arguments; gone = gone }
    in (
      line,
      asked_so c.args.view.now.setup.now p c.args.entry.now c.tid-tid.result c.env.result c.call-call.result.now c.function_of.result c.clear.new.self.items
          arguments gone
          c.tid-tid.ensures c.env.ensures c.call-call.ensures c.function_of.ensures c.clear.ensures.items (c.in-Ok.ensures p stands),
      c.in_ok-push_line.ensures,
    )
