use Rattle.std.proofs.Common.{refl, string_bytes}
use Rattle.jg_record.specs.declared.event.Event.TheVariants.{Fact as Told}
use Rattle.jg_journal_record.specs.Lines.{Line}
use Rattle.jg_journal_record.proofs.Tellings.{fact_told}
use Rattle.jg_journal_record.proofs.lines.push_fact.Goals as goal

pub returns-in_ok-push_line-in_default : goal.returns-in_ok-push_line-in_default
returns-in_ok-push_line-in_default c = λ start told telling.
    let lists = c.flush_gone.new.lists in
    let line : Line = record { by = c.args.by; event = Told c.args.fact; arguments = lists.arguments.items; gone = lists.objects.items } in
    rw c.in_ok-flush_gone-in_default.ensures.listed
    (fact_told c.args.setup.now c.args.by start told (string_bytes c.flush_gone.new.out) (string_bytes c.push_line.new.out) line c.args.fact
    (c.in_ok-flush_gone-in_default.ensures.told start told telling) c.in_ok-push_line-in_default.ensures refl refl)
