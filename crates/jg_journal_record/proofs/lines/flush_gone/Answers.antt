use Rattle.std.proofs.Common.{refl, string_bytes}
use Rattle.jg_record.specs.declared.event.Event.TheVariants.{Gone as AreGone}
use Rattle.jg_journal_record.specs.Lines.{Line}
use Rattle.jg_journal_record.proofs.Tellings.{gone_told}
use Rattle.jg_journal_record.proofs.lines.flush_gone.Goals as goal

pub returns-clause-told : goal.returns-clause-told
returns-clause-told c = λ start told telling.
    let listed = c.args.lists.now.objects.items in
    let line : Line = record { by = c.args.by; event = AreGone; arguments = c.args.lists.now.arguments.items; gone = listed } in
    gone_told c.args.setup.now c.args.by start told listed (string_bytes c.args.out.now) (string_bytes c.push_line.new.out) line telling
    c.in_ok-push_line.ensures refl refl refl
