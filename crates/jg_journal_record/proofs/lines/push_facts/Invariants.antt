use Rattle.std.proofs.Common.{string_bytes, take}
use Rattle.jg_journal_record.specs.Lines.{IsTelling}
use Rattle.jg_journal_record.proofs.lines.push_facts.Given as goal

abbrev pub invariant-loop-fact : goal.invariant-loop-fact
invariant-loop-fact l = IsTelling l.setup l.by (string_bytes l.fn.out) (take l.fact-index l.facts) l.lists.objects.items (string_bytes l.out)
