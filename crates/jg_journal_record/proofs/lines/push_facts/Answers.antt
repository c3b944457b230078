use Rattle.std.proofs.Common.{List, string_bytes, subst, take, arith}
use Rattle.std.proofs.lemmas.List.{take_all}
use Rattle.jg_core.specs.declared.fact.Fact.{Fact}
use Rattle.jg_journal_record.specs.Lines.{AddsFacts}
use Rattle.jg_journal_record.proofs.Tellings.{all_told}
use Rattle.jg_journal_record.proofs.lines.push_facts.Goals as goal

pub returns : goal.returns
returns c =
    let start = string_bytes c.args.out.now in
    let told = take c.loop-fact.fact-index c.args.facts.now in
    subst (λ (facts : List Fact). AddsFacts c.args.setup.now c.args.by facts start (string_bytes c.flush_gone.new.out))
    (take_all c.loop-fact.fact-index c.args.facts.now (omega arith))
    (all_told c.args.setup.now c.args.by start told (string_bytes c.flush_gone.new.out) (c.in_ok-flush_gone.ensures.told start told c.loop-fact.invariant))
