use Rattle.std.proofs.Common.{◌≡◌, ◌++◌, length, List}
use Rattle.std.specs.Prelude.{string_bytes}
use Rattle.jg_advice.specs.declared.advice.Advice.{Advice}
use Rattle.jg_advice.specs.Noted.{Counts, counts_of}
use Rattle.jg_advice.proofs.report.push_all_counts.Given as goal

-- with the kinds that are left the text is whole
abbrev pub invariant-loop-kind : goal.invariant-loop-kind
invariant-loop-kind l = (advices : List Advice) → Counts l.counts advices
    → string_bytes l.out ++ counts_of advices l.rest ≡ string_bytes l.initial.out ++ counts_of advices l.kinds

abbrev pub decreases-loop-kind : goal.decreases-loop-kind
decreases-loop-kind l = length l.rest
