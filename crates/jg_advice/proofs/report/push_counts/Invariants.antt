use Rattle.std.proofs.Common.{◌≡◌, ◌++◌, List}
use Rattle.std.specs.Prelude.{string_bytes}
use Rattle.jg_advice.specs.declared.advice.Advice.{Advice}
use Rattle.jg_advice.specs.Noted.{Counts, counts_below}
use Rattle.jg_advice.proofs.report.push_counts.Given as goal

-- the functions before this one are counted
abbrev pub invariant-loop-function : goal.invariant-loop-function
invariant-loop-function l = (advices : List Advice) → Counts l.counts advices
    → string_bytes l.out ≡ string_bytes l.initial.out ++ counts_below advices l.kind l.function
