use Rattle.std.proofs.Common.{◌≡◌, ◌++◌, length, List}
use Rattle.std.specs.Prelude.{reverse}
use Rattle.jg_advice.specs.declared.advice.Advice.{Advice}
use Rattle.jg_advice.specs.Noted.{IsNoted}
use Rattle.jg_advice.proofs.log.note_all.Given as goal

-- with those that are left all are noted
abbrev pub invariant-loop-advice : goal.invariant-loop-advice
invariant-loop-advice l = ((older : List Advice) → IsNoted l.initial.advices older
    → (done : List Advice) × IsNoted l.advices done × (reverse l.rest ++ done ≡ reverse l.given ++ older))
    × (l.advices.all ≡ l.initial.advices.all)

abbrev pub decreases-loop-advice : goal.decreases-loop-advice
decreases-loop-advice l = length l.rest
