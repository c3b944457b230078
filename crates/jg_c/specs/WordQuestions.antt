-- What a question to a witness is answered.
use Rattle.std.specs.Prelude.{ℤ, ◌≡◌, ◌⊎◌, List, Result, Ok, Err}
use Rattle.jg_judge.specs.declared.argument.Bounds.{Bounds}
use Rattle.jg_core.specs.declared.asking.Ended.{Ended}
use Rattle.jg_core.specs.declared.kernel.Untold.{Untold}
use Rattle.jg_core.specs.Asking.{asked}
use Rattle.jg_core.specs.Facts.{parts_of}
use Rattle.jg_witness.specs.declared.operand.Operand.{Operand}
use Rattle.jg_witness.specs.Events.{Event, facts_of}
use Rattle.jg_witness.specs.Standing.{WitnessState, WitnessStands}
use Rattle.jg_witness.specs.Words.{EndedAs, RefusesEnding, arguments_of}
use Rattle.jg_c.specs.declared.question.Head.{Head}
use Rattle.jg_c.specs.declared.value.JgValue.{JgValue}
use Rattle.jg_c.specs.declared.verdict.JgVerdict.{JgVerdict}
use Rattle.jg_c.specs.Errors as errors
use Rattle.jg_c.specs.Given.{of_given}
use Rattle.jg_c.specs.Questions.{IsAnswered}
use Rattle.jg_c.specs.Witnesses.{WitnessHeld}

-- the question was asked of the witness, after the events that it stands for, each word by what it means then
abbrev pub AsksOfWords : WitnessHeld → Result (Head × List Operand) ℤ → JgVerdict → ℤ → Type 0
AsksOfWords a (Err why) v n = n ≡ why
AsksOfWords a (Ok q) v n = (e : List Event) → WitnessStands a.witness e
    → IsAnswered (asked a.bounds a.witness.core.setup (parts_of (facts_of e)) q.0.tid q.0.env q.0.function
    (arguments_of q.0.tid e q.1)) v n

-- what it ends was taken, or it was answered otherwise, or it was refused
abbrev pub EndsOfWordsBy : WitnessState → WitnessState → Bounds → Head → List Operand → JgVerdict → JgValue → ℤ → Type 0
EndsOfWordsBy old new bounds head xs v given n =
    ((ended : Ended) × EndedAs old new bounds head.tid head.env head.function xs ended
    × IsAnswered ended.answer v n × (n ≡ errors.done → given ≡ of_given ended.given))
    ⊎ ((why : Untold) × (n ≡ errors.of_untold why)
    × RefusesEnding old bounds head.tid head.env head.function xs why)

abbrev pub EndsOfWords : WitnessHeld → WitnessHeld → Result (Head × List Operand) ℤ → JgVerdict → JgValue → ℤ → Type 0
EndsOfWords old new (Err why) v given n = n ≡ why
EndsOfWords old new (Ok q) v given n = EndsOfWordsBy old.witness new.witness old.bounds q.0 q.1 v given n
