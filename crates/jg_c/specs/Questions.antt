-- A question as C holds it, and what it is answered.
use Rattle.std.specs.Prelude.{ℕ, ℤ, pos, ◌+◌, ◌≡◌, ◌⊎◌, List, [], ◌∷◌, Option, Some, None, Result, Ok, Err, if◌then◌else◌, nat_eq, nat_lt}
use Rattle.std.specs.Option.{option_map, option_and_then}
use Rattle.jg_words.specs.declared.thread.Tid.{Tid}
use Rattle.jg_words.specs.declared.thread.EnvId.{EnvId}
use Rattle.jg_words.specs.Rule.{number_of}
use Rattle.jg_judge.specs.declared.argument.Argument.{Argument}
use Rattle.jg_judge.specs.declared.argument.Bounds.{Bounds}
use Rattle.jg_witness.specs.declared.operand.Operand.{Operand}
use Rattle.jg_core.specs.declared.fact.Fact.{Fact}
use Rattle.jg_core.specs.declared.asking.Answer.{Answer}
use Rattle.jg_core.specs.declared.asking.Answer.TheVariants.{Passed, Denied, NoFunction, Misfit}
use Rattle.jg_core.specs.declared.asking.Ended.{Ended}
use Rattle.jg_core.specs.declared.kernel.Untold.{Untold}
use Rattle.jg_core.specs.Asking.{asked, EndedAs, RefusesEnding}
use Rattle.jg_core.specs.Facts.{parts_of}
use Rattle.jg_core.specs.Kernel.{CoreStands, CoreState}
use Rattle.jg_c.specs.declared.question.Head.{Head}
use Rattle.jg_c.specs.declared.value.JgValue.{JgValue}
use Rattle.jg_c.specs.declared.verdict.JgVerdict.{JgVerdict}
use Rattle.jg_c.specs.Cores.{CoreHeld}
use Rattle.jg_c.specs.Errors as errors
use Rattle.jg_c.specs.Given.{of_given}
use Rattle.jg_c.specs.Operands.{operand_of, word_operand_of}
use Rattle.jg_c.specs.Tickets.{ticket_of}
use Rattle.jg_c.specs.Values.{environment_of, thread_of}

-- ---- what is asked

-- how many items a list may have: of NewString as many as a jsize counts, and of other functions as many as are told
abbrev pub most_items : ℕ → ℕ
most_items function = if nat_eq function 161 then 2147483647 else 18446744073709551615

-- the operands that the values are, if each is read as one
abbrev pub operands_of : {A : Type 0} → (JgValue → Option A) → List JgValue → Option (List A)
operands_of read [] = Some []
operands_of read (v ∷ vs) =
    option_and_then (λ x. option_map (λ xs. x ∷ xs) (operands_of read vs)) (read v)

-- the place in the table, of which there are at most 65,536
abbrev pub place_of : ℕ → Option ℕ
place_of n = if nat_lt n 65536 then Some n else None

abbrev by_place : {A : Type 0} → Tid → Option EnvId → List A → Option ℕ → Result (Head × List A) ℤ
by_place t env xs None = Err errors.no_function
by_place t env xs (Some n) = Ok (record { tid = t; env = env; function = n }, xs)

abbrev by_operands : {A : Type 0} → Tid → Option EnvId → ℕ → Option (List A) → Result (Head × List A) ℤ
by_operands t env function None = Err errors.bad_value
by_operands t env function (Some xs) = by_place t env xs (place_of function)

abbrev by_env : {A : Type 0} → Tid → Option (Option EnvId) → ℕ → Option (List A) → Result (Head × List A) ℤ
by_env t None function xs = Err errors.bad_value
by_env t (Some env) function xs = by_operands t env function xs

abbrev by_thread : {A : Type 0} → Option Tid → JgValue → ℕ → Option (List A) → Result (Head × List A) ℤ
by_thread None env function xs = Err errors.bad_thread
by_thread (Some t) env function xs = by_env t (environment_of env) function xs

-- the question, or the error of the numbers that state none: of the thread, then of the environment, then of the
-- operands, then of the function; each operand is read so
abbrev pub question_read : {A : Type 0} → (ℕ → JgValue → Option A) → ℕ → JgValue → ℕ → List JgValue
    → Result (Head × List A) ℤ
question_read read thread env function vs =
    by_thread (thread_of thread) env function (operands_of (read (most_items function)) vs)

-- a question to a core, and to a witness
abbrev pub question_of : ℕ → JgValue → ℕ → List JgValue → Result (Head × List Argument) ℤ
question_of thread env function vs = question_read operand_of thread env function vs

abbrev pub word_question_of : ℕ → JgValue → ℕ → List JgValue → Result (Head × List Operand) ℤ
word_question_of thread env function vs = question_read word_operand_of thread env function vs

-- ---- what it is answered

-- the place of an operand, counted from 1, or 0 for none; a place that 32 bits don't hold is none
abbrev pub counted : Option ℕ → ℕ
counted None = 0
counted (Some n) = if nat_lt n 4294967295 then n + 1 else 0

-- the answer as a verdict and a number
abbrev pub IsAnswered : Answer → JgVerdict → ℤ → Type 0
IsAnswered (Passed ticket) v n =
    (n ≡ errors.done) × (v.rule ≡ 0) × (v.operand ≡ 0) × (ticket_of v.ticket ≡ Some ticket)
IsAnswered (Denied rule place ticket) v n =
    (n ≡ errors.done) × (v.rule ≡ number_of rule) × (v.operand ≡ counted place) × (ticket_of v.ticket ≡ Some ticket)
IsAnswered NoFunction v n = n ≡ errors.no_function
IsAnswered Misfit v n = n ≡ errors.misfit

-- the question was asked of the core, after what it stands for and by its bounds
abbrev pub Asks : CoreHeld → Result (Head × List Argument) ℤ → JgVerdict → ℤ → Type 0
Asks a (Err why) v n = n ≡ why
Asks a (Ok q) v n = (w : List Fact) → CoreStands a.core w
    → IsAnswered (asked a.bounds a.core.setup (parts_of w) q.0.tid q.0.env q.0.function q.1) v n

-- the answer as a number alone: of the rule that is broken first, 0 where none is
abbrev pub ruled : Answer → ℤ
ruled (Passed ticket) = errors.done
ruled (Denied rule place ticket) = pos (number_of rule)
ruled NoFunction = errors.no_function
ruled Misfit = errors.misfit

-- the question was asked of the core as by Asks, and this is the number of its rule
abbrev pub May : CoreHeld → Result (Head × List Argument) ℤ → ℤ → Type 0
May a (Err why) n = n ≡ why
May a (Ok q) n = (w : List Fact) → CoreStands a.core w
    → n ≡ ruled (asked a.bounds a.core.setup (parts_of w) q.0.tid q.0.env q.0.function q.1)

-- what it ends was taken, or it was answered otherwise, or it was refused
abbrev pub EndsBy : CoreState → CoreState → Bounds → Head → List Argument → JgVerdict → JgValue → ℤ → Type 0
EndsBy old new bounds head xs v given n =
    ((ended : Ended) × EndedAs old new bounds head.tid head.env head.function xs ended
    × IsAnswered ended.answer v n × (n ≡ errors.done → given ≡ of_given ended.given))
    ⊎ ((why : Untold) × (n ≡ errors.of_untold why)
    × RefusesEnding old bounds head.tid head.env head.function xs why)

abbrev pub Ends : CoreHeld → CoreHeld → Result (Head × List Argument) ℤ → JgVerdict → JgValue → ℤ → Type 0
Ends old new (Err why) v given n = n ≡ why
Ends old new (Ok q) v given n = EndsBy old.core new.core old.bounds q.0 q.1 v given n
