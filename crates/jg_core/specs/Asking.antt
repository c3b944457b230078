-- A question by the table of functions, and what is told once it returned.
use Rattle.std.specs.Prelude.{ℕ, ◌≡◌, ◌↔◌, ◌^◌, Bool, true, false, if◌then◌else◌, slice_get, List, Option, Some, None}
use Rattle.jg_words.specs.declared.thread.Tid.{Tid}
use Rattle.jg_words.specs.declared.thread.EnvId.{EnvId}
use Rattle.jg_words.specs.declared.rule.Rule.{Rule}
use Rattle.jg_words.specs.declared.call.Call.{Call}
use Rattle.jg_words.specs.Call.{fun_of}
use Rattle.jg_policy.specs.Stated.{StatedSetup}
use Rattle.jg_rules.specs.Parts.{Parts}
use Rattle.jg_rules.specs.Names.{object_named}
use Rattle.jg_rules.specs.Rules.{verdict as call_verdict}
use Rattle.jg_rows.specs.Columns.{Columns}
use Rattle.jg_rows.specs.Table.{functions}
use Rattle.jg_judge.specs.declared.argument.Argument.{Argument}
use Rattle.jg_judge.specs.declared.argument.Bounds.{Bounds}
use Rattle.jg_judge.specs.Asked.{first_reference}
use Rattle.jg_judge.specs.Broken.{verdict}
use Rattle.jg_judge.specs.Culprit.{culprit}
use Rattle.jg_judge.specs.Suits.{suits}
use Rattle.jg_judge.specs.Written.{AreStated, arguments_of, row_for, written_bounds}
use Rattle.jg_core.specs.declared.fact.Fact.{Fact}
use Rattle.jg_core.specs.declared.says.Says.{Says}
use Rattle.jg_core.specs.declared.says.Says.TheVariants.{Done, Null, Object}
use Rattle.jg_core.specs.declared.says.Given.{Given}
use Rattle.jg_core.specs.declared.says.Given.TheVariants.{Nothing}
use Rattle.jg_core.specs.declared.kernel.Untold.{Untold}
use Rattle.jg_core.specs.declared.kernel.Untold.TheVariants.{Impossible, Full, NoMemory}
use Rattle.jg_core.specs.declared.expected.Expected.{Expected}
use Rattle.jg_core.specs.declared.expected.Expected.TheVariants.{Attached, Left, Popped}
use Rattle.jg_core.specs.declared.asking.Ticket.{Ticket}
use Rattle.jg_core.specs.declared.asking.Answer.{Answer}
use Rattle.jg_core.specs.declared.asking.Ended.{Ended}
use Rattle.jg_core.specs.declared.asking.Answer.TheVariants.{Passed, Denied, NoFunction, Misfit}
use Rattle.jg_core.specs.Facts.{parts_of}
use Rattle.jg_core.specs.Denied.{doer, denied_as}
use Rattle.jg_core.specs.Expected.{expected_of, told}
use Rattle.jg_core.specs.Implied.{implied, env_given, given_with, told_on, can_imply, implies_making}
use Rattle.jg_core.specs.Kernel.{CoreState, CoreStands, Stayed}

-- what comes of it if it is made all the same
abbrev pub denied_ticket : StatedSetup → Parts → Tid → Option EnvId → Columns → List Argument → Rule → Ticket
denied_ticket s p t env row xs rule = record {
  tid = doer rule t env;
  expected = denied_as rule row.effect (doer rule t env) (expected_of s p (doer rule t env) row row.effect xs) xs;
}

-- a question that breaks no rule, or the first that it breaks, and by which operand
abbrev pub by_verdict : Bounds → StatedSetup → Parts → Tid → Option EnvId → Columns → List Argument → Option Rule
    → Answer
by_verdict bounds s p t env row xs None = Passed (record { tid = t; expected = expected_of s p t row row.effect xs })
by_verdict bounds s p t env row xs (Some rule) =
    Denied rule (culprit bounds s p t.0 rule row.takes xs) (denied_ticket s p t env row xs rule)

abbrev pub by_row : Bounds → StatedSetup → Parts → Tid → Option EnvId → List Argument → Option Columns → Answer
by_row bounds s p t env xs None = NoFunction
by_row bounds s p t env xs (Some row) =
    if suits row.takes xs then by_verdict bounds s p t env row xs (verdict bounds s p t.0 env row xs) else Misfit

abbrev pub asked : Bounds → StatedSetup → Parts → Tid → Option EnvId → ℕ → List Argument → Answer
asked bounds s p t env function xs = by_row bounds s p t env xs (slice_get functions function)

-- an attachment gives the environment, whether or not the thread had it
abbrev pub given_by_expected : StatedSetup → Parts → Tid → Expected → Option Fact → Given
given_by_expected s p t (Attached begun) fact = env_given p t
given_by_expected s p t expected fact = given_with s p fact

abbrev pub given_for : StatedSetup → Parts → Ticket → Option Fact → Given
given_for s p ticket fact = given_by_expected s p ticket.tid ticket.expected fact

-- the machine's answer implied this, if anything; it was told, and that was handed out
pub record Returned (old new : CoreState) (ticket : Ticket) (says : Says) (out : Given) : Type 0 where
  pub setup : new.setup ≡ old.setup
  pub fact : Option Fact
  pub is : told ticket.tid ticket.expected says ≡ Some fact
  pub stands : (w : List Fact) → CoreStands old w → CoreStands new (told_on fact w)
  pub answers : (w : List Fact) → CoreStands old w → out ≡ given_for old.setup (parts_of w) ticket fact

-- why nothing was taken: as of a call, exactly where no machine says so, or what it implies can't be; else exactly
-- where that makes something and the core is full; else where it makes something, for which memory ran out
pub record RefusesReturn (c : CoreState) (ticket : Ticket) (says : Says) (why : Untold) : Type 0 where
  pub impossible : (w : List Fact) → CoreStands c w
      → (why ≡ Impossible) ↔ (can_imply c.setup (parts_of w) (told ticket.tid ticket.expected says) ≡ false)
  pub full : (w : List Fact) → CoreStands c w
      → (why ≡ Full) ↔ ((can_imply c.setup (parts_of w) (told ticket.tid ticket.expected says) ≡ true)
      × (implies_making (told ticket.tid ticket.expected says) ≡ true) × (c.made ≡ 2 ^ 60))
  pub wants : why ≡ NoMemory → implies_making (told ticket.tid ticket.expected says) ≡ true

-- ---- a call that ends something

abbrev pub kept : Option ℕ → Says
kept None = Null
kept (Some o) = Object (record { 0 = o })

abbrev foreseen_by : Expected → Says → Says
foreseen_by Left keeps = keeps
foreseen_by Popped keeps = keeps
foreseen_by expected keeps = Done

-- what the machine is going to say of it: a frame that is popped and an activation that ends keep an object
abbrev pub foreseen : Parts → Ticket → List Argument → Says
foreseen p ticket xs = foreseen_by ticket.expected (kept (object_named p ticket.tid.0 (first_reference xs)))

abbrev pub is_passed : Answer → Bool
is_passed (Passed ticket) = true
is_passed answer = false

-- the question was answered and, where it passed, what it ends was told; else nothing was
pub record EndedAs (old new : CoreState) (bounds : Bounds) (t : Tid) (env : Option EnvId) (function : ℕ)
    (xs : List Argument) (out : Ended) : Type 0 where
  pub answer : (w : List Fact) → CoreStands old w
      → out.answer ≡ asked bounds old.setup (parts_of w) t env function xs
  pub passed : (ticket : Ticket) → out.answer ≡ Passed ticket → (w : List Fact) → CoreStands old w
      → Returned old new ticket (foreseen (parts_of w) ticket xs) out.given
  pub otherwise : is_passed out.answer ≡ false → (Stayed old new) × (out.given ≡ Nothing)

-- the question passed, and what it ends was refused
pub record RefusesEnding (c : CoreState) (bounds : Bounds) (t : Tid) (env : Option EnvId) (function : ℕ)
    (xs : List Argument) (why : Untold) : Type 0 where
  pub ticket : Ticket
  pub passed : (w : List Fact) → CoreStands c w
      → asked bounds c.setup (parts_of w) t env function xs ≡ Passed ticket
  pub refuses : (w : List Fact) → CoreStands c w → RefusesReturn c ticket (foreseen (parts_of w) ticket xs) why

-- what the machine's answer to a call's question implies is what the call implies
-- (proofs/Tied.antt)
abbrev pub ToldAsCalls : Type 0
ToldAsCalls = (s : StatedSetup) (p : Parts) (t : Tid) (call : Call) (says : Says)
    → told t (expected_of s p t (row_for (fun_of call)) (row_for (fun_of call)).effect (arguments_of s p t.0 call)) says
    ≡ implied s p t call says

-- the answer to a call's question, at the place where the table has its function's row, is by the verdict on the call:
-- under the written machine's bounds, where each object is of a class of the setup
-- (proofs/Tied.antt)
abbrev pub AskedAsCalls : Type 0
AskedAsCalls = (s : StatedSetup) (p : Parts) (t : Tid) (env : Option EnvId) (call : Call) (place : ℕ) → AreStated s p
    → slice_get functions place ≡ Some (row_for (fun_of call))
    → asked written_bounds s p t env place (arguments_of s p t.0 call)
    ≡ by_verdict written_bounds s p t env (row_for (fun_of call)) (arguments_of s p t.0 call)
    (call_verdict s p t.0 env call)
