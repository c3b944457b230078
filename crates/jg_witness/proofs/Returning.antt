-- What a witness stands for once a call returned, or was ended.
use Rattle.std.proofs.Common.{ℕ, ◌≡◌, ◌∷◌, List, Option, Some, None, refl, ap, sym, ◌∙◌, subst}
use Rattle.std.specs.Prelude.{Ok, Err, IfOk, IfErr, OnOk, OnErr, ◌≢◌}
use Rattle.std.specs.declared.result.Result.{Result}
use Rattle.jg_words.specs.declared.thread.Tid.{Tid}
use Rattle.jg_words.specs.declared.thread.EnvId.{EnvId}
use Rattle.jg_words.specs.declared.object.ObjId.{ObjId}
use Rattle.jg_words.specs.declared.reference.Ref.{Ref}
use Rattle.jg_policy.specs.Stated.{StatedSetup}
use Rattle.jg_rules.specs.Parts.{Parts}
use Rattle.jg_judge.specs.declared.argument.Argument.{Argument}
use Rattle.jg_judge.specs.declared.argument.Bounds.{Bounds}
use Rattle.jg_core.specs.declared.fact.Fact.{Fact}
use Rattle.jg_core.specs.declared.says.Says.{Says}
use Rattle.jg_core.specs.declared.says.Given.{Given}
use Rattle.jg_core.specs.declared.kernel.Untold.{Untold}
use Rattle.jg_core.specs.declared.kernel.Untold.TheVariants.{NoMemory}
use Rattle.jg_core.specs.declared.asking.Answer.{Answer}
use Rattle.jg_core.specs.declared.asking.Answer.TheVariants.{Passed, Denied, NoFunction, Misfit}
use Rattle.jg_core.specs.declared.gone.StillHeld.{StillHeld}
use Rattle.jg_core.specs.declared.asking.Ticket.{Ticket}
use Rattle.jg_core.specs.declared.asking.Ended.{Ended}
use Rattle.jg_core.specs.Asking as asking
use Rattle.jg_core.specs.Asking.{RefusesReturn, asked, foreseen, given_for, is_passed}
use Rattle.jg_core.specs.Expected.{told}
use Rattle.jg_core.specs.Facts.{parts_of}
use Rattle.jg_core.specs.Implied as implied
use Rattle.jg_core.specs.Kernel.{CoreState, CoreStands, Stayed, Took}
use Rattle.jg_witness.specs.declared.operand.Operand.{Operand}
use Rattle.jg_witness.specs.Events.{Event, Told, facts_of, told_gone}
use Rattle.jg_witness.specs.Standing.{IsWitness, Stays, WitnessStands, WitnessState, both}
use Rattle.jg_witness.specs.Words.{EndedAs, GivesCounted, RefusesEnding, Returned, arguments_of, handed_on, told_on}
use Rattle.jg_witness.proofs.Counted.{on_told, ticket_counted}
use Rattle.jg_witness.proofs.Standing.{told_stands}

told_on_stands : (old new : CoreState) (names : List (ℕ × Ref)) (fact : Option Fact) (e : List Event) → WitnessStands (both old names) e
    → CoreStands new (implied.told_on fact (facts_of e)) → WitnessStands (both new names) (told_on fact e)
told_on_stands old new names None e stands core = record { core = core; named = stands.named; names = stands.names }
told_on_stands old new names (Some x) e stands core = told_stands old new names x e stands core

parts_told : (fact : Option Fact) (e : List Event) → on_told fact (parts_of (facts_of e)) ≡ parts_of (facts_of (told_on fact e))
parts_told None e = refl
parts_told (Some x) e = refl

given_counts : (s : StatedSetup) (ticket : Ticket) (fact : Option Fact) (given : Given) (e : List Event)
    → given ≡ given_for s (parts_of (facts_of e)) ticket fact → GivesCounted (parts_of (facts_of (told_on fact e))) given
given_counts s ticket fact given e is =
    let p : Parts = parts_of (facts_of e) in
    subst (λ (q : Parts). GivesCounted q given) (parts_told fact e)
    (subst (λ (out : Given). GivesCounted (on_told fact p) out) (sym is) (ticket_counted s p ticket fact))

pub returned_stands : (old middle new last : CoreState) (names kept left : List (ℕ × Ref)) (ticket : Ticket) (says : Says) (word : ℕ) (given : Given)
    → middle ≡ old → ((e : List Event) → WitnessStands (both old names) e → WitnessStands (both middle kept) e)
    → asking.Returned middle new ticket says given
    → ((e : List Event) → WitnessStands (both new kept) e → GivesCounted (parts_of (facts_of e)) given → WitnessStands (both last left) (handed_on word given e))
    → Returned (both old names) (both last left) ticket says word given
returned_stands old middle new last names kept left ticket says word given same room r put = record {
  fact = r.fact;
  is = r.is;
  stands = λ e stands.
      let start = room e stands in
      put (told_on r.fact e) (told_on_stands middle new kept r.fact e start (r.stands (facts_of e) start.core))
      (given_counts middle.setup ticket r.fact given e (r.answers (facts_of e) start.core));
  answers = λ e stands.
      subst (λ (core : CoreState). given ≡ given_for core.setup (parts_of (facts_of e)) ticket r.fact) same
      (r.answers (facts_of e) (room e stands).core);
}

pub stays_both : (old new : CoreState) (names : List (ℕ × Ref)) → Stayed old new → Stays (both old names) (both new names)
stays_both old new names stayed e stands = record {
  core = stayed.stands (facts_of e) stands.core;
  named = stands.named;
  names = stands.names;
}

pub ended_as : (old new : CoreState) (names : List (ℕ × Ref)) (bounds : Bounds) (t : Tid) (env : Option EnvId) (function : ℕ) (operands : List Operand)
    (xs : List Argument) (result : Result Ended Untold) → ((e : List Event) → WitnessStands (both old names) e → xs ≡ arguments_of t e operands)
    → IfOk result (asking.EndedAs old new bounds t env function xs)
    → IfOk result (EndedAs (both old names) (both new names) bounds t env function operands)
ended_as old new names bounds t env function operands xs (Err why) is core = tt
ended_as old new names bounds t env function operands xs (Ok out) is core = record {
  answer = λ e stands.
      core.answer (facts_of e) stands.core
      ∙ ap (λ (ys : List Argument). asked bounds old.setup (parts_of (facts_of e)) t env function ys) (is e stands);
  passed = λ ticket was e stands.
      let r = core.passed ticket was (facts_of e) stands.core in
      record {
        fact = r.fact;
        is = subst (λ (ys : List Argument). told ticket.tid ticket.expected (foreseen (parts_of (facts_of e)) ticket ys) ≡ Some r.fact) (is e stands) r.is;
        stands = told_on_stands old new names r.fact e stands (r.stands (facts_of e) stands.core);
        answers = r.answers (facts_of e) stands.core;
      };
  otherwise = λ isnt. let stayed = core.otherwise isnt in (stays_both old new names stayed.0, stayed.1);
}

pub refuses_ending : (old : CoreState) (names : List (ℕ × Ref)) (bounds : Bounds) (t : Tid) (env : Option EnvId) (function : ℕ) (operands : List Operand)
    (xs : List Argument) (result : Result Ended Untold) → ((e : List Event) → WitnessStands (both old names) e → xs ≡ arguments_of t e operands)
    → IfErr result (asking.RefusesEnding old bounds t env function xs)
    → IfErr result (λ why. why ≢ NoMemory → RefusesEnding (both old names) bounds t env function operands why)
refuses_ending old names bounds t env function operands xs (Ok out) is core = tt
refuses_ending old names bounds t env function operands xs (Err why) is core = λ other.
    record {
      ticket = core.ticket;
      passed = λ e stands.
          subst (λ (ys : List Argument). asked bounds old.setup (parts_of (facts_of e)) t env function ys ≡ Passed core.ticket) (is e stands)
          (core.passed (facts_of e) stands.core);
      refuses = λ e stands.
          subst (λ (ys : List Argument). RefusesReturn old core.ticket (foreseen (parts_of (facts_of e)) core.ticket ys) why) (is e stands)
          (core.refuses (facts_of e) stands.core);
    }

-- ---- what every witness keeps

-- what stands for a list of events, with more in front
pub follows : (old new : WitnessState) (more : List Event → List Event) → ((e : List Event) → WitnessStands old e → WitnessStands new (more e)) → IsWitness old
    → IsWitness new
follows old new more by is = record { happened = more is.happened; stands = by is.happened is.stands }

pub told_keeps : (old new : CoreState) (names : List (ℕ × Ref)) (x : Fact) (result : Result Given Untold) → OnOk result (Took old new x)
    → OnErr result (Stayed old new) → IsWitness (both old names) → IsWitness (both new names)
told_keeps old new names x (Ok out) took stayed is =
    follows (both old names) (both new names) (λ e. Told x ∷ e) (λ e stands. told_stands old new names x e stands (took.stands (facts_of e) stands.core)) is
told_keeps old new names x (Err why) took stayed is = follows (both old names) (both new names) (λ e. e) (stays_both old new names stayed) is

pub gone_keeps : (old new : WitnessState) (objects : List ObjId) (result : Result (Unit {0}) StillHeld)
    → OnOk result ((e : List Event) → WitnessStands old e → WitnessStands new (told_gone objects e)) → OnErr result (Stays old new) → IsWitness old
    → IsWitness new
gone_keeps old new objects (Ok out) gone stays is = follows old new (told_gone objects) gone is
gone_keeps old new objects (Err held) gone stays is = follows old new (λ e. e) stays is

pub stays_if : (old new : CoreState) (names : List (ℕ × Ref)) (result : Result (Unit {0}) StillHeld) → OnErr result (Stayed old new)
    → OnErr result (Stays (both old names) (both new names))
stays_if old new names (Ok out) stayed = tt
stays_if old new names (Err held) stayed = stays_both old new names stayed

ended_by : (old new : WitnessState) (bounds : Bounds) (t : Tid) (env : Option EnvId) (function : ℕ) (operands : List Operand) (out : Ended) (answer : Answer)
    → out.answer ≡ answer → EndedAs old new bounds t env function operands out → IsWitness old → IsWitness new
ended_by old new bounds t env function operands out (Passed ticket) was ends is =
    let by = ends.passed ticket was is.happened is.stands in
    record { happened = told_on by.fact is.happened; stands = by.stands }
ended_by old new bounds t env function operands out (Denied rule operand ticket) was ends is =
    follows old new (λ e. e) (ends.otherwise (ap is_passed was)).0 is
ended_by old new bounds t env function operands out NoFunction was ends is = follows old new (λ e. e) (ends.otherwise (ap is_passed was)).0 is
ended_by old new bounds t env function operands out Misfit was ends is = follows old new (λ e. e) (ends.otherwise (ap is_passed was)).0 is

pub ended_keeps : (old new : CoreState) (names : List (ℕ × Ref)) (bounds : Bounds) (t : Tid) (env : Option EnvId) (function : ℕ) (operands : List Operand)
    (result : Result Ended Untold) → IfOk result (EndedAs (both old names) (both new names) bounds t env function operands)
    → OnErr result (Stayed old new) → IsWitness (both old names) → IsWitness (both new names)
ended_keeps old new names bounds t env function operands (Ok out) ends stayed is =
    ended_by (both old names) (both new names) bounds t env function operands out out.answer refl ends is
ended_keeps old new names bounds t env function operands (Err why) ends stayed is =
    follows (both old names) (both new names) (λ e. e) (stays_both old new names stayed) is

-- ---- the setup is what it was

ended_setup : (old new : CoreState) (names : List (ℕ × Ref)) (bounds : Bounds) (t : Tid) (env : Option EnvId) (function : ℕ) (xs : List Argument) (out : Ended)
    (answer : Answer) → out.answer ≡ answer → asking.EndedAs old new bounds t env function xs out → IsWitness (both old names) → new.setup ≡ old.setup
ended_setup old new names bounds t env function xs out (Passed ticket) was ends is = (ends.passed ticket was (facts_of is.happened) is.stands.core).setup
ended_setup old new names bounds t env function xs out (Denied rule operand ticket) was ends is = (ends.otherwise (ap is_passed was)).0.setup
ended_setup old new names bounds t env function xs out NoFunction was ends is = (ends.otherwise (ap is_passed was)).0.setup
ended_setup old new names bounds t env function xs out Misfit was ends is = (ends.otherwise (ap is_passed was)).0.setup

pub setup_kept : (old new : CoreState) (names : List (ℕ × Ref)) (bounds : Bounds) (t : Tid) (env : Option EnvId) (function : ℕ) (xs : List Argument)
    (result : Result Ended Untold) → IfOk result (asking.EndedAs old new bounds t env function xs) → OnErr result (Stayed old new)
    → IsWitness (both old names) → new.setup ≡ old.setup
setup_kept old new names bounds t env function xs (Ok out) ends stayed is = ended_setup old new names bounds t env function xs out out.answer refl ends is
setup_kept old new names bounds t env function xs (Err why) ends stayed is = stayed.setup
