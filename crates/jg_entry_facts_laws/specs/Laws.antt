-- That to judge by facts is to judge by entries, and to tell by tickets to tell entries.
use Rattle.std.specs.Prelude.{ℕ, ◌≡◌, slice_get, List, ◌∷◌, Option, Some}
use Rattle.jg_words.specs.declared.thread.Tid.{Tid}
use Rattle.jg_words.specs.declared.thread.EnvId.{EnvId}
use Rattle.jg_words.specs.declared.entry.Reply.{Reply}
use Rattle.jg_words.specs.declared.entry.Outcome.TheVariants.{Passed}
use Rattle.jg_words.specs.Entry.{Entry}
use Rattle.jg_words.specs.declared.call.Call.{Call}
use Rattle.jg_words.specs.Call.{fun_of}
use Rattle.jg_policy.specs.Stated.{StatedSetup}
use Rattle.jg_rules.specs.Parts.{Parts}
use Rattle.jg_rules.specs.Effects.{parts}
use Rattle.jg_rules.specs.Legal.{Legal}
use Rattle.jg_rules.specs.Rules.{verdict}
use Rattle.jg_rows.specs.Table.{functions}
use Rattle.jg_judge.specs.Written.{arguments_of, row_for, written_bounds}
use Rattle.jg_core.specs.declared.says.Says.{Says}
use Rattle.jg_core.specs.Asking.{asked, by_verdict}
use Rattle.jg_core.specs.Facts.{parts_of, History}
use Rattle.jg_entry_facts_laws.specs.Entries.{facts_of}
use Rattle.jg_entry_facts_laws.specs.Alike.{ReadAlike}
use Rattle.jg_entry_facts_laws.specs.Tickets.{says_of, TicketTells}

-- a legal history and the facts that its entries are read the same
-- (proofs/Histories.antt)
abbrev pub FactsReadAlike : Type 0
FactsReadAlike = (s : StatedSetup) (h : List Entry) → Legal s h → ReadAlike s (parts_of (facts_of s h)) (parts s h)

-- each of these facts could be when it was told
-- (proofs/Histories.antt)
abbrev pub FactsCouldBe : Type 0
FactsCouldBe = (s : StatedSetup) (h : List Entry) → Legal s h → History s (facts_of s h)

-- what reads the same is judged the same
-- (proofs/Judged.antt)
abbrev pub AlikeIsJudgedAlike : Type 0
AlikeIsJudgedAlike = (s : StatedSetup) (p q : Parts) (t : ℕ) (env : Option EnvId) (call : Call) → ReadAlike s p q
    → verdict s p t env call ≡ verdict s q t env call

-- after the facts, a call breaks the rule that it breaks after the history
-- (proofs/Histories.antt)
abbrev pub JudgedAlike : Type 0
JudgedAlike = (s : StatedSetup) (h : List Entry) (t : ℕ) (env : Option EnvId) (call : Call) → Legal s h
    → verdict s (parts_of (facts_of s h)) t env call ≡ verdict s (parts s h) t env call

-- after the facts, a call's question is answered by the verdict on the call after the history
-- (proofs/Histories.antt)
abbrev pub AskedAlike : Type 0
AskedAlike = (s : StatedSetup) (h : List Entry) (t : Tid) (env : Option EnvId) (call : Call) (place : ℕ) → Legal s h
    → slice_get functions place ≡ Some (row_for (fun_of call))
    → asked written_bounds s (parts_of (facts_of s h)) t env place (arguments_of s (parts_of (facts_of s h)) t.0 call)
    ≡ by_verdict written_bounds s (parts_of (facts_of s h)) t env (row_for (fun_of call))
    (arguments_of s (parts_of (facts_of s h)) t.0 call) (verdict s (parts s h) t.0 env call)

-- the ticket of a call's question tells the facts of the call's entry: of each entry of a legal history that passed and
-- of which the machine says something
-- (proofs/Tickets.antt)
abbrev pub TicketsTellFacts : Type 0
TicketsTellFacts = (s : StatedSetup) (h : List Entry) (x : Entry) (reply : Reply) (says : Says) (place : ℕ)
    → Legal s (x ∷ h) → x.outcome ≡ Passed reply
    → says_of s (parts s h) x.tid x.call reply.value x.object ≡ Some says
    → slice_get functions place ≡ Some (row_for (fun_of x.call)) → TicketTells s h x reply says place
