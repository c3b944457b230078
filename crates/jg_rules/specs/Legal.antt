-- Which histories are legal, and the history of a list of calls. A history has its newest entry first.
use Rattle.std.specs.Prelude.{◌≡◌, List, [], ◌∷◌, map, reverse, Option, Some, None}
use Rattle.jg_words.specs.declared.thread.Tid.{Tid}
use Rattle.jg_words.specs.declared.thread.EnvId.{EnvId}
use Rattle.jg_words.specs.declared.rule.Rule.{Rule}
use Rattle.jg_words.specs.declared.entry.Outcome.{Outcome}
use Rattle.jg_words.specs.declared.entry.Outcome.TheVariants.{Passed, Denied}
use Rattle.jg_words.specs.Entry.{Entry}
use Rattle.jg_words.specs.declared.call.Call.{Call}
use Rattle.jg_policy.specs.Stated.{StatedSetup}
use Rattle.jg_rules.specs.declared.answer.Answer.{Answer}
use Rattle.jg_rules.specs.Parts.{Parts}
use Rattle.jg_rules.specs.Effects.{parts, passed_on}
use Rattle.jg_rules.specs.Rules.{verdict}
use Rattle.jg_rules.specs.Answers.{answer}

-- denied by the rule, or passed with the answer
abbrev pub entry_by : Option Rule → Answer → Tid → Option EnvId → Call → Entry
entry_by (Some rule) a t env call = record { tid = t; env = env; call = call; outcome = Denied rule; object = None }
entry_by None a t env call = record { tid = t; env = env; call = call; outcome = Passed a.reply; object = a.object }

-- the parts after a call that passes with this answer
abbrev pub answered : StatedSetup → Parts → Tid → Call → Answer → Parts
answered s p t call a = passed_on s t.0 call a.reply a.object p

-- the entry of a call, as the entries before it leave the machine
abbrev pub entry_at : StatedSetup → Parts → Tid → Option EnvId → Call → Entry
entry_at s p t env call = entry_by (verdict s p t.0 env call) (answer s p t call) t env call

-- each entry is the one that its call has at the entries before it: denied by the first broken rule, else passed with
-- the answer
abbrev pub Legal : StatedSetup → List Entry → Type 0
Legal s [] = Unit {0}
Legal s (x ∷ h) = (x ≡ entry_at s (parts s h) x.tid x.env x.call) × Legal s h

-- a call as it is asked for
pub record Asked : Type 0 where
  pub tid : Tid
  pub env : Option EnvId
  pub call : Call

abbrev pub asked_in : Entry → Asked
asked_in x = record { tid = x.tid; env = x.env; call = x.call }

-- the calls of a history, the newest first
abbrev pub calls_of : List Entry → List Asked
calls_of h = map asked_in h

-- the history of these calls, the newest call first
abbrev pub history_of : StatedSetup → List Asked → List Entry
history_of s [] = []
history_of s (c ∷ calls) = entry_at s (parts s (history_of s calls)) c.tid c.env c.call ∷ history_of s calls

-- the history of these calls, in the order in which they are made
abbrev pub replay : StatedSetup → List Asked → List Entry
replay s calls = history_of s (reverse calls)

-- what became of the calls of a history, in the order in which they were made
abbrev pub outcomes : List Entry → List Outcome
outcomes h = reverse (map (λ x. x.outcome) h)
