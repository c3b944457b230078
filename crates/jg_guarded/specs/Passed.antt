-- What the guard makes of a call, and which entries of a journal passed.
use Rattle.std.specs.Prelude.{List, [], ◌∷◌, Option}
use Rattle.jg_words.specs.declared.thread.Tid.{Tid}
use Rattle.jg_words.specs.declared.thread.EnvId.{EnvId}
use Rattle.jg_words.specs.declared.rule.Rule.{Rule}
use Rattle.jg_words.specs.declared.call.Call.{Call}
use Rattle.jg_words.specs.declared.entry.Outcome.{Outcome}
use Rattle.jg_words.specs.declared.entry.Outcome.TheVariants.{Passed, Denied}
use Rattle.jg_words.specs.Entry.{Entry}
use Rattle.jg_rules.specs.Rules.{verdict}
use Rattle.jg_rules.specs.Effects.{parts}
use Rattle.jg_guard.specs.Guard.{State}

-- the first rule that the call breaks, as the journal is now
abbrev pub judged : State → Tid → Option EnvId → Call → Option Rule
judged guard t env call = verdict guard.setup (parts guard.setup guard.journal) t.0 env call

abbrev pub IsPassed : Outcome → Type 0
IsPassed (Passed reply) = Unit {0}
IsPassed (Denied rule) = ⊥

-- the entry in front, where it passed
abbrev pub front_if_passed : Outcome → Entry → List Entry → List Entry
front_if_passed (Passed reply) x h = x ∷ h
front_if_passed (Denied rule) x h = h

-- the passed entries of a journal, the newest first
abbrev pub passed_in : List Entry → List Entry
passed_in [] = []
passed_in (x ∷ h) = front_if_passed x.outcome x (passed_in h)
