-- What contracts see of a journal's entry.
use Rattle.std.specs.Prelude.{ℕ, Bool, true, false, Option, Some, None}
use Rattle.jg_words.specs.declared.call.Call.{Call}
use Rattle.jg_words.specs.declared.ending.Ending.{Ending}
use Rattle.jg_words.specs.declared.ending.Ending.TheVariants as ending
use Rattle.jg_words.specs.declared.entry.Outcome.{Outcome}
use Rattle.jg_words.specs.declared.entry.Outcome.TheVariants.{Passed, Denied}
use Rattle.jg_words.specs.declared.object.ObjId.{ObjId}
use Rattle.jg_words.specs.declared.rule.Rule.{Rule}
use Rattle.jg_words.specs.declared.thread.EnvId.{EnvId}
use Rattle.jg_words.specs.declared.thread.Tid.{Tid}
use Rattle.jg_words.specs.declared.value.Value.{Value}

-- the thread, the environment that was handed in, if one was, the call, what became of it, and the object that it hands
-- out a reference for, or the exception that it makes pending
pub record Entry : Type 0 where
  pub tid : Tid
  pub env : Option EnvId
  pub call : Call
  pub outcome : Outcome
  pub object : Option ObjId

abbrev pub rule_in : Outcome → Option Rule
rule_in (Passed reply) = None
rule_in (Denied rule) = Some rule

abbrev pub value_in : Outcome → Option Value
value_in (Passed reply) = Some reply.value
value_in (Denied rule) = None

abbrev pub is_warned : Outcome → Bool
is_warned (Passed reply) = reply.warned
is_warned (Denied rule) = false

abbrev pub is_noticed : Outcome → Bool
is_noticed (Passed reply) = reply.noticed
is_noticed (Denied rule) = false

-- ---- its parts as the code keeps them

abbrev pub env_where : Bool → Tid → ℕ → Option EnvId
env_where false tid session = None
env_where true tid session = Some (record { tid = tid; session = session })

abbrev pub object_where : Bool → ℕ → Option ObjId
object_where false number = None
object_where true number = Some (record { 0 = number })

abbrev pub outcome_by : Ending → Value → Outcome
outcome_by ending.Plain value = Passed (record { value = value; warned = false; noticed = false })
outcome_by ending.Warned value = Passed (record { value = value; warned = true; noticed = false })
outcome_by ending.Noticed value = Passed (record { value = value; warned = false; noticed = true })
outcome_by ending.WarnedAndNoticed value = Passed (record { value = value; warned = true; noticed = true })
outcome_by (ending.Denied rule) value = Denied rule
