-- What an answer can bring: the next reference, the next buffer or the next object.
use Rattle.std.specs.Prelude.{◌≡◌, Bool, true, false, List, [], ◌∷◌, Option, Some, None}
use Rattle.jg_words.specs.Call.{fun_of}
use Rattle.jg_words.specs.Fun.{needs_env}
use Rattle.jg_words.specs.declared.thread.Tid.{Tid}
use Rattle.jg_words.specs.declared.object.ObjId.{ObjId}
use Rattle.jg_words.specs.declared.reference.Kind.TheVariants.{Local, Global, Weak}
use Rattle.jg_words.specs.declared.reference.Ref.TheVariants.{Null, To}
use Rattle.jg_words.specs.declared.value.Value.{Value}
use Rattle.jg_words.specs.declared.value.Value.TheVariants.{Ok as Done, Reference, Buffer, Busy, Throw as Threw}
use Rattle.jg_words.specs.declared.call.Call.{Call}
use Rattle.jg_policy.specs.Stated.{StatedSetup}
use Rattle.jg_rules.specs.declared.answer.Answer.{Answer}
use Rattle.jg_rules.specs.Parts.{Parts}
use Rattle.jg_rules.specs.Names.{object_count, next_ref, next_buffer}
use Rattle.jg_rules.specs.Effects.{done_by, call_buffers}
use Rattle.jg_table_buffers.specs.History as buffers

-- a buffer is opened
abbrev pub opens_one : List buffers.Event → Bool
opens_one [] = false
opens_one (buffers.Opened b ∷ e) = true
opens_one (buffers.Wrote maker n index v ∷ e) = opens_one e
opens_one (buffers.Closed maker n ∷ e) = opens_one e
opens_one (buffers.ReleaseAll maker ∷ e) = opens_one e

-- a call that takes an environment hands out its thread's next local; one that does nothing else hands out the next
-- global or weak one; one that opens a buffer lends the thread's next; the exception that a call throws is the next
-- object; where nothing is done of the call's own, nothing is warned of
abbrev pub IsProper : StatedSetup → Parts → Tid → Call → Value → Bool → Option ObjId → Type 0
IsProper s p t call (Reference r) warned None = ⊥
IsProper s p t call (Reference Null) warned (Some o) = ⊥
IsProper s p t call (Reference (To Local maker n)) warned (Some o) = (needs_env (fun_of call) ≡ true) × (maker ≡ t)
    × (n ≡ next_ref p t.0)
IsProper s p t call (Reference (To Global maker n)) warned (Some o) = (needs_env (fun_of call) ≡ true) × (maker ≡ t)
    × (n ≡ next_ref p t.0) × (done_by s t.0 call p ≡ p) × (warned ≡ false)
IsProper s p t call (Reference (To Weak maker n)) warned (Some o) = (needs_env (fun_of call) ≡ true) × (maker ≡ t)
    × (n ≡ next_ref p t.0) × (done_by s t.0 call p ≡ p) × (warned ≡ false)
IsProper s p t call (Buffer b) warned o = (needs_env (fun_of call) ≡ true) × (b.maker ≡ t) × (b.n ≡ next_buffer p t.0)
    × (opens_one (call_buffers s p t.0 call) ≡ true)
IsProper s p t call (Threw kind) warned None = ⊥
IsProper s p t call (Threw kind) warned (Some o) = (needs_env (fun_of call) ≡ true) × (o.0 ≡ object_count s p)
    × (warned ≡ false)
IsProper s p t call Done warned (Some o) = needs_env (fun_of call) ≡ true
IsProper s p t call Busy warned o = (needs_env (fun_of call) ≡ true) × (warned ≡ false)
IsProper s p t call value warned o = Unit {0}

abbrev pub ProperAnswer : StatedSetup → Parts → Tid → Call → Answer → Type 0
ProperAnswer s p t call a = IsProper s p t call a.reply.value a.reply.warned a.object
