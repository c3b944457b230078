-- A call changes nothing of what is asked of another thread.
use Rattle.std.proofs.Common.{◌≡◌, ◌≢◌, ◌++◌, ◌∙◌, ℕ, ◌∷◌, map, Option, Some, None, refl, ap, sym}
use Rattle.std.proofs.lemmas.Option.{same_Some}
use Rattle.jg_words.specs.declared.call.Call.{Call}
use Rattle.jg_words.specs.declared.entry.Outcome.{Outcome}
use Rattle.jg_words.specs.declared.entry.Outcome.TheVariants.{Passed, Denied}
use Rattle.jg_words.specs.declared.object.ObjId.{ObjId}
use Rattle.jg_words.specs.declared.thread.Tid.{Tid}
use Rattle.jg_policy.specs.Stated.{StatedSetup}
use Rattle.jg_table_threads.specs.History as threads
use Rattle.jg_table_locals.specs.History as locals
use Rattle.jg_lists.specs.Acts.{acts_of, by}
use Rattle.jg_lists.proofs.Acts.{acts_others}
use Rattle.jg_rules.specs.Parts.{Parts}
use Rattle.jg_rules.specs.Effects.{after, call_locals, call_threads, if_effective, is_effective, value_locals, value_threads}
use Rattle.jg_breaches.specs.declared.condition.Condition.{Condition}
use Rattle.jg_breaches.specs.declared.condition.Condition.TheVariants.{IsAttached, IsPresent, HasPending, Names, NamesObject, IsOpen, Owns, IsOwned, HasFrame, InNative, IsLinked}
use Rattle.jg_breaches.specs.Conditions.{holds}

-- what another thread's call does, in the acts of t
threads_kept : (s : StatedSetup) (p : Parts) (t u : ℕ) (call : Call) (o : Outcome) (object : Option ObjId) → t ≢ u
    → threads.acts_of t (after s u call o object p).threads ≡ threads.acts_of t p.threads
threads_kept s p t u call (Denied rule) object differ = refl
threads_kept s p t u call (Passed reply) object differ =
    let own = if_effective (is_effective reply.value) (call_threads s p u call) in
    acts_others t u (value_threads reply.value object) (map (threads.by u) own ++ p.threads) differ ∙ acts_others t u own p.threads differ

locals_kept : (s : StatedSetup) (p : Parts) (t u : ℕ) (call : Call) (o : Outcome) (object : Option ObjId) → t ≢ u
    → locals.acts_of t (after s u call o object p).locals ≡ locals.acts_of t p.locals
locals_kept s p t u call (Denied rule) object differ = refl
locals_kept s p t u call (Passed reply) object differ =
    let own = if_effective (is_effective reply.value) (call_locals s p u call) in
    acts_others t u (value_locals reply.value object) (map (locals.by u) own ++ p.locals) differ ∙ acts_others t u own p.locals differ

-- the thread of which such a condition speaks alone
abbrev pub thread_of : Condition → Option Tid
thread_of (IsAttached t) = Some t
thread_of (IsPresent env) = Some env.tid
thread_of (HasPending t) = Some t
thread_of (HasFrame t) = Some t
thread_of (InNative t) = Some t
thread_of c = None

tid_of : (t u : Tid) (v : ℕ) → Some t ≡ Some u → u.0 ≢ v → t.0 ≢ v
tid_of t u v same differ is = differ (sym (ap (λ (x : Tid). x.0) (same_Some t u same)) ∙ is)

pub others_keep : (s : StatedSetup) (p : Parts) (u : ℕ) (call : Call) (o : Outcome) (object : Option ObjId) (t : Tid) (c : Condition) → thread_of c ≡ Some t
    → t.0 ≢ u
    → holds (after s u call o object p) c ≡ holds p c
others_keep s p u call o object t (IsAttached v) of differ = rw (threads_kept s p v.0 u call o object (tid_of v t u of differ)) refl
others_keep s p u call o object t (IsPresent env) of differ = rw (threads_kept s p env.tid.0 u call o object (tid_of env.tid t u of differ)) refl
others_keep s p u call o object t (HasPending v) of differ = rw (threads_kept s p v.0 u call o object (tid_of v t u of differ)) refl
others_keep s p u call o object t (HasFrame v) of differ = rw (locals_kept s p v.0 u call o object (tid_of v t u of differ)) refl
others_keep s p u call o object t (InNative v) of differ = rw (threads_kept s p v.0 u call o object (tid_of v t u of differ)) refl
others_keep s p u call o object t (Names v r) of differ = absurd cc
others_keep s p u call o object t (NamesObject v r) of differ = absurd cc
others_keep s p u call o object t (IsOpen b) of differ = absurd cc
others_keep s p u call o object t (Owns v i) of differ = absurd cc
others_keep s p u call o object t (IsOwned i) of differ = absurd cc
others_keep s p u call o object t (IsLinked class native) of differ = absurd cc
