-- What a thread did, one act or a few acts later.
use Rattle.std.proofs.Common.{ℕ, ◌≡◌, ◌≢◌, ◌+◌, Bool, true, false, List, [], ◌∷◌, ◌++◌, map, Option, Some, None, refl, ap, ◌∙◌, arith}
use Rattle.std.specs.Prelude.{◌==◌, ◌&&◌, not, cond}
use Rattle.std.proofs.lemmas.Bool.Decides.{nat_tests}
use Rattle.jg_words.specs.Call.{fun_of}
use Rattle.jg_words.specs.Fun.{needs_env}
use Rattle.jg_words.specs.declared.thread.EnvId.{EnvId}
use Rattle.jg_words.specs.declared.call.Call.{Call}
use Rattle.jg_words.specs.declared.call.Call.TheVariants.{Vm, Exceptions}
use Rattle.jg_words.specs.declared.call.vm.VmCall.TheVariants.{AttachCurrentThread, DetachCurrentThread}
use Rattle.jg_words.specs.declared.call.exceptions.ExceptionsCall.TheVariants.{Throw}
use Rattle.jg_policy.specs.Stated.{StatedSetup}
use Rattle.jg_table_threads.specs.History.{Act, Attach, Detach, Enter, Leave, Raise, Calm, CountRef, CountBuffer, Event, by, acts_of, how_many, attached, refs, is_count_ref, buffers, is_count_buffer}
use Rattle.jg_table_locals.proofs.Callers.{each_thread}
use Rattle.jg_rules.specs.Parts.{Parts}
use Rattle.jg_rules.specs.Names.{next_ref}
use Rattle.jg_rules.specs.Effects.{call_threads, done_if, done_by}
use Rattle.jg_rules.specs.Rules.{detached, is_session}

pub did_more : (u : ℕ) (a : Act) (te : List Event) → acts_of u (by u a ∷ te) ≡ a ∷ acts_of u te
did_more u a te = grind (arith, nat_tests)

pub did_same : (t u : ℕ) (a : Act) (te : List Event) → t ≢ u → acts_of t (by u a ∷ te) ≡ acts_of t te
did_same t u a te differ = grind (arith, nat_tests)

-- an act that isn't of the kind leaves each thread's count of them
count_same : (kind : Act → Bool) (te : List Event) (u : ℕ) (a : Act) → kind a ≡ false → (t : ℕ)
    → how_many kind (acts_of t (by u a ∷ te)) ≡ how_many kind (acts_of t te)
count_same kind te u a quiet t =
    each_thread (λ v. how_many kind (acts_of v (by u a ∷ te)) ≡ how_many kind (acts_of v te)) u
    (ap (how_many kind) (did_more u a te) ∙ grind (arith, nat_tests, quiet))
    (λ v differ. ap (how_many kind) (did_same v u a te differ))
    t

-- so one that hands out nothing leaves each thread's next number
pub refs_same : (te : List Event) (u : ℕ) (a : Act) → is_count_ref a ≡ false → (t : ℕ) → refs (acts_of t (by u a ∷ te)) ≡ refs (acts_of t te)
refs_same te u a quiet t = count_same is_count_ref te u a quiet t

pub buffers_same : (te : List Event) (u : ℕ) (a : Act) → is_count_buffer a ≡ false → (t : ℕ) → buffers (acts_of t (by u a ∷ te)) ≡ buffers (acts_of t te)
buffers_same te u a quiet t = count_same is_count_buffer te u a quiet t

-- none of the acts hands out a reference
abbrev are_quiet : List Act → Bool
are_quiet [] = true
are_quiet (a ∷ acts) = not (is_count_ref a) && are_quiet acts

refs_if : (b : Bool) (te : List Event) (u : ℕ) (a : Act) (acts : List Act)
    → (are_quiet acts ≡ true → (t : ℕ) → refs (acts_of t (map (by u) acts ++ te)) ≡ refs (acts_of t te))
    → is_count_ref a ≡ b → (not b && are_quiet acts) ≡ true → (t : ℕ) → refs (acts_of t (by u a ∷ (map (by u) acts ++ te))) ≡ refs (acts_of t te)
refs_if true te u a acts rest is quiet t = absurd cc
refs_if false te u a acts rest is quiet t = refs_same (map (by u) acts ++ te) u a is t ∙ rest quiet t

refs_quiet : (te : List Event) (u : ℕ) (acts : List Act) → are_quiet acts ≡ true → (t : ℕ) → refs (acts_of t (map (by u) acts ++ te)) ≡ refs (acts_of t te)
refs_quiet te u [] quiet t = refl
refs_quiet te u (a ∷ acts) quiet t = refs_if (is_count_ref a) te u a acts (refs_quiet te u acts) refl quiet t

-- no call hands out a reference among its own events
call_quiet : (s : StatedSetup) (p : Parts) (t : ℕ) (call : Call) → are_quiet (call_threads s p t call) ≡ true
call_quiet s p t (Vm AttachCurrentThread) = refl
call_quiet s p t (Exceptions (Throw r)) = refl
call_quiet s p t call = refl

pub next_done : (s : StatedSetup) (p : Parts) (t : ℕ) (call : Call) (u : ℕ) → next_ref (done_by s t call p) u ≡ next_ref p u
next_done s p t call u = ap (λ n. n + 1) (refs_quiet p.threads t (call_threads s p t call) (call_quiet s p t call) u)

pub next_done_if : (b : Bool) (s : StatedSetup) (p : Parts) (t : ℕ) (call : Call) (u : ℕ) → next_ref (done_if b s t call p) u ≡ next_ref p u
next_done_if true s p t call u = next_done s p t call u
next_done_if false s p t call u = refl

-- a thread's own acts come before what it did
acts_own : (u : ℕ) (acts : List Act) (te : List Event) → acts_of u (map (by u) acts ++ te) ≡ acts ++ acts_of u te
acts_own u [] te = refl
acts_own u (a ∷ acts) te = did_more u a (map (by u) acts ++ te) ∙ ap (λ xs. a ∷ xs) (acts_own u acts te)

-- none of the acts is a detachment
abbrev pub stay : List Act → Bool
stay [] = true
stay (Detach ∷ acts) = false
stay (a ∷ acts) = stay acts

stays_attached : (acts old : List Act) → stay acts ≡ true → attached old ≡ true → attached (acts ++ old) ≡ true
stays_attached [] old is on = on
stays_attached (Detach ∷ acts) old is on = absurd cc
stays_attached (Attach ∷ acts) old is on = refl
stays_attached (Enter ∷ acts) old is on = stays_attached acts old is on
stays_attached (Leave ∷ acts) old is on = stays_attached acts old is on
stays_attached (Raise o ∷ acts) old is on = stays_attached acts old is on
stays_attached (Calm ∷ acts) old is on = stays_attached acts old is on
stays_attached (CountRef ∷ acts) old is on = stays_attached acts old is on
stays_attached (CountBuffer ∷ acts) old is on = stays_attached acts old is on

-- no call that takes an environment ends the session
call_stays : (s : StatedSetup) (p : Parts) (t : ℕ) (call : Call) → needs_env (fun_of call) ≡ true → stay (call_threads s p t call) ≡ true
call_stays s p t (Vm DetachCurrentThread) env = absurd cc
call_stays s p t (Exceptions (Throw r)) env = refl
call_stays s p t call env = refl

pub attached_done : (s : StatedSetup) (p : Parts) (t : ℕ) (call : Call) → needs_env (fun_of call) ≡ true → attached (acts_of t p.threads) ≡ true
    → attached (acts_of t (done_by s t call p).threads) ≡ true
attached_done s p t call env on =
    rw (acts_own t (call_threads s p t call) p.threads) (stays_attached (call_threads s p t call) (acts_of t p.threads) (call_stays s p t call env) on)

attached_if : (a b : Bool) (n m : ℕ) → not (b && is_session (cond a (Some n) None) m) ≡ false → a ≡ true
attached_if true b n m h = refl
attached_if false true n m h = absurd cc
attached_if false false n m h = absurd cc

-- a call that takes an environment, and isn't detached, comes from an attached thread
pub attached_caller : (p : Parts) (t : ℕ) (env : Option EnvId) (call : Call) → needs_env (fun_of call) ≡ true → detached p t env call ≡ false
    → attached (acts_of t p.threads) ≡ true
attached_caller p t None call takes is = absurd (cc (takes, is))
attached_caller p t (Some env) call takes is = attached_if (attached (acts_of t p.threads)) (env.tid.0 == t) _ env.session is
