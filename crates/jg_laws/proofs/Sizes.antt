-- How many events a history has, and how large the counts are that they give.
use Rattle.std.proofs.Common.{ℕ, ◌+◌, ◌*◌, ◌≤◌, Bool, true, false, List, [], ◌∷◌, ◌++◌, length, map, Option, Some, arith, length-append}
use Rattle.std.proofs.lemmas.Bool.Decides.{nat_tests}
use Rattle.std.proofs.lemmas.List.{length-map}
use Rattle.jg_words.specs.declared.object.ObjId.{ObjId}
use Rattle.jg_words.specs.declared.reference.Ref.{Ref}
use Rattle.jg_words.specs.declared.reference.Ref.TheVariants.{Null, To}
use Rattle.jg_words.specs.declared.reference.Kind.TheVariants.{Local, Global, Weak}
use Rattle.jg_words.specs.declared.value.Value.{Value}
use Rattle.jg_words.specs.declared.value.Value.TheVariants.{Ok as Done, Reference, Buffer as Lent, Throw as Threw}
use Rattle.jg_words.specs.declared.entry.Outcome.{Outcome}
use Rattle.jg_words.specs.declared.entry.Outcome.TheVariants.{Passed, Denied}
use Rattle.jg_words.specs.Entry.{Entry}
use Rattle.jg_words.specs.declared.call.Call.{Call}
use Rattle.jg_words.specs.declared.call.Call.TheVariants.{Vm, Refs, Frames, Exceptions, Monitors}
use Rattle.jg_words.specs.declared.call.vm.VmCall.TheVariants.{AttachCurrentThread}
use Rattle.jg_words.specs.declared.call.refs.RefsCall.TheVariants.{DeleteLocalRef}
use Rattle.jg_words.specs.declared.call.frames.FramesCall.TheVariants.{PushLocalFrame}
use Rattle.jg_words.specs.declared.call.monitors.MonitorsCall.TheVariants.{MonitorEnter}
use Rattle.jg_words.specs.declared.call.exceptions.ExceptionsCall.TheVariants.{Throw}
use Rattle.jg_table_threads.specs.History as threads
use Rattle.jg_table_locals.specs.History as locals
use Rattle.jg_table_locals.specs.History.{Act, acts_of, is_push, done_at, frames}
use Rattle.jg_table_heap.specs.History as heap
use Rattle.jg_rules.specs.Parts.{Parts}
use Rattle.jg_rules.specs.Effects.{parts, after, is_effective, if_effective, call_threads, call_locals, call_monitors, value_threads, value_locals, started, deletes_local}
use Rattle.jg_policy.specs.Stated.{StatedSetup}
use Rattle.jg_table_monitors.specs.History as monitors

effective-le : {E : Type 0} (b : Bool) (events : List E) (n : ℕ) → length events ≤ n → length (if_effective b events) ≤ n
effective-le false events n few = omega arith
effective-le true events n few = few

pub call_threads-le : (s : StatedSetup) (p : Parts) (t : ℕ) (call : Call) → length (call_threads s p t call) ≤ 1
call_threads-le s p t (Vm AttachCurrentThread) = omega arith
call_threads-le s p t (Exceptions (Throw r)) = omega arith
call_threads-le s p t call = omega arith

value_threads-le : (value : Value) (o : Option ObjId) → length (value_threads value o) ≤ 1
value_threads-le (Reference r) o = omega arith
value_threads-le (Lent b) o = omega arith
value_threads-le (Threw kind) (Some o) = omega arith
value_threads-le Done (Some o) = omega arith
value_threads-le _ _ = omega arith

started-le : (b : Bool) → length (started b) ≤ 1
started-le true = omega arith
started-le false = omega arith

deletes_local-le : (r : Ref) → length (deletes_local r) ≤ 1
deletes_local-le Null = omega arith
deletes_local-le (To Local maker n) = omega arith
deletes_local-le (To Global maker n) = omega arith
deletes_local-le (To Weak maker n) = omega arith

call_locals-le : (s : StatedSetup) (p : Parts) (t : ℕ) (call : Call) → length (call_locals s p t call) ≤ 1
call_locals-le s p t (Vm AttachCurrentThread) = started-le (threads.attached (threads.acts_of t p.threads))
call_locals-le s p t (Refs (DeleteLocalRef r)) = deletes_local-le r
call_locals-le s p t (Frames (PushLocalFrame capacity)) = omega arith
call_locals-le s p t call = omega arith

value_locals-le : (value : Value) (o : Option ObjId) → length (value_locals value o) ≤ 1
value_locals-le (Reference (To Local maker n)) (Some o) = omega arith
value_locals-le _ _ = omega arith

call_monitors-le : (s : StatedSetup) (p : Parts) (t : ℕ) (call : Call) → length (call_monitors s p t call) ≤ 1
call_monitors-le s p t (Vm AttachCurrentThread) = omega arith
call_monitors-le s p t (Monitors (MonitorEnter r)) = omega arith
call_monitors-le s p t call = omega arith

-- two short lists in front of a third
in_front : {X Y : Type 0} (f : X → Y) (xs ys : List X) (zs : List Y) → length xs ≤ 1 → length ys ≤ 1 → length (map f xs ++ (map f ys ++ zs)) ≤ length zs + 2
in_front f xs ys zs one two = simp (length-append, length-map) (omega (arith, one, two))

in_front_once : {X Y : Type 0} (f : X → Y) (xs : List X) (zs : List Y) → length xs ≤ 1 → length (map f xs ++ zs) ≤ length zs + 1
in_front_once f xs zs one = simp (length-append, length-map) (omega (arith, one))

-- at most two events of threads and of locals and one of monitors for each entry
pub record Small (p : Parts) (k : ℕ) : Type 0 where
  pub threads : length p.threads ≤ 2 * k
  pub locals : length p.locals ≤ 2 * k
  pub monitors : length p.monitors ≤ k

small_after : (s : StatedSetup) (t : ℕ) (call : Call) (outcome : Outcome) (o : Option ObjId) (p : Parts) (k : ℕ) → Small p k
    → Small (after s t call outcome o p) (k + 1)
small_after s t call (Passed reply) o p k old =
    let b : Bool = is_effective reply.value in
    let acts = in_front (threads.by t) (value_threads reply.value o) (if_effective b (call_threads s p t call)) p.threads (value_threads-le reply.value o)
    (effective-le b (call_threads s p t call) 1 (call_threads-le s p t call)) in
    let of_locals = in_front (locals.by t) (value_locals reply.value o) (if_effective b (call_locals s p t call)) p.locals (value_locals-le reply.value o)
    (effective-le b (call_locals s p t call) 1 (call_locals-le s p t call)) in
    let of_monitors = in_front_once (monitors.by t) (if_effective b (call_monitors s p t call)) p.monitors
    (effective-le b (call_monitors s p t call) 1 (call_monitors-le s p t call)) in
    record {
      threads = omega (arith, acts, old.threads);
      locals = omega (arith, of_locals, old.locals);
      monitors = omega (arith, of_monitors, old.monitors);
    }
small_after s t call (Denied rule) o p k old =
    record { threads = omega (arith, old.threads); locals = omega (arith, old.locals); monitors = omega (arith, old.monitors) }

pub small : (s : StatedSetup) (h : List Entry) → Small (parts s h) (length h)
small s [] = record { threads = omega arith; locals = omega arith; monitors = omega arith }
small s (x ∷ h) =
    let more = small_after s x.tid.0 x.call x.outcome x.object (parts s h) (length h) (small s h) in
    record { threads = omega (arith, more.threads); locals = omega (arith, more.locals); monitors = omega (arith, more.monitors) }

-- a count is at most the number of events

did-le : (te : List threads.Event) (t : ℕ) → length (threads.acts_of t te) ≤ length te
did-le [] t = omega arith
did-le (ev ∷ te) t = grind (arith, nat_tests, did-le te t)

counted-le : (kind : threads.Act → Bool) (acts : List threads.Act) → threads.how_many kind acts ≤ length acts
counted-le kind [] = omega arith
counted-le kind (a ∷ acts) = grind (arith, nat_tests, counted-le kind acts)

since-le : (acts : List threads.Act) → length (threads.since acts) ≤ length acts
since-le [] = omega arith
since-le (threads.Detach ∷ acts) = omega arith
since-le (threads.Attach ∷ acts) = omega (arith, since-le acts)
since-le (threads.Enter ∷ acts) = omega (arith, since-le acts)
since-le (threads.Leave ∷ acts) = omega (arith, since-le acts)
since-le (threads.Raise o ∷ acts) = omega (arith, since-le acts)
since-le (threads.Calm ∷ acts) = omega (arith, since-le acts)
since-le (threads.CountRef ∷ acts) = omega (arith, since-le acts)
since-le (threads.CountBuffer ∷ acts) = omega (arith, since-le acts)

sessions_in-le : (acts : List threads.Act) → threads.sessions acts ≤ length acts
sessions_in-le [] = omega arith
sessions_in-le (threads.Attach ∷ acts) = grind (arith, nat_tests, sessions_in-le acts)
sessions_in-le (threads.Detach ∷ acts) = omega (arith, sessions_in-le acts)
sessions_in-le (threads.Enter ∷ acts) = omega (arith, sessions_in-le acts)
sessions_in-le (threads.Leave ∷ acts) = omega (arith, sessions_in-le acts)
sessions_in-le (threads.Raise o ∷ acts) = omega (arith, sessions_in-le acts)
sessions_in-le (threads.Calm ∷ acts) = omega (arith, sessions_in-le acts)
sessions_in-le (threads.CountRef ∷ acts) = omega (arith, sessions_in-le acts)
sessions_in-le (threads.CountBuffer ∷ acts) = omega (arith, sessions_in-le acts)

pub sessions-le : (te : List threads.Event) (t : ℕ) → threads.sessions (threads.acts_of t te) ≤ length te
sessions-le te t = omega (arith, sessions_in-le (threads.acts_of t te), did-le te t)

pub refs-le : (te : List threads.Event) (t : ℕ) → threads.refs (threads.acts_of t te) ≤ length te
refs-le te t = omega (arith, counted-le threads.is_count_ref (threads.acts_of t te), did-le te t)

pub buffers-le : (te : List threads.Event) (t : ℕ) → threads.buffers (threads.acts_of t te) ≤ length te
buffers-le te t = omega (arith, counted-le threads.is_count_buffer (threads.acts_of t te), did-le te t)

pub depth-le : (te : List threads.Event) (t : ℕ) → threads.depth (threads.acts_of t te) ≤ length te
depth-le te t = omega (arith, counted-le threads.is_enter (threads.since (threads.acts_of t te)), since-le (threads.acts_of t te), did-le te t)

acts_of-le : (le : List locals.Event) (t : ℕ) → length (acts_of t le) ≤ length le
acts_of-le [] t = omega arith
acts_of-le (ev ∷ le) t = grind (arith, nat_tests, acts_of-le le t)

done_at-le : (kind : Act → Bool) (d : ℕ) (acts : List Act) → done_at kind d acts ≤ length acts
done_at-le kind d [] = omega arith
done_at-le kind d (a ∷ acts) = grind (arith, nat_tests, done_at-le kind d acts)

pub frames-le : (d t : ℕ) (le : List locals.Event) → frames d (acts_of t le) ≤ length le
frames-le d t le = omega (arith, done_at-le is_push d (acts_of t le), acts_of-le le t)

count_of-le : (k : ℕ) (e : List heap.Event) → heap.count_of k e ≤ k + length e
count_of-le k [] = omega arith
count_of-le k (heap.Made m ∷ e) = omega (arith, count_of-le k e)
count_of-le k (heap.Wrote o j v ∷ e) = omega (arith, count_of-le k e)
count_of-le k (heap.Collected roots ∷ e) = omega (arith, count_of-le k e)
count_of-le k (heap.Went o ∷ e) = omega (arith, count_of-le k e)
