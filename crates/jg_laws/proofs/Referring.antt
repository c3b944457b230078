-- What references name and threads have pending meets a condition, where all that is newly named meets it.
use Rattle.std.proofs.Common.{ℕ, ◌≡◌, ◌++◌, ◌∙◌, Bool, true, false, List, [], ◌∷◌, map, Option, Some, None, refl, ap, sym, subst}
use Rattle.std.specs.Prelude.{◌==◌, ◌&&◌, ◌||◌, not, nat_le, if◌then◌else◌}
use Rattle.std.specs.List.{list_any}
use Rattle.std.proofs.lemmas.Bool.{or_from}
use Rattle.jg_words.specs.declared.object.ObjId.{ObjId}
use Rattle.jg_words.proofs.Common.{not_and_parts}
use Rattle.jg_table_globals.specs.History as globals
use Rattle.jg_table_globals.specs.History.{is_same, clears, unless_cleared, after_making}
use Rattle.jg_table_globals.specs.declared.target.Target.TheVariants.{Object as ToObject, Cleared}
use Rattle.jg_table_threads.specs.History as threads
use Rattle.jg_table_threads.specs.History.{pending}
use Rattle.jg_table_locals.specs.History.{Act, Start, Make, Push, Ensure, Enter, Delete, Pop, Leave, End, Event, by, acts_of, depth, frames, how_many, is_enter, is_leave, is_push, is_pop, Making, Local, making, seen_after, done_here, ends, survives, local_if_live, object_of, live}
use Rattle.jg_table_locals.proofs.Callers.{acts_more, acts_same, each_thread}
use Rattle.jg_laws.proofs.Acts.{did_more, did_same}

-- ---- locals

abbrev pub LocalsMeet : (ℕ → Type 0) → List Event → Type 0
LocalsMeet H e = (t n o : ℕ) → live n (acts_of t e) ≡ Some o → H o

-- the local of a making
abbrev local_of : ℕ → Making → Local
local_of n m = record { n = n; object = m.object; depth = depth m.before; frame = frames (depth m.before) m.before }

kept_if : (x y z : Bool) (l : Local) (o : ℕ) → object_of (if (x && y) && z then Some l else None) ≡ Some o → object_of (if x then Some l else None) ≡ Some o
kept_if true true true l o is = is
kept_if true true false l o is = absurd cc
kept_if true false z l o is = absurd cc
kept_if false y z l o is = absurd cc

-- a local that is live after one act more was so before, unless the act made it
pub seen_still : (n o : ℕ) (a : Act) (found : Option Making) → object_of (local_if_live n (seen_after a found)) ≡ Some o
    → object_of (local_if_live n found) ≡ Some o
seen_still n o a None is = absurd cc
seen_still n o a (Some m) is =
    kept_if (survives n m.later) (not (ends n a))
    (nat_le (how_many is_leave (a ∷ m.later)) (how_many is_enter (a ∷ m.later)) && nat_le (done_here is_pop (a ∷ m.later)) (done_here is_push (a ∷ m.later)))
    (local_of n m) o is

abbrev pub is_make : Act → Bool
is_make (Make n o) = true
is_make a = false

pub live_still : (n o : ℕ) (a : Act) (acts : List Act) → is_make a ≡ false → live n (a ∷ acts) ≡ Some o → live n acts ≡ Some o
live_still n o Start acts quiet is = seen_still n o Start (making n acts) is
live_still n o (Make m p) acts quiet is = absurd cc
live_still n o (Push room) acts quiet is = seen_still n o (Push room) (making n acts) is
live_still n o (Ensure c) acts quiet is = seen_still n o (Ensure c) (making n acts) is
live_still n o Enter acts quiet is = seen_still n o Enter (making n acts) is
live_still n o (Delete m) acts quiet is = seen_still n o (Delete m) (making n acts) is
live_still n o Pop acts quiet is = seen_still n o Pop (making n acts) is
live_still n o Leave acts quiet is = seen_still n o Leave (making n acts) is
live_still n o End acts quiet is = seen_still n o End (making n acts) is

made_meets : (H : ℕ → Type 0) (b : Bool) (n m o p : ℕ) (acts : List Act) → H p → (live n acts ≡ Some o → H o)
    → object_of (local_if_live n (if b then Some (record { later = []; object = p; before = acts }) else seen_after (Make m p) (making n acts))) ≡ Some o → H o
made_meets H true n m o p acts new old is = (let same : p ≡ o = cc in subst H same new)
made_meets H false n m o p acts new old is = old (seen_still n o (Make m p) (making n acts) is)

locals_on : (H : ℕ → Type 0) (e : List Event) (u : ℕ) (a : Act) → LocalsMeet H e → ((n o : ℕ) → live n (a ∷ acts_of u e) ≡ Some o → H o)
    → LocalsMeet H (by u a ∷ e)
locals_on H e u a old here t =
    each_thread (λ v. (n o : ℕ) → live n (acts_of v (by u a ∷ e)) ≡ Some o → H o) u
    (rw (acts_more u u a e refl) here)
    (λ v differ. rw (acts_same v u a e differ) (old v))
    t

pub locals_made : (H : ℕ → Type 0) (e : List Event) (u n o : ℕ) → H o → LocalsMeet H e → LocalsMeet H (by u (Make n o) ∷ e)
locals_made H e u n o new old = locals_on H e u (Make n o) old (λ k p is. made_meets H (n == k) k n p o (acts_of u e) new (old u k p) is)

-- none of the acts makes a local
abbrev pub make_none : List Act → Bool
make_none [] = true
make_none (a ∷ acts) = not (is_make a) && make_none acts

pub locals_still : (H : ℕ → Type 0) (e : List Event) (u : ℕ) (acts : List Act) → make_none acts ≡ true → LocalsMeet H e → LocalsMeet H (map (by u) acts ++ e)
locals_still H e u [] none old = old
locals_still H e u (a ∷ acts) none old =
    let quiet = not_and_parts (is_make a) (make_none acts) none in
    let rest = locals_still H e u acts quiet.1 old in
    locals_on H (map (by u) acts ++ e) u a rest (λ n o is. rest u n o (live_still n o a (acts_of u (map (by u) acts ++ e)) quiet.0 is))

-- ---- pending exceptions

abbrev pub PendingMeets : (ℕ → Type 0) → List threads.Event → Type 0
PendingMeets H e = (t o : ℕ) → pending (threads.acts_of t e) ≡ Some o → H o

-- what the acts raise meets the condition
abbrev pub RaisesMeet : (ℕ → Type 0) → List threads.Act → Type 0
RaisesMeet H [] = Unit {0}
RaisesMeet H (threads.Raise o ∷ acts) = H o × RaisesMeet H acts
RaisesMeet H (a ∷ acts) = RaisesMeet H acts

pending_on : (H : ℕ → Type 0) (e : List threads.Event) (u : ℕ) (a : threads.Act) → PendingMeets H e
    → ((o : ℕ) → pending (a ∷ threads.acts_of u e) ≡ Some o → H o)
    → PendingMeets H (threads.by u a ∷ e)
pending_on H e u a old here t =
    each_thread (λ v. (o : ℕ) → pending (threads.acts_of v (threads.by u a ∷ e)) ≡ Some o → H o) u
    (rw (did_more u a e) here)
    (λ v differ. rw (did_same v u a e differ) (old v))
    t

raised : (H : ℕ → Type 0) (p o : ℕ) → H p → Some p ≡ Some o → H o
raised H p o new is = (let same : p ≡ o = cc in subst H same new)

pub pending_more : (H : ℕ → Type 0) (e : List threads.Event) (u : ℕ) (acts : List threads.Act) → RaisesMeet H acts → PendingMeets H e
    → PendingMeets H (map (threads.by u) acts ++ e)
pending_more H e u [] new old = old
pending_more H e u (threads.Raise p ∷ acts) new old = pending_on H _ u (threads.Raise p) (pending_more H e u acts new.1 old) (λ o is. raised H p o new.0 is)
pending_more H e u (threads.Attach ∷ acts) new old = (let rest = pending_more H e u acts new old in pending_on H _ u threads.Attach rest (λ o is. rest u o is))
pending_more H e u (threads.Detach ∷ acts) new old = pending_on H _ u threads.Detach (pending_more H e u acts new old) (λ o is. absurd cc)
pending_more H e u (threads.Enter ∷ acts) new old = (let rest = pending_more H e u acts new old in pending_on H _ u threads.Enter rest (λ o is. rest u o is))
pending_more H e u (threads.Leave ∷ acts) new old = (let rest = pending_more H e u acts new old in pending_on H _ u threads.Leave rest (λ o is. rest u o is))
pending_more H e u (threads.Calm ∷ acts) new old = pending_on H _ u threads.Calm (pending_more H e u acts new old) (λ o is. absurd cc)
pending_more H e u (threads.CountRef ∷ acts) new old =
    (let rest = pending_more H e u acts new old in pending_on H _ u threads.CountRef rest (λ o is. rest u o is))
pending_more H e u (threads.CountBuffer ∷ acts) new old =
    (let rest = pending_more H e u acts new old in pending_on H _ u threads.CountBuffer rest (λ o is. rest u o is))

-- ---- global references

abbrev pub StrongMeets : (ℕ → Type 0) → List globals.Event → Type 0
StrongMeets H e = (maker n o : ℕ) → globals.strong e maker n ≡ Some o → H o

abbrev pub WeakMeets : (ℕ → Type 0) → List globals.Event → Type 0
WeakMeets H e = (maker n : ℕ) (o : ObjId) → globals.weak_target e maker n ≡ Some (ToObject o) → H o.0

-- what the events make references for meets the condition
abbrev pub MakesMeet : (ℕ → Type 0) → List globals.Event → Type 0
MakesMeet H [] = Unit {0}
MakesMeet H (globals.MakeStrong k i o ∷ e) = H o × MakesMeet H e
MakesMeet H (globals.MakeWeak k i o ∷ e) = H o × MakesMeet H e
MakesMeet H (ev ∷ e) = MakesMeet H e

strong_made : (H : ℕ → Type 0) (b : Bool) (p o : ℕ) (old : Option ℕ) → H p → (old ≡ Some o → H o) → (if b then Some p else old) ≡ Some o → H o
strong_made H true p o old new was is = raised H p o new is
strong_made H false p o old new was is = was is

strong_ended : (H : ℕ → Type 0) (b : Bool) (o : ℕ) (old : Option ℕ) → (old ≡ Some o → H o) → (if b then None else old) ≡ Some o → H o
strong_ended H true o old was is = absurd cc
strong_ended H false o old was is = was is

pub strong_more : (H : ℕ → Type 0) (new e : List globals.Event) → MakesMeet H new → StrongMeets H e → StrongMeets H (new ++ e)
strong_more H [] e made old = old
strong_more H (globals.MakeStrong k i p ∷ new) e made old =
    λ m n o is. strong_made H (is_same m n k i) p o (globals.strong (new ++ e) m n) made.0 (strong_more H new e made.1 old m n o) is
strong_more H (globals.MakeWeak k i p ∷ new) e made old = strong_more H new e made.1 old
strong_more H (globals.DeleteStrong k i ∷ new) e made old =
    λ m n o is. strong_ended H (is_same m n k i) o (globals.strong (new ++ e) m n) (strong_more H new e made old m n o) is
strong_more H (globals.DeleteWeak k i ∷ new) e made old = strong_more H new e made old
strong_more H (globals.Clear p ∷ new) e made old = strong_more H new e made old

uncleared_if : (b c : Bool) (x o : ObjId) → Some (if b || c then Cleared else ToObject x) ≡ Some (ToObject o)
    → (b ≡ false) × (Some (if c then Cleared else ToObject x) ≡ Some (ToObject o))
uncleared_if true c x o is = absurd cc
uncleared_if false c x o is = (refl, is)

-- a weak reference that names an object after one event more did so before, and the event didn't clear it
uncleared : (ev : globals.Event) (later : List globals.Event) (found : Option ℕ) (o : ObjId) → unless_cleared (ev ∷ later) found ≡ Some (ToObject o)
    → unless_cleared later found ≡ Some (ToObject o)
uncleared ev later None o is = absurd cc
uncleared ev later (Some p) o is = (uncleared_if (clears p ev) (list_any (clears p) later) (record { 0 = p }) o is).1

weak_made : (H : ℕ → Type 0) (b : Bool) (ev : globals.Event) (p : ℕ) (o : ObjId) (later : List globals.Event) (old : Option ℕ) → H p
    → (unless_cleared later old ≡ Some (ToObject o) → H o.0)
    → unless_cleared (if b then [] else ev ∷ later) (if b then Some p else old) ≡ Some (ToObject o) → H o.0
weak_made H true ev p o later old new was is = (let same : p ≡ o.0 = cc in subst H same new)
weak_made H false ev p o later old new was is = was (uncleared ev later old o is)

weak_ended : (H : ℕ → Type 0) (b : Bool) (ev : globals.Event) (o : ObjId) (later : List globals.Event) (old : Option ℕ)
    → (unless_cleared later old ≡ Some (ToObject o) → H o.0)
    → unless_cleared (ev ∷ later) (if b then None else old) ≡ Some (ToObject o) → H o.0
weak_ended H true ev o later old was is = absurd cc
weak_ended H false ev o later old was is = was (uncleared ev later old o is)

pub weak_more : (H : ℕ → Type 0) (new e : List globals.Event) → MakesMeet H new → WeakMeets H e → WeakMeets H (new ++ e)
weak_more H [] e made old = old
weak_more H (globals.MakeWeak k i p ∷ new) e made old = λ m n o is.
    weak_made H (is_same m n k i) (globals.MakeWeak k i p) p o (after_making m n (new ++ e)) (globals.weak (new ++ e) m n) made.0
    (weak_more H new e made.1 old m n o) is
weak_more H (globals.MakeStrong k i p ∷ new) e made old = λ m n o is.
    weak_more H new e made.1 old m n o (uncleared (globals.MakeStrong k i p) (after_making m n (new ++ e)) (globals.weak (new ++ e) m n) o is)
weak_more H (globals.DeleteStrong k i ∷ new) e made old = λ m n o is.
    weak_more H new e made old m n o (uncleared (globals.DeleteStrong k i) (after_making m n (new ++ e)) (globals.weak (new ++ e) m n) o is)
weak_more H (globals.DeleteWeak k i ∷ new) e made old = λ m n o is.
    weak_ended H (is_same m n k i) (globals.DeleteWeak k i) o (after_making m n (new ++ e)) (globals.weak (new ++ e) m n) (weak_more H new e made old m n o) is
weak_more H (globals.Clear p ∷ new) e made old = λ m n o is.
    weak_more H new e made old m n o (uncleared (globals.Clear p) (after_making m n (new ++ e)) (globals.weak (new ++ e) m n) o is)

object_is : (x : ℕ) (o : ObjId) (b : Bool) → Some (if b then Cleared else ToObject (record { 0 = x })) ≡ Some (ToObject o) → x ≡ o.0
object_is x o true is = absurd cc
object_is x o false is = cc

spared_on : (p : ℕ) (o : ObjId) (later : List globals.Event) (found : Option ℕ) (others : Bool) (Rest : Type 0)
    → (unless_cleared later found ≡ Some (ToObject o) → (others ≡ false) × Rest)
    → unless_cleared (globals.Clear p ∷ later) found ≡ Some (ToObject o) → (((p == o.0) || others) ≡ false) × Rest
spared_on p o later None others Rest rest is = absurd cc
spared_on p o later (Some x) others Rest rest is =
    let both = uncleared_if (p == x) (list_any (clears x) later) (record { 0 = x }) o is in
    let same : x ≡ o.0 = object_is x o (list_any (clears x) later) both.1 in
    let older = rest both.1 in
    (or_from (p == o.0) others (ap (λ y. p == y) (sym same) ∙ both.0) older.0, older.1)

-- a weak reference that names an object after others were cleared names none of those
pub spared : (objects : List ℕ) (e : List globals.Event) (m n : ℕ) (o : ObjId)
    → globals.weak_target (map (λ p. globals.Clear p) objects ++ e) m n ≡ Some (ToObject o)
    → (list_any (λ p. p == o.0) objects ≡ false) × (globals.weak_target e m n ≡ Some (ToObject o))
spared [] e m n o is = (refl, is)
spared (p ∷ objects) e m n o is =
    let after : List globals.Event = map (λ q. globals.Clear q) objects ++ e in
    spared_on p o (after_making m n after) (globals.weak after m n) (list_any (λ q. q == o.0) objects) (globals.weak_target e m n ≡ Some (ToObject o))
    (spared objects e m n o) is
