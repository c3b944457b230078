-- What the events of a legal history keep.
use Rattle.std.proofs.Common.{ℕ, ◌≡◌, ◌+◌, ◌<◌, ◌≤◌, Bool, true, false, List, [], ◌∷◌, ◌++◌, refl, subst, sym, ap, ◌∙◌, arith}
use Rattle.jg_words.specs.Entry.{Entry}
use Rattle.jg_policy.specs.Stated.{StatedSetup}
use Rattle.jg_table_threads.specs.History as threads
use Rattle.jg_table_locals.specs.History.{Act, Start, Make, Push, Ensure, Enter, Delete, Pop, Leave, End, Event, by, acts_of, session, has_session, is_enter, is_leave, IsMadeBelow}
use Rattle.jg_table_locals.proofs.Callers.{acts_more, acts_same, each_thread}
use Rattle.jg_rules.specs.Parts.{Parts}
use Rattle.jg_rules.specs.Names.{next_ref}
use Rattle.jg_rules.specs.Effects.{parts}
use Rattle.jg_rules.specs.Legal.{Legal}
use Rattle.jg_laws.specs.Laws.{Agree, AgreeInNatives}
use Rattle.jg_table_globals.specs.History as globals
use Rattle.jg_table_globals.specs.Laws as global_laws
use Rattle.jg_laws.proofs.Acts.{did_more, did_same, refs_same}
use Rattle.jg_laws.proofs.Steps.{Steps, each_legal, make_no_global}

-- the two tables agree on a thread
abbrev pub Agreed : List threads.Act → List Act → Type 0
Agreed ta la = AgreeInNatives ta la

-- so they do after one act in each, if they did on all threads before
agreed_both : (te : List threads.Event) (le : List Event) (u : ℕ) (a : threads.Act) (b : Act) → ((t : ℕ) → Agreed (threads.acts_of t te) (acts_of t le))
    → Agreed (a ∷ threads.acts_of u te) (b ∷ acts_of u le) → (t : ℕ) → Agreed (threads.acts_of t (threads.by u a ∷ te)) (acts_of t (by u b ∷ le))
agreed_both te le u a b old here t =
    each_thread (λ v. Agreed (threads.acts_of v (threads.by u a ∷ te)) (acts_of v (by u b ∷ le))) u
    (rw (did_more u a te, acts_more u u b le refl) here)
    (λ v differ. rw (did_same v u a te differ, acts_same v u b le differ) (old v))
    t

agreed_threads : (te : List threads.Event) (le : List Event) (u : ℕ) (a : threads.Act) → ((t : ℕ) → Agreed (threads.acts_of t te) (acts_of t le))
    → Agreed (a ∷ threads.acts_of u te) (acts_of u le) → (t : ℕ) → Agreed (threads.acts_of t (threads.by u a ∷ te)) (acts_of t le)
agreed_threads te le u a old here t =
    each_thread (λ v. Agreed (threads.acts_of v (threads.by u a ∷ te)) (acts_of v le)) u
    (rw (did_more u a te) here)
    (λ v differ. rw (did_same v u a te differ) (old v))
    t

agreed_locals : (te : List threads.Event) (le : List Event) (u : ℕ) (b : Act) → ((t : ℕ) → Agreed (threads.acts_of t te) (acts_of t le))
    → Agreed (threads.acts_of u te) (b ∷ acts_of u le) → (t : ℕ) → Agreed (threads.acts_of t te) (acts_of t (by u b ∷ le))
agreed_locals te le u b old here t =
    each_thread (λ v. Agreed (threads.acts_of v te) (acts_of v (by u b ∷ le))) u
    (rw (acts_more u u b le refl) here)
    (λ v differ. rw (acts_same v u b le differ) (old v))
    t

begun_here : (ta : List threads.Act) (la : List Act) → threads.attached ta ≡ false → Agreed ta la → Agreed (threads.Attach ∷ ta) (Start ∷ la)
begun_here ta la none old = record {
  session = refl;
  enters = old.none_entered none;
  leaves = old.none_left none;
  none_entered = λ is. absurd cc;
  none_left = λ is. absurd cc;
}

off_and_on : (ta : List threads.Act) → threads.attached ta ≡ true → threads.attached ta ≡ false → ⊥
off_and_on ta is off = cc

attached_again : (ta : List threads.Act) (la : List Act) → threads.attached ta ≡ true → Agreed ta la → Agreed (threads.Attach ∷ ta) la
attached_again ta la is old = record {
  session = sym is ∙ old.session;
  enters = old.enters;
  leaves = old.leaves;
  none_entered = λ off. absurd cc;
  none_left = λ off. absurd cc;
}

entered_here : (ta : List threads.Act) (la : List Act) → threads.attached ta ≡ true → Agreed ta la → Agreed (threads.Enter ∷ ta) (Enter ∷ la)
entered_here ta la on old = record {
  session = old.session;
  enters = ap (λ n. n + 1) old.enters;
  leaves = old.leaves;
  none_entered = λ off. absurd (off_and_on ta on off);
  none_left = λ off. absurd (off_and_on ta on off);
}

left_here : (ta : List threads.Act) (la : List Act) → threads.attached ta ≡ true → Agreed ta la → Agreed (threads.Leave ∷ ta) (Leave ∷ la)
left_here ta la on old = record {
  session = old.session;
  enters = old.enters;
  leaves = ap (λ n. n + 1) old.leaves;
  none_entered = λ off. absurd (off_and_on ta on off);
  none_left = λ off. absurd (off_and_on ta on off);
}

-- what one of the tables is told of sessions and native methods
abbrev told_threads : List threads.Act → Bool × ℕ × ℕ
told_threads ta = (threads.attached ta, threads.how_many threads.is_enter (threads.since ta), threads.how_many threads.is_leave (threads.since ta))

abbrev told_locals : List Act → Bool × ℕ × ℕ
told_locals la = (has_session la, threads.how_many is_enter (session la), threads.how_many is_leave (session la))

-- acts that change neither sessions nor native methods
agreed_still : (ta ta' : List threads.Act) (la la' : List Act) → told_threads ta' ≡ told_threads ta → told_locals la' ≡ told_locals la → Agreed ta la
    → Agreed ta' la'
agreed_still ta ta' la la' same_threads same_locals old = record {
  session = ap (λ x. x.0) same_threads ∙ (old.session ∙ sym (ap (λ x. x.0) same_locals));
  enters = ap (λ x. x.1) same_threads ∙ (old.enters ∙ sym (ap (λ x. x.1) same_locals));
  leaves = ap (λ x. x.2) same_threads ∙ (old.leaves ∙ sym (ap (λ x. x.2) same_locals));
  none_entered = λ off. ap (λ x. x.1) same_threads ∙ old.none_entered (sym (ap (λ x. x.0) same_threads) ∙ off);
  none_left = λ off. ap (λ x. x.2) same_threads ∙ old.none_left (sym (ap (λ x. x.0) same_threads) ∙ off);
}

pub agree_steps : (s : StatedSetup) → Steps s (λ p. (t : ℕ) → Agreed (threads.acts_of t p.threads) (acts_of t p.locals))
agree_steps s = record {
  begins = λ p u is old. agreed_both p.threads p.locals u threads.Attach Start old (begun_here _ _ is (old u));
  begun = λ p u is old. agreed_threads p.threads p.locals u threads.Attach old (attached_again _ _ is (old u));
  ends = λ p u old. agreed_both p.threads p.locals u threads.Detach End old
      (record { session = refl; enters = refl; leaves = refl; none_entered = λ off. refl; none_left = λ off. refl });
  enters = λ p u on old. agreed_both p.threads p.locals u threads.Enter Enter old (entered_here _ _ on (old u));
  leaves = λ p u on deep old. agreed_both p.threads p.locals u threads.Leave Leave old (left_here _ _ on (old u));
  to_globals = λ p e none old. old;
  to_buffers = λ p e none old. old;
  to_monitors = λ p e old. old;
  to_heap = λ p e all old. old;
  to_links = λ p e old. old;
  hands = λ p u n o is old. agreed_both p.threads p.locals u threads.CountRef (Make n o) old (agreed_still _ _ _ _ refl refl (old u));
  hands_strong = λ p u n o is old. agreed_threads p.threads p.locals u threads.CountRef old (agreed_still _ _ _ _ refl refl (old u));
  hands_weak = λ p u n o is old. agreed_threads p.threads p.locals u threads.CountRef old (agreed_still _ _ _ _ refl refl (old u));
  lends = λ p u b own old. agreed_threads p.threads p.locals u threads.CountBuffer old (agreed_still _ _ _ _ refl refl (old u));
  raises = λ p u o old. agreed_threads p.threads p.locals u (threads.Raise o) old (agreed_still _ _ _ _ refl refl (old u));
  calms = λ p u old. agreed_threads p.threads p.locals u threads.Calm old (agreed_still _ _ _ _ refl refl (old u));
  deletes = λ p u n old. agreed_locals p.threads p.locals u (Delete n) old (agreed_still _ _ _ _ refl refl (old u));
  pushes = λ p u room old. agreed_locals p.threads p.locals u (Push room) old (agreed_still _ _ _ _ refl refl (old u));
  widens = λ p u c old. agreed_locals p.threads p.locals u (Ensure c) old (agreed_still _ _ _ _ refl refl (old u));
  pops = λ p u some old. agreed_locals p.threads p.locals u Pop old (agreed_still _ _ _ _ refl refl (old u));
}

pub agreed : (s : StatedSetup) (h : List Entry) → Legal s h → (t : ℕ) → Agreed (threads.acts_of t (parts s h).threads) (acts_of t (parts s h).locals)
agreed s h legal t =
    let start : (t : ℕ) → Agreed (threads.acts_of t []) (acts_of t []) =
    λ t. record { session = refl; enters = refl; leaves = refl; none_entered = λ off. refl; none_left = λ off. refl } in
    each_legal (λ p. (t : ℕ) → Agreed (threads.acts_of t p.threads) (acts_of t p.locals)) s (agree_steps s) start h legal t

-- so they agree on the depth
pub agree_of : (ta : List threads.Act) (la : List Act) → Agreed ta la → Agree ta la
agree_of ta la a = record { session = a.session; depth = rw (a.enters, a.leaves) refl }

pub agree : (s : StatedSetup) (h : List Entry) (t : ℕ) → Legal s h → Agree (threads.acts_of t (parts s h).threads) (acts_of t (parts s h).locals)
agree s h t legal = agree_of _ _ (agreed s h legal t)

-- each local's number was handed out
abbrev pub Below : Parts → Type 0
Below p = (t : ℕ) → IsMadeBelow (next_ref p t) (acts_of t p.locals)

below_more : (n m : ℕ) (acts : List Act) → n ≤ m → IsMadeBelow n acts → IsMadeBelow m acts
below_more n m [] le below = below
below_more n m (Make k o ∷ acts) le below = (omega (arith, below.0, le), below_more n m acts le below.1)
below_more n m (Start ∷ acts) le below = below_more n m acts le below
below_more n m (Push room ∷ acts) le below = below_more n m acts le below
below_more n m (Ensure c ∷ acts) le below = below_more n m acts le below
below_more n m (Enter ∷ acts) le below = below_more n m acts le below
below_more n m (Delete k ∷ acts) le below = below_more n m acts le below
below_more n m (Pop ∷ acts) le below = below_more n m acts le below
below_more n m (Leave ∷ acts) le below = below_more n m acts le below
below_more n m (End ∷ acts) le below = below_more n m acts le below

-- an act that hands out nothing leaves each thread's next number
pub next_same : (p : Parts) (u : ℕ) (a : threads.Act) → threads.is_count_ref a ≡ false → (t : ℕ)
    → next_ref (record p { threads = threads.by u a ∷ p.threads }) t ≡ next_ref p t
next_same p u a quiet t = ap (λ n. n + 1) (refs_same p.threads u a quiet t)

-- an act that makes no local
below_same : (p : Parts) (u : ℕ) (a : Act) → ((n : ℕ) (acts : List Act) → IsMadeBelow n acts → IsMadeBelow n (a ∷ acts)) → Below p → (t : ℕ)
    → IsMadeBelow (next_ref p t) (acts_of t (by u a ∷ p.locals))
below_same p u a keeps old t =
    each_thread (λ v. IsMadeBelow (next_ref p v) (acts_of v (by u a ∷ p.locals))) u
    (rw (acts_more u u a p.locals refl) (keeps _ _ (old u)))
    (λ v differ. rw (acts_same v u a p.locals differ) (old v))
    t

below_quiet : (p : Parts) (u : ℕ) (a : threads.Act) (le : List Event) → threads.is_count_ref a ≡ false
    → ((t : ℕ) → IsMadeBelow (next_ref p t) (acts_of t le)) → (t : ℕ)
    → IsMadeBelow (next_ref (record p { threads = threads.by u a ∷ p.threads }) t) (acts_of t le)
below_quiet p u a le quiet old t = rw (next_same p u a quiet t) (old t)

pub next_more : (p : Parts) (u : ℕ) → next_ref (record p { threads = threads.by u threads.CountRef ∷ p.threads }) u ≡ next_ref p u + 1
next_more p u = rw (did_more u threads.CountRef p.threads) refl

below_counted : (p : Parts) (u : ℕ) → Below p → (t : ℕ)
    → IsMadeBelow (next_ref (record p { threads = threads.by u threads.CountRef ∷ p.threads }) t) (acts_of t p.locals)
below_counted p u old t =
    each_thread (λ v. IsMadeBelow (next_ref (record p { threads = threads.by u threads.CountRef ∷ p.threads }) v) (acts_of v p.locals)) u
    (subst (λ (n : ℕ). IsMadeBelow n (acts_of u p.locals)) (sym (next_more p u))
    (below_more (next_ref p u) (next_ref p u + 1) (acts_of u p.locals) (omega arith) (old u)))
    (λ v differ. rw (did_same v u threads.CountRef p.threads differ) (old v))
    t

below_made : (p : Parts) (u o : ℕ) → Below p → (t : ℕ) → IsMadeBelow (next_ref (record p { threads = threads.by u threads.CountRef ∷ p.threads }) t)
    (acts_of t (by u (Make (next_ref p u) o) ∷ p.locals))
below_made p u o old t =
    each_thread (λ v. IsMadeBelow (next_ref (record p { threads = threads.by u threads.CountRef ∷ p.threads }) v)
    (acts_of v (by u (Make (next_ref p u) o) ∷ p.locals))) u
    (let made : IsMadeBelow (next_ref p u + 1) (Make (next_ref p u) o ∷ acts_of u p.locals) =
    (omega arith, below_more (next_ref p u) (next_ref p u + 1) (acts_of u p.locals) (omega arith) (old u)) in
    rw (acts_more u u (Make (next_ref p u) o) p.locals refl)
    (subst (λ (n : ℕ). IsMadeBelow n (Make (next_ref p u) o ∷ acts_of u p.locals)) (sym (next_more p u)) made))
    (λ v differ. rw (acts_same v u (Make (next_ref p u) o) p.locals differ, did_same v u threads.CountRef p.threads differ) (old v))
    t

pub below_steps : (s : StatedSetup) → Steps s Below
below_steps s = record {
  begins = λ p u is old. below_quiet p u threads.Attach (by u Start ∷ p.locals) refl (below_same p u Start (λ n acts b. b) old);
  begun = λ p u is old. below_quiet p u threads.Attach p.locals refl old;
  ends = λ p u old. below_quiet p u threads.Detach (by u End ∷ p.locals) refl (below_same p u End (λ n acts b. b) old);
  enters = λ p u on old. below_quiet p u threads.Enter (by u Enter ∷ p.locals) refl (below_same p u Enter (λ n acts b. b) old);
  leaves = λ p u on deep old. below_quiet p u threads.Leave (by u Leave ∷ p.locals) refl (below_same p u Leave (λ n acts b. b) old);
  to_globals = λ p e none old. old;
  to_buffers = λ p e none old. old;
  to_monitors = λ p e old. old;
  to_heap = λ p e all old. old;
  to_links = λ p e old. old;
  hands = λ p u n o is old. rw is (below_made p u o old);
  hands_strong = λ p u n o is old. below_counted p u old;
  hands_weak = λ p u n o is old. below_counted p u old;
  lends = λ p u b own old. below_quiet p u threads.CountBuffer p.locals refl old;
  raises = λ p u o old. below_quiet p u (threads.Raise o) p.locals refl old;
  calms = λ p u old. below_quiet p u threads.Calm p.locals refl old;
  deletes = λ p u n old. below_same p u (Delete n) (λ k acts b. b) old;
  pushes = λ p u room old. below_same p u (Push room) (λ n acts b. b) old;
  widens = λ p u c old. below_same p u (Ensure c) (λ n acts b. b) old;
  pops = λ p u some old. below_same p u Pop (λ n acts b. b) old;
}

pub below : (s : StatedSetup) (h : List Entry) → Legal s h → Below (parts s h)
below s h legal = each_legal Below s (below_steps s) (λ t. tt) h legal

-- a thread's next number never falls
abbrev pub AtLeast : ℕ → ℕ → Parts → Type 0
AtLeast t n p = n ≤ next_ref p t

counted_at_least : (t n : ℕ) (p : Parts) (u : ℕ) → n ≤ next_ref p t → n ≤ next_ref (record p { threads = threads.by u threads.CountRef ∷ p.threads }) t
counted_at_least t n p u old =
    each_thread (λ v. n ≤ next_ref p v → n ≤ next_ref (record p { threads = threads.by u threads.CountRef ∷ p.threads }) v) u
    (λ le. rw (next_more p u) (omega (arith, le)))
    (λ v differ le. rw (did_same v u threads.CountRef p.threads differ) le)
    t old

pub at_least_steps : (s : StatedSetup) (t n : ℕ) → Steps s (AtLeast t n)
at_least_steps s t n = record {
  begins = λ p u is old. rw (next_same p u threads.Attach refl t) old;
  begun = λ p u is old. rw (next_same p u threads.Attach refl t) old;
  ends = λ p u old. rw (next_same p u threads.Detach refl t) old;
  enters = λ p u on old. rw (next_same p u threads.Enter refl t) old;
  leaves = λ p u on deep old. rw (next_same p u threads.Leave refl t) old;
  deletes = λ p u k old. old;
  pushes = λ p u room old. old;
  widens = λ p u c old. old;
  pops = λ p u some old. old;
  to_globals = λ p e none old. old;
  to_buffers = λ p e none old. old;
  to_monitors = λ p e old. old;
  to_heap = λ p e all old. old;
  to_links = λ p e old. old;
  hands = λ p u k o is old. counted_at_least t n p u old;
  hands_strong = λ p u k o is old. counted_at_least t n p u old;
  hands_weak = λ p u k o is old. counted_at_least t n p u old;
  lends = λ p u b own old. rw (next_same p u threads.CountBuffer refl t) old;
  raises = λ p u o old. rw (next_same p u (threads.Raise o) refl t) old;
  calms = λ p u old. rw (next_same p u threads.Calm refl t) old;
}

-- ---- each global reference's number was handed out

abbrev pub GlobalsBelow : Parts → Type 0
GlobalsBelow p = (t : ℕ) → global_laws.IsMadeBelow t (next_ref p t) p.globals

global_more : (t n m : ℕ) (e : List globals.Event) → n ≤ m → global_laws.IsMadeBelow t n e → global_laws.IsMadeBelow t m e
global_more t n m [] le below = below
global_more t n m (globals.MakeStrong k i o ∷ e) le below = (λ is. omega (arith, below.0 is, le), global_more t n m e le below.1)
global_more t n m (globals.MakeWeak k i o ∷ e) le below = (λ is. omega (arith, below.0 is, le), global_more t n m e le below.1)
global_more t n m (globals.DeleteStrong k i ∷ e) le below = global_more t n m e le below
global_more t n m (globals.DeleteWeak k i ∷ e) le below = global_more t n m e le below
global_more t n m (globals.Clear o ∷ e) le below = global_more t n m e le below

global_none : (t n : ℕ) (e g : List globals.Event) → make_no_global e ≡ true → global_laws.IsMadeBelow t n g → global_laws.IsMadeBelow t n (e ++ g)
global_none t n [] g none below = below
global_none t n (globals.MakeStrong k i o ∷ e) g none below = absurd cc
global_none t n (globals.MakeWeak k i o ∷ e) g none below = absurd cc
global_none t n (globals.DeleteStrong k i ∷ e) g none below = global_none t n e g none below
global_none t n (globals.DeleteWeak k i ∷ e) g none below = global_none t n e g none below
global_none t n (globals.Clear o ∷ e) g none below = global_none t n e g none below

global_quiet : (p : Parts) (u : ℕ) (a : threads.Act) → threads.is_count_ref a ≡ false → GlobalsBelow p
    → GlobalsBelow (record p { threads = threads.by u a ∷ p.threads })
global_quiet p u a quiet old t = rw (next_same p u a quiet t) (old t)

global_counted : (p : Parts) (u : ℕ) → GlobalsBelow p → GlobalsBelow (record p { threads = threads.by u threads.CountRef ∷ p.threads })
global_counted p u old t = global_more t (next_ref p t) _ p.globals (counted_at_least t (next_ref p t) p u (omega arith)) (old t)

-- the number that is handed out now is below its maker's next one
global_first : (p : Parts) (u n t : ℕ) → n ≡ next_ref p u → u ≡ t → n < next_ref (record p { threads = threads.by u threads.CountRef ∷ p.threads }) t
global_first p u n t is same =
    subst (λ (v : ℕ). n < next_ref (record p { threads = threads.by u threads.CountRef ∷ p.threads }) v) same (omega (arith, is, next_more p u))

pub global_steps : (s : StatedSetup) → Steps s GlobalsBelow
global_steps s = record {
  begins = λ p u is old. global_quiet p u threads.Attach refl old;
  begun = λ p u is old. global_quiet p u threads.Attach refl old;
  ends = λ p u old. global_quiet p u threads.Detach refl old;
  enters = λ p u on old. global_quiet p u threads.Enter refl old;
  leaves = λ p u on deep old. global_quiet p u threads.Leave refl old;
  deletes = λ p u k old. old;
  pushes = λ p u room old. old;
  widens = λ p u c old. old;
  pops = λ p u some old. old;
  to_globals = λ p e none old t. global_none t (next_ref p t) e p.globals none (old t);
  to_buffers = λ p e none old. old;
  to_monitors = λ p e old. old;
  to_heap = λ p e all old. old;
  to_links = λ p e old. old;
  hands = λ p u n o is old. global_counted p u old;
  hands_strong = λ p u n o is old t. (global_first p u n t is, global_counted p u old t);
  hands_weak = λ p u n o is old t. (global_first p u n t is, global_counted p u old t);
  lends = λ p u b own old. global_quiet p u threads.CountBuffer refl old;
  raises = λ p u o old. global_quiet p u (threads.Raise o) refl old;
  calms = λ p u old. global_quiet p u threads.Calm refl old;
}

pub globals_below : (s : StatedSetup) (h : List Entry) → Legal s h → GlobalsBelow (parts s h)
globals_below s h legal = each_legal GlobalsBelow s (global_steps s) (λ t. tt) h legal
