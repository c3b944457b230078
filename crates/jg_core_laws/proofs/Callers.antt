-- What rules 1 to 4 see of a thread, one fact later.
use Rattle.std.proofs.Common.{ℕ, pos, ◌≡◌, Bool, true, false, List, ◌∷◌, Option, Some, None, refl, ap, ◌∙◌, subst, arith, if◌then◌else◌}
use Rattle.std.specs.Prelude.{◌==◌, ◌&&◌, replicate}
use Rattle.std.specs.Option.{is_some}
use Rattle.std.proofs.lemmas.Bool.Decides.{nat_tests}
use Rattle.jg_words.specs.declared.object.ObjId.{ObjId}
use Rattle.jg_words.specs.declared.reference.Ref.{Ref}
use Rattle.jg_words.specs.declared.reference.Ref.TheVariants.{Null, To}
use Rattle.jg_words.specs.declared.reference.Kind.{Kind}
use Rattle.jg_words.specs.declared.reference.Kind.TheVariants.{Local, Global, Weak}
use Rattle.jg_words.proofs.Common.{clash}
use Rattle.jg_table_threads.specs.History as threads
use Rattle.jg_table_locals.specs.History as locals
use Rattle.jg_table_locals.proofs.Callers.{each_thread}
use Rattle.jg_table_buffers.specs.History as buffers
use Rattle.jg_table_buffers.specs.declared.family.Family.{Family}
use Rattle.jg_table_buffers.proofs.Callers.{critical_law, still_lent}
use Rattle.jg_rules.specs.Parts.{Parts}
use Rattle.jg_rules.specs.Names.{next_buffer}
use Rattle.jg_laws.proofs.Acts.{did_more, did_same}
use Rattle.jg_core.specs.declared.fact.Fact.{Fact}
use Rattle.jg_core.specs.declared.fact.Fact.TheVariants.{Begin, End, Enter, Leave, Push, Pop, Ensure, Raise, Calm, Hand, Lost, Lend, Back, Own, Free, Meet, Gone, Link, Unlink, Warn, Checked}
use Rattle.jg_core.specs.Facts.{on, handed_on, kept_on, lost_on}
use Rattle.jg_core_laws.specs.Laws.{hinders}

-- ---- sessions and pending exceptions

-- the session is the same, and nothing new is pending
abbrev Goes : List threads.Act → List threads.Act → Type 0
Goes old new = (threads.session new ≡ threads.session old) × (is_some (threads.pending new) ≡ true → is_some (threads.pending old) ≡ true)

goes : (acts : List threads.Act) → Goes acts acts
goes acts = (refl, λ is. is)

onward : (a b c : List threads.Act) → Goes a b → Goes b c → Goes a c
onward a b c first second = (second.0 ∙ first.0, λ is. first.1 (second.1 is))

abbrev is_calm : threads.Act → Bool
is_calm threads.Calm = true
is_calm threads.CountRef = true
is_calm threads.CountBuffer = true
is_calm threads.Enter = true
is_calm a = false

own_act : (a : threads.Act) (acts : List threads.Act) → is_calm a ≡ true → Goes acts (a ∷ acts)
own_act threads.Calm acts calm = (refl, λ is. absurd cc)
own_act threads.CountRef acts calm = goes acts
own_act threads.CountBuffer acts calm = goes acts
own_act threads.Enter acts calm = goes acts
own_act threads.Attach acts calm = absurd cc
own_act threads.Detach acts calm = absurd cc
own_act threads.Leave acts calm = absurd cc
own_act (threads.Raise o) acts calm = absurd cc

-- an act that is another thread's, or calm
one_act : (t u : ℕ) (a : threads.Act) (e : List threads.Event) → (u ≡ t → is_calm a ≡ true) → Goes (threads.acts_of t e) (threads.acts_of t (threads.by u a ∷ e))
one_act t u a e calm =
    each_thread (λ v. (u ≡ v → is_calm a ≡ true) → Goes (threads.acts_of v e) (threads.acts_of v (threads.by u a ∷ e))) u
    (λ calm. rw (did_more u a e) (own_act a (threads.acts_of u e) (calm refl)))
    (λ v differ calm. rw (did_same v u a e differ) (goes (threads.acts_of v e)))
    t calm

pub not_same : (u t : ℕ) → (u == t) ≡ false → u ≡ t → ⊥
not_same u t other is = grind (arith, nat_tests, other, is)

abbrev GoesIn : Parts → Parts → ℕ → Type 0
GoesIn p q t = Goes (threads.acts_of t p.threads) (threads.acts_of t q.threads)

handed_goes : (t u : ℕ) (kind : Kind) (o : ℕ) (p : Parts) → GoesIn p (handed_on u kind o p) t
handed_goes t u Local o p = one_act t u threads.CountRef p.threads (λ is. refl)
handed_goes t u Global o p = one_act t u threads.CountRef p.threads (λ is. refl)
handed_goes t u Weak o p = one_act t u threads.CountRef p.threads (λ is. refl)

kept_goes : (t u : ℕ) (kept : Option ObjId) (p : Parts) → GoesIn p (kept_on u kept p) t
kept_goes t u None p = goes (threads.acts_of t p.threads)
kept_goes t u (Some o) p = handed_goes t u Local o.0 p

lost_goes : (t : ℕ) (r : Ref) (p : Parts) → GoesIn p (lost_on r p) t
lost_goes t Null p = goes (threads.acts_of t p.threads)
lost_goes t (To Local maker n) p = goes (threads.acts_of t p.threads)
lost_goes t (To Global maker n) p = goes (threads.acts_of t p.threads)
lost_goes t (To Weak maker n) p = goes (threads.acts_of t p.threads)

pub fact_goes : (t : ℕ) (x : Fact) (p : Parts) → hinders t x ≡ false → GoesIn p (on x p) t
fact_goes t (Begin u) p other = one_act t u.0 threads.Attach p.threads (λ is. absurd (not_same u.0 t other is))
fact_goes t (End u) p other = one_act t u.0 threads.Detach p.threads (λ is. absurd (not_same u.0 t other is))
fact_goes t (Enter u) p other =
    let entered : List threads.Event = threads.by u.0 threads.Enter ∷ p.threads in
    onward (threads.acts_of t p.threads) (threads.acts_of t entered) (threads.acts_of t (threads.by u.0 threads.Calm ∷ entered))
    (one_act t u.0 threads.Enter p.threads (λ is. refl)) (one_act t u.0 threads.Calm entered (λ is. refl))
fact_goes t (Leave u kept) p other =
    let left : List threads.Event = threads.by u.0 threads.Leave ∷ p.threads in
    let q : Parts = record p { threads = threads.by u.0 threads.Calm ∷ left; locals = locals.by u.0 locals.Leave ∷ p.locals } in
    onward (threads.acts_of t p.threads) (threads.acts_of t q.threads) (threads.acts_of t (kept_on u.0 kept q).threads)
    (onward (threads.acts_of t p.threads) (threads.acts_of t left) (threads.acts_of t q.threads)
    (one_act t u.0 threads.Leave p.threads (λ is. absurd (not_same u.0 t other is))) (one_act t u.0 threads.Calm left (λ is. refl)))
    (kept_goes t u.0 kept q)
fact_goes t (Push u room) p other = goes (threads.acts_of t p.threads)
fact_goes t (Pop u kept) p other = kept_goes t u.0 kept (record p { locals = locals.by u.0 locals.Pop ∷ p.locals })
fact_goes t (Ensure u room) p other = goes (threads.acts_of t p.threads)
fact_goes t (Raise u o) p other = one_act t u.0 (threads.Raise o.0) p.threads (λ is. absurd (not_same u.0 t other is))
fact_goes t (Calm u) p other = one_act t u.0 threads.Calm p.threads (λ is. refl)
fact_goes t (Hand u kind o) p other = handed_goes t u.0 kind o.0 p
fact_goes t (Lost r) p other = lost_goes t r p
fact_goes t (Lend u family o via n) p other = one_act t u.0 threads.CountBuffer p.threads (λ is. refl)
fact_goes t (Back b) p other = goes (threads.acts_of t p.threads)
fact_goes t (Own u o) p other = goes (threads.acts_of t p.threads)
fact_goes t (Free u o) p other = goes (threads.acts_of t p.threads)
fact_goes t (Meet class n) p other = goes (threads.acts_of t p.threads)
fact_goes t (Gone o) p other = goes (threads.acts_of t p.threads)
fact_goes t (Link class native) p other = goes (threads.acts_of t p.threads)
fact_goes t (Unlink class) p other = goes (threads.acts_of t p.threads)
fact_goes t (Warn home) p other = goes (threads.acts_of t p.threads)
fact_goes t (Checked check) p other = goes (threads.acts_of t p.threads)

-- ---- critical regions

-- t is in no critical region that it wasn't in
abbrev Calmer : ℕ → List buffers.Event → List buffers.Event → Type 0
Calmer t old new = buffers.in_critical new t ≡ true → buffers.in_critical old t ≡ true

-- it is so where each critical buffer of t that is open was open
by_open : (t : ℕ) (old new : List buffers.Event)
    → ((m n : ℕ) (b : buffers.Buffer) → buffers.opened new m n ≡ Some b → buffers.is_critical b.family ≡ true → b.maker ≡ t → buffers.opened old m n ≡ Some b)
    → Calmer t old new
by_open t old new was is =
    let pin = (critical_law new t).0 is in
    (critical_law old t).1 (record {
      maker = pin.maker;
      n = pin.n;
      buffer = pin.buffer;
      is_open = was pin.maker pin.n pin.buffer pin.is_open pin.critical pin.holds;
      critical = pin.critical;
      holds = pin.holds;
    })

was_if : (c : Bool) (found : Option buffers.Buffer) (b : buffers.Buffer) → (if c then None else found) ≡ Some b → found ≡ Some b
was_if true found b now = cc
was_if false found b now = now

other_if : (c : Bool) (new b : buffers.Buffer) (found : Option buffers.Buffer) → (new ≡ b → ⊥) → (if c then Some new else found) ≡ Some b → found ≡ Some b
other_if true new b found apart now = let same : new ≡ b = cc in absurd (apart same)
other_if false new b found apart now = now

closed_calmer : (t m n : ℕ) (e : List buffers.Event) → Calmer t e (buffers.Closed m n ∷ e)
closed_calmer t m n e = by_open t e (buffers.Closed m n ∷ e)
    (λ k i b now critical own. was_if (buffers.is_same k i m n) (buffers.opened e k i) b now)

released_calmer : (t u : ℕ) (e : List buffers.Event) → Calmer t e (buffers.ReleaseAll u ∷ e)
released_calmer t u e = by_open t e (buffers.ReleaseAll u ∷ e) (λ k i b now critical own. (still_lent (buffers.opened e k i) (u == k) b now).0)

opened_calmer : (t : ℕ) (new : buffers.Buffer) (e : List buffers.Event) → ((b : buffers.Buffer) → buffers.is_critical b.family ≡ true → b.maker ≡ t → new ≡ b → ⊥)
    → Calmer t e (buffers.Opened new ∷ e)
opened_calmer t new e apart =
    by_open t e (buffers.Opened new ∷ e)
    (λ k i b now critical own. other_if (buffers.is_same k i new.maker new.n) new b (buffers.opened e k i) (apart b critical own) now)

not_pinned : (family : Family) (b new : buffers.Buffer) → buffers.is_critical family ≡ false → new.family ≡ family → buffers.is_critical b.family ≡ true → new ≡ b → ⊥
not_pinned family b new free is critical same =
    clash (buffers.is_critical b.family) critical (subst (λ (x : buffers.Buffer). buffers.is_critical x.family ≡ false) same (rw is free))

lent_calmer : (c : Bool) (t u n o : ℕ) (family : Family) (via : Ref) (count : ℕ) (e : List buffers.Event) → buffers.is_critical family ≡ c
    → ((u == t) && c) ≡ false
    → Calmer t e (buffers.Opened (if c then buffers.pin_through u n o family via count else buffers.copy_with u n o family (replicate count (pos 0))) ∷ e)
lent_calmer true t u n o family via count e is other =
    opened_calmer t (buffers.pin_through u n o family via count) e
    (λ b critical own same. grind (arith, nat_tests, other, own, ap (λ (x : buffers.Buffer). x.maker) same))
lent_calmer false t u n o family via count e is other =
    opened_calmer t (buffers.copy_with u n o family (replicate count (pos 0))) e
    (λ b critical own same. not_pinned family b (buffers.copy_with u n o family (replicate count (pos 0))) is refl critical same)

lost_calmer : (t : ℕ) (r : Ref) (p : Parts) → Calmer t p.buffers (lost_on r p).buffers
lost_calmer t Null p is = is
lost_calmer t (To Local maker n) p is = is
lost_calmer t (To Global maker n) p is = is
lost_calmer t (To Weak maker n) p is = is

handed_calmer : (t u : ℕ) (kind : Kind) (o : ℕ) (p : Parts) → Calmer t p.buffers (handed_on u kind o p).buffers
handed_calmer t u Local o p is = is
handed_calmer t u Global o p is = is
handed_calmer t u Weak o p is = is

kept_calmer : (t u : ℕ) (kept : Option ObjId) (p : Parts) → Calmer t p.buffers (kept_on u kept p).buffers
kept_calmer t u None p is = is
kept_calmer t u (Some o) p is = is

pub fact_calmer : (t : ℕ) (x : Fact) (p : Parts) → hinders t x ≡ false → Calmer t p.buffers (on x p).buffers
fact_calmer t (End u) p other is = released_calmer t u.0 p.buffers is
fact_calmer t (Leave u kept) p other is = kept_calmer t u.0 kept _ is
fact_calmer t (Pop u kept) p other is = kept_calmer t u.0 kept _ is
fact_calmer t (Hand u kind o) p other is = handed_calmer t u.0 kind o.0 p is
fact_calmer t (Lost r) p other is = lost_calmer t r p is
fact_calmer t (Lend u family o via n) p other is =
    lent_calmer (buffers.is_critical family) t u.0 (next_buffer p u.0) o.0 family via n p.buffers refl other is
fact_calmer t (Back b) p other is = closed_calmer t b.maker.0 b.n p.buffers is
fact_calmer t x p other is = is
