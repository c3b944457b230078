-- By facts that could be, a thread without a session did nothing since it had one.
use Rattle.std.proofs.Common.{ℕ, ◌≡◌, ◌<◌, Bool, true, false, List, [], ◌∷◌, ◌++◌, map, Option, Some, None, refl, ap, sym, subst, ◌∙◌, arith}
use Rattle.std.specs.Prelude.{◌==◌, ◌&&◌, not, if◌then◌else◌}
use Rattle.jg_words.specs.declared.object.ObjId.{ObjId}
use Rattle.jg_words.specs.declared.reference.Ref.{Ref}
use Rattle.jg_words.specs.declared.reference.Ref.TheVariants.{Null, To}
use Rattle.jg_words.specs.declared.reference.Kind.{Kind}
use Rattle.jg_words.specs.declared.reference.Kind.TheVariants.{Local, Global, Weak}
use Rattle.jg_words.proofs.Common.{and_first}
use Rattle.jg_lists.proofs.Acts.{each_thread, acts_others}
use Rattle.jg_policy.specs.Stated.{StatedSetup}
use Rattle.jg_table_threads.specs.History as threads
use Rattle.jg_table_locals.specs.History as locals
use Rattle.jg_table_monitors.specs.History as monitors
use Rattle.jg_table_monitors.proofs.Callers.{owner_has}
use Rattle.jg_rules.specs.declared.named.Named.TheVariants.{Nothing}
use Rattle.jg_rules.specs.Parts.{Parts}
use Rattle.jg_rules.specs.Names.{named_by, open_frames, depth, is_here, next_ref}
use Rattle.jg_rules.specs.Rules.{is_nothing}
use Rattle.jg_laws.proofs.Kept.{Agreed}
use Rattle.jg_core.specs.declared.fact.Fact.{Fact}
use Rattle.jg_core.specs.declared.fact.Fact.TheVariants.{Begin, End, Enter, Leave, Push, Pop, Ensure, Raise, Calm, Hand, Lost, Lend, Back, Own, Free, Meet, Gone, Link, Unlink, Warn, Checked}
use Rattle.jg_core.specs.Facts.{on, parts_of, handed_on, kept_on, lost_on, can_be, is_attached, is_kept_here, is_through, is_free_for, is_owner, History}
use Rattle.jg_core.proofs.Each.{each_told, keeps_agree}
use Rattle.jg_core.proofs.Owners.{owned_by}
use Rattle.jg_entry_facts_laws.proofs.Acts.{own_acts}
use Rattle.jg_entry_facts_laws.proofs.Locals.{idle_live}

-- the acts of a thread, by the tables of threads, locals and monitors: none since its session, if it has none
abbrev DidNothing : List threads.Act → List locals.Act → List monitors.Act → Type 0
DidNothing ta la ma = threads.attached ta ≡ false → (threads.since ta ≡ []) × (locals.session la ≡ []) × (monitors.since ma ≡ [])

abbrev pub Idle : List threads.Event → List locals.Event → List monitors.Event → Type 0
Idle te le me = (t : ℕ) → DidNothing (threads.acts_of t te) (locals.acts_of t le) (monitors.acts_of t me)

-- u did some more
acted : (te : List threads.Event) (le : List locals.Event) (me : List monitors.Event) (u : ℕ) (xs : List threads.Act) (ys : List locals.Act)
    (zs : List monitors.Act)
    → DidNothing (xs ++ threads.acts_of u te) (ys ++ locals.acts_of u le) (zs ++ monitors.acts_of u me) → Idle te le me
    → Idle (map (threads.by u) xs ++ te) (map (locals.by u) ys ++ le) (map (monitors.by u) zs ++ me)
acted te le me u xs ys zs own old t =
    each_thread (λ v. DidNothing (threads.acts_of v (map (threads.by u) xs ++ te)) (locals.acts_of v (map (locals.by u) ys ++ le))
    (monitors.acts_of v (map (monitors.by u) zs ++ me))) u
    (rw (own_acts u xs te, own_acts u ys le, own_acts u zs me) own)
    (λ v differ. rw (acts_others v u xs te differ, acts_others v u ys le differ, acts_others v u zs me differ) (old v))
    t

abbrev pub IsIdle : Parts → Type 0
IsIdle p = Idle p.threads p.locals p.monitors

off : {X : Type 0} (b : Bool) → b ≡ true → b ≡ false → X
off b is other = absurd (let no : ⊥ = cc in no)

-- ---- what a live local and a monitor tell

being_if : (own : Bool) (found : Option ℕ) → found ≡ None → not (is_nothing (if own then named_by found else Nothing)) ≡ true → ⊥
being_if true found none is = (let no : not (is_nothing (named_by None)) ≡ true = subst (λ (f : Option ℕ). not (is_nothing (named_by f)) ≡ true) none is in cc)
being_if false found none is = cc

by_local : (p : Parts) (t n : ℕ) (on_now : Bool) → is_attached p t ≡ on_now → Agreed (threads.acts_of t p.threads) (locals.acts_of t p.locals) → IsIdle p
    → not (is_nothing (if t == t then named_by (locals.live n (locals.acts_of t p.locals)) else Nothing)) ≡ true → on_now ≡ true
by_local p t n true is agreed idle some = refl
by_local p t n false is agreed idle some =
    let none : locals.live n (locals.acts_of t p.locals) ≡ None =
    ap locals.object_of (idle_live (locals.acts_of t p.locals) n (sym agreed.session ∙ is) (idle t is).1) in
    absurd (being_if (t == t) (locals.live n (locals.acts_of t p.locals)) none some)

by_monitor : (p : Parts) (t o : ℕ) (on_now : Bool) → is_attached p t ≡ on_now → IsIdle p → is_owner t (monitors.owner p.monitors o) ≡ true → on_now ≡ true
by_monitor p t o true is idle owns = refl
by_monitor p t o false is idle owns =
    let some : 0 < monitors.count p.monitors t o = owner_has p.monitors t o (owned_by (monitors.owner p.monitors o) t owns) in
    let none : monitors.count p.monitors t o ≡ 0 = rw ((idle t is).2) refl in
    absurd (omega (arith, some, none))

-- ---- each fact

handed_idle : (p : Parts) (t : ℕ) (kind : Kind) (o : ℕ) → is_attached p t ≡ true → IsIdle p → IsIdle (handed_on t kind o p)
handed_idle p t Local o here old =
    acted p.threads p.locals p.monitors t (threads.CountRef ∷ []) (locals.Make (next_ref p t) o ∷ []) [] (λ none. off (is_attached p t) here none) old
handed_idle p t Global o here old = acted p.threads p.locals p.monitors t (threads.CountRef ∷ []) [] [] (λ none. off (is_attached p t) here none) old
handed_idle p t Weak o here old = acted p.threads p.locals p.monitors t (threads.CountRef ∷ []) [] [] (λ none. off (is_attached p t) here none) old

kept_idle : (p : Parts) (t : ℕ) (kept : Option ObjId) → is_attached p t ≡ true → IsIdle p → IsIdle (kept_on t kept p)
kept_idle p t None here old = old
kept_idle p t (Some o) here old = handed_idle p t Local o.0 here old

lost_idle : (s : StatedSetup) (p : Parts) (r : Ref) → can_be s p (Lost r) ≡ true → ((t : ℕ) → Agreed (threads.acts_of t p.threads) (locals.acts_of t p.locals))
    → IsIdle p → IsIdle (lost_on r p)
lost_idle s p Null can agreed old = old
lost_idle s p (To Local maker n) can agreed old =
    acted p.threads p.locals p.monitors maker.0 [] (locals.Delete n ∷ []) []
    (λ none. off (is_attached p maker.0) (by_local p maker.0 n (is_attached p maker.0) refl (agreed maker.0) old can) none) old
lost_idle s p (To Global maker n) can agreed old = old
lost_idle s p (To Weak maker n) can agreed old = old

left_attached : (p : Parts) (t : ℕ) (xs : List threads.Act)
    → threads.attached (xs ++ threads.acts_of t p.threads) ≡ true
    → threads.attached (threads.acts_of t (map (threads.by t) xs ++ p.threads)) ≡ true
left_attached p t xs is = rw (own_acts t xs p.threads) is

each_idle : (s : StatedSetup) (p : Parts) (x : Fact) → can_be s p x ≡ true → ((t : ℕ) → Agreed (threads.acts_of t p.threads) (locals.acts_of t p.locals))
    → IsIdle p → IsIdle (on x p)
each_idle s p (Begin t) can agreed old =
    acted p.threads p.locals p.monitors t.0 (threads.Attach ∷ []) (locals.Start ∷ []) [] (λ none. absurd (let no : ⊥ = cc in no)) old
each_idle s p (End t) can agreed old =
    acted p.threads p.locals p.monitors t.0 (threads.Detach ∷ []) (locals.End ∷ []) (monitors.ReleaseAll ∷ []) (λ none. (refl, refl, refl)) old
each_idle s p (Enter t) can agreed old =
    acted p.threads p.locals p.monitors t.0 (threads.Calm ∷ threads.Enter ∷ []) (locals.Enter ∷ []) [] (λ none. off (is_attached p t.0) can none) old
each_idle s p (Leave t kept) can agreed old =
    let here = and_first (is_attached p t.0) (not (depth p t.0 == 0) && is_kept_here s p kept) can in
    kept_idle (record p { threads = threads.by t.0 threads.Calm ∷ threads.by t.0 threads.Leave ∷ p.threads; locals = locals.by t.0 locals.Leave ∷ p.locals })
    t.0 kept
    (left_attached p t.0 (threads.Calm ∷ threads.Leave ∷ []) here)
    (acted p.threads p.locals p.monitors t.0 (threads.Calm ∷ threads.Leave ∷ []) (locals.Leave ∷ []) [] (λ none. off (is_attached p t.0) here none) old)
each_idle s p (Push t room) can agreed old =
    acted p.threads p.locals p.monitors t.0 [] (locals.Push room ∷ []) [] (λ none. off (is_attached p t.0) can none) old
each_idle s p (Pop t kept) can agreed old =
    let here = and_first (is_attached p t.0) (not (open_frames p t.0 == 0) && is_kept_here s p kept) can in
    kept_idle (record p { locals = locals.by t.0 locals.Pop ∷ p.locals }) t.0 kept here
    (acted p.threads p.locals p.monitors t.0 [] (locals.Pop ∷ []) [] (λ none. off (is_attached p t.0) here none) old)
each_idle s p (Ensure t room) can agreed old =
    acted p.threads p.locals p.monitors t.0 [] (locals.Ensure room ∷ []) [] (λ none. off (is_attached p t.0) can none) old
each_idle s p (Raise t o) can agreed old =
    acted p.threads p.locals p.monitors t.0 (threads.Raise o.0 ∷ []) [] []
    (λ none. off (is_attached p t.0) (and_first (is_attached p t.0) (is_here s p o.0) can) none) old
each_idle s p (Calm t) can agreed old = acted p.threads p.locals p.monitors t.0 (threads.Calm ∷ []) [] [] (λ none. off (is_attached p t.0) can none) old
each_idle s p (Hand t kind o) can agreed old = handed_idle p t.0 kind o.0 (and_first (is_attached p t.0) (is_here s p o.0) can) old
each_idle s p (Lost r) can agreed old = lost_idle s p r can agreed old
each_idle s p (Lend t family o via n) can agreed old =
    acted p.threads p.locals p.monitors t.0 (threads.CountBuffer ∷ []) [] []
    (λ none. off (is_attached p t.0) (and_first (is_attached p t.0) (is_here s p o.0 && is_through family via) can) none) old
each_idle s p (Back b) can agreed old = old
each_idle s p (Own t o) can agreed old =
    acted p.threads p.locals p.monitors t.0 [] [] (monitors.Enter o.0 ∷ [])
    (λ none. off (is_attached p t.0)
    (and_first (is_attached p t.0) (is_here s p o.0 && is_free_for t.0 (monitors.owner p.monitors o.0)) can) none) old
each_idle s p (Free t o) can agreed old =
    acted p.threads p.locals p.monitors t.0 [] [] (monitors.Exit o.0 ∷ [])
    (λ none. off (is_attached p t.0) (by_monitor p t.0 o.0 (is_attached p t.0) refl old can) none) old
each_idle s p (Meet class n) can agreed old = old
each_idle s p (Gone o) can agreed old = old
each_idle s p (Link class native) can agreed old = old
each_idle s p (Unlink class) can agreed old = old
each_idle s p (Warn home) can agreed old = old
each_idle s p (Checked check) can agreed old = old

pub agreed_told : (s : StatedSetup) (w : List Fact) → History s w → (t : ℕ)
    → Agreed (threads.acts_of t (parts_of w).threads) (locals.acts_of t (parts_of w).locals)
agreed_told s w could =
    each_told (λ p. (t : ℕ) → Agreed (threads.acts_of t p.threads) (locals.acts_of t p.locals)) s (keeps_agree s)
    (λ t. record { session = refl; enters = refl; leaves = refl; none_entered = λ is. refl; none_left = λ is. refl }) w could

pub all_idle : (s : StatedSetup) (w : List Fact) → History s w → IsIdle (parts_of w)
all_idle s [] could = λ t none. (refl, refl, refl)
all_idle s (x ∷ w) could = each_idle s (parts_of w) x could.0 (agreed_told s w could.1) (all_idle s w could.1)
