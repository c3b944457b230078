-- What references name, threads have pending, critical buffers are of and monitors belong to is there.
use Rattle.std.proofs.Common.{ℕ, pos, ◌≡◌, ◌≢◌, ◌+◌, ◌-◌, ◌<◌, ◌∙◌, ◌++◌, Bool, true, false, List, [], ◌∷◌, map, Option, Some, None, refl, ap, sym, subst, arith, eqb-true, if◌then◌else◌}
use Rattle.std.specs.Prelude.{◌==◌, ◌&&◌, ◌||◌, not, nat_lt, replicate}
use Rattle.std.proofs.lemmas.Bool.Decides.{nat_tests}
use Rattle.std.proofs.lemmas.Bool.{not-true}
use Rattle.jg_words.specs.declared.object.ObjId.{ObjId}
use Rattle.jg_words.specs.declared.reference.Ref.{Ref}
use Rattle.jg_words.specs.declared.reference.Ref.TheVariants.{Null, To}
use Rattle.jg_words.specs.declared.reference.Kind.{Kind}
use Rattle.jg_words.specs.declared.reference.Kind.TheVariants.{Local, Global, Weak}
use Rattle.jg_words.proofs.Common.{clash, and_first, and_second, or_first, or_second, or_third, or_fourth}
use Rattle.jg_policy.specs.Stated.{StatedSetup, class_count}
use Rattle.jg_policy.specs.Links as links
use Rattle.jg_lists.specs.Acts.{by, acts_of, how_many}
use Rattle.jg_table_threads.specs.History as threads
use Rattle.jg_table_threads.proofs.Callers.{is_pending_law}
use Rattle.jg_table_locals.specs.History as locals
use Rattle.jg_table_locals.proofs.Callers.{held_law as local_held_law}
use Rattle.jg_table_globals.specs.History as globals
use Rattle.jg_table_globals.proofs.Callers.{holds_law}
use Rattle.jg_table_buffers.specs.History as buffers
use Rattle.jg_table_buffers.specs.declared.family.Family.{Family}
use Rattle.jg_table_buffers.proofs.Callers.{pinned_object_law}
use Rattle.jg_table_monitors.specs.History as monitors
use Rattle.jg_table_monitors.proofs.Callers.{held_law}
use Rattle.jg_table_heap.specs.History as heap
use Rattle.jg_table_heap.specs.Making.{Opaque}
use Rattle.jg_rules.specs.Parts.{Parts, nothing_yet}
use Rattle.jg_rules.specs.Names.{depth, is_here, next_buffer, open_frames}
use Rattle.jg_rules.specs.Holding.{is_root}
use Rattle.jg_laws.proofs.Here.{Here, here_made}
use Rattle.jg_laws.proofs.NothingGone.{reference_here}
use Rattle.jg_laws.proofs.HandedHere.{gone_steps}
use Rattle.jg_laws.proofs.Referring.{LocalsMeet, PendingMeets, RaisesMeet, StrongMeets, WeakMeets, MakesMeet, make_none, locals_made, locals_still, pending_more, strong_more, weak_more, spared}
use Rattle.jg_core.specs.declared.fact.Fact.{Fact}
use Rattle.jg_core.specs.declared.fact.Fact.TheVariants.{Begin, End, Enter, Leave, Push, Pop, Ensure, Raise, Calm, Hand, Lost, Lend, Back, Own, Free, Meet, Gone, Link, Unlink, Warn, Checked}
use Rattle.jg_core.specs.Facts.{on, handed_on, kept_on, lost_on, lent, parts_of, can_be, is_attached, is_kept_here, is_free_for, is_through, History}
use Rattle.jg_core.specs.Laws.{LiveIsHere, HeldIsHere, GoneStaysGone}
use Rattle.jg_core.proofs.Each.{Keeps, before, each_later}

-- ---- critical buffers and monitors

abbrev PinsMeet : (ℕ → Type 0) → List buffers.Event → Type 0
PinsMeet H e = (m n : ℕ) (b : buffers.Buffer) → buffers.opened e m n ≡ Some b → buffers.is_critical b.family ≡ true → H b.object

one_buffer : (b c : buffers.Buffer) → Some b ≡ Some c → b ≡ c
one_buffer b c is = cc

none_some : {X : Type 0} {x : X} {H : Type 0} → None ≡ Some x → H
none_some is = absurd cc

module _ (H : ℕ → Type 0) (e : List buffers.Event) (old : PinsMeet H e) where
  opened_by : (same : Bool) (b : buffers.Buffer) (m n : ℕ) (c : buffers.Buffer) → (buffers.is_critical b.family ≡ true → H b.object)
      → (if same then Some b else buffers.opened e m n) ≡ Some c → buffers.is_critical c.family ≡ true → H c.object
  opened_by true b m n c own is critical = let one = one_buffer b c is in subst (λ (x : buffers.Buffer). H x.object) one
      (own (ap (λ (x : buffers.Buffer). buffers.is_critical x.family) one ∙ critical))
  opened_by false b m n c own is critical = old m n c is critical

  pin_opened : (b : buffers.Buffer) → (buffers.is_critical b.family ≡ true → H b.object) → PinsMeet H (buffers.Opened b ∷ e)
  pin_opened b own m n c is critical = opened_by (buffers.is_same m n b.maker b.n) b m n c own is critical

  closed_by : (same : Bool) (m n : ℕ) (c : buffers.Buffer) → (if same then None else buffers.opened e m n) ≡ Some c → buffers.is_critical c.family ≡ true
      → H c.object
  closed_by true m n c is critical = none_some is
  closed_by false m n c is critical = old m n c is critical

  pin_closed : (k i : ℕ) → PinsMeet H (buffers.Closed k i ∷ e)
  pin_closed k i m n c is critical = closed_by (buffers.is_same m n k i) m n c is critical

  left_open : (pinned : Bool) (b c : buffers.Buffer) → (if pinned then None else Some b) ≡ Some c → b ≡ c
  left_open true b c is = none_some is
  left_open false b c is = one_buffer b c is

  released_by : (own : Bool) (found : Option buffers.Buffer) (m n : ℕ) (c : buffers.Buffer) → buffers.opened e m n ≡ found
      → (if own then buffers.copied_only found else found) ≡ Some c → buffers.is_critical c.family ≡ true → H c.object
  released_by true None m n c there is critical = none_some is
  released_by true (Some b) m n c there is critical = old m n c (there ∙ ap Some (left_open (buffers.is_critical b.family) b c is)) critical
  released_by false found m n c there is critical = old m n c (there ∙ is) critical

  pins_released : (k : ℕ) → PinsMeet H (buffers.ReleaseAll k ∷ e)
  pins_released k m n c is critical = released_by (k == m) (buffers.opened e m n) m n c refl is critical

abbrev OwnedMeets : (ℕ → Type 0) → List monitors.Event → Type 0
OwnedMeets H e = (t o : ℕ) → 0 < monitors.count e t o → H o

abbrev count_in : ℕ → List monitors.Act → ℕ
count_in o acts = how_many (monitors.enters o) (monitors.since acts) - how_many (monitors.exits o) (monitors.since acts)

entered_by : (same : Bool) (H : ℕ → Type 0) (x o i j : ℕ) → (x == o) ≡ same → H x → (0 < i - j → H o) → 0 < (if same then i + 1 else i) - j → H o
entered_by true H x o i j is own old some = subst H (eqb-true x o is) own
entered_by false H x o i j is own old some = old some

exited_by : (same : Bool) (i j : ℕ) → 0 < i - (if same then j + 1 else j) → 0 < i - j
exited_by true i j some = omega (arith, some)
exited_by false i j some = some

abbrev EntersMeet : (ℕ → Type 0) → monitors.Act → Type 0
EntersMeet H (monitors.Enter x) = H x
EntersMeet H a = Unit {0}

acted : (H : ℕ → Type 0) (o : ℕ) (acts : List monitors.Act) (a : monitors.Act) → EntersMeet H a → (0 < count_in o acts → H o) → 0 < count_in o (a ∷ acts) → H o
acted H o acts (monitors.Enter x) own old some =
    entered_by (x == o) H x o (how_many (monitors.enters o) (monitors.since acts)) (how_many (monitors.exits o) (monitors.since acts)) refl own old some
acted H o acts (monitors.Exit x) own old some =
    old (exited_by (x == o) (how_many (monitors.enters o) (monitors.since acts)) (how_many (monitors.exits o) (monitors.since acts)) some)
acted H o acts monitors.ReleaseAll own old some = absurd (omega (arith, some))

acted_by : (mine : Bool) (H : ℕ → Type 0) (o : ℕ) (acts : List monitors.Act) (a : monitors.Act) → EntersMeet H a → (0 < count_in o acts → H o)
    → 0 < count_in o (if mine then a ∷ acts else acts) → H o
acted_by true H o acts a own old some = acted H o acts a own old some
acted_by false H o acts a own old some = old some

owned_more : (H : ℕ → Type 0) (e : List monitors.Event) (u : ℕ) (a : monitors.Act) → EntersMeet H a → OwnedMeets H e → OwnedMeets H (by u a ∷ e)
owned_more H e u a own old t o some = acted_by (u == t) H o (acts_of t e) a own (old t o) some

-- ---- all of them

pub record HeldHere (k : ℕ) (p : Parts) : Type 0 where
  pub locals : LocalsMeet (Here k p.heap) p.locals
  pub pending : PendingMeets (Here k p.heap) p.threads
  pub strong : StrongMeets (Here k p.heap) p.globals
  pub weak : WeakMeets (Here k p.heap) p.globals
  pub pins : PinsMeet (Here k p.heap) p.buffers
  pub owned : OwnedMeets (Here k p.heap) p.monitors

here : (s : StatedSetup) (p : Parts) (o : ℕ) → is_here s p o ≡ true → Here (class_count s) p.heap o
here s p o is =
    let made = and_first (nat_lt o (heap.count_of (class_count s) p.heap)) (not (heap.gone_at (class_count s) p.heap o)) is in
    let stays = and_second (nat_lt o (heap.count_of (class_count s) p.heap)) (not (heap.gone_at (class_count s) p.heap o)) is in
    (grind (arith, nat_tests, made), not-true (heap.gone_at (class_count s) p.heap o) stays)

is_here_of : (s : StatedSetup) (p : Parts) (o : ℕ) → Here (class_count s) p.heap o → is_here s p o ≡ true
is_here_of s p o both =
    let made : nat_lt o (heap.count_of (class_count s) p.heap) ≡ true = grind (arith, nat_tests, both.0) in
    rw (made, both.1) refl

module _ (k : ℕ) (p : Parts) (all : HeldHere k p) where
  -- acts of threads and of locals that name nothing new
  quiet : (u : ℕ) (of_threads : List threads.Act) (of_locals : List locals.Act) → RaisesMeet (Here k p.heap) of_threads → make_none of_locals ≡ true
      → HeldHere k (record p { threads = map (threads.by u) of_threads ++ p.threads; locals = map (locals.by u) of_locals ++ p.locals })
  quiet u of_threads of_locals raises none = record {
    locals = locals_still (Here k p.heap) p.locals u of_locals none all.locals;
    pending = pending_more (Here k p.heap) p.threads u of_threads raises all.pending;
    strong = all.strong;
    weak = all.weak;
    pins = all.pins;
    owned = all.owned;
  }

  of_globals : (e : List globals.Event) → MakesMeet (Here k p.heap) e → HeldHere k (record p { globals = e ++ p.globals })
  of_globals e makes = record {
    locals = all.locals;
    pending = all.pending;
    strong = strong_more (Here k p.heap) e p.globals makes all.strong;
    weak = weak_more (Here k p.heap) e p.globals makes all.weak;
    pins = all.pins;
    owned = all.owned;
  }

  of_buffers : (e : List buffers.Event) → PinsMeet (Here k p.heap) e → HeldHere k (record p { buffers = e })
  of_buffers e pins = record {
    locals = all.locals;
    pending = all.pending;
    strong = all.strong;
    weak = all.weak;
    pins = pins;
    owned = all.owned;
  }

  of_monitors : (u : ℕ) (a : monitors.Act) → EntersMeet (Here k p.heap) a → HeldHere k (record p { monitors = monitors.by u a ∷ p.monitors })
  of_monitors u a own = record {
    locals = all.locals;
    pending = all.pending;
    strong = all.strong;
    weak = all.weak;
    pins = all.pins;
    owned = owned_more (Here k p.heap) p.monitors u a own all.owned;
  }

  local_made : (t n o : ℕ) → Here k p.heap o → HeldHere k (record p { locals = locals.by t (locals.Make n o) ∷ p.locals })
  local_made t n o is = record {
    locals = locals_made (Here k p.heap) p.locals t n o is all.locals;
    pending = all.pending;
    strong = all.strong;
    weak = all.weak;
    pins = all.pins;
    owned = all.owned;
  }

  linked_here : (event : links.Event) → HeldHere k (record p { links = event ∷ p.links })
  linked_here event = record {
    locals = all.locals;
    pending = all.pending;
    strong = all.strong;
    weak = all.weak;
    pins = all.pins;
    owned = all.owned;
  }

  lost_here : (r : Ref) → HeldHere k (lost_on r p)
  lost_here Null = all
  lost_here (To Local maker n) = quiet maker.0 [] (locals.Delete n ∷ []) tt refl
  lost_here (To Global maker n) = of_globals (globals.DeleteStrong maker.0 n ∷ []) tt
  lost_here (To Weak maker n) = of_globals (globals.DeleteWeak maker.0 n ∷ []) tt

  met_here : (class n : ℕ) → HeldHere k (record p { heap = heap.Made (Opaque class n) ∷ p.heap })
  met_here class n =
      let m = Opaque class n in
      record {
        locals = λ t i o is. here_made k p.heap m o (all.locals t i o is);
        pending = λ t o is. here_made k p.heap m o (all.pending t o is);
        strong = λ t i o is. here_made k p.heap m o (all.strong t i o is);
        weak = λ t i o is. here_made k p.heap m o.0 (all.weak t i o is);
        pins = λ i j b is critical. here_made k p.heap m b.object (all.pins i j b is critical);
        owned = λ t o some. here_made k p.heap m o (all.owned t o some);
      }

handed_here : (k : ℕ) (p : Parts) (t : ℕ) (kind : Kind) (o : ℕ) → Here k p.heap o → HeldHere k p → HeldHere k (handed_on t kind o p)
handed_here k p t Local o is all =
    local_made k (record p { threads = threads.by t threads.CountRef ∷ p.threads }) (quiet k p all t (threads.CountRef ∷ []) [] tt refl) t _ o is
handed_here k p t Global o is all =
    of_globals k (record p { threads = threads.by t threads.CountRef ∷ p.threads }) (quiet k p all t (threads.CountRef ∷ []) [] tt refl)
    (globals.MakeStrong t _ o ∷ [])
    (is, tt)
handed_here k p t Weak o is all =
    of_globals k (record p { threads = threads.by t threads.CountRef ∷ p.threads }) (quiet k p all t (threads.CountRef ∷ []) [] tt refl)
    (globals.MakeWeak t _ o ∷ [])
    (is, tt)

kept_here : (s : StatedSetup) (t : ℕ) (kept : Option ObjId) (p q : Parts) → is_kept_here s p kept ≡ true → q.heap ≡ p.heap → HeldHere (class_count s) q
    → HeldHere (class_count s) (kept_on t kept q)
kept_here s t None p q is same all = all
kept_here s t (Some o) p q is same all =
    handed_here (class_count s) q t Local o.0 (subst (λ (e : List heap.Event). Here (class_count s) e o.0) (sym same) (here s p o.0 is)) all

-- ---- an object goes

other_by : (same gone rest : Bool) → same ≡ false → gone ≡ false → (gone || (same && rest)) ≡ false
other_by same gone rest other is = rw (is, other) refl

-- another object stays
stays : (k : ℕ) (e : List heap.Event) (o x : ℕ) → Here k e x → x ≢ o → Here k (heap.Went o ∷ e) x
stays k e o x both apart =
    let other : (x == o) ≡ false = grind (arith, nat_tests, apart) in
    (both.0, other_by (x == o) (heap.gone_at k e x) (nat_lt x (heap.count_of k e) && not (nat_lt x k)) other both.1)

or_fifth : (a b c d e : Bool) → e ≡ true → ((((a || b) || c) || d) || e) ≡ true
or_fifth true b c d e is = refl
or_fifth false true c d e is = refl
or_fifth false false true d e is = refl
or_fifth false false false true e is = refl
or_fifth false false false false e is = is

-- what is a root isn't the one that goes
apart : (p : Parts) (o x : ℕ) → is_root p o ≡ false → is_root p x ≡ true → x ≢ o
apart p o x none root same = clash (is_root p o) (subst (λ (y : ℕ). is_root p y ≡ true) same root) none

not_first : (o x : ℕ) (b : Bool) → ((o == x) || b) ≡ false → x ≢ o
not_first o x b is same = grind (arith, nat_tests, is, same)

module _ (p : Parts) (x : ℕ) where
  by_local : locals.holds_object p.locals x ≡ true → is_root p x ≡ true
  by_local is = or_first (locals.holds_object p.locals x) (globals.holds_object p.globals x) (threads.is_pending p.threads x) (buffers.pins_object p.buffers x)
      (monitors.held p.monitors x) is

  by_global : globals.holds_object p.globals x ≡ true → is_root p x ≡ true
  by_global is = or_second (locals.holds_object p.locals x) (globals.holds_object p.globals x) (threads.is_pending p.threads x)
      (buffers.pins_object p.buffers x) (monitors.held p.monitors x) is

  by_pending : threads.is_pending p.threads x ≡ true → is_root p x ≡ true
  by_pending is = or_third (locals.holds_object p.locals x) (globals.holds_object p.globals x) (threads.is_pending p.threads x)
      (buffers.pins_object p.buffers x) (monitors.held p.monitors x) is

  by_pin : buffers.pins_object p.buffers x ≡ true → is_root p x ≡ true
  by_pin is = or_fourth (locals.holds_object p.locals x) (globals.holds_object p.globals x) (threads.is_pending p.threads x) (buffers.pins_object p.buffers x)
      (monitors.held p.monitors x) is

  by_monitor : monitors.held p.monitors x ≡ true → is_root p x ≡ true
  by_monitor is = or_fifth (locals.holds_object p.locals x) (globals.holds_object p.globals x) (threads.is_pending p.threads x)
      (buffers.pins_object p.buffers x) (monitors.held p.monitors x) is

gone_here : (k : ℕ) (p : Parts) (o : ℕ) → is_root p o ≡ false → HeldHere k p
    → HeldHere k (record p { globals = globals.Clear o ∷ p.globals; heap = heap.Went o ∷ p.heap })
gone_here k p o none all =
    record {
      locals = λ t n x is. stays k p.heap o x (all.locals t n x is) (apart p o x none (by_local p x ((local_held_law p.locals x).1 (t, n, is))));
      pending = λ t x is. stays k p.heap o x (all.pending t x is) (apart p o x none (by_pending p x ((is_pending_law p.threads x).1 (t, is))));
      strong = λ m n x is. stays k p.heap o x (all.strong m n x is) (apart p o x none (by_global p x ((holds_law p.globals x).1 (m, n, is))));
      weak = λ m n x is.
          let both = spared (o ∷ []) p.globals m n x is in
          stays k p.heap o x.0 (all.weak m n x both.1) (not_first o x.0 false both.0);
      pins = λ m n b is critical. stays k p.heap o b.object (all.pins m n b is critical)
          (apart p o b.object none (by_pin p b.object
          ((pinned_object_law p.buffers b.object).1 (record { maker = m; n = n; buffer = b; is_open = is; critical = critical; holds = refl }))));
      owned = λ t x some. stays k p.heap o x (all.owned t x some) (apart p o x none (by_monitor p x ((held_law p.monitors x).1 (t, some))));
    }

-- ---- all facts

lent_pin : (c : Bool) (k : ℕ) (p : Parts) (t n o : ℕ) (family : Family) (via : Ref) (length : ℕ) → buffers.is_critical family ≡ c → Here k p.heap o
    → HeldHere k p
    → PinsMeet (Here k p.heap)
    (buffers.Opened (if c then buffers.pin_through t n o family via length else buffers.copy_with t n o family (replicate length (pos 0))) ∷ p.buffers)
lent_pin true k p t n o family via length critical is all =
    pin_opened (Here k p.heap) p.buffers all.pins (buffers.pin_through t n o family via length) (λ own. is)
lent_pin false k p t n o family via length critical is all =
    pin_opened (Here k p.heap) p.buffers all.pins (buffers.copy_with t n o family (replicate length (pos 0))) (λ own. is)

each_here : (s : StatedSetup) (p : Parts) (x : Fact) → can_be s p x ≡ true → HeldHere (class_count s) p → HeldHere (class_count s) (on x p)
each_here s p (Begin t) can all = quiet (class_count s) p all t.0 (threads.Attach ∷ []) (locals.Start ∷ []) tt refl
each_here s p (End t) can all =
    let k : ℕ = class_count s in
    let q : Parts = record p { threads = threads.by t.0 threads.Detach ∷ p.threads; locals = locals.by t.0 locals.End ∷ p.locals } in
    let r : Parts = record q { monitors = monitors.by t.0 monitors.ReleaseAll ∷ p.monitors } in
    of_buffers k r (of_monitors k q (quiet k p all t.0 (threads.Detach ∷ []) (locals.End ∷ []) tt refl) t.0 monitors.ReleaseAll tt)
    (buffers.ReleaseAll t.0 ∷ p.buffers)
    (pins_released (Here k p.heap) p.buffers all.pins t.0)
each_here s p (Enter t) can all = quiet (class_count s) p all t.0 (threads.Calm ∷ threads.Enter ∷ []) (locals.Enter ∷ []) tt refl
each_here s p (Leave t kept) can all =
    let is = and_second (not (depth p t.0 == 0)) (is_kept_here s p kept) (and_second (is_attached p t.0) (not (depth p t.0 == 0) && is_kept_here s p kept) can)
    in
    kept_here s t.0 kept p (record p {
      threads = threads.by t.0 threads.Calm ∷ threads.by t.0 threads.Leave ∷ p.threads;
      locals =
          locals.by t.0 locals.Leave ∷ p.locals;
    }) is refl
    (quiet (class_count s) p all t.0 (threads.Calm ∷ threads.Leave ∷ []) (locals.Leave ∷ []) tt refl)
each_here s p (Push t room) can all = quiet (class_count s) p all t.0 [] (locals.Push room ∷ []) tt refl
each_here s p (Pop t kept) can all =
    kept_here s t.0 kept p (record p { locals = locals.by t.0 locals.Pop ∷ p.locals })
    (and_second (not (open_frames p t.0 == 0)) (is_kept_here s p kept)
    (and_second (is_attached p t.0) (not (open_frames p t.0 == 0) && is_kept_here s p kept) can)) refl
    (quiet (class_count s) p all t.0 [] (locals.Pop ∷ []) tt refl)
each_here s p (Ensure t room) can all = quiet (class_count s) p all t.0 [] (locals.Ensure room ∷ []) tt refl
each_here s p (Raise t o) can all =
    quiet (class_count s) p all t.0 (threads.Raise o.0 ∷ []) [] (here s p o.0 (and_second (is_attached p t.0) (is_here s p o.0) can), tt) refl
each_here s p (Calm t) can all = quiet (class_count s) p all t.0 (threads.Calm ∷ []) [] tt refl
each_here s p (Hand t kind o) can all = handed_here (class_count s) p t.0 kind o.0 (here s p o.0 (and_second (is_attached p t.0) (is_here s p o.0) can)) all
each_here s p (Lost r) can all = lost_here (class_count s) p all r
each_here s p (Lend t family o via n) can all =
    let k : ℕ = class_count s in
    let is = here s p o.0 (and_first (is_here s p o.0) (is_through family via) (and_second (is_attached p t.0) (is_here s p o.0 && is_through family via) can))
    in
    let q : Parts = record p { threads = threads.by t.0 threads.CountBuffer ∷ p.threads } in
    of_buffers k q (quiet k p all t.0 (threads.CountBuffer ∷ []) [] tt refl) (buffers.Opened (lent t.0 (next_buffer p t.0) family o.0 via n) ∷ p.buffers)
    (lent_pin (buffers.is_critical family) k p t.0 (next_buffer p t.0) o.0 family via n refl is all)
each_here s p (Back b) can all =
    of_buffers (class_count s) p all (buffers.Closed b.maker.0 b.n ∷ p.buffers) (pin_closed (Here (class_count s) p.heap) p.buffers all.pins b.maker.0 b.n)
each_here s p (Own t o) can all =
    of_monitors (class_count s) p all t.0 (monitors.Enter o.0) (here s p o.0
    (and_first (is_here s p o.0) (is_free_for t.0 (monitors.owner p.monitors o.0))
    (and_second (is_attached p t.0) (is_here s p o.0 && is_free_for t.0 (monitors.owner p.monitors o.0)) can)))
each_here s p (Free t o) can all = of_monitors (class_count s) p all t.0 (monitors.Exit o.0) tt
each_here s p (Meet class n) can all = met_here (class_count s) p all class n
each_here s p (Gone o) can all =
    let held = and_second (is_here s p o.0) (not (nat_lt o.0 (class_count s)) && not (is_root p o.0)) can in
    gone_here (class_count s) p o.0 (not-true (is_root p o.0) (and_second (not (nat_lt o.0 (class_count s))) (not (is_root p o.0)) held)) all
each_here s p (Link class native) can all = linked_here (class_count s) p all (links.Linked class native)
each_here s p (Unlink class) can all = linked_here (class_count s) p all (links.UnlinkedAll class)
each_here s p (Warn home) can all = linked_here (class_count s) p all (links.Warned home)
each_here s p (Checked check) can all = all

none_here : (k : ℕ) → HeldHere k nothing_yet
none_here k = record {
  locals = λ t n o is. absurd cc;
  pending = λ t o is. absurd cc;
  strong = λ t n o is. absurd cc;
  weak = λ t n o is. absurd cc;
  pins = λ m n b is critical. absurd cc;
  owned = λ t o some. absurd (omega (arith, some));
}

told_here : (s : StatedSetup) (w : List Fact) → History s w → HeldHere (class_count s) (parts_of w)
told_here s [] could = none_here (class_count s)
told_here s (x ∷ w) could = each_here s (parts_of w) x could.0 (told_here s w could.1)

pub live_is_here : LiveIsHere
live_is_here s w t o r could is =
    let all = told_here s w could in
    is_here_of s (parts_of w) o (reference_here s (parts_of w) t o r all.locals all.strong all.weak is)

-- ---- what is held

held_by : (X : Type 0) (a b c d e : Bool) → ((((a || b) || c) || d) || e) ≡ true → (a ≡ true → X) → (b ≡ true → X) → (c ≡ true → X) → (d ≡ true → X)
    → (e ≡ true → X) → X
held_by X true b c d e is first second third fourth fifth = first refl
held_by X false true c d e is first second third fourth fifth = second refl
held_by X false false true d e is first second third fourth fifth = third refl
held_by X false false false true e is first second third fourth fifth = fourth refl
held_by X false false false false e is first second third fourth fifth = fifth is

pub held_is_here : HeldIsHere
held_is_here s w o could root =
    let p : Parts = parts_of w in
    let all = told_here s w could in
    is_here_of s p o (held_by (Here (class_count s) p.heap o) (locals.holds_object p.locals o) (globals.holds_object p.globals o)
    (threads.is_pending p.threads o) (buffers.pins_object p.buffers o)
    (monitors.held p.monitors o) root
    (λ is. let found = (local_held_law p.locals o).0 is in all.locals found.0 found.1 o found.2)
    (λ is. let found = (holds_law p.globals o).0 is in all.strong found.0 found.1 o found.2)
    (λ is. let found = (is_pending_law p.threads o).0 is in all.pending found.0 o found.1)
    (λ is. let found = (pinned_object_law p.buffers o).0 is
    in subst (λ (x : ℕ). Here (class_count s) p.heap x) found.holds (all.pins found.maker found.n found.buffer found.is_open found.critical))
    (λ is. let found = (held_law p.monitors o).0 is in all.owned found.0 o found.1))

-- ---- what is gone

keeps_gone : (s : StatedSetup) (o : ℕ) → Keeps s (λ p. heap.gone_at (class_count s) p.heap o ≡ true)
keeps_gone s o = record {
  steps = gone_steps s o;
  lends = λ p t b own next old. old;
  meets = λ p class n old. old;
}

gone_now : (k : ℕ) (e : List heap.Event) (o : ℕ) → nat_lt o (heap.count_of k e) ≡ true → nat_lt o k ≡ false → heap.gone_at k (heap.Went o ∷ e) o ≡ true
gone_now k e o made class = let same : (o == o) ≡ true = grind (arith, nat_tests) in rw (made, class, same) (either (heap.gone_at k e o))
  where
    either : (b : Bool) → (b || true) ≡ true
    either true = refl
    either false = refl

not_here : (made gone : Bool) → gone ≡ true → (made && not gone) ≡ false
not_here true gone is = rw is refl
not_here false gone is = refl

pub gone_stays_gone : GoneStaysGone
gone_stays_gone s later older o could =
    let k : ℕ = class_count s in
    let p : Parts = parts_of older in
    let can = (before s later (Gone o ∷ older) could).0 in
    let made = and_first (nat_lt o.0 (heap.count_of k p.heap)) (not (heap.gone_at k p.heap o.0))
    (and_first (is_here s p o.0) (not (nat_lt o.0 k) && not (is_root p o.0)) can) in
    let class = not-true (nat_lt o.0 k)
    (and_first (not (nat_lt o.0 k)) (not (is_root p o.0)) (and_second (is_here s p o.0) (not (nat_lt o.0 k) && not (is_root p o.0)) can)) in
    let gone = each_later (λ q. heap.gone_at k q.heap o.0 ≡ true) s (keeps_gone s o.0) later (Gone o ∷ older) could (gone_now k p.heap o.0 made class) in
    not_here (nat_lt o.0 (heap.count_of k (parts_of (later ++ Gone o ∷ older)).heap)) _ gone
