-- What calls do of their own, as facts: each could be when it is told, and the parts are alike after it.
use Rattle.std.proofs.Common.{ℕ, ℤ, ◌≡◌, ◌+◌, Bool, true, false, List, [], ◌∷◌, ◌++◌, map, length, Option, Some, None, refl, ap, sym, subst, ◌∙◌, arith}
use Rattle.std.specs.Prelude.{◌==◌, ◌&&◌, not, nat_le, nat_lt, if◌then◌else◌, pos, replicate}
use Rattle.std.specs.List.{AllByRecursion}
use Rattle.std.specs.Option.{is_some}
use Rattle.std.proofs.lemmas.Bool.Decides.{nat_tests}
use Rattle.std.proofs.lemmas.List.{length-replicate}
use Rattle.std.proofs.lemmas.Bool.{and_from}
use Rattle.jg_words.specs.declared.thread.Tid.{Tid}
use Rattle.jg_words.specs.declared.object.ObjId.{ObjId}
use Rattle.jg_words.specs.declared.reference.Ref.{Ref}
use Rattle.jg_words.specs.declared.reference.Ref.TheVariants.{Null, To}
use Rattle.jg_words.specs.declared.reference.Kind.{Kind}
use Rattle.jg_words.specs.declared.reference.Kind.TheVariants.{Local, Global, Weak}
use Rattle.jg_words.specs.declared.buffer.BufId.{BufId}
use Rattle.jg_policy.specs.Stated.{StatedSetup, class_count}
use Rattle.jg_policy.specs.Links as links
use Rattle.jg_table_threads.specs.History as threads
use Rattle.jg_table_locals.specs.History as locals
use Rattle.jg_table_globals.specs.History as globals
use Rattle.jg_table_buffers.specs.History as buffers
use Rattle.jg_table_buffers.specs.declared.family.Family.{Family}
use Rattle.jg_table_monitors.specs.History as monitors
use Rattle.jg_table_monitors.specs.declared.entering.Entering.TheVariants.{Entered as HasEntered, Busy as KeptOut}
use Rattle.jg_table_monitors.specs.Standing.{AllAllowed}
use Rattle.jg_table_heap.specs.History as heap
use Rattle.jg_table_heap.specs.Making.{Making, class_in, length_in}
use Rattle.jg_rules.specs.Parts.{Parts}
use Rattle.jg_rules.specs.declared.named.Named.{Named}
use Rattle.jg_rules.specs.Names.{names, next_ref, next_buffer, is_here, pending, depth, open_frames}
use Rattle.jg_rules.specs.Rules.{is_nothing}
use Rattle.jg_rules.specs.Buffers.{buffer_named}
use Rattle.jg_rules.specs.Effects.{started, warning}
use Rattle.jg_laws.specs.Laws.{MakesStated}
use Rattle.jg_laws.proofs.Kept.{Agreed}
use Rattle.jg_laws.proofs.NothingGone.{AllHere}
use Rattle.jg_core.specs.declared.fact.Fact.{Fact}
use Rattle.jg_core.specs.declared.fact.Fact.TheVariants.{Begin, End, Enter, Leave, Push, Pop, Ensure, Raise, Calm, Hand, Lost, Lend, Back, Own, Free, Meet, Warn}
use Rattle.jg_core.specs.Facts.{lent, can_be, is_attached, is_kept_here, is_through, is_free_for, is_owner, is_home}
use Rattle.jg_entry_facts_laws.specs.Entries.{begin_facts, end_facts, link_facts}
use Rattle.jg_entry_facts_laws.specs.Alike.{ReadAlike}
use Rattle.jg_entry_facts_laws.proofs.Threads.{attach_both, attach_again, detach_both, detach_idle, enter_both, leave_both, leave_raised, raise_both, calm_both, buffer_both}
use Rattle.jg_entry_facts_laws.proofs.Acts.{own_acts}
use Rattle.jg_entry_facts_laws.proofs.Locals.{end_idle, same_frames}
use Rattle.jg_entry_facts_laws.proofs.Globals.{strong_deleted, weak_deleted}
use Rattle.jg_entry_facts_laws.proofs.Buffers.{opened_both, closed_both, released_none, same_critical}
use Rattle.jg_entry_facts_laws.proofs.Heap.{made_both}
use Rattle.jg_entry_facts_laws.proofs.Idle.{IsIdle}
use Rattle.jg_entry_facts_laws.proofs.Judged.{names_same}
use Rattle.jg_entry_facts_laws.proofs.Alike.{Alike, reads}
use Rattle.jg_entry_facts_laws.proofs.Steps.{threads_on, locals_on, local_on, monitors_on, monitor_on, globals_on, buffers_on, heap_on, links_on, same_attached, same_here, handed_by, handed_alike, on_all, Told, none, one, next}

-- what is known before an entry: q is the written machine's, p what facts told
pub record Known (s : StatedSetup) (p q : Parts) : Type 0 where
  pub same : Alike s p q
  pub left : AllAllowed p.monitors
  pub right : AllAllowed q.monitors
  pub idle : IsIdle p
  pub agreed : (t : ℕ) → Agreed (threads.acts_of t p.threads) (locals.acts_of t p.locals)
  pub all : AllHere s q
  pub stated : AllByRecursion (MakesStated s) q.heap

-- ---- what any answer brings

pub hand_told : (s : StatedSetup) (p d : Parts) (t : Tid) (kind : Kind) (o : ObjId) (n : ℕ) (xs : List Fact) → Told s p d xs → is_attached d t.0 ≡ true
    → is_here s d o.0 ≡ true → next_ref d t.0 ≡ n
    → Told s p (handed_by t.0 kind n o.0 d) (Hand t kind o ∷ xs)
hand_told s p d t kind o n xs told on_now here number =
    let r : Parts = on_all xs p in
    next s p d (handed_by t.0 kind n o.0 d) (Hand t kind o) xs told
    (and_from (is_attached r t.0) (is_here s r o.0) (same_attached s r d told.alike t.0 ∙ on_now) (same_here s r d told.alike o.0 ∙ here))
    (handed_alike s r d t.0 kind n o.0 number told.alike)

pub raise_told : (s : StatedSetup) (p d : Parts) (t : Tid) (o : ObjId) (xs : List Fact) → Told s p d xs → is_attached d t.0 ≡ true → is_here s d o.0 ≡ true
    → Told s p (record d { threads = threads.by t.0 (threads.Raise o.0) ∷ d.threads }) (Raise t o ∷ xs)
raise_told s p d t o xs told on_now here =
    let r : Parts = on_all xs p in
    next s p d (record d { threads = threads.by t.0 (threads.Raise o.0) ∷ d.threads }) (Raise t o) xs told
    (and_from (is_attached r t.0) (is_here s r o.0) (same_attached s r d told.alike t.0 ∙ on_now) (same_here s r d told.alike o.0 ∙ here))
    (threads_on s r d told.alike t.0 (threads.Raise o.0 ∷ []) (threads.Raise o.0 ∷ [])
    (raise_both o.0 (threads.acts_of t.0 r.threads) (threads.acts_of t.0 d.threads)))

-- an object is made
pub meet_told : (s : StatedSetup) (p q : Parts) (m : Making) → Alike s p q → nat_lt (class_in m) (class_count s) ≡ true
    → Told s p (record q { heap = heap.Made m ∷ q.heap }) (Meet (class_in m) (length_in m) ∷ [])
meet_told s p q m same stated =
    let fits : nat_le (class_in m) (class_count s + 5) ≡ true = grind (arith, nat_tests, stated) in
    one s p (record q { heap = heap.Made m ∷ q.heap }) (Meet (class_in m) (length_in m)) fits
    (heap_on s p q same _ (heap.Made m ∷ q.heap) (made_both (class_count s) p.heap q.heap m same.heap))

pub warn_told : (s : StatedSetup) (p d : Parts) (xs : List Fact) (warned : Bool) (home : Option ℕ) → ((h : ℕ) → home ≡ Some h → is_home s h ≡ true)
    → Told s p d xs
    → Told s p (record d { links = warning warned home ++ d.links }) (link_facts (warning warned home) ++ xs)
warn_told s p d xs false home stated told = told
warn_told s p d xs true None stated told = told
warn_told s p d xs true (Some h) stated told =
    next s p d (record d { links = links.Warned h ∷ d.links }) (Warn h) xs told (stated h refl) (links_on s (on_all xs p) d told.alike (links.Warned h))

-- ---- buffers that are lent

lent_number : (pins : Bool) (m n o : ℕ) (family : Family) (via : Ref) (count : ℕ)
    → (if pins then buffers.pin_through m n o family via count else buffers.copy_with m n o family (replicate count (pos 0))).n ≡ n
lent_number true m n o family via count = refl
lent_number false m n o family via count = refl

copied_info : (pins : Bool) (m n i o : ℕ) (family : Family) (items : List ℤ) → pins ≡ false
    → buffers.info_of (if pins then buffers.pin_through m n o family Null (length items)
    else buffers.copy_with m n o family (replicate (length items) (pos 0)))
    ≡ buffers.info_of (buffers.copy_with m i o family items)
copied_info true m n i o family items is = absurd (let no : ⊥ = cc in no)
copied_info false m n i o family items is = rw (length-replicate (length items) (pos 0)) refl

pinned_info : (pins : Bool) (m n i o : ℕ) (family : Family) (via : Ref) (count : ℕ) → pins ≡ true
    → buffers.info_of (if pins then buffers.pin_through m n o family via count
    else buffers.copy_with m n o family (replicate count (pos 0)))
    ≡ buffers.info_of (buffers.pin_through m i o family via count)
pinned_info true m n i o family via count is = refl
pinned_info false m n i o family via count is = absurd (let no : ⊥ = cc in no)

-- ---- sessions and native methods

module _ (s : StatedSetup) (p q : Parts) (known : Known s p q) (t : Tid) where
  same_on : (b : Bool) → is_attached q t.0 ≡ b → is_attached p t.0 ≡ b
  same_on b is = same_attached s p q known.same t.0 ∙ is

  pub attach_told : (b : Bool) → is_attached q t.0 ≡ b → (t.0 == 0) ≡ false
      → Told s p (record q { threads = threads.by t.0 threads.Attach ∷ q.threads; locals = map (locals.by t.0) (started b) ++ q.locals }) (begin_facts b t)
  attach_told true is some =
      none s p _ (threads_on s p q known.same t.0 [] (threads.Attach ∷ []) (attach_again (threads.acts_of t.0 p.threads) (threads.acts_of t.0 q.threads) is))
  attach_told false is some =
      let above : nat_lt 0 t.0 ≡ true = grind (arith, nat_tests, some) in
      let out : not (is_attached p t.0) ≡ true = ap not (same_on false is) in
      let now = threads_on s p q known.same t.0 (threads.Attach ∷ []) (threads.Attach ∷ [])
      (attach_both (threads.acts_of t.0 p.threads) (threads.acts_of t.0 q.threads)) in
      one s p _ (Begin t) (and_from (nat_lt 0 t.0) (not (is_attached p t.0)) above out) (local_on s _ _ now t.0 locals.Start)

  pub detach_told : (b : Bool) → is_attached q t.0 ≡ b → buffers.in_critical q.buffers t.0 ≡ false
      → Told s p (record q {
        threads = threads.by t.0 threads.Detach ∷ q.threads;
        locals = locals.by t.0 locals.End ∷ q.locals;
        monitors = monitors.by t.0 monitors.ReleaseAll ∷ q.monitors;
      })
      (end_facts b t)
  detach_told true is free =
      let a1 = threads_on s p q known.same t.0 (threads.Detach ∷ []) (threads.Detach ∷ [])
      (detach_both (threads.acts_of t.0 p.threads) (threads.acts_of t.0 q.threads)) in
      let a2 = local_on s _ _ a1 t.0 locals.End in
      let a3 = monitor_on s _ _ a2 t.0 monitors.ReleaseAll in
      let none_open : buffers.in_critical p.buffers t.0 ≡ false = same_critical p.buffers q.buffers t.0 known.same.buffers ∙ free in
      one s p _ (End t) (same_on true is)
      (buffers_on s _ _ a3 (buffers.ReleaseAll t.0 ∷ p.buffers) q.buffers (released_none p.buffers q.buffers t.0 none_open known.same.buffers))
  detach_told false is free =
      let nothing = known.idle t.0 (same_on false is) in
      let a1 = threads_on s p q known.same t.0 [] (threads.Detach ∷ []) (detach_idle (threads.acts_of t.0 p.threads) (threads.acts_of t.0 q.threads) nothing.0)
      in
      let out : locals.has_session (locals.acts_of t.0 p.locals) ≡ false = sym (known.agreed t.0).session ∙ same_on false is in
      let a2 = locals_on s _ _ a1 t.0 [] (locals.End ∷ []) (end_idle (locals.acts_of t.0 p.locals) (locals.acts_of t.0 q.locals) out nothing.1) in
      none s p _ (monitors_on s _ _ a2 t.0 [] (monitors.ReleaseAll ∷ []) (λ old. nothing.2))

  pub enter_told : is_attached q t.0 ≡ true → pending q t.0 ≡ None
      → Told s p (record q { threads = threads.by t.0 threads.Enter ∷ q.threads; locals = locals.by t.0 locals.Enter ∷ q.locals }) (Enter t ∷ [])
  enter_told is calm =
      let a1 = threads_on s p q known.same t.0 (threads.Calm ∷ threads.Enter ∷ []) (threads.Enter ∷ [])
      (enter_both (threads.acts_of t.0 p.threads) (threads.acts_of t.0 q.threads) calm) in
      one s p _ (Enter t) (same_on true is) (local_on s _ _ a1 t.0 locals.Enter)

  -- with nothing pending, or with what was pending raised again
  depth_is : depth p t.0 ≡ depth q t.0
  depth_is = rw ((known.same.threads t.0).enters, (known.same.threads t.0).leaves) refl

  leave_can : (kept : Option ObjId) → is_attached q t.0 ≡ true → (depth q t.0 == 0) ≡ false → is_kept_here s p kept ≡ true → can_be s p (Leave t kept) ≡ true
  leave_can kept is deep here =
      let down : not (depth p t.0 == 0) ≡ true = rw depth_is (ap not deep) in
      and_from (is_attached p t.0) (not (depth p t.0 == 0) && is_kept_here s p kept) (same_on true is)
      (and_from (not (depth p t.0 == 0)) (is_kept_here s p kept) down here)

  left_alike : pending q t.0 ≡ None
      → Alike s (record p { threads = threads.by t.0 threads.Calm ∷ threads.by t.0 threads.Leave ∷ p.threads; locals = locals.by t.0 locals.Leave ∷ p.locals })
      (record q { threads = threads.by t.0 threads.Leave ∷ q.threads; locals = locals.by t.0 locals.Leave ∷ q.locals })
  left_alike calm =
      let a1 = threads_on s p q known.same t.0 (threads.Calm ∷ threads.Leave ∷ []) (threads.Leave ∷ [])
      (leave_both (threads.acts_of t.0 p.threads) (threads.acts_of t.0 q.threads) calm) in
      local_on s _ _ a1 t.0 locals.Leave

  pub leave_told : is_attached q t.0 ≡ true → (depth q t.0 == 0) ≡ false → pending q t.0 ≡ None
      → Told s p (record q { threads = threads.by t.0 threads.Leave ∷ q.threads; locals = locals.by t.0 locals.Leave ∷ q.locals }) (Leave t None ∷ [])
  leave_told is deep calm = one s p _ (Leave t None) (leave_can None is deep refl) (left_alike calm)

  pub leave_kept : (o : ObjId) (n : ℕ) → is_attached q t.0 ≡ true → (depth q t.0 == 0) ≡ false → pending q t.0 ≡ None → is_here s q o.0 ≡ true
      → next_ref (record q { threads = threads.by t.0 threads.Leave ∷ q.threads }) t.0 ≡ n
      → Told s p (handed_by t.0 Local n o.0 (record q { threads = threads.by t.0 threads.Leave ∷ q.threads; locals = locals.by t.0 locals.Leave ∷ q.locals }))
      (Leave t (Some o) ∷ [])
  leave_kept o n is deep calm here number =
      one s p _ (Leave t (Some o)) (leave_can (Some o) is deep (same_here s p q known.same o.0 ∙ here))
      (handed_alike s _ _ t.0 Local n o.0 number (left_alike calm))

  pub leave_pending : (o : ℕ) → is_attached q t.0 ≡ true → (depth q t.0 == 0) ≡ false → pending q t.0 ≡ Some o → is_here s q o ≡ true
      → Told s p (record q { threads = threads.by t.0 threads.Leave ∷ q.threads; locals = locals.by t.0 locals.Leave ∷ q.locals })
      (Raise t (record { 0 = o }) ∷ Leave t None ∷ [])
  leave_pending o is deep raised here =
      let a1 =
      threads_on s p q known.same t.0 (threads.Raise o ∷ threads.Calm ∷ threads.Leave ∷ []) (threads.Leave ∷ [])
      (leave_raised o (threads.acts_of t.0 p.threads) (threads.acts_of t.0 q.threads) raised) in
      let later : is_attached (record p { threads = threads.by t.0 threads.Calm ∷ threads.by t.0 threads.Leave ∷ p.threads }) t.0 ≡ true =
      ap threads.attached (own_acts t.0 (threads.Calm ∷ threads.Leave ∷ []) p.threads) ∙ same_on true is in
      record {
        can = (and_from _ (is_here s p o) later (same_here s p q known.same o ∙ here), (leave_can None is deep refl, tt));
        alike = local_on s _ _ a1 t.0 locals.Leave;
      }

  -- ---- frames

  frames_are : open_frames p t.0 ≡ open_frames q t.0
  frames_are = same_frames (locals.acts_of t.0 p.locals) (locals.acts_of t.0 q.locals) (known.same.locals t.0)

  pop_can : (kept : Option ObjId) → is_attached q t.0 ≡ true → (open_frames q t.0 == 0) ≡ false → is_kept_here s p kept ≡ true → can_be s p (Pop t kept) ≡ true
  pop_can kept is some here =
      let down : not (open_frames p t.0 == 0) ≡ true = rw frames_are (ap not some) in
      and_from (is_attached p t.0) (not (open_frames p t.0 == 0) && is_kept_here s p kept) (same_on true is)
      (and_from (not (open_frames p t.0 == 0)) (is_kept_here s p kept) down here)

  pub pop_told : is_attached q t.0 ≡ true → (open_frames q t.0 == 0) ≡ false
      → Told s p (record q { locals = locals.by t.0 locals.Pop ∷ q.locals }) (Pop t None ∷ [])
  pop_told is some = one s p _ (Pop t None) (pop_can None is some refl) (local_on s p q known.same t.0 locals.Pop)

  pub pop_kept : (o : ObjId) → is_attached q t.0 ≡ true → (open_frames q t.0 == 0) ≡ false → is_here s q o.0 ≡ true
      → Told s p (handed_by t.0 Local (next_ref q t.0) o.0 (record q { locals = locals.by t.0 locals.Pop ∷ q.locals })) (Pop t (Some o) ∷ [])
  pop_kept o is some here =
      one s p _ (Pop t (Some o)) (pop_can (Some o) is some (same_here s p q known.same o.0 ∙ here))
      (handed_alike s _ _ t.0 Local (next_ref q t.0) o.0 refl (local_on s p q known.same t.0 locals.Pop))

  pub push_told : (room : ℕ) → is_attached q t.0 ≡ true → Told s p (record q { locals = locals.by t.0 (locals.Push room) ∷ q.locals }) (Push t room ∷ [])
  push_told room is = one s p _ (Push t room) (same_on true is) (local_on s p q known.same t.0 (locals.Push room))

  pub ensure_told : (room : ℕ) → is_attached q t.0 ≡ true → Told s p (record q { locals = locals.by t.0 (locals.Ensure room) ∷ q.locals }) (Ensure t room ∷ [])
  ensure_told room is = one s p _ (Ensure t room) (same_on true is) (local_on s p q known.same t.0 (locals.Ensure room))

  pub calm_told : is_attached q t.0 ≡ true → Told s p (record q { threads = threads.by t.0 threads.Calm ∷ q.threads }) (Calm t ∷ [])
  calm_told is =
      one s p _ (Calm t) (same_on true is)
      (threads_on s p q known.same t.0 (threads.Calm ∷ []) (threads.Calm ∷ []) (calm_both (threads.acts_of t.0 p.threads) (threads.acts_of t.0 q.threads)))

  -- ---- references that end

  pub reading : ReadAlike s p q
  reading = reads s p q known.left known.right known.same

  being : (u : ℕ) (r : Ref) → is_nothing (names q u r) ≡ false → not (is_nothing (names p u r)) ≡ true
  being u r alive = ap (λ (named : Named). not (is_nothing named)) (names_same s p q reading u r) ∙ ap not alive

  pub local_told : (maker : Tid) (n : ℕ) → maker.0 ≡ t.0 → is_nothing (names q t.0 (To Local maker n)) ≡ false
      → Told s p (record q { locals = locals.by t.0 (locals.Delete n) ∷ q.locals }) (Lost (To Local maker n) ∷ [])
  local_told maker n own alive =
      one s p _ (Lost (To Local maker n))
      (being maker.0 (To Local maker n) (subst (λ (u : ℕ). is_nothing (names q u (To Local maker n)) ≡ false) (sym own) alive))
      (subst (λ (u : ℕ). Alike s (record p { locals = locals.by maker.0 (locals.Delete n) ∷ p.locals })
      (record q { locals = locals.by u (locals.Delete n) ∷ q.locals })) own
      (local_on s p q known.same maker.0 (locals.Delete n)))

  pub strong_told : (maker : Tid) (n : ℕ) → is_nothing (names q t.0 (To Global maker n)) ≡ false
      → Told s p (record q { globals = globals.DeleteStrong maker.0 n ∷ q.globals }) (Lost (To Global maker n) ∷ [])
  strong_told maker n alive =
      one s p _ (Lost (To Global maker n)) (being maker.0 (To Global maker n) alive)
      (globals_on s p q known.same _ _ (strong_deleted maker.0 n p.globals q.globals known.same.globals))

  pub weak_told : (maker : Tid) (n : ℕ) → is_nothing (names q t.0 (To Weak maker n)) ≡ false
      → Told s p (record q { globals = globals.DeleteWeak maker.0 n ∷ q.globals }) (Lost (To Weak maker n) ∷ [])
  weak_told maker n alive =
      one s p _ (Lost (To Weak maker n)) (being maker.0 (To Weak maker n) alive)
      (globals_on s p q known.same _ _ (weak_deleted maker.0 n p.globals q.globals known.same.globals))

  -- ---- monitors

  free_for : (found : Option ℕ) → monitors.entering t.0 found ≡ HasEntered → is_free_for t.0 found ≡ true
  free_for None is = refl
  free_for (Some u) is = free_if (u == t.0) is
    where
      free_if : (b : Bool) → (if b then HasEntered else KeptOut) ≡ HasEntered → b ≡ true
      free_if true is = refl
      free_if false is = absurd (let no : ⊥ = cc in no)

  pub own_told : (o : ℕ) → is_attached q t.0 ≡ true → is_here s q o ≡ true → monitors.entering t.0 (monitors.owner q.monitors o) ≡ HasEntered
      → Told s p (record q { monitors = monitors.by t.0 (monitors.Enter o) ∷ q.monitors }) (Own t (record { 0 = o }) ∷ [])
  own_told o is here enters =
      let free : is_free_for t.0 (monitors.owner p.monitors o) ≡ true = ap (is_free_for t.0) (reading.owners o) ∙ free_for (monitors.owner q.monitors o) enters
      in
      one s p _ (Own t (record { 0 = o }))
      (and_from (is_attached p t.0) (is_here s p o && is_free_for t.0 (monitors.owner p.monitors o)) (same_on true is)
      (and_from (is_here s p o) (is_free_for t.0 (monitors.owner p.monitors o)) (same_here s p q known.same o ∙ here) free))
      (monitor_on s p q known.same t.0 (monitors.Enter o))

  pub free_told : (o : ℕ) → is_owner t.0 (monitors.owner q.monitors o) ≡ true
      → Told s p (record q { monitors = monitors.by t.0 (monitors.Exit o) ∷ q.monitors }) (Free t (record { 0 = o }) ∷ [])
  free_told o owns =
      one s p _ (Free t (record { 0 = o })) (ap (is_owner t.0) (reading.owners o) ∙ owns) (monitor_on s p q known.same t.0 (monitors.Exit o))

  -- ---- buffers

  number_is : next_buffer p t.0 ≡ next_buffer q t.0
  number_is = ap (λ n. n + 1) (known.same.threads t.0).buffers

  counted_buffer : Alike s (record p { threads = threads.by t.0 threads.CountBuffer ∷ p.threads })
      (record q { threads = threads.by t.0 threads.CountBuffer ∷ q.threads })
  counted_buffer =
      threads_on s p q known.same t.0 (threads.CountBuffer ∷ []) (threads.CountBuffer ∷ [])
      (buffer_both (threads.acts_of t.0 p.threads) (threads.acts_of t.0 q.threads))

  lend_can : (family : Family) (o : ℕ) (via : Ref) (n : ℕ) → is_attached q t.0 ≡ true → is_here s q o ≡ true → is_through family via ≡ true
      → can_be s p (Lend t family (record { 0 = o }) via n) ≡ true
  lend_can family o via n is here through =
      and_from (is_attached p t.0) (is_here s p o && is_through family via) (same_on true is)
      (and_from (is_here s p o) (is_through family via) (same_here s p q known.same o ∙ here) through)

  pub copy_told : (family : Family) (o : ℕ) (items : List ℤ) → buffers.is_critical family ≡ false → is_attached q t.0 ≡ true → is_here s q o ≡ true
      → Told s p (record q {
        threads = threads.by t.0 threads.CountBuffer ∷ q.threads;
        buffers =
            buffers.Opened (buffers.copy_with t.0 (next_buffer q t.0) o family items) ∷ q.buffers;
      })
      (Lend t family (record { 0 = o }) Null (length items) ∷ [])
  copy_told family o items copy is here =
      let b : buffers.Buffer = lent t.0 (next_buffer p t.0) family o Null (length items) in
      let c : buffers.Buffer = buffers.copy_with t.0 (next_buffer q t.0) o family items in
      one s p _ (Lend t family (record { 0 = o }) Null (length items)) (lend_can family o Null (length items) is here (rw copy refl))
      (buffers_on s _ _ counted_buffer (buffers.Opened b ∷ p.buffers) (buffers.Opened c ∷ q.buffers)
      (opened_both p.buffers q.buffers b c (copied_info (buffers.is_critical family) t.0 (next_buffer p t.0) (next_buffer q t.0) o family items copy)
      (lent_number (buffers.is_critical family) t.0 (next_buffer p t.0) o family Null (length items) ∙ number_is) known.same.buffers))

  pub pin_told : (family : Family) (o : ℕ) (via : Ref) (n : ℕ) → buffers.is_critical family ≡ true → buffers.is_null via ≡ false → is_attached q t.0 ≡ true
      → is_here s q o ≡ true
      → Told s p (record q {
        threads = threads.by t.0 threads.CountBuffer ∷ q.threads;
        buffers =
            buffers.Opened (buffers.pin_through t.0 (next_buffer q t.0) o family via n) ∷ q.buffers;
      })
      (Lend t family (record { 0 = o }) via n ∷ [])
  pin_told family o via n pins through is here =
      let b : buffers.Buffer = lent t.0 (next_buffer p t.0) family o via n in
      let c : buffers.Buffer = buffers.pin_through t.0 (next_buffer q t.0) o family via n in
      one s p _ (Lend t family (record { 0 = o }) via n) (lend_can family o via n is here (rw (pins, through) refl))
      (buffers_on s _ _ counted_buffer (buffers.Opened b ∷ p.buffers) (buffers.Opened c ∷ q.buffers)
      (opened_both p.buffers q.buffers b c (pinned_info (buffers.is_critical family) t.0 (next_buffer p t.0) (next_buffer q t.0) o family via n pins)
      (lent_number (buffers.is_critical family) t.0 (next_buffer p t.0) o family via n ∙ number_is) known.same.buffers))

  pub back_told : (b : BufId) → is_some (buffer_named q b) ≡ true → Told s p (record q { buffers = buffers.Closed b.maker.0 b.n ∷ q.buffers }) (Back b ∷ [])
  back_told b there =
      one s p _ (Back b) (ap is_some (reading.lent b) ∙ there)
      (buffers_on s p q known.same _ _ (closed_both p.buffers q.buffers b.maker.0 b.n known.same.buffers))
