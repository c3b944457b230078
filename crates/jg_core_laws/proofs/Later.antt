-- After a local reference that ended at once all is judged as if it had never been handed out.
use Rattle.std.proofs.Common.{ℕ, ℤ, ◌≡◌, ◌≤◌, ◌+◌, ◌-◌, Bool, true, false, List, [], ◌∷◌, ◌++◌, Option, Some, None, refl, ap, sym, ◌∙◌, subst, arith, eqb-true, eq-eqb, if◌then◌else◌}
use Rattle.std.specs.Prelude.{◌==◌, ◌&&◌, not, nat_le, map}
use Rattle.std.specs.List.{list_any, find}
use Rattle.std.specs.Cmp.{both_ways}
use Rattle.std.specs.Option.{option_map, is_some}
use Rattle.std.proofs.lemmas.Bool.Decides.{nat_tests}
use Rattle.std.proofs.lemmas.Option.{same_Some}
use Rattle.jg_words.specs.declared.thread.Tid.{Tid}
use Rattle.jg_words.specs.declared.thread.EnvId.{EnvId}
use Rattle.jg_words.specs.declared.object.ObjId.{ObjId}
use Rattle.jg_words.specs.declared.buffer.BufId.{BufId}
use Rattle.jg_words.specs.declared.object.ItemType.TheVariants.{Of, Float, Double}
use Rattle.jg_words.specs.declared.reference.Ref.{Ref}
use Rattle.jg_words.specs.declared.reference.Ref.TheVariants.{Null, To}
use Rattle.jg_words.specs.declared.reference.Kind.{Kind}
use Rattle.jg_words.specs.declared.reference.Kind.TheVariants.{Local, Global, Weak}
use Rattle.jg_words.specs.declared.rule.Rule.{Rule}
use Rattle.jg_words.specs.declared.rule.Rule.TheVariants.{WrongThread, Detached, InCritical, Pending, ForeignLocal, DeadReference, WrongRefKind, NullReference, WrongType, BadField, BadBuffer, BadArgument, Pinned, NotOwner, BadFrame, NoNativeAccess, NotLinked}
use Rattle.jg_policy.specs.Stated.{StatedSetup}
use Rattle.jg_policy.specs.Links as links
use Rattle.jg_table_threads.specs.History as threads
use Rattle.jg_table_threads.proofs.Callers.{is_pending_law}
use Rattle.jg_table_locals.specs.History as locals
use Rattle.jg_table_locals.specs.History.{Act, Start, Make, Push, Ensure, Enter, Delete, Pop, Leave, End, Making, making, seen_after, survives, local_if_live, object_of, live, how_many, done_here, done_at, is_enter, is_leave, is_push, is_pop, session, depth, frames, IsMadeBelow}
use Rattle.jg_table_locals.proofs.Callers.{held_law}
use Rattle.jg_table_globals.specs.History as globals
use Rattle.jg_table_globals.specs.Laws as globals_made
use Rattle.jg_table_globals.proofs.Callers.{holds_law}
use Rattle.jg_table_buffers.specs.History as buffers
use Rattle.jg_table_buffers.specs.Laws.{CriticalBuffer}
use Rattle.jg_table_buffers.specs.declared.family.Family.{Family}
use Rattle.jg_table_buffers.specs.declared.family.Family.TheVariants.{Elements, Chars, UtfChars, ArrayCritical, StringCritical}
use Rattle.jg_table_buffers.specs.declared.info.Info.{Info}
use Rattle.jg_table_buffers.proofs.Callers.{critical_law, pinned_object_law}
use Rattle.jg_table_monitors.specs.History as monitors
use Rattle.jg_table_heap.specs.History as heap
use Rattle.jg_table_heap.specs.Making.{Opaque}
use Rattle.jg_rows.specs.declared.row.Takes.{Takes}
use Rattle.jg_rows.specs.declared.row.Takes.TheVariants.{Reference as TakesReference, Nullable, Arguments, Buffer as TakesBuffer, Readable, Writable, Place, Item, Value}
use Rattle.jg_rows.specs.declared.row.ObjectKind.{ObjectKind}
use Rattle.jg_rows.specs.declared.row.Effect.{Effect}
use Rattle.jg_rows.specs.declared.row.Effect.TheVariants.{Ends, Pops, Frees, Detaches, Enters, Leaves, Loads, Links}
use Rattle.jg_rows.specs.Columns.{Columns}
use Rattle.jg_rules.specs.declared.named.Named.{Named}
use Rattle.jg_rules.specs.declared.named.Named.TheVariants.{Nothing, Null as NamesNull, Object}
use Rattle.jg_rules.specs.Parts.{Parts}
use Rattle.jg_rules.specs.Names.{names, named_by, object_named, next_ref, next_buffer}
use Rattle.jg_rules.specs.Buffers.{buffer_named, is_open_and, is_of_family, is_of_object, is_anothers, is_of_array, item_type, is_value_of_type}
use Rattle.jg_rules.specs.Holding.{is_root}
use Rattle.jg_rules.specs.Rules.{rules_in_order, is_foreign, is_not, is_nothing, is_null, is_linked}
use Rattle.jg_laws.proofs.Kept.{Below, GlobalsBelow}
use Rattle.jg_laws.proofs.Fresh.{kind_below}
use Rattle.jg_judge.specs.declared.argument.Argument.{Argument}
use Rattle.jg_judge.specs.declared.argument.Argument.TheVariants.{Reference, Buffer, Number, Value as ValueOf, Class, List as ListOf}
use Rattle.jg_judge.specs.declared.argument.Bounds.{Bounds}
use Rattle.jg_judge.specs.Asked.{Judged, judged, judged_of, paired, is_last, first_reference, first_buffer}
use Rattle.jg_judge.specs.Broken.{broken, buffer_meant, is_wrong_buffer, is_refused_buffer, detached, is_wrong_kind, is_unfit, is_out_of_bounds, pinned, not_owner, bad_frame, no_access, not_linked, wrong_kind, class_by_name, native_by_name}
use Rattle.jg_core.specs.declared.fact.Fact.{Fact}
use Rattle.jg_core.specs.declared.fact.Fact.TheVariants as facts
use Rattle.jg_core.specs.declared.fact.Fact.TheVariants.{Begin, Raise, Calm, Hand, Lost, Lend, Back, Own, Free, Meet, Gone, Link, Unlink, Warn, Checked}
use Rattle.jg_core.specs.declared.fact.Checked.{Checked as Check}
use Rattle.jg_core.specs.declared.fact.Checked.TheVariants as checked
use Rattle.jg_core.specs.Facts.{on, parts_of, History, can_be, is_in_being, is_kept_here, is_so, handed_on, kept_on, lost_on, lent}
use Rattle.jg_core.proofs.Each.{each_told, keeps_below, keeps_globals_below}
use Rattle.jg_core_laws.specs.Laws.{briefly}
use Rattle.jg_core_laws.specs.Later.{raised_number, raised, raised_check, raised_fact, raised_operand, asks_pins, BriefIsForgotten, BriefIsOutlived}
use Rattle.jg_core_laws.proofs.Apart.{cleared_alike}
use Rattle.jg_core_laws.proofs.Brief.{survives_by, not_ended, owned_same, brief_can_be, bounds_same as bounds_alike}
use Rattle.jg_core_laws.proofs.Classes.{kind_same}
use Rattle.jg_core_laws.proofs.Meanings.{weak_more, weak_below}

module _ (t k : ℕ) where
  abbrev moved : ℕ → ℕ → ℕ
  moved m n = raised_number t k m n

  -- ---- numbers

  own_same : (i n : ℕ) → ((if nat_le k i then i + 1 else i) == (if nat_le k n then n + 1 else n)) ≡ (i == n)
  own_same i n = by_tests (nat_le k i) (nat_le k n) refl refl
    where
      by_tests : (a b : Bool) → nat_le k i ≡ a → nat_le k n ≡ b → ((if a then i + 1 else i) == (if b then n + 1 else n)) ≡ (i == n)
      by_tests true true low high = grind (arith, nat_tests)
      by_tests true false low high = grind (arith, nat_tests, low, high)
      by_tests false true low high = grind (arith, nat_tests, low, high)
      by_tests false false low high = refl

  number_same : (m i n : ℕ) → (moved m i == moved m n) ≡ (i == n)
  number_same m i n = by_test (m == t) refl
    where
      by_test : (b : Bool) → (m == t) ≡ b → (moved m i == moved m n) ≡ (i == n)
      by_test true is = rw is (own_same i n)
      by_test false is = rw is refl

  abbrev lowered_number : ℕ → ℕ → ℕ
  lowered_number m n = if m == t then (if nat_le k n then n - 1 else n) else n

  lowered_back : (m n : ℕ) → lowered_number m (moved m n) ≡ n
  lowered_back m n = by_test (m == t) (nat_le k n) refl refl
    where
      by_test : (b c : Bool) → (m == t) ≡ b → nat_le k n ≡ c → lowered_number m (moved m n) ≡ n
      by_test false c other high = rw other refl
      by_test true true is high =
          let higher : nat_le k (n + 1) ≡ true = grind (arith, nat_tests, high) in
          rw (is, high) (rw higher (grind (arith, nat_tests)))
      by_test true false is high = rw (is, high) (rw high refl)

  -- what isn't the number of the local that ended is one that was moved
  moved_back : (m n : ℕ) → ((m == t) && (n == k)) ≡ false → moved m (lowered_number m n) ≡ n
  moved_back m n apart = by_test (m == t) (nat_le k n) refl refl
    where
      by_test : (b c : Bool) → (m == t) ≡ b → nat_le k n ≡ c → moved m (lowered_number m n) ≡ n
      by_test false c other high = rw other refl
      by_test true true is high =
          let above : nat_le (k + 1) n ≡ true = grind (arith, nat_tests, high, apart, is) in
          let still : nat_le k (n - 1) ≡ true = grind (arith, nat_tests, above) in
          rw (is, high) (rw still (grind (arith, nat_tests, above)))
      by_test true false is high = rw (is, high) (rw high refl)

  never : (m n : ℕ) → ((m == t) && (moved m n == k)) ≡ false
  never m n = by_test (m == t) (nat_le k n) refl refl
    where
      by_test : (b c : Bool) → (m == t) ≡ b → nat_le k n ≡ c → ((m == t) && (moved m n == k)) ≡ false
      by_test false c other high = rw other refl
      by_test true true is high = let apart : (n + 1 == k) ≡ false = grind (arith, nat_tests, high) in rw (is, high) apart
      by_test true false is high = let apart : (n == k) ≡ false = grind (arith, nat_tests, high) in rw (is, high) apart

  abbrev moved_act : ℕ → Act → Act
  moved_act u (Make n o) = Make (moved u n) o
  moved_act u (Delete n) = Delete (moved u n)
  moved_act u a = a

  -- ---- a local of a thread, by what it did, and by the same with moved numbers

  record Lasts (u n : ℕ) (old new : List Act) : Type 0 where
    pub enters : how_many is_enter new ≡ how_many is_enter old
    pub leaves : how_many is_leave new ≡ how_many is_leave old
    pub pops : done_here is_pop new ≡ done_here is_pop old
    pub pushes : done_here is_push new ≡ done_here is_push old
    pub alive : survives (moved u n) new ≡ survives n old

  alive_more : (u n : ℕ) (a : Act) (old new : List Act) → Lasts u n old new → survives (moved u n) (moved_act u a ∷ new) ≡ survives n (a ∷ old)
  alive_more u n (Make m o) old new same = rw (same.alive, same.enters, same.leaves, same.pops, same.pushes) refl
  alive_more u n (Delete m) old new same = rw (same.alive, same.enters, same.leaves, same.pops, same.pushes, number_same u m n) refl
  alive_more u n (Push room) old new same = rw (same.alive, same.enters, same.leaves, same.pops, same.pushes) refl
  alive_more u n (Ensure c) old new same = rw (same.alive, same.enters, same.leaves, same.pops, same.pushes) refl
  alive_more u n Enter old new same = rw (same.alive, same.enters, same.leaves, same.pops, same.pushes) refl
  alive_more u n Pop old new same = rw (same.alive, same.enters, same.leaves, same.pops, same.pushes) refl
  alive_more u n Leave old new same = rw (same.alive, same.enters, same.leaves, same.pops, same.pushes) refl
  alive_more u n Start old new same = rw (same.alive, same.enters, same.leaves, same.pops, same.pushes) refl
  alive_more u n End old new same = rw (same.alive, same.enters, same.leaves, same.pops, same.pushes) refl

  enters_more : (u : ℕ) (a : Act) (old new : List Act) → how_many is_enter new ≡ how_many is_enter old
      → how_many is_enter (moved_act u a ∷ new) ≡ how_many is_enter (a ∷ old)
  enters_more u Enter old new same = rw same refl
  enters_more u a old new same = same

  leaves_more : (u : ℕ) (a : Act) (old new : List Act) → how_many is_leave new ≡ how_many is_leave old
      → how_many is_leave (moved_act u a ∷ new) ≡ how_many is_leave (a ∷ old)
  leaves_more u Leave old new same = rw same refl
  leaves_more u a old new same = same

  pops_more : (u n : ℕ) (a : Act) (old new : List Act) → Lasts u n old new → done_here is_pop (moved_act u a ∷ new) ≡ done_here is_pop (a ∷ old)
  pops_more u n Pop old new same = rw (same.enters, same.leaves, same.pops) refl
  pops_more u n a old new same = same.pops

  pushes_more : (u n : ℕ) (a : Act) (old new : List Act) → Lasts u n old new → done_here is_push (moved_act u a ∷ new) ≡ done_here is_push (a ∷ old)
  pushes_more u n (Push room) old new same = rw (same.enters, same.leaves, same.pushes) refl
  pushes_more u n a old new same = same.pushes

  lasts_more : (u n : ℕ) (a : Act) (old new : List Act) → Lasts u n old new → Lasts u n (a ∷ old) (moved_act u a ∷ new)
  lasts_more u n a old new same = record {
    enters = enters_more u a old new same.enters;
    leaves = leaves_more u a old new same.leaves;
    pops = pops_more u n a old new same;
    pushes = pushes_more u n a old new same;
    alive = alive_more u n a old new same;
  }

  -- it was made for the same object, and lasted as long
  abbrev Made : (u n : ℕ) → Option Making → Option Making → Type 0
  Made u n None None = Unit {0}
  Made u n None (Some now) = ⊥
  Made u n (Some was) None = ⊥
  Made u n (Some was) (Some now) = (now.object ≡ was.object) × Lasts u n was.later now.later

  made_more : (u n : ℕ) (a : Act) (was now : Option Making) → Made u n was now → Made u n (seen_after a was) (seen_after (moved_act u a) now)
  made_more u n a None None same = tt
  made_more u n a None (Some now) same = absurd same
  made_more u n a (Some was) None same = absurd same
  made_more u n a (Some was) (Some now) same = (same.0, lasts_more u n a was.later now.later same.1)

  -- so it is of each local
  abbrev AllMade : ℕ → List Act → List Act → Type 0
  AllMade u old new = (n : ℕ) → Made u n (making n old) (making (moved u n) new)

  made_here : (u m n o : ℕ) (old new : List Act) (b : Bool) → (m == n) ≡ b → AllMade u old new
      → Made u n (making n (Make m o ∷ old)) (making (moved u n) (Make (moved u m) o ∷ new))
  made_here u m n o old new true is same =
      rw (is, number_same u m n ∙ is) (refl, record { enters = refl; leaves = refl; pops = refl; pushes = refl; alive = refl })
  made_here u m n o old new false is same = rw (is, number_same u m n ∙ is) (made_more u n (Make m o) (making n old) (making (moved u n) new) (same n))

  all_more : (u : ℕ) (a : Act) (old new : List Act) → AllMade u old new → AllMade u (a ∷ old) (moved_act u a ∷ new)
  all_more u (Make m o) old new same n = made_here u m n o old new (m == n) refl same
  all_more u (Delete m) old new same n = made_more u n (Delete m) (making n old) (making (moved u n) new) (same n)
  all_more u (Push room) old new same n = made_more u n (Push room) (making n old) (making (moved u n) new) (same n)
  all_more u (Ensure c) old new same n = made_more u n (Ensure c) (making n old) (making (moved u n) new) (same n)
  all_more u Enter old new same n = made_more u n Enter (making n old) (making (moved u n) new) (same n)
  all_more u Pop old new same n = made_more u n Pop (making n old) (making (moved u n) new) (same n)
  all_more u Leave old new same n = made_more u n Leave (making n old) (making (moved u n) new) (same n)
  all_more u Start old new same n = made_more u n Start (making n old) (making (moved u n) new) (same n)
  all_more u End old new same n = made_more u n End (making n old) (making (moved u n) new) (same n)

  live_by : (u n : ℕ) (was now : Option Making) → Made u n was now → object_of (local_if_live (moved u n) now) ≡ object_of (local_if_live n was)
  live_by u n None None same = refl
  live_by u n None (Some now) same = absurd same
  live_by u n (Some was) None same = absurd same
  live_by u n (Some was) (Some now) same = rw same.1.alive (by_test (survives n was.later))
    where
      by_test : (b : Bool)
          → object_of (if b then Some (record { n = moved u n; object = now.object; depth = depth now.before; frame = frames (depth now.before) now.before }) else None)
          ≡ object_of (if b then Some (record { n = n; object = was.object; depth = depth was.before; frame = frames (depth was.before) was.before }) else None)
      by_test true = ap Some same.0
      by_test false = refl

  live_moved : (u n : ℕ) (old new : List Act) → AllMade u old new → live (moved u n) new ≡ live n old
  live_moved u n old new same = live_by u n (making n old) (making (moved u n) new) (same n)

  -- the local that ended stays dead
  abbrev Dead : Option Making → Type 0
  Dead None = Unit {0}
  Dead (Some m) = survives k m.later ≡ false

  dead_seen : (a : Act) (found : Option Making) → Dead found → Dead (seen_after a found)
  dead_seen a None dead = tt
  dead_seen a (Some m) dead = rw dead refl

  never_own : (n : ℕ) → (moved t n == k) ≡ false
  never_own n = subst (λ (b : Bool). (b && (moved t n == k)) ≡ false) (eq-eqb t t refl) (never t n)

  dead_more : (a : Act) (e : List Act) → Dead (making k e) → Dead (making k (moved_act t a ∷ e))
  dead_more (Make m o) e dead = let P : Bool → Type 0 = λ b. Dead (if b then Some (record { later = []; object = o; before = e }) else seen_after (Make (moved t m) o) (making k e)) in
      subst P (sym (never_own m)) (dead_seen (Make (moved t m) o) (making k e) dead)
  dead_more (Delete m) e dead = dead_seen (Delete (moved t m)) (making k e) dead
  dead_more (Push room) e dead = dead_seen (Push room) (making k e) dead
  dead_more (Ensure c) e dead = dead_seen (Ensure c) (making k e) dead
  dead_more Enter e dead = dead_seen Enter (making k e) dead
  dead_more Pop e dead = dead_seen Pop (making k e) dead
  dead_more Leave e dead = dead_seen Leave (making k e) dead
  dead_more Start e dead = dead_seen Start (making k e) dead
  dead_more End e dead = dead_seen End (making k e) dead

  dead_names : (found : Option Making) → Dead found → object_of (local_if_live k found) ≡ None
  dead_names None dead = refl
  dead_names (Some m) dead = rw dead refl

  -- ---- frames

  record Framed (old new : List Act) : Type 0 where
    pub enters : how_many is_enter (session new) ≡ how_many is_enter (session old)
    pub leaves : how_many is_leave (session new) ≡ how_many is_leave (session old)
    pub pushes : (d : ℕ) → done_at is_push d new ≡ done_at is_push d old
    pub pops : (d : ℕ) → done_at is_pop d new ≡ done_at is_pop d old

  depth_same : (old new : List Act) → Framed old new → depth new ≡ depth old
  depth_same old new same = rw (same.enters, same.leaves) refl

  frames_same : (old new : List Act) → Framed old new → frames (depth new) new ≡ frames (depth old) old
  frames_same old new same = rw (depth_same old new same, same.pushes (depth old), same.pops (depth old)) refl

  framed_more : (u : ℕ) (a : Act) (old new : List Act) → Framed old new → Framed (a ∷ old) (moved_act u a ∷ new)
  framed_more u (Make m o) old new same = record { enters = same.enters; leaves = same.leaves; pushes = same.pushes; pops = same.pops }
  framed_more u (Delete m) old new same = record { enters = same.enters; leaves = same.leaves; pushes = same.pushes; pops = same.pops }
  framed_more u (Push room) old new same = record {
    enters = same.enters;
    leaves = same.leaves;
    pushes = λ d. rw (depth_same old new same, same.pushes d) refl;
    pops = same.pops;
  }
  framed_more u (Ensure c) old new same = record { enters = same.enters; leaves = same.leaves; pushes = same.pushes; pops = same.pops }
  framed_more u Enter old new same = record {
    enters = rw same.enters refl;
    leaves = same.leaves;
    pushes = λ d. rw (depth_same old new same, same.pushes d) refl;
    pops = λ d. rw (depth_same old new same, same.pops d) refl;
  }
  framed_more u Pop old new same = record {
    enters = same.enters;
    leaves = same.leaves;
    pushes = same.pushes;
    pops = λ d. rw (depth_same old new same, same.pops d) refl;
  }
  framed_more u Leave old new same = record { enters = same.enters; leaves = rw same.leaves refl; pushes = same.pushes; pops = same.pops }
  framed_more u Start old new same = record { enters = refl; leaves = refl; pushes = λ d. refl; pops = λ d. refl }
  framed_more u End old new same = record { enters = refl; leaves = refl; pushes = λ d. refl; pops = λ d. refl }

  -- ---- sessions

  -- the same session, and one reference more
  record Going (old new : List threads.Act) : Type 0 where
    pub attached : threads.attached new ≡ threads.attached old
    pub sessions : threads.sessions new ≡ threads.sessions old
    pub pending : threads.pending new ≡ threads.pending old
    pub enters : how_many threads.is_enter (threads.since new) ≡ how_many threads.is_enter (threads.since old)
    pub leaves : how_many threads.is_leave (threads.since new) ≡ how_many threads.is_leave (threads.since old)
    pub refs : threads.refs new ≡ threads.refs old + 1
    pub buffers : threads.buffers new ≡ threads.buffers old
    pub above : nat_le k (threads.refs old + 1) ≡ true

  going_more : (a : threads.Act) (old new : List threads.Act) → Going old new → Going (a ∷ old) (a ∷ new)
  going_more threads.Attach old new same = record {
    attached = refl;
    sessions = rw (same.attached, same.sessions) refl;
    pending = same.pending;
    enters = same.enters;
    leaves = same.leaves;
    refs = same.refs;
    buffers = same.buffers;
    above = same.above;
  }
  going_more threads.Detach old new same = record {
    attached = refl;
    sessions = same.sessions;
    pending = refl;
    enters = refl;
    leaves = refl;
    refs = same.refs;
    buffers = same.buffers;
    above = same.above;
  }
  going_more threads.Enter old new same = record {
    attached = same.attached;
    sessions = same.sessions;
    pending = same.pending;
    enters = rw same.enters refl;
    leaves = same.leaves;
    refs = same.refs;
    buffers = same.buffers;
    above = same.above;
  }
  going_more threads.Leave old new same = record {
    attached = same.attached;
    sessions = same.sessions;
    pending = same.pending;
    enters = same.enters;
    leaves = rw same.leaves refl;
    refs = same.refs;
    buffers = same.buffers;
    above = same.above;
  }
  going_more (threads.Raise o) old new same = record {
    attached = same.attached;
    sessions = same.sessions;
    pending = refl;
    enters = same.enters;
    leaves = same.leaves;
    refs = same.refs;
    buffers = same.buffers;
    above = same.above;
  }
  going_more threads.Calm old new same = record {
    attached = same.attached;
    sessions = same.sessions;
    pending = refl;
    enters = same.enters;
    leaves = same.leaves;
    refs = same.refs;
    buffers = same.buffers;
    above = same.above;
  }
  going_more threads.CountRef old new same = record {
    attached = same.attached;
    sessions = same.sessions;
    pending = same.pending;
    enters = same.enters;
    leaves = same.leaves;
    refs = rw same.refs refl;
    buffers = same.buffers;
    above = grind (arith, nat_tests, same.above);
  }
  going_more threads.CountBuffer old new same = record {
    attached = same.attached;
    sessions = same.sessions;
    pending = same.pending;
    enters = same.enters;
    leaves = same.leaves;
    refs = same.refs;
    buffers = rw same.buffers refl;
    above = same.above;
  }

  -- ---- global references

  key_same : (m n j i : ℕ) → globals.is_same m (moved m n) j (moved j i) ≡ globals.is_same m n j i
  key_same m n j i = by_test (j == m) refl
    where
      by_test : (b : Bool) → (j == m) ≡ b → globals.is_same m (moved m n) j (moved j i) ≡ globals.is_same m n j i
      by_test false is = rw is refl
      by_test true is =
          let P : ℕ → Type 0 = λ l. (moved j i == moved l n) ≡ (i == n) in
          rw is (subst P (eqb-true j m is) (number_same j i n))

  abbrev moved_event : globals.Event → globals.Event
  moved_event (globals.MakeStrong m i o) = globals.MakeStrong m (moved m i) o
  moved_event (globals.DeleteStrong m i) = globals.DeleteStrong m (moved m i)
  moved_event (globals.MakeWeak m i o) = globals.MakeWeak m (moved m i) o
  moved_event (globals.DeleteWeak m i) = globals.DeleteWeak m (moved m i)
  moved_event (globals.Clear q) = globals.Clear q

  record Handed (old new : List globals.Event) : Type 0 where
    pub strong : (m n : ℕ) → globals.strong new m (moved m n) ≡ globals.strong old m n
    pub weak : (m n : ℕ) → globals.weak new m (moved m n) ≡ globals.weak old m n
    pub target : (m n : ℕ) → globals.weak_target new m (moved m n) ≡ globals.weak_target old m n

  strong_more : (ev : globals.Event) (old new : List globals.Event) → Handed old new → (m n : ℕ)
      → globals.strong (moved_event ev ∷ new) m (moved m n) ≡ globals.strong (ev ∷ old) m n
  strong_more (globals.MakeStrong j i o) old new same m n = rw (key_same m n j i, same.strong m n) refl
  strong_more (globals.DeleteStrong j i) old new same m n = rw (key_same m n j i, same.strong m n) refl
  strong_more (globals.MakeWeak j i o) old new same m n = same.strong m n
  strong_more (globals.DeleteWeak j i) old new same m n = same.strong m n
  strong_more (globals.Clear q) old new same m n = same.strong m n

  weak_kept : (ev : globals.Event) (old new : List globals.Event) → Handed old new → (m n : ℕ)
      → globals.weak (moved_event ev ∷ new) m (moved m n) ≡ globals.weak (ev ∷ old) m n
  weak_kept (globals.MakeStrong j i o) old new same m n = same.weak m n
  weak_kept (globals.DeleteStrong j i) old new same m n = same.weak m n
  weak_kept (globals.MakeWeak j i o) old new same m n = rw (key_same m n j i, same.weak m n) refl
  weak_kept (globals.DeleteWeak j i) old new same m n = rw (key_same m n j i, same.weak m n) refl
  weak_kept (globals.Clear q) old new same m n = same.weak m n

  made_target : (j i o m n : ℕ) (old new : List globals.Event) (b : Bool) → globals.is_same m n j i ≡ b
      → globals.weak_target new m (moved m n) ≡ globals.weak_target old m n
      → globals.weak_target (globals.MakeWeak j (moved j i) o ∷ new) m (moved m n) ≡ globals.weak_target (globals.MakeWeak j i o ∷ old) m n
  made_target j i o m n old new true is same = rw (key_same m n j i ∙ is, is) refl
  made_target j i o m n old new false is same =
      weak_more m (moved m n) (globals.MakeWeak j (moved j i) o) new (key_same m n j i ∙ is) refl
      ∙ (same ∙ sym (weak_more m n (globals.MakeWeak j i o) old is refl))

  deleted_target : (j i m n : ℕ) (old new : List globals.Event) (b : Bool) → globals.is_same m n j i ≡ b
      → globals.weak_target new m (moved m n) ≡ globals.weak_target old m n
      → globals.weak_target (globals.DeleteWeak j (moved j i) ∷ new) m (moved m n) ≡ globals.weak_target (globals.DeleteWeak j i ∷ old) m n
  deleted_target j i m n old new true is same = rw (key_same m n j i ∙ is, is) refl
  deleted_target j i m n old new false is same =
      weak_more m (moved m n) (globals.DeleteWeak j (moved j i)) new (key_same m n j i ∙ is) refl
      ∙ (same ∙ sym (weak_more m n (globals.DeleteWeak j i) old is refl))

  target_kept : (ev : globals.Event) (old new : List globals.Event) → Handed old new → (m n : ℕ)
      → globals.weak_target (moved_event ev ∷ new) m (moved m n) ≡ globals.weak_target (ev ∷ old) m n
  target_kept (globals.MakeStrong j i o) old new same m n =
      weak_more m (moved m n) (globals.MakeStrong j (moved j i) o) new refl refl
      ∙ (same.target m n ∙ sym (weak_more m n (globals.MakeStrong j i o) old refl refl))
  target_kept (globals.DeleteStrong j i) old new same m n =
      weak_more m (moved m n) (globals.DeleteStrong j (moved j i)) new refl refl
      ∙ (same.target m n ∙ sym (weak_more m n (globals.DeleteStrong j i) old refl refl))
  target_kept (globals.MakeWeak j i o) old new same m n = made_target j i o m n old new (globals.is_same m n j i) refl (same.target m n)
  target_kept (globals.DeleteWeak j i) old new same m n = deleted_target j i m n old new (globals.is_same m n j i) refl (same.target m n)
  target_kept (globals.Clear q) old new same m n =
      cleared_alike q (globals.after_making m (moved m n) new) (globals.after_making m n old) (globals.weak new m (moved m n)) (globals.weak old m n)
      (same.weak m n) (same.target m n)

  handed_more : (ev : globals.Event) (old new : List globals.Event) → Handed old new → Handed (ev ∷ old) (moved_event ev ∷ new)
  handed_more ev old new same = record { strong = strong_more ev old new same; weak = weak_kept ev old new same; target = target_kept ev old new same }

  -- nothing is made of the number of the local that ended
  gone_more : (ev : globals.Event) (e : List globals.Event) → globals.strong e t k ≡ None → globals.strong (moved_event ev ∷ e) t k ≡ None
  gone_more (globals.MakeStrong m i o) e gone = rw (never m i) gone
  gone_more (globals.DeleteStrong m i) e gone = rw (never m i) gone
  gone_more (globals.MakeWeak m i o) e gone = gone
  gone_more (globals.DeleteWeak m i) e gone = gone
  gone_more (globals.Clear q) e gone = gone

  -- ---- buffers

  -- a buffer, whatever reference it was asked for by
  abbrev bare : buffers.Buffer → buffers.Buffer
  bare b = record b { via = Null }

  abbrev Lent : List buffers.Event → List buffers.Event → Type 0
  Lent old new = (m n : ℕ) → option_map bare (buffers.opened new m n) ≡ option_map bare (buffers.opened old m n)

  opened_if : (b c : buffers.Buffer) (x y : Option buffers.Buffer) (d e : Bool) → d ≡ e → bare c ≡ bare b → option_map bare y ≡ option_map bare x
      → option_map bare (if d then Some c else y) ≡ option_map bare (if e then Some b else x)
  opened_if b c x y true true is same older = ap Some same
  opened_if b c x y true false is same older = absurd cc
  opened_if b c x y false true is same older = absurd cc
  opened_if b c x y false false is same older = older

  opened_more : (b c : buffers.Buffer) (old new : List buffers.Event) → bare c ≡ bare b → Lent old new → Lent (buffers.Opened b ∷ old) (buffers.Opened c ∷ new)
  opened_more b c old new is same m n =
      opened_if b c (buffers.opened old m n) (buffers.opened new m n) (buffers.is_same m n c.maker c.n) (buffers.is_same m n b.maker b.n)
      (ap (λ (x : buffers.Buffer). buffers.is_same m n x.maker x.n) is) is (same m n)

  copied_if : (b c : buffers.Buffer) (d e : Bool) → d ≡ e → bare c ≡ bare b
      → option_map bare (if◌then◌else◌ {A = Option buffers.Buffer} d None (Some c)) ≡ option_map bare (if◌then◌else◌ {A = Option buffers.Buffer} e None (Some b))
  copied_if b c true true is same = refl
  copied_if b c true false is same = absurd cc
  copied_if b c false true is same = absurd cc
  copied_if b c false false is same = ap Some same

  copied_same : (x y : Option buffers.Buffer) → option_map bare y ≡ option_map bare x → option_map bare (buffers.copied_only y) ≡ option_map bare (buffers.copied_only x)
  copied_same None None same = refl
  copied_same None (Some c) same = absurd cc
  copied_same (Some b) None same = absurd cc
  copied_same (Some b) (Some c) same =
      let is : bare c ≡ bare b = same_Some (bare c) (bare b) same in
      copied_if b c (buffers.is_critical c.family) (buffers.is_critical b.family) (ap (λ (x : buffers.Buffer). buffers.is_critical x.family) is) is

  closed_more : (j i : ℕ) (old new : List buffers.Event) → Lent old new → Lent (buffers.Closed j i ∷ old) (buffers.Closed j i ∷ new)
  closed_more j i old new same m n = by_test (buffers.is_same m n j i)
    where
      by_test : (d : Bool) → option_map bare (if◌then◌else◌ {A = Option buffers.Buffer} d None (buffers.opened new m n))
          ≡ option_map bare (if◌then◌else◌ {A = Option buffers.Buffer} d None (buffers.opened old m n))
      by_test true = refl
      by_test false = same m n

  released_more : (j : ℕ) (old new : List buffers.Event) → Lent old new → Lent (buffers.ReleaseAll j ∷ old) (buffers.ReleaseAll j ∷ new)
  released_more j old new same m n = by_test (j == m)
    where
      by_test : (d : Bool) → option_map bare (if d then buffers.copied_only (buffers.opened new m n) else buffers.opened new m n)
          ≡ option_map bare (if d then buffers.copied_only (buffers.opened old m n) else buffers.opened old m n)
      by_test true = copied_same (buffers.opened old m n) (buffers.opened new m n) (same m n)
      by_test false = same m n

  record Found (y : Option buffers.Buffer) (b : buffers.Buffer) : Type 0 where
    pub buffer : buffers.Buffer
    pub is : y ≡ Some buffer
    pub same : bare buffer ≡ bare b

  found_as : (x y : Option buffers.Buffer) (b : buffers.Buffer) → option_map bare y ≡ option_map bare x → x ≡ Some b → Found y b
  found_as None y b same is = absurd cc
  found_as (Some c) None b same is = absurd cc
  found_as (Some c) (Some d) b same is =
      record { buffer = d; is = refl; same = same_Some (bare d) (bare c) same ∙ ap bare (same_Some c b is) }

  -- what holds of a critical buffer, by whatever reference, holds of the same one
  critical_kept : (H : buffers.Buffer → Type 0) (old new : List buffers.Event) → Lent old new → ((b c : buffers.Buffer) → bare c ≡ bare b → H b → H c)
      → CriticalBuffer old H → CriticalBuffer new H
  critical_kept H old new same each pin =
      let found = found_as (buffers.opened old pin.maker pin.n) (buffers.opened new pin.maker pin.n) pin.buffer (same pin.maker pin.n) pin.is_open in
      record {
        maker = pin.maker;
        n = pin.n;
        buffer = found.buffer;
        is_open = found.is;
        critical = ap (λ (b : buffers.Buffer). buffers.is_critical b.family) found.same ∙ pin.critical;
        holds = each pin.buffer found.buffer found.same pin.holds;
      }

  lent_back : (old new : List buffers.Event) → Lent old new → Lent new old
  lent_back old new same m n = sym (same m n)

  of_maker : (u : ℕ) (b c : buffers.Buffer) → bare c ≡ bare b → b.maker ≡ u → c.maker ≡ u
  of_maker u b c is own = ap (λ (x : buffers.Buffer). x.maker) is ∙ own

  of_object : (o : ℕ) (b c : buffers.Buffer) → bare c ≡ bare b → b.object ≡ o → c.object ≡ o
  of_object o b c is own = ap (λ (x : buffers.Buffer). x.object) is ∙ own

  critical_same : (u : ℕ) (old new : List buffers.Event) → Lent old new → buffers.in_critical new u ≡ buffers.in_critical old u
  critical_same u old new same =
      both_ways _ _
      (λ is. (critical_law old u).1 (critical_kept (λ b. b.maker ≡ u) new old (lent_back old new same) (of_maker u) ((critical_law new u).0 is)))
      (λ is. (critical_law new u).1 (critical_kept (λ b. b.maker ≡ u) old new same (of_maker u) ((critical_law old u).0 is)))

  pins_same : (o : ℕ) (old new : List buffers.Event) → Lent old new → buffers.pins_object new o ≡ buffers.pins_object old o
  pins_same o old new same =
      both_ways _ _
      (λ is. (pinned_object_law old o).1 (critical_kept (λ b. b.object ≡ o) new old (lent_back old new same) (of_object o) ((pinned_object_law new o).0 is)))
      (λ is. (pinned_object_law new o).1 (critical_kept (λ b. b.object ≡ o) old new same (of_object o) ((pinned_object_law old o).0 is)))

  -- ---- what the tables have

  record Raised (p q : Parts) : Type 0 where
    pub elsewhere : (u : ℕ) → (u == t) ≡ false → threads.acts_of u q.threads ≡ threads.acts_of u p.threads
    pub own : Going (threads.acts_of t p.threads) (threads.acts_of t q.threads)
    pub made : (u : ℕ) → AllMade u (locals.acts_of u p.locals) (locals.acts_of u q.locals)
    pub dead : Dead (making k (locals.acts_of t q.locals))
    pub framed : (u : ℕ) → Framed (locals.acts_of u p.locals) (locals.acts_of u q.locals)
    pub handed : Handed p.globals q.globals
    pub gone : globals.strong q.globals t k ≡ None
    pub lent : Lent p.buffers q.buffers
    pub monitors : q.monitors ≡ p.monitors
    pub heap : q.heap ≡ p.heap
    pub links : q.links ≡ p.links

  -- of what a fact changes in a table, and of the rest as it was
  with_threads : (p q : Parts) (e f : List threads.Event) → Raised p q → ((u : ℕ) → (u == t) ≡ false → threads.acts_of u f ≡ threads.acts_of u e)
      → Going (threads.acts_of t e) (threads.acts_of t f) → Raised (record p { threads = e }) (record q { threads = f })
  with_threads p q e f same elsewhere own = record {
    elsewhere = elsewhere;
    own = own;
    made = same.made;
    dead = same.dead;
    framed = same.framed;
    handed = same.handed;
    gone = same.gone;
    lent = same.lent;
    monitors = same.monitors;
    heap = same.heap;
    links = same.links;
  }

  with_locals : (p q : Parts) (e f : List locals.Event) → Raised p q → ((u : ℕ) → AllMade u (locals.acts_of u e) (locals.acts_of u f))
      → Dead (making k (locals.acts_of t f)) → ((u : ℕ) → Framed (locals.acts_of u e) (locals.acts_of u f))
      → Raised (record p { locals = e }) (record q { locals = f })
  with_locals p q e f same made dead framed = record {
    elsewhere = same.elsewhere;
    own = same.own;
    made = made;
    dead = dead;
    framed = framed;
    handed = same.handed;
    gone = same.gone;
    lent = same.lent;
    monitors = same.monitors;
    heap = same.heap;
    links = same.links;
  }

  thread_act : (u : ℕ) (a : threads.Act) (p q : Parts) → Raised p q
      → Raised (record p { threads = threads.by u a ∷ p.threads }) (record q { threads = threads.by u a ∷ q.threads })
  thread_act u a p q same =
      with_threads p q (threads.by u a ∷ p.threads) (threads.by u a ∷ q.threads) same (λ v other. rw (same.elsewhere v other) refl) (by_test (u == t))
    where
      by_test : (b : Bool) → Going (if b then a ∷ threads.acts_of t p.threads else threads.acts_of t p.threads)
          (if b then a ∷ threads.acts_of t q.threads else threads.acts_of t q.threads)
      by_test true = going_more a (threads.acts_of t p.threads) (threads.acts_of t q.threads) same.own
      by_test false = same.own

  local_act : (u : ℕ) (a : Act) (p q : Parts) → Raised p q
      → Raised (record p { locals = locals.by u a ∷ p.locals }) (record q { locals = locals.by u (moved_act u a) ∷ q.locals })
  local_act u a p q same =
      with_locals p q (locals.by u a ∷ p.locals) (locals.by u (moved_act u a) ∷ q.locals) same (λ v. made v (u == v) refl) (dead (u == t) refl)
      (λ v. framed v (u == v) refl)
    where
      made : (v : ℕ) (b : Bool) → (u == v) ≡ b → AllMade v (if b then a ∷ locals.acts_of v p.locals else locals.acts_of v p.locals)
          (if b then moved_act u a ∷ locals.acts_of v q.locals else locals.acts_of v q.locals)
      made v true is =
          let P : ℕ → Type 0 = λ w. AllMade w (a ∷ locals.acts_of w p.locals) (moved_act u a ∷ locals.acts_of w q.locals) in
          subst P (eqb-true u v is) (all_more u a (locals.acts_of u p.locals) (locals.acts_of u q.locals) (same.made u))
      made v false is = same.made v

      dead : (b : Bool) → (u == t) ≡ b → Dead (making k (if b then moved_act u a ∷ locals.acts_of t q.locals else locals.acts_of t q.locals))
      dead true is =
          let P : ℕ → Type 0 = λ w. Dead (making k (moved_act w a ∷ locals.acts_of t q.locals)) in
          subst P (sym (eqb-true u t is)) (dead_more a (locals.acts_of t q.locals) same.dead)
      dead false is = same.dead

      framed : (v : ℕ) (b : Bool) → (u == v) ≡ b → Framed (if b then a ∷ locals.acts_of v p.locals else locals.acts_of v p.locals)
          (if b then moved_act u a ∷ locals.acts_of v q.locals else locals.acts_of v q.locals)
      framed v true is = framed_more u a (locals.acts_of v p.locals) (locals.acts_of v q.locals) (same.framed v)
      framed v false is = same.framed v

  global_event : (ev : globals.Event) (p q : Parts) → Raised p q
      → Raised (record p { globals = ev ∷ p.globals }) (record q { globals = moved_event ev ∷ q.globals })
  global_event ev p q same = record {
    elsewhere = same.elsewhere;
    own = same.own;
    made = same.made;
    dead = same.dead;
    framed = same.framed;
    handed = handed_more ev p.globals q.globals same.handed;
    gone = gone_more ev q.globals same.gone;
    lent = same.lent;
    monitors = same.monitors;
    heap = same.heap;
    links = same.links;
  }

  buffer_event : (ev now : buffers.Event) (p q : Parts) → Raised p q → Lent (ev ∷ p.buffers) (now ∷ q.buffers)
      → Raised (record p { buffers = ev ∷ p.buffers }) (record q { buffers = now ∷ q.buffers })
  buffer_event ev now p q same lent = record {
    elsewhere = same.elsewhere;
    own = same.own;
    made = same.made;
    dead = same.dead;
    framed = same.framed;
    handed = same.handed;
    gone = same.gone;
    lent = lent;
    monitors = same.monitors;
    heap = same.heap;
    links = same.links;
  }

  -- events that both have, of monitors, objects and links
  with_rest : (m : List monitors.Event → List monitors.Event) (h : List heap.Event → List heap.Event) (l : List links.Event → List links.Event) (p q : Parts)
      → Raised p q → Raised (record p { monitors = m p.monitors; heap = h p.heap; links = l p.links })
      (record q { monitors = m q.monitors; heap = h q.heap; links = l q.links })
  with_rest m h l p q same = record {
    elsewhere = same.elsewhere;
    own = same.own;
    made = same.made;
    dead = same.dead;
    framed = same.framed;
    handed = same.handed;
    gone = same.gone;
    lent = same.lent;
    monitors = ap m same.monitors;
    heap = ap h same.heap;
    links = ap l same.links;
  }

  next_by : (u : ℕ) (p q : Parts) (b : Bool) → (u == t) ≡ b → Raised p q → next_ref q u ≡ moved u (next_ref p u)
  next_by u p q false other same = rw (other, same.elsewhere u other) refl
  next_by u p q true is same =
      let P : ℕ → Type 0 = λ v. next_ref q v ≡ (if nat_le k (next_ref p v) then next_ref p v + 1 else next_ref p v) in
      rw is (subst P (sym (eqb-true u t is)) (rw (same.own.refs, same.own.above) refl))

  next_moved : (u : ℕ) (p q : Parts) → Raised p q → next_ref q u ≡ moved u (next_ref p u)
  next_moved u p q same = next_by u p q (u == t) refl same

  buffer_by : (u : ℕ) (p q : Parts) (b : Bool) → (u == t) ≡ b → Raised p q → next_buffer q u ≡ next_buffer p u
  buffer_by u p q false other same = rw (same.elsewhere u other) refl
  buffer_by u p q true is same =
      let P : ℕ → Type 0 = λ v. next_buffer q v ≡ next_buffer p v in
      subst P (sym (eqb-true u t is)) (rw same.own.buffers refl)

  -- ---- one more fact

  handed_raised : (u : ℕ) (kind : Kind) (o : ℕ) (p q : Parts) → Raised p q → Raised (handed_on u kind o p) (handed_on u kind o q)
  handed_raised u Local o p q same =
      rw (next_moved u p q same) (local_act u (Make (next_ref p u) o) _ _ (thread_act u threads.CountRef p q same))
  handed_raised u Global o p q same =
      rw (next_moved u p q same) (global_event (globals.MakeStrong u (next_ref p u) o) _ _ (thread_act u threads.CountRef p q same))
  handed_raised u Weak o p q same =
      rw (next_moved u p q same) (global_event (globals.MakeWeak u (next_ref p u) o) _ _ (thread_act u threads.CountRef p q same))

  kept_raised : (u : ℕ) (kept : Option ObjId) (p q : Parts) → Raised p q → Raised (kept_on u kept p) (kept_on u kept q)
  kept_raised u None p q same = same
  kept_raised u (Some o) p q same = handed_raised u Local o.0 p q same

  lost_raised : (r : Ref) (p q : Parts) → Raised p q → Raised (lost_on r p) (lost_on (raised t k r) q)
  lost_raised Null p q same = same
  lost_raised (To Local maker n) p q same = local_act maker.0 (Delete n) p q same
  lost_raised (To Global maker n) p q same = global_event (globals.DeleteStrong maker.0 n) p q same
  lost_raised (To Weak maker n) p q same = global_event (globals.DeleteWeak maker.0 n) p q same

  lent_bare : (u n : ℕ) (family : Family) (o : ℕ) (via other : Ref) (count : ℕ) (b : Bool) → buffers.is_critical family ≡ b
      → bare (lent u n family o other count) ≡ bare (lent u n family o via count)
  lent_bare u n family o via other count true is = rw is refl
  lent_bare u n family o via other count false is = rw is refl

  fact_raised : (x : Fact) (p q : Parts) → Raised p q → Raised (on x p) (on (raised_fact t k x) q)
  fact_raised (Begin u) p q same = local_act u.0 Start _ _ (thread_act u.0 threads.Attach p q same)
  fact_raised (facts.End u) p q same =
      let acted = local_act u.0 End _ _ (thread_act u.0 threads.Detach p q same) in
      let ended = buffer_event (buffers.ReleaseAll u.0) (buffers.ReleaseAll u.0) _ _ acted (released_more u.0 p.buffers q.buffers same.lent) in
      with_rest (λ m. monitors.by u.0 monitors.ReleaseAll ∷ m) (λ h. h) (λ l. l) _ _ ended
  fact_raised (facts.Enter u) p q same =
      local_act u.0 Enter _ _ (thread_act u.0 threads.Calm _ _ (thread_act u.0 threads.Enter p q same))
  fact_raised (facts.Leave u kept) p q same =
      kept_raised u.0 kept _ _ (local_act u.0 Leave _ _ (thread_act u.0 threads.Calm _ _ (thread_act u.0 threads.Leave p q same)))
  fact_raised (facts.Push u room) p q same = local_act u.0 (Push room) p q same
  fact_raised (facts.Pop u kept) p q same = kept_raised u.0 kept _ _ (local_act u.0 Pop p q same)
  fact_raised (facts.Ensure u room) p q same = local_act u.0 (Ensure room) p q same
  fact_raised (Raise u o) p q same = thread_act u.0 (threads.Raise o.0) p q same
  fact_raised (Calm u) p q same = thread_act u.0 threads.Calm p q same
  fact_raised (Hand u kind o) p q same = handed_raised u.0 kind o.0 p q same
  fact_raised (Lost r) p q same = lost_raised r p q same
  fact_raised (Lend u family o via n) p q same =
      let b : buffers.Buffer = lent u.0 (next_buffer p u.0) family o.0 via n in
      let c : buffers.Buffer = lent u.0 (next_buffer p u.0) family o.0 (raised t k via) n in
      rw (buffer_by u.0 p q (u.0 == t) refl same)
      (buffer_event (buffers.Opened b) (buffers.Opened c) _ _ (thread_act u.0 threads.CountBuffer p q same)
      (opened_more b c p.buffers q.buffers (lent_bare u.0 (next_buffer p u.0) family o.0 via (raised t k via) n (buffers.is_critical family) refl) same.lent))
  fact_raised (Back b) p q same =
      buffer_event (buffers.Closed b.maker.0 b.n) (buffers.Closed b.maker.0 b.n) p q same (closed_more b.maker.0 b.n p.buffers q.buffers same.lent)
  fact_raised (Own u o) p q same = with_rest (λ m. monitors.by u.0 (monitors.Enter o.0) ∷ m) (λ h. h) (λ l. l) p q same
  fact_raised (Free u o) p q same = with_rest (λ m. monitors.by u.0 (monitors.Exit o.0) ∷ m) (λ h. h) (λ l. l) p q same
  fact_raised (Meet class n) p q same = with_rest (λ m. m) (λ h. heap.Made (Opaque class n) ∷ h) (λ l. l) p q same
  fact_raised (Gone o) p q same = with_rest (λ m. m) (λ h. heap.Went o.0 ∷ h) (λ l. l) _ _ (global_event (globals.Clear o.0) p q same)
  fact_raised (Link class native) p q same = with_rest (λ m. m) (λ h. h) (λ l. links.Linked class native ∷ l) p q same
  fact_raised (Unlink class) p q same = with_rest (λ m. m) (λ h. h) (λ l. links.UnlinkedAll class ∷ l) p q same
  fact_raised (Warn home) p q same = with_rest (λ m. m) (λ h. h) (λ l. links.Warned home ∷ l) p q same
  fact_raised (Checked check) p q same = same

  later_raised : (later w v : List Fact) → Raised (parts_of w) (parts_of v) → Raised (parts_of (later ++ w)) (parts_of (map (raised_fact t k) later ++ v))
  later_raised [] w v same = same
  later_raised (x ∷ later) w v same = fact_raised x (parts_of (later ++ w)) (parts_of (map (raised_fact t k) later ++ v)) (later_raised later w v same)

  -- ---- right after the local ended

  none_made : (n : ℕ) (e : List Act) → IsMadeBelow k e → k ≤ n → making n e ≡ None
  none_made n [] below high = refl
  none_made n (Make m o ∷ e) below high =
      let other : (m == n) ≡ false = grind (arith, nat_tests, below.0, high) in
      rw (other, none_made n e below.1 high) refl
  none_made n (Delete m ∷ e) below high = rw (none_made n e below high) refl
  none_made n (Push room ∷ e) below high = rw (none_made n e below high) refl
  none_made n (Ensure c ∷ e) below high = rw (none_made n e below high) refl
  none_made n (Enter ∷ e) below high = rw (none_made n e below high) refl
  none_made n (Pop ∷ e) below high = rw (none_made n e below high) refl
  none_made n (Leave ∷ e) below high = rw (none_made n e below high) refl
  none_made n (Start ∷ e) below high = rw (none_made n e below high) refl
  none_made n (End ∷ e) below high = rw (none_made n e below high) refl

  made_same : (u n : ℕ) → moved u n ≡ n → (found : Option Making) → Made u n found found
  made_same u n is None = tt
  made_same u n is (Some m) = (refl, record { enters = refl; leaves = refl; pops = refl; pushes = refl; alive = rw is refl })

  outlives : (n o : ℕ) (later : List Act) → (k == n) ≡ false → survives n (Delete k ∷ Make k o ∷ later) ≡ survives n later
  outlives n o later other =
      survives_by (survives n (Make k o ∷ later)) n (Delete k) (Make k o ∷ later) (rw other refl) refl
      ∙ survives_by (survives n later) n (Make k o) later (rw other refl) refl

  spared : (n o : ℕ) → (k == n) ≡ false → (found : Option Making) → moved t n ≡ n → Made t n found (seen_after (Delete k) (seen_after (Make k o) found))
  spared n o other None is = tt
  spared n o other (Some m) is = (
    refl,
    record {
      enters = refl;
      leaves = refl;
      pops = refl;
      pushes = refl;
      alive = let P : ℕ → Type 0 = λ i. survives i (Delete k ∷ Make k o ∷ m.later) ≡ survives n m.later in subst P (sym is) (outlives n o m.later other);
    },
  )

  low : (n : ℕ) → nat_le k n ≡ false → (k == n) ≡ false
  low n is = grind (arith, nat_tests, is)

  after_high : (n o : ℕ) (e : List Act) → nat_le k n ≡ true → IsMadeBelow k e → making (n + 1) (Delete k ∷ Make k o ∷ e) ≡ None
  after_high n o e high below =
      let other : (k == n + 1) ≡ false = grind (arith, nat_tests, high) in
      rw (other, none_made (n + 1) e below (grind (arith, nat_tests, high))) refl

  moved_high : (n : ℕ) → nat_le k n ≡ true → moved t n ≡ n + 1
  moved_high n high = rw (eq-eqb t t refl, high) refl

  moved_low : (n : ℕ) → nat_le k n ≡ false → moved t n ≡ n
  moved_low n is = rw (eq-eqb t t refl, is) refl

  own_begins : (o : ℕ) (e : List Act) → IsMadeBelow k e → AllMade t e (Delete k ∷ Make k o ∷ e)
  own_begins o e below n = by_test (nat_le k n) refl
    where
      by_test : (b : Bool) → nat_le k n ≡ b → Made t n (making n e) (making (moved t n) (Delete k ∷ Make k o ∷ e))
      by_test true high =
          let P : ℕ → Type 0 = λ i. Made t n (making n e) (making i (Delete k ∷ Make k o ∷ e)) in
          subst P (sym (moved_high n high)) (rw (none_made n e below (grind (arith, nat_tests, high)), after_high n o e high below) tt)
      by_test false is =
          let P : ℕ → Type 0 = λ i. Made t n (making n e) (making i (Delete k ∷ Make k o ∷ e)) in
          subst P (sym (moved_low n is)) (rw (low n is) (spared n o (low n is) (making n e) (moved_low n is)))

  dead_begins : (o : ℕ) (e : List Act) → IsMadeBelow k e → Dead (making k (Delete k ∷ Make k o ∷ e))
  dead_begins o e below = rw (eq-eqb k k refl) (rw (eq-eqb k k refl) refl)

  moved_elsewhere : (u n : ℕ) → (u == t) ≡ false → moved u n ≡ n
  moved_elsewhere u n other = rw other refl

  strong_begins : (e : List globals.Event) → globals_made.IsMadeBelow t k e → (m n : ℕ) → globals.strong e m (moved m n) ≡ globals.strong e m n
  strong_begins e below m n = by_test (m == t) (nat_le k n) refl refl
    where
      none : (i : ℕ) (found : Option ℕ) → globals.strong e t i ≡ found → k ≤ i → found ≡ None
      none i None is high = refl
      none i (Some o) is high = absurd (omega (arith, high, kind_below Global e k t i o below (rw is refl)))

      by_test : (b c : Bool) → (m == t) ≡ b → nat_le k n ≡ c → globals.strong e m (moved m n) ≡ globals.strong e m n
      by_test false c other high = rw other refl
      by_test true false is high = rw (is, high) refl
      by_test true true is high =
          let P : ℕ → Type 0 = λ v. globals.strong e v (n + 1) ≡ globals.strong e v n in
          rw (is, high)
          (subst P (sym (eqb-true m t is))
          (none (n + 1) (globals.strong e t (n + 1)) refl (grind (arith, nat_tests, high))
          ∙ sym (none n (globals.strong e t n) refl (grind (arith, nat_tests, high)))))

  weak_begins : (e : List globals.Event) → globals_made.IsMadeBelow t k e → (m n : ℕ) → globals.weak e m (moved m n) ≡ globals.weak e m n
  weak_begins e below m n = by_test (m == t) (nat_le k n) refl refl
    where
      none : (i : ℕ) (found : Option ℕ) → globals.weak e t i ≡ found → k ≤ i → found ≡ None
      none i None is high = refl
      none i (Some o) is high = absurd (omega (arith, high, weak_below e k t i o below is))

      by_test : (b c : Bool) → (m == t) ≡ b → nat_le k n ≡ c → globals.weak e m (moved m n) ≡ globals.weak e m n
      by_test false c other high = rw other refl
      by_test true false is high = rw (is, high) refl
      by_test true true is high =
          let P : ℕ → Type 0 = λ v. globals.weak e v (n + 1) ≡ globals.weak e v n in
          rw (is, high)
          (subst P (sym (eqb-true m t is))
          (none (n + 1) (globals.weak e t (n + 1)) refl (grind (arith, nat_tests, high))
          ∙ sym (none n (globals.weak e t n) refl (grind (arith, nat_tests, high)))))

  target_begins : (e : List globals.Event) → globals_made.IsMadeBelow t k e → (m n : ℕ) → globals.weak_target e m (moved m n) ≡ globals.weak_target e m n
  target_begins e below m n = by_test (m == t) (nat_le k n) refl refl
    where
      none : (i : ℕ) (found : Option ℕ) → globals.weak e t i ≡ found → k ≤ i → globals.unless_cleared (globals.after_making t i e) found ≡ None
      none i None is high = refl
      none i (Some o) is high = absurd (omega (arith, high, weak_below e k t i o below is))

      by_test : (b c : Bool) → (m == t) ≡ b → nat_le k n ≡ c → globals.weak_target e m (moved m n) ≡ globals.weak_target e m n
      by_test false c other high = rw other refl
      by_test true false is high = rw (is, high) refl
      by_test true true is high =
          let P : ℕ → Type 0 = λ v. globals.weak_target e v (n + 1) ≡ globals.weak_target e v n in
          rw (is, high)
          (subst P (sym (eqb-true m t is))
          (none (n + 1) (globals.weak e t (n + 1)) refl (grind (arith, nat_tests, high))
          ∙ sym (none n (globals.weak e t n) refl (grind (arith, nat_tests, high)))))

  same_frames : (e : List Act) → Framed e e
  same_frames e = record { enters = refl; leaves = refl; pushes = λ d. refl; pops = λ d. refl }

  -- local k of t was handed out for o, and ended
  abbrev brief_parts : ℕ → Parts → Parts
  brief_parts o p = record p {
    threads = threads.by t threads.CountRef ∷ p.threads;
    locals = locals.by t (Delete k) ∷ locals.by t (Make k o) ∷ p.locals;
  }

  own_acts : (o : ℕ) (p : Parts) → locals.acts_of t (brief_parts o p).locals ≡ Delete k ∷ Make k o ∷ locals.acts_of t p.locals
  own_acts o p = rw (eq-eqb t t refl) refl

  other_acts : (u o : ℕ) (p : Parts) → (t == u) ≡ false → locals.acts_of u (brief_parts o p).locals ≡ locals.acts_of u p.locals
  other_acts u o p other = rw other refl

  all_same : (u : ℕ) (e : List Act) → (u == t) ≡ false → AllMade u e e
  all_same u e other n =
      let P : ℕ → Type 0 = λ i. Made u n (making n e) (making i e) in
      subst P (sym (moved_elsewhere u n other)) (made_same u n (moved_elsewhere u n other) (making n e))

  begins_raised : (o : ℕ) (p : Parts) → k ≡ next_ref p t → Below p → GlobalsBelow p → Raised p (brief_parts o p)
  begins_raised o p is below globals_below =
      record {
        elsewhere = λ u other. rw (flip u other) refl;
        own = going;
        made = made;
        dead = subst (λ (e : List Act). Dead (making k e)) (sym (own_acts o p)) (dead_begins o (locals.acts_of t p.locals) own_below);
        framed = framed;
        handed = handed;
        gone = none_strong k (globals.strong p.globals t k) refl (grind (arith, nat_tests));
        lent = λ m n. refl;
        monitors = refl;
        heap = refl;
        links = refl;
      }
    where
      flip : (u : ℕ) → (u == t) ≡ false → (t == u) ≡ false
      flip u other = grind (arith, nat_tests, other)

      own_below : IsMadeBelow k (locals.acts_of t p.locals)
      own_below = let P : ℕ → Type 0 = λ m. IsMadeBelow m (locals.acts_of t p.locals) in subst P (sym is) (below t)

      their_below : globals_made.IsMadeBelow t k p.globals
      their_below = let P : ℕ → Type 0 = λ m. globals_made.IsMadeBelow t m p.globals in subst P (sym is) (globals_below t)

      none_strong : (i : ℕ) (found : Option ℕ) → globals.strong p.globals t i ≡ found → k ≤ i → found ≡ None
      none_strong i None was high = refl
      none_strong i (Some x) was high = absurd (omega (arith, high, kind_below Global p.globals k t i x their_below (rw was refl)))

      going : Going (threads.acts_of t p.threads) (threads.acts_of t (threads.by t threads.CountRef ∷ p.threads))
      going = rw (eq-eqb t t refl) (record {
        attached = refl;
        sessions = refl;
        pending = refl;
        enters = refl;
        leaves = refl;
        refs = refl;
        buffers = refl;
        above = let P : ℕ → Type 0 = λ m. nat_le k m ≡ true in subst P is (grind (arith, nat_tests));
      })

      made : (u : ℕ) → AllMade u (locals.acts_of u p.locals) (locals.acts_of u (brief_parts o p).locals)
      made u = by_test (t == u) refl
        where
          by_test : (b : Bool) → (t == u) ≡ b → AllMade u (locals.acts_of u p.locals) (locals.acts_of u (brief_parts o p).locals)
          by_test true own =
              let P : ℕ → Type 0 = λ v. AllMade v (locals.acts_of v p.locals) (locals.acts_of v (brief_parts o p).locals) in
              let Q : List Act → Type 0 = λ e. AllMade t (locals.acts_of t p.locals) e in
              subst P (eqb-true t u own) (subst Q (sym (own_acts o p)) (own_begins o (locals.acts_of t p.locals) own_below))
          by_test false other =
              let Q : List Act → Type 0 = λ e. AllMade u (locals.acts_of u p.locals) e in
              subst Q (sym (other_acts u o p other)) (all_same u (locals.acts_of u p.locals) (grind (arith, nat_tests, other)))

      framed : (u : ℕ) → Framed (locals.acts_of u p.locals) (locals.acts_of u (brief_parts o p).locals)
      framed u = by_test (t == u) refl
        where
          by_test : (b : Bool) → (t == u) ≡ b → Framed (locals.acts_of u p.locals) (locals.acts_of u (brief_parts o p).locals)
          by_test true own = rw own (record { enters = refl; leaves = refl; pushes = λ d. refl; pops = λ d. refl })
          by_test false other = rw other (same_frames (locals.acts_of u p.locals))

      handed : Handed p.globals p.globals
      handed = record {
        strong = strong_begins p.globals their_below;
        weak = weak_begins p.globals their_below;
        target = target_begins p.globals their_below;
      }

  -- ---- what references name

  record Attends (p q : Parts) (v : ℕ) : Type 0 where
    pub session : threads.session (threads.acts_of v q.threads) ≡ threads.session (threads.acts_of v p.threads)
    pub pending : threads.pending (threads.acts_of v q.threads) ≡ threads.pending (threads.acts_of v p.threads)
    pub depth : threads.depth (threads.acts_of v q.threads) ≡ threads.depth (threads.acts_of v p.threads)
    pub attached : threads.attached (threads.acts_of v q.threads) ≡ threads.attached (threads.acts_of v p.threads)

  attends : (u : ℕ) (p q : Parts) → Raised p q → Attends p q u
  attends u p q same = by_test (u == t) refl
    where
      by_test : (b : Bool) → (u == t) ≡ b → Attends p q u
      by_test true is = subst (Attends p q) (sym (eqb-true u t is)) (record {
        session = rw (same.own.attached, same.own.sessions) refl;
        pending = same.own.pending;
        depth = rw (same.own.enters, same.own.leaves) refl;
        attached = same.own.attached;
      })
      by_test false other =
          let is = same.elsewhere u other in
          record { session = ap threads.session is; pending = ap threads.pending is; depth = ap threads.depth is; attached = ap threads.attached is }

  names_raised : (u : ℕ) (r : Ref) (p q : Parts) → Raised p q → names q u (raised t k r) ≡ names p u r
  names_raised u Null p q same = refl
  names_raised u (To Local maker n) p q same = by_test (maker.0 == u) refl
    where
      by_test : (b : Bool) → (maker.0 == u) ≡ b
          → (if b then named_by (live (moved maker.0 n) (locals.acts_of u q.locals)) else Nothing) ≡ (if b then named_by (live n (locals.acts_of u p.locals)) else Nothing)
      by_test false other = refl
      by_test true is =
          let P : ℕ → Type 0 = λ v. live (moved v n) (locals.acts_of u q.locals) ≡ live n (locals.acts_of u p.locals) in
          ap named_by (subst P (sym (eqb-true maker.0 u is)) (live_moved u n (locals.acts_of u p.locals) (locals.acts_of u q.locals) (same.made u)))
  names_raised u (To Global maker n) p q same = rw (same.handed.strong maker.0 n) refl
  names_raised u (To Weak maker n) p q same = rw (same.handed.target maker.0 n) refl

  -- ---- each rule

  judged_raised : (takes : Takes) (x : Argument) → judged_of takes (raised_operand t k x) ≡ record (judged_of takes x) { reference = raised t k (judged_of takes x).reference }
  judged_raised (TakesReference kind) (Reference r) = refl
  judged_raised (TakesReference kind) x = refl
  judged_raised Nullable (Reference r) = refl
  judged_raised Nullable x = refl
  judged_raised Arguments (Reference r) = refl
  judged_raised Arguments x = refl
  judged_raised takes x = refl

  foreign_raised : (u : ℕ) (r : Ref) → is_foreign u (raised t k r) ≡ is_foreign u r
  foreign_raised u Null = refl
  foreign_raised u (To Local maker n) = refl
  foreign_raised u (To Global maker n) = refl
  foreign_raised u (To Weak maker n) = refl

  not_raised : (kind : Kind) (r : Ref) → is_not kind (raised t k r) ≡ is_not kind r
  not_raised Local Null = refl
  not_raised Global Null = refl
  not_raised Weak Null = refl
  not_raised Local (To Local maker n) = refl
  not_raised Local (To Global maker n) = refl
  not_raised Local (To Weak maker n) = refl
  not_raised Global (To Local maker n) = refl
  not_raised Global (To Global maker n) = refl
  not_raised Global (To Weak maker n) = refl
  not_raised Weak (To Local maker n) = refl
  not_raised Weak (To Global maker n) = refl
  not_raised Weak (To Weak maker n) = refl

  first_raised : (xs : List Argument) → first_reference (map (raised_operand t k) xs) ≡ raised t k (first_reference xs)
  first_raised [] = refl
  first_raised (Reference r ∷ xs) = refl
  first_raised (x ∷ xs) = first_raised xs

  first_buffer_raised : (xs : List Argument) → first_buffer (map (raised_operand t k) xs) ≡ first_buffer xs
  first_buffer_raised [] = refl
  first_buffer_raised (Reference r ∷ xs) = first_buffer_raised xs
  first_buffer_raised (Buffer b ∷ xs) = refl
  first_buffer_raised (x ∷ xs) = first_buffer_raised xs

  abbrev bare_info : Info → Info
  bare_info info = record info { via = Null }

  info_of_bare : (x y : Option buffers.Buffer) → option_map bare y ≡ option_map bare x
      → option_map bare_info (option_map buffers.info_of y) ≡ option_map bare_info (option_map buffers.info_of x)
  info_of_bare None None same = refl
  info_of_bare None (Some c) same = absurd cc
  info_of_bare (Some b) None same = absurd cc
  info_of_bare (Some b) (Some c) same = ap (λ (x : buffers.Buffer). Some (bare_info (buffers.info_of x))) (same_Some (bare c) (bare b) same)

  info_raised : (b : BufId) (p q : Parts) → Raised p q → option_map bare_info (buffer_named q b) ≡ option_map bare_info (buffer_named p b)
  info_raised b p q same = info_of_bare (buffers.opened p.buffers b.maker.0 b.n) (buffers.opened q.buffers b.maker.0 b.n) (same.lent b.maker.0 b.n)

  -- a test that doesn't ask for the reference
  test_raised : {X : Type 0} (f : Option Info → X) → ((i : Option Info) → f (option_map bare_info i) ≡ f i) → (x y : Option Info)
      → option_map bare_info y ≡ option_map bare_info x → f y ≡ f x
  test_raised f bare x y same = sym (bare y) ∙ (ap f same ∙ bare x)

  module _ (bounds : Bounds) (s : StatedSetup) (p q : Parts) (same : Raised p q) where
    kind_raised : (kind : ObjectKind) (named : Named) → is_wrong_kind s q kind named ≡ is_wrong_kind s p kind named
    kind_raised kind Nothing = refl
    kind_raised kind NamesNull = refl
    kind_raised kind (Object o) = rw (kind_same s p q kind o.0 (rw same.heap refl)) refl

    module _ (u : ℕ) where
      named : (takes : Takes) (x : Argument) → names q u (judged_of takes (raised_operand t k x)).reference ≡ names p u (judged_of takes x).reference
      named takes x = rw (judged_raised takes x) (names_raised u (judged_of takes x).reference p q same)

      -- what a rule asks of each operand
      any_raised : (old new : Takes → Argument → Bool) → ((takes : Takes) (x : Argument) → new takes (raised_operand t k x) ≡ old takes x)
          → (takes : List Takes) (xs : List Argument)
          → list_any (λ y. new y.0 y.1) (paired takes (map (raised_operand t k) xs)) ≡ list_any (λ y. old y.0 y.1) (paired takes xs)
      any_raised old new each takes [] = refl
      any_raised old new each [] (x ∷ xs) = refl
      any_raised old new each (take ∷ takes) (x ∷ xs) = rw (each take x, any_raised old new each (if is_last take then take ∷ takes else takes) xs) refl

      -- the same by what is judged of it
      judged_any : (test : Judged → Bool) (pairs : List (Takes × Argument)) → list_any test (map (λ y. judged_of y.0 y.1) pairs) ≡ list_any (λ y. test (judged_of y.0 y.1)) pairs
      judged_any test [] = refl
      judged_any test (y ∷ pairs) = rw (judged_any test pairs) refl

      each_raised : (old new : Judged → Bool)
          → ((takes : Takes) (x : Argument) → new (judged_of takes (raised_operand t k x)) ≡ old (judged_of takes x))
          → (takes : List Takes) (xs : List Argument) → list_any new (judged takes (map (raised_operand t k) xs)) ≡ list_any old (judged takes xs)
      each_raised old new each takes xs =
          judged_any new (paired takes (map (raised_operand t k) xs))
          ∙ (any_raised (λ take x. old (judged_of take x)) (λ take x. new (judged_of take x)) each takes xs ∙ sym (judged_any old (paired takes xs)))

      foreign_each : (takes : Takes) (x : Argument) → is_foreign u (judged_of takes (raised_operand t k x)).reference ≡ is_foreign u (judged_of takes x).reference
      foreign_each takes x = rw (judged_raised takes x) (foreign_raised u (judged_of takes x).reference)

      dead_each : (takes : Takes) (x : Argument) → is_nothing (names q u (judged_of takes (raised_operand t k x)).reference) ≡ is_nothing (names p u (judged_of takes x).reference)
      dead_each takes x = ap is_nothing (named takes x)

      null_each : (takes : Takes) (x : Argument)
          → (not (judged_of takes (raised_operand t k x)).nullable && is_null (names q u (judged_of takes (raised_operand t k x)).reference))
          ≡ (not (judged_of takes x).nullable && is_null (names p u (judged_of takes x).reference))
      null_each takes x = rw (named takes x, ap (λ (j : Judged). j.nullable) (judged_raised takes x)) refl

      kind_each : (takes : Takes) (x : Argument)
          → is_wrong_kind s q (judged_of takes (raised_operand t k x)).kind (names q u (judged_of takes (raised_operand t k x)).reference)
          ≡ is_wrong_kind s p (judged_of takes x).kind (names p u (judged_of takes x).reference)
      kind_each takes x =
          rw (named takes x, ap (λ (j : Judged). j.kind) (judged_raised takes x)) (kind_raised (judged_of takes x).kind (names p u (judged_of takes x).reference))

      unfit_each : (takes : Takes) (x : Argument) → is_unfit (raised_operand t k x) ≡ is_unfit x
      unfit_each takes (Reference r) = refl
      unfit_each takes x = refl

      released_open : (family : Family) (o : Option ℕ) (i : Option Info)
          → is_open_and (λ x. is_of_family family x && (is_of_object o x && not (is_anothers u x))) (option_map bare_info i)
          ≡ is_open_and (λ x. is_of_family family x && (is_of_object o x && not (is_anothers u x))) i
      released_open family None None = refl
      released_open family None (Some info) = refl
      released_open family (Some o) None = refl
      released_open family (Some o) (Some info) = refl

      own_open : (i : Option Info) → is_open_and (λ x. not (is_anothers u x)) (option_map bare_info i) ≡ is_open_and (λ x. not (is_anothers u x)) i
      own_open None = refl
      own_open (Some info) = refl

      array_open : (i : Option Info) → is_open_and (λ x. is_of_array x.family && not (is_anothers u x)) (option_map bare_info i)
          ≡ is_open_and (λ x. is_of_array x.family && not (is_anothers u x)) i
      array_open None = refl
      array_open (Some info) = refl

      refused_raised : (r : Ref) (takes : Takes) (b : BufId) → is_refused_buffer q u (raised t k r) takes b ≡ is_refused_buffer p u r takes b
      refused_raised r (TakesBuffer family) b =
          rw (names_raised u r p q same)
          (ap not (test_raised (is_open_and (λ x. is_of_family family x && (is_of_object (object_named p u r) x && not (is_anothers u x))))
          (released_open family (object_named p u r)) (buffer_named p b) (buffer_named q b) (info_raised b p q same)))
      refused_raised r Readable b =
          ap not (test_raised (is_open_and (λ x. not (is_anothers u x))) own_open (buffer_named p b) (buffer_named q b) (info_raised b p q same))
      refused_raised r Writable b =
          ap not (test_raised (is_open_and (λ x. is_of_array x.family && not (is_anothers u x))) array_open (buffer_named p b) (buffer_named q b)
          (info_raised b p q same))
      refused_raised r takes b = refl

      buffer_each : (r : Ref) (takes : Takes) (x : Argument) → is_wrong_buffer q u (raised t k r) takes (raised_operand t k x) ≡ is_wrong_buffer p u r takes x
      buffer_each r takes (Reference a) = refl
      buffer_each r takes (Buffer b) = refused_raised r takes b
      buffer_each r takes x = refl

      meant_raised : (b : Option BufId) → option_map bare_info (buffer_meant q b) ≡ option_map bare_info (buffer_meant p b)
      meant_raised None = refl
      meant_raised (Some b) = info_raised b p q same

      item_bare : (v : ℤ) (info : Info) (family : Family)
          → not (is_value_of_type (item_type s p (bare_info info) family) v) ≡ not (is_value_of_type (item_type s p info family) v)
      item_bare v info (Elements (Of element)) = refl
      item_bare v info (Elements Float) = refl
      item_bare v info (Elements Double) = refl
      item_bare v info Chars = refl
      item_bare v info UtfChars = refl
      item_bare v info ArrayCritical = refl
      item_bare v info StringCritical = refl

      bounds_bare : (takes : Takes) (x : Argument) (i : Option Info)
          → is_out_of_bounds bounds s p (option_map bare_info i) takes x ≡ is_out_of_bounds bounds s p i takes x
      bounds_bare takes x None = refl
      bounds_bare Item (ValueOf v) (Some info) = item_bare v info info.family
      bounds_bare (Value item) (ValueOf v) (Some info) = refl
      bounds_bare takes (ValueOf v) (Some info) = refl
      bounds_bare Place (Number n) (Some info) = refl
      bounds_bare takes (Number n) (Some info) = refl
      bounds_bare takes (ListOf count fits) (Some info) = refl
      bounds_bare takes (Class class) (Some info) = refl
      bounds_bare takes x (Some info) = refl

      bounds_both : (b : Option BufId) (takes : Takes) (x : Argument)
          → is_out_of_bounds bounds s q (buffer_meant q b) takes x ≡ is_out_of_bounds bounds s p (buffer_meant p b) takes x
      bounds_both b takes x =
          bounds_alike bounds s p q (buffer_meant q b) takes x same.heap
          ∙ test_raised (λ i. is_out_of_bounds bounds s p i takes x) (bounds_bare takes x) (buffer_meant p b) (buffer_meant q b) (meant_raised b)

      bounds_each : (b : Option BufId) (takes : Takes) (x : Argument)
          → is_out_of_bounds bounds s q (buffer_meant q b) takes (raised_operand t k x) ≡ is_out_of_bounds bounds s p (buffer_meant p b) takes x
      bounds_each b takes (Reference r) = refl
      bounds_each b takes (Buffer c) = bounds_both b takes (Buffer c)
      bounds_each b takes x = bounds_both b takes x

      detached_raised : (env : Option EnvId) (row : Columns) → detached q u env row ≡ detached p u env row
      detached_raised None row = refl
      detached_raised (Some env) row = rw (attends u p q same).session refl

      frame_raised : (effect : Effect) → bad_frame q u effect ≡ bad_frame p u effect
      frame_raised Detaches = rw (attends u p q same).depth refl
      frame_raised Leaves = rw (attends u p q same).depth refl
      frame_raised Pops = rw (frames_same (locals.acts_of u p.locals) (locals.acts_of u q.locals) (same.framed u)) refl
      frame_raised effect = refl

      wrong_raised : (effect : Effect) (r : Ref) → wrong_kind effect (raised t k r) ≡ wrong_kind effect r
      wrong_raised (Ends kind) r = not_raised kind r
      wrong_raised effect r = refl

      pinned_raised : (effect : Effect) (r : Ref) → asks_pins effect ≡ false → pinned q effect (raised t k r) ≡ pinned p effect r
      pinned_raised (Ends Local) r is = refl
      pinned_raised (Ends Global) r is = absurd cc
      pinned_raised (Ends Weak) r is = absurd cc
      pinned_raised effect r is = refl

      owner_raised : (effect : Effect) (r : Ref) → not_owner q u effect (raised t k r) ≡ not_owner p u effect r
      owner_raised Frees r = rw (names_raised u r p q same) (owned_same p q u (object_named p u r) same.monitors)
      owner_raised effect r = refl

      class_raised : (xs : List Argument) → class_by_name s (map (raised_operand t k) xs) ≡ class_by_name s xs
      class_raised [] = refl
      class_raised (Reference r ∷ xs) = refl
      class_raised (x ∷ xs) = refl

      native_raised : (xs : List Argument) → native_by_name (map (raised_operand t k) xs) ≡ native_by_name xs
      native_raised [] = refl
      native_raised (x ∷ []) = refl
      native_raised (x ∷ Reference r ∷ xs) = refl
      native_raised (x ∷ y ∷ xs) = refl

      access_raised : (effect : Effect) (r : Ref) (xs : List Argument)
          → no_access s q u effect (raised t k r) (map (raised_operand t k) xs) ≡ no_access s p u effect r xs
      access_raised Enters r xs = rw (class_raised xs) refl
      access_raised Loads r xs = rw (class_raised xs) refl
      access_raised Links r xs = rw (names_raised u r p q same) refl
      access_raised effect r xs = refl

      linked_by : (class native : Option ℕ) → not (is_linked q class native) ≡ not (is_linked p class native)
      linked_by None native = refl
      linked_by (Some class) None = refl
      linked_by (Some class) (Some native) = rw same.links refl

      linked_raised : (effect : Effect) (xs : List Argument) → not_linked s q effect (map (raised_operand t k) xs) ≡ not_linked s p effect xs
      linked_raised Enters xs = rw (class_raised xs, native_raised xs) (linked_by (class_by_name s xs) (native_by_name xs))
      linked_raised effect xs = refl

      module _ (env : Option EnvId) (row : Columns) (xs : List Argument) (unpinned : asks_pins row.effect ≡ false) where
        rule_raised : (rule : Rule) → broken rule bounds s q u env row (map (raised_operand t k) xs) ≡ broken rule bounds s p u env row xs
        rule_raised WrongThread = refl
        rule_raised Detached = detached_raised env row
        rule_raised InCritical = rw (critical_same u p.buffers q.buffers same.lent) refl
        rule_raised Pending = rw (attends u p q same).pending refl
        rule_raised ForeignLocal = each_raised (λ j. is_foreign u j.reference) (λ j. is_foreign u j.reference) foreign_each row.takes xs
        rule_raised DeadReference = each_raised (λ j. is_nothing (names p u j.reference)) (λ j. is_nothing (names q u j.reference)) dead_each row.takes xs
        rule_raised WrongRefKind = rw (first_raised xs) (wrong_raised row.effect (first_reference xs))
        rule_raised NullReference =
            each_raised (λ j. not j.nullable && is_null (names p u j.reference)) (λ j. not j.nullable && is_null (names q u j.reference)) null_each row.takes xs
        rule_raised WrongType =
            each_raised (λ j. is_wrong_kind s p j.kind (names p u j.reference)) (λ j. is_wrong_kind s q j.kind (names q u j.reference)) kind_each row.takes xs
        rule_raised BadField = any_raised (λ take x. is_unfit x) (λ take x. is_unfit x) unfit_each row.takes xs
        rule_raised BadBuffer =
            rw (first_raised xs)
            (any_raised (is_wrong_buffer p u (first_reference xs)) (is_wrong_buffer q u (raised t k (first_reference xs))) (buffer_each (first_reference xs)) row.takes xs)
        rule_raised BadArgument =
            rw (first_buffer_raised xs)
            (any_raised (is_out_of_bounds bounds s p (buffer_meant p (first_buffer xs))) (is_out_of_bounds bounds s q (buffer_meant q (first_buffer xs)))
            (bounds_each (first_buffer xs)) row.takes xs)
        rule_raised Pinned = rw (first_raised xs) (pinned_raised row.effect (first_reference xs) unpinned)
        rule_raised NotOwner = rw (first_raised xs) (owner_raised row.effect (first_reference xs))
        rule_raised BadFrame = frame_raised row.effect
        rule_raised NoNativeAccess = rw (first_raised xs) (access_raised row.effect (first_reference xs) xs)
        rule_raised NotLinked = linked_raised row.effect xs

        verdict_raised : (rules : List Rule) → find (λ rule. broken rule bounds s q u env row (map (raised_operand t k) xs)) rules
            ≡ find (λ rule. broken rule bounds s p u env row xs) rules
        verdict_raised [] = refl
        verdict_raised (rule ∷ rules) = rw (rule_raised rule, verdict_raised rules) refl

  -- ---- what can be told

  dead_own : (p q : Parts) → Raised p q → live k (locals.acts_of t q.locals) ≡ None
  dead_own p q same = dead_names (making k (locals.acts_of t q.locals)) same.dead

  lowered_live : (u m o : ℕ) (p q : Parts) (b : Bool) → ((u == t) && (m == k)) ≡ b → Raised p q → live m (locals.acts_of u q.locals) ≡ Some o
      → live (lowered_number u m) (locals.acts_of u p.locals) ≡ Some o
  lowered_live u m o p q false apart same is =
      sym (live_moved u (lowered_number u m) (locals.acts_of u p.locals) (locals.acts_of u q.locals) (same.made u))
      ∙ (ap (λ (i : ℕ). live i (locals.acts_of u q.locals)) (moved_back u m apart) ∙ is)
  lowered_live u m o p q true own same is =
      let whose : t ≡ u = eqb-true t u (grind (arith, nat_tests, own)) in
      let which : k ≡ m = eqb-true k m (grind (arith, nat_tests, own)) in
      let P : ℕ → Type 0 = λ v. live k (locals.acts_of v q.locals) ≡ None in
      let Q : ℕ → Type 0 = λ i. live i (locals.acts_of u q.locals) ≡ None in
      absurd (not_ended m o (locals.acts_of u q.locals) (subst Q which (subst P whose (dead_own p q same))) is)

  not_both : (found : Option ℕ) (x : ℕ) → found ≡ None → found ≡ Some x → ⊥
  not_both found x none some = cc

  lowered_strong : (u m o : ℕ) (p q : Parts) (b : Bool) → ((u == t) && (m == k)) ≡ b → Raised p q → globals.strong q.globals u m ≡ Some o
      → globals.strong p.globals u (lowered_number u m) ≡ Some o
  lowered_strong u m o p q false apart same is =
      sym (same.handed.strong u (lowered_number u m)) ∙ (ap (λ (i : ℕ). globals.strong q.globals u i) (moved_back u m apart) ∙ is)
  lowered_strong u m o p q true own same is =
      let whose : t ≡ u = eqb-true t u (grind (arith, nat_tests, own)) in
      let which : k ≡ m = eqb-true k m (grind (arith, nat_tests, own)) in
      let P : ℕ → Type 0 = λ v. globals.strong q.globals v k ≡ None in
      let Q : ℕ → Type 0 = λ i. globals.strong q.globals u i ≡ None in
      absurd (not_both (globals.strong q.globals u m) o (subst Q which (subst P whose same.gone)) is)

  module _ (s : StatedSetup) (p q : Parts) (same : Raised p q) where
    locals_hold : (o : ℕ) → locals.holds_object q.locals o ≡ locals.holds_object p.locals o
    locals_hold o =
        both_ways _ _
        (λ is. let there = (held_law q.locals o).0 is in
        (held_law p.locals o).1 (
          there.0,
          lowered_number there.0 there.1,
          lowered_live there.0 there.1 o p q ((there.0 == t) && (there.1 == k)) refl same there.2,
        ))
        (λ is. let there = (held_law p.locals o).0 is in
        (held_law q.locals o).1 (
          there.0,
          moved there.0 there.1,
          live_moved there.0 there.1 (locals.acts_of there.0 p.locals) (locals.acts_of there.0 q.locals) (same.made there.0) ∙ there.2,
        ))

    globals_hold : (o : ℕ) → globals.holds_object q.globals o ≡ globals.holds_object p.globals o
    globals_hold o =
        both_ways _ _
        (λ is. let there = (holds_law q.globals o).0 is in
        (holds_law p.globals o).1 (
          there.0,
          lowered_number there.0 there.1,
          lowered_strong there.0 there.1 o p q ((there.0 == t) && (there.1 == k)) refl same there.2,
        ))
        (λ is. let there = (holds_law p.globals o).0 is in
        (holds_law q.globals o).1 (there.0, moved there.0 there.1, same.handed.strong there.0 there.1 ∙ there.2))

    threads_hold : (o : ℕ) → threads.is_pending q.threads o ≡ threads.is_pending p.threads o
    threads_hold o =
        both_ways _ _
        (λ is. let there = (is_pending_law q.threads o).0 is in
        (is_pending_law p.threads o).1 (there.0, sym (attends there.0 p q same).pending ∙ there.1))
        (λ is. let there = (is_pending_law p.threads o).0 is in
        (is_pending_law q.threads o).1 (there.0, (attends there.0 p q same).pending ∙ there.1))

    root_raised : (o : ℕ) → is_root q o ≡ is_root p o
    root_raised o = rw (locals_hold o, globals_hold o, threads_hold o, pins_same o p.buffers q.buffers same.lent, same.monitors) refl

    kept_here : (kept : Option ObjId) → is_kept_here s q kept ≡ is_kept_here s p kept
    kept_here None = refl
    kept_here (Some o) = rw same.heap refl

    being_raised : (r : Ref) → is_in_being q (raised t k r) ≡ is_in_being p r
    being_raised Null = refl
    being_raised (To kind maker n) = ap (λ named. not (is_nothing named)) (names_raised maker.0 (To kind maker n) p q same)

    null_raised : (r : Ref) → buffers.is_null (raised t k r) ≡ buffers.is_null r
    null_raised Null = refl
    null_raised (To kind maker n) = refl

    open_bare : (i : Option Info) → is_some (option_map bare_info i) ≡ is_some i
    open_bare None = refl
    open_bare (Some info) = refl

    so_raised : (check : Check) → is_so s q (raised_check t k check) ≡ is_so s p check
    so_raised (checked.Local u n object) =
        rw ((attends u.0 p q same).attached, live_moved u.0 n (locals.acts_of u.0 p.locals) (locals.acts_of u.0 q.locals) (same.made u.0)) refl
    so_raised (checked.Pending u object) = rw ((attends u.0 p q same).attached, (attends u.0 p q same).pending) refl
    so_raised (checked.Length o n) = rw same.heap refl

    can_raised : (x : Fact) → can_be s q (raised_fact t k x) ≡ can_be s p x
    can_raised (Begin u) = rw (attends u.0 p q same).attached refl
    can_raised (facts.End u) = (attends u.0 p q same).attached
    can_raised (facts.Enter u) = (attends u.0 p q same).attached
    can_raised (facts.Leave u kept) = rw ((attends u.0 p q same).attached, (attends u.0 p q same).depth, kept_here kept) refl
    can_raised (facts.Push u room) = (attends u.0 p q same).attached
    can_raised (facts.Pop u kept) =
        rw ((attends u.0 p q same).attached, frames_same (locals.acts_of u.0 p.locals) (locals.acts_of u.0 q.locals) (same.framed u.0), kept_here kept) refl
    can_raised (facts.Ensure u room) = (attends u.0 p q same).attached
    can_raised (Raise u o) = rw ((attends u.0 p q same).attached, same.heap) refl
    can_raised (Calm u) = (attends u.0 p q same).attached
    can_raised (Hand u kind o) = rw ((attends u.0 p q same).attached, same.heap) refl
    can_raised (Lost r) = being_raised r
    can_raised (Lend u family o via n) = rw ((attends u.0 p q same).attached, same.heap, null_raised via) refl
    can_raised (Back b) = test_raised is_some open_bare (buffer_named p b) (buffer_named q b) (info_raised b p q same)
    can_raised (Own u o) = rw ((attends u.0 p q same).attached, same.heap, same.monitors) refl
    can_raised (Free u o) = rw same.monitors refl
    can_raised (Meet class n) = refl
    can_raised (Gone o) = rw (same.heap, root_raised o.0) refl
    can_raised (Link class native) = refl
    can_raised (Unlink class) = refl
    can_raised (Warn home) = refl
    can_raised (Checked check) = so_raised check

  all_told : (s : StatedSetup) (later w v : List Fact) → Raised (parts_of w) (parts_of v) → History s (later ++ w) → History s v
      → History s (map (raised_fact t k) later ++ v)
  all_told s [] w v same could begun = begun
  all_told s (x ∷ later) w v same could begun = (
    can_raised s (parts_of (later ++ w)) (parts_of (map (raised_fact t k) later ++ v)) (later_raised later w v same) x ∙ could.0,
    all_told s later w v same could.1 begun,
  )

begins : (s : StatedSetup) (t : Tid) (o : ObjId) (w : List Fact) → History s w → Raised t.0 (next_ref (parts_of w) t.0) (parts_of w) (parts_of (briefly t o w))
begins s t o w could =
    begins_raised t.0 (next_ref (parts_of w) t.0) o.0 (parts_of w) refl (each_told _ s (keeps_below s) (λ u. tt) w could)
    (each_told _ s (keeps_globals_below s) (λ u. tt) w could)

pub brief_is_forgotten : BriefIsForgotten
brief_is_forgotten bounds s t o later w u env row xs could unpinned =
    let k : ℕ = next_ref (parts_of w) t.0 in
    verdict_raised t.0 k bounds s (parts_of (later ++ w)) (parts_of (map (raised_fact t.0 k) later ++ briefly t o w))
    (later_raised t.0 k later w (briefly t o w) (begins s t o w could)) u env row xs unpinned rules_in_order

history_before : (s : StatedSetup) (later w : List Fact) → History s (later ++ w) → History s w
history_before s [] w could = could
history_before s (x ∷ later) w could = history_before s later w could.1

pub brief_is_outlived : BriefIsOutlived
brief_is_outlived s t o later w could handed =
    let before = history_before s later w could in
    all_told t.0 (next_ref (parts_of w) t.0) s later w (briefly t o w) (begins s t o w before) could (brief_can_be s t o w (handed, before))
