-- A question is answered by the facts that concern its thread, and those who were handed its references.
use Rattle.std.proofs.Common.{ℕ, ◌≡◌, Bool, true, false, List, [], ◌∷◌, Option, Some, None, refl, ap, sym, ◌∙◌, subst, arith, eqb-true, if◌then◌else◌}
use Rattle.std.specs.Prelude.{◌==◌, ◌+◌, not, find, slice_get}
use Rattle.std.specs.List.{list_any, AllByRecursion}
use Rattle.std.specs.Cmp.{both_ways}
use Rattle.std.proofs.lemmas.Bool.Decides.{nat_tests}
use Rattle.std.proofs.lemmas.Option.{same_Some}
use Rattle.jg_words.specs.declared.thread.Tid.{Tid}
use Rattle.jg_words.specs.declared.thread.EnvId.{EnvId}
use Rattle.jg_words.specs.declared.object.ObjId.{ObjId}
use Rattle.jg_words.specs.declared.reference.Ref.{Ref}
use Rattle.jg_words.specs.declared.reference.Ref.TheVariants.{Null, To}
use Rattle.jg_words.specs.declared.reference.Kind.{Kind}
use Rattle.jg_words.specs.declared.reference.Kind.TheVariants.{Local, Global, Weak}
use Rattle.jg_words.specs.declared.rule.Rule.{Rule}
use Rattle.jg_words.specs.declared.rule.Rule.TheVariants.{WrongThread, Detached, InCritical, Pending, ForeignLocal, DeadReference, WrongRefKind, NullReference, WrongType, BadField, BadBuffer, BadArgument, Pinned, NotOwner, BadFrame, NoNativeAccess, NotLinked}
use Rattle.jg_words.proofs.Common.{clash}
use Rattle.jg_policy.specs.Stated.{StatedSetup}
use Rattle.jg_lists.specs.Acts as acts
use Rattle.jg_table_threads.specs.History as threads
use Rattle.jg_table_locals.specs.History as locals
use Rattle.jg_table_globals.specs.History as globals
use Rattle.jg_table_buffers.specs.History as buffers
use Rattle.jg_table_buffers.specs.declared.family.Family.{Family}
use Rattle.jg_table_buffers.proofs.Callers.{critical_law, still_lent}
use Rattle.jg_rows.specs.declared.row.Effect.{Effect}
use Rattle.jg_rows.specs.declared.row.Effect.TheVariants.{Ends, Frees, Pops, Detaches, Enters, Leaves, Links, Lends, Raises, Owns, Attaches, Unlinks}
use Rattle.jg_rows.specs.declared.row.ObjectKind.{ObjectKind}
use Rattle.jg_rows.specs.declared.row.Takes.{Takes}
use Rattle.jg_rows.specs.Columns.{Columns}
use Rattle.jg_rows.specs.Table.{functions}
use Rattle.jg_rules.specs.declared.named.Named.{Named}
use Rattle.jg_rules.specs.declared.named.Named.TheVariants.{Nothing, Null as NamesNull, Object}
use Rattle.jg_rules.specs.Parts.{Parts}
use Rattle.jg_rules.specs.Names.{names, next_ref, next_buffer}
use Rattle.jg_rules.specs.Rules.{rules_in_order, is_linked}
use Rattle.jg_judge.specs.declared.argument.Argument.{Argument}
use Rattle.jg_judge.specs.declared.argument.Argument.TheVariants.{Reference}
use Rattle.jg_judge.specs.declared.argument.Bounds.{Bounds}
use Rattle.jg_judge.specs.Asked.{Judged, judged, judged_of, paired, is_last, first_reference, first_buffer}
use Rattle.jg_judge.specs.Culprit.{culprit}
use Rattle.jg_judge.specs.Faults.{Beside, faults_of, first_that}
use Rattle.jg_judge.specs.Broken.{broken, verdict, buffer_meant, detached, is_wrong_kind, bad_argument, is_out_of_bounds, pinned, not_owner, bad_frame, no_access, not_linked, class_by_name, native_by_name}
use Rattle.jg_core.specs.declared.fact.Fact.{Fact}
use Rattle.jg_core.specs.declared.fact.Fact.TheVariants.{Begin, End, Enter, Leave, Push, Pop, Ensure, Raise, Calm, Hand, Lost, Lend, Back, Own, Free, Meet, Gone, Link, Unlink, Warn, Checked}
use Rattle.jg_core.specs.Asking.{asked, by_row, by_verdict}
use Rattle.jg_core.specs.Denied.{doer}
use Rattle.jg_core.specs.Expected.{expected_of}
use Rattle.jg_core.specs.Facts.{on, parts_of, handed_on, kept_on, lost_on, lent}
use Rattle.jg_core_laws.specs.Laws.{references, is_buffer}
use Rattle.jg_core_laws.specs.Apart.{is_theirs, concerns, concerning, is_apart, is_of, is_apart_row, AnsweredApart}
use Rattle.jg_core_laws.proofs.Classes.{kind_same}
use Rattle.jg_core_laws.proofs.Meanings.{weak_more}
use Rattle.jg_core_laws.proofs.Judged.{or_parts, each_judged, first_of, operand, no_buffer, buffer_right, buffers_right, bounds_same, all_bounds_same}

-- ---- what any two tables have alike

cleared_both : (q : ℕ) (old new : List globals.Event) (found : Option ℕ) → globals.unless_cleared old found ≡ globals.unless_cleared new found
    → globals.unless_cleared (globals.Clear q ∷ old) found ≡ globals.unless_cleared (globals.Clear q ∷ new) found
cleared_both q old new None same = refl
cleared_both q old new (Some o) same = by_test (q == o) refl
  where
    by_test : (b : Bool) → (q == o) ≡ b → globals.unless_cleared (globals.Clear q ∷ old) (Some o) ≡ globals.unless_cleared (globals.Clear q ∷ new) (Some o)
    by_test true is = rw is refl
    by_test false is = rw is same

-- an object that is gone clears alike what was alike
pub cleared_alike : (q : ℕ) (old new : List globals.Event) (was now : Option ℕ) → was ≡ now → globals.unless_cleared old was ≡ globals.unless_cleared new now
    → globals.unless_cleared (globals.Clear q ∷ old) was ≡ globals.unless_cleared (globals.Clear q ∷ new) now
cleared_alike q old new was now alike still =
    rw alike (cleared_both q old new now (subst (λ (found : Option ℕ). globals.unless_cleared old found ≡ globals.unless_cleared new now) alike still))

-- ---- what the tables have of those threads

module _ (those : ℕ → Bool) where
  -- the threads did the same
  abbrev Acted : {Act : Type 0} → List (acts.Event Act) → List (acts.Event Act) → Type 0
  Acted old new = (m : ℕ) → those m ≡ true → acts.acts_of m old ≡ acts.acts_of m new

  acted_both : {Act : Type 0} (u : ℕ) (a : Act) (old new : List (acts.Event Act)) → Acted old new → Acted (acts.by u a ∷ old) (acts.by u a ∷ new)
  acted_both u a old new same m is = rw (same m is) refl

  -- who isn't one of them is another
  other : (u m : ℕ) → those u ≡ false → those m ≡ true → (u == m) ≡ false
  other u m off on = by_test (u == m) refl
    where
      by_test : (b : Bool) → (u == m) ≡ b → b ≡ false
      by_test false is = refl
      by_test true is = absurd (clash (those m) on (subst (λ (k : ℕ). those k ≡ false) (eqb-true u m is) off))

  acted_one : {Act : Type 0} (u : ℕ) (a : Act) (old new : List (acts.Event Act)) → those u ≡ false → Acted old new → Acted (acts.by u a ∷ old) new
  acted_one u a old new off same m is = rw (other u m off is, same m is) refl

  -- the buffers that they were lent are the same
  abbrev Lent : List buffers.Event → List buffers.Event → Type 0
  Lent old new = (m n : ℕ) → those m ≡ true → buffers.opened old m n ≡ buffers.opened new m n

  -- the references that they were handed are the same, of those that aren't local
  record Handed (old new : List globals.Event) : Type 0 where
    pub strong : (m n : ℕ) → those m ≡ true → globals.strong old m n ≡ globals.strong new m n
    pub weak : (m n : ℕ) → those m ≡ true → globals.weak old m n ≡ globals.weak new m n
    pub target : (m n : ℕ) → those m ≡ true → globals.weak_target old m n ≡ globals.weak_target new m n

  -- what a verdict may depend on is the same
  record Alike (p q : Parts) : Type 0 where
    pub threads : Acted p.threads q.threads
    pub locals : Acted p.locals q.locals
    pub globals : Handed p.globals q.globals
    pub buffers : Lent p.buffers q.buffers
    pub heap : p.heap ≡ q.heap
    pub links : p.links ≡ q.links

  alike_of : {p q : Parts} → Acted p.threads q.threads → Acted p.locals q.locals → Handed p.globals q.globals → Lent p.buffers q.buffers → p.heap ≡ q.heap
      → p.links ≡ q.links → Alike p q
  alike_of threads locals globals buffers heap links = record { threads = threads; locals = locals; globals = globals; buffers = buffers; heap = heap; links = links }

  -- ---- buffers

  lent_both : (ev : buffers.Event) (old new : List buffers.Event) → Lent old new → Lent (ev ∷ old) (ev ∷ new)
  lent_both (buffers.Opened b) old new same m n is = rw (same m n is) refl
  lent_both (buffers.Closed k i) old new same m n is = rw (same m n is) refl
  lent_both (buffers.Wrote k i j v) old new same m n is = same m n is
  lent_both (buffers.ReleaseAll k) old new same m n is = rw (same m n is) refl

  abbrev maker_of : buffers.Event → ℕ
  maker_of (buffers.Opened b) = b.maker
  maker_of (buffers.Closed k i) = k
  maker_of (buffers.Wrote k i j v) = k
  maker_of (buffers.ReleaseAll k) = k

  lent_one : (ev : buffers.Event) (old new : List buffers.Event) → those (maker_of ev) ≡ false → Lent old new → Lent (ev ∷ old) new
  lent_one (buffers.Opened b) old new off same m n is = rw (other b.maker m off is, same m n is) refl
  lent_one (buffers.Closed k i) old new off same m n is = rw (other k m off is, same m n is) refl
  lent_one (buffers.Wrote k i j v) old new off same m n is = same m n is
  lent_one (buffers.ReleaseAll k) old new off same m n is = rw (other k m off is, same m n is) refl

  -- ---- global references

  made_both : (k i o m n : ℕ) (old new : List globals.Event) (b : Bool) → globals.is_same m n k i ≡ b → globals.weak_target old m n ≡ globals.weak_target new m n
      → globals.weak_target (globals.MakeWeak k i o ∷ old) m n ≡ globals.weak_target (globals.MakeWeak k i o ∷ new) m n
  made_both k i o m n old new true is same = rw is refl
  made_both k i o m n old new false is same =
      weak_more m n (globals.MakeWeak k i o) old is refl ∙ (same ∙ sym (weak_more m n (globals.MakeWeak k i o) new is refl))

  deleted_both : (k i m n : ℕ) (old new : List globals.Event) (b : Bool) → globals.is_same m n k i ≡ b → globals.weak_target old m n ≡ globals.weak_target new m n
      → globals.weak_target (globals.DeleteWeak k i ∷ old) m n ≡ globals.weak_target (globals.DeleteWeak k i ∷ new) m n
  deleted_both k i m n old new true is same = rw is refl
  deleted_both k i m n old new false is same =
      weak_more m n (globals.DeleteWeak k i) old is refl ∙ (same ∙ sym (weak_more m n (globals.DeleteWeak k i) new is refl))

  target_both : (ev : globals.Event) (old new : List globals.Event) → Handed old new → (m n : ℕ) → those m ≡ true
      → globals.weak_target (ev ∷ old) m n ≡ globals.weak_target (ev ∷ new) m n
  target_both (globals.MakeStrong k i o) old new same m n is =
      weak_more m n (globals.MakeStrong k i o) old refl refl ∙ (same.target m n is ∙ sym (weak_more m n (globals.MakeStrong k i o) new refl refl))
  target_both (globals.DeleteStrong k i) old new same m n is =
      weak_more m n (globals.DeleteStrong k i) old refl refl ∙ (same.target m n is ∙ sym (weak_more m n (globals.DeleteStrong k i) new refl refl))
  target_both (globals.MakeWeak k i o) old new same m n is = made_both k i o m n old new (globals.is_same m n k i) refl (same.target m n is)
  target_both (globals.DeleteWeak k i) old new same m n is = deleted_both k i m n old new (globals.is_same m n k i) refl (same.target m n is)
  target_both (globals.Clear q) old new same m n is =
      cleared_alike q (globals.after_making m n old) (globals.after_making m n new) (globals.weak old m n) (globals.weak new m n) (same.weak m n is)
      (same.target m n is)

  strong_both : (ev : globals.Event) (old new : List globals.Event) → Handed old new → (m n : ℕ) → those m ≡ true → globals.strong (ev ∷ old) m n ≡ globals.strong (ev ∷ new) m n
  strong_both (globals.MakeStrong k i o) old new same m n is = rw (same.strong m n is) refl
  strong_both (globals.DeleteStrong k i) old new same m n is = rw (same.strong m n is) refl
  strong_both (globals.MakeWeak k i o) old new same m n is = same.strong m n is
  strong_both (globals.DeleteWeak k i) old new same m n is = same.strong m n is
  strong_both (globals.Clear q) old new same m n is = same.strong m n is

  weak_both : (ev : globals.Event) (old new : List globals.Event) → Handed old new → (m n : ℕ) → those m ≡ true → globals.weak (ev ∷ old) m n ≡ globals.weak (ev ∷ new) m n
  weak_both (globals.MakeStrong k i o) old new same m n is = same.weak m n is
  weak_both (globals.DeleteStrong k i) old new same m n is = same.weak m n is
  weak_both (globals.MakeWeak k i o) old new same m n is = rw (same.weak m n is) refl
  weak_both (globals.DeleteWeak k i) old new same m n is = rw (same.weak m n is) refl
  weak_both (globals.Clear q) old new same m n is = same.weak m n is

  handed_both : (ev : globals.Event) (old new : List globals.Event) → Handed old new → Handed (ev ∷ old) (ev ∷ new)
  handed_both ev old new same = record { strong = strong_both ev old new same; weak = weak_both ev old new same; target = target_both ev old new same }

  -- the event is of a reference that none of them was handed
  abbrev is_others : globals.Event → Bool
  is_others (globals.MakeStrong k i o) = not (those k)
  is_others (globals.DeleteStrong k i) = not (those k)
  is_others (globals.MakeWeak k i o) = not (those k)
  is_others (globals.DeleteWeak k i) = not (those k)
  is_others (globals.Clear q) = false

  apart : (k i m n : ℕ) → not (those k) ≡ true → those m ≡ true → globals.is_same m n k i ≡ false
  apart k i m n off is = rw (other k m (not_true (those k) off) is) refl
    where
      not_true : (b : Bool) → not b ≡ true → b ≡ false
      not_true false was = refl
      not_true true was = absurd cc

  handed_one : (ev : globals.Event) (old new : List globals.Event) → is_others ev ≡ true → Handed old new → Handed (ev ∷ old) new
  handed_one (globals.MakeStrong k i o) old new off same = record {
    strong = λ m n is. rw (apart k i m n off is) (same.strong m n is);
    weak = same.weak;
    target = λ m n is. weak_more m n (globals.MakeStrong k i o) old refl refl ∙ same.target m n is;
  }
  handed_one (globals.DeleteStrong k i) old new off same = record {
    strong = λ m n is. rw (apart k i m n off is) (same.strong m n is);
    weak = same.weak;
    target = λ m n is. weak_more m n (globals.DeleteStrong k i) old refl refl ∙ same.target m n is;
  }
  handed_one (globals.MakeWeak k i o) old new off same = record {
    strong = same.strong;
    weak = λ m n is. rw (apart k i m n off is) (same.weak m n is);
    target = λ m n is. weak_more m n (globals.MakeWeak k i o) old (apart k i m n off is) refl ∙ same.target m n is;
  }
  handed_one (globals.DeleteWeak k i) old new off same = record {
    strong = same.strong;
    weak = λ m n is. rw (apart k i m n off is) (same.weak m n is);
    target = λ m n is. weak_more m n (globals.DeleteWeak k i) old (apart k i m n off is) refl ∙ same.target m n is;
  }
  handed_one (globals.Clear q) old new off same = absurd cc

  -- ---- a fact that concerns them

  abbrev Both : (Parts → Parts) → Type 0
  Both f = (p q : Parts) → Alike p q → Alike (f p) (f q)

  next_both : (u : ℕ) (p q : Parts) → those u ≡ true → Alike p q → next_ref p u ≡ next_ref q u
  next_both u p q is same = rw (same.threads u is) refl

  handed_on_both : (u : ℕ) (kind : Kind) (o : ℕ) → those u ≡ true → Both (handed_on u kind o)
  handed_on_both u kind o is p q same = by_kind kind
    where
      counted : Acted (threads.by u threads.CountRef ∷ p.threads) (threads.by u threads.CountRef ∷ q.threads)
      counted = acted_both u threads.CountRef p.threads q.threads same.threads

      by_kind : (kind : Kind) → Alike (handed_on u kind o p) (handed_on u kind o q)
      by_kind Local =
          rw (next_both u p q is same)
          (alike_of counted (acted_both u (locals.Make (next_ref q u) o) p.locals q.locals same.locals) same.globals same.buffers same.heap same.links)
      by_kind Global =
          rw (next_both u p q is same)
          (alike_of counted same.locals (handed_both (globals.MakeStrong u (next_ref q u) o) p.globals q.globals same.globals) same.buffers same.heap same.links)
      by_kind Weak =
          rw (next_both u p q is same)
          (alike_of counted same.locals (handed_both (globals.MakeWeak u (next_ref q u) o) p.globals q.globals same.globals) same.buffers same.heap same.links)

  kept_on_both : (u : ℕ) (kept : Option ObjId) → those u ≡ true → Both (kept_on u kept)
  kept_on_both u None is p q same = same
  kept_on_both u (Some o) is p q same = handed_on_both u Local o.0 is p q same

  lost_on_both : (r : Ref) → Both (lost_on r)
  lost_on_both Null p q same = same
  lost_on_both (To Local maker n) p q same = alike_of same.threads (acted_both maker.0 (locals.Delete n) p.locals q.locals same.locals) same.globals same.buffers same.heap same.links
  lost_on_both (To Global maker n) p q same = alike_of same.threads same.locals (handed_both (globals.DeleteStrong maker.0 n) p.globals q.globals same.globals) same.buffers same.heap same.links
  lost_on_both (To Weak maker n) p q same = alike_of same.threads same.locals (handed_both (globals.DeleteWeak maker.0 n) p.globals q.globals same.globals) same.buffers same.heap same.links

  -- an act of a thread, in one of the two tables of acts
  thread_act : (u : ℕ) (a : threads.Act) → Both (λ p. record p { threads = threads.by u a ∷ p.threads })
  thread_act u a p q same = alike_of (acted_both u a p.threads q.threads same.threads) same.locals same.globals same.buffers same.heap same.links

  local_act : (u : ℕ) (a : locals.Act) → Both (λ p. record p { locals = locals.by u a ∷ p.locals })
  local_act u a p q same = alike_of same.threads (acted_both u a p.locals q.locals same.locals) same.globals same.buffers same.heap same.links

  buffer_event : (ev : buffers.Event) → Both (λ p. record p { buffers = ev ∷ p.buffers })
  buffer_event ev p q same = alike_of same.threads same.locals same.globals (lent_both ev p.buffers q.buffers same.buffers) same.heap same.links

  on_both : (x : Fact) → concerns those x ≡ true → Both (on x)
  on_both (Begin t) is p q same = local_act t.0 locals.Start _ _ (thread_act t.0 threads.Attach p q same)
  on_both (End t) is p q same =
      let acted = local_act t.0 locals.End _ _ (thread_act t.0 threads.Detach p q same) in
      let ended = buffer_event (buffers.ReleaseAll t.0) _ _ acted in
      alike_of ended.threads ended.locals ended.globals ended.buffers ended.heap ended.links
  on_both (Enter t) is p q same =
      local_act t.0 locals.Enter _ _ (thread_act t.0 threads.Calm _ _ (thread_act t.0 threads.Enter p q same))
  on_both (Leave t kept) is p q same =
      kept_on_both t.0 kept is _ _ (local_act t.0 locals.Leave _ _ (thread_act t.0 threads.Calm _ _ (thread_act t.0 threads.Leave p q same)))
  on_both (Push t room) is p q same = local_act t.0 (locals.Push room) p q same
  on_both (Pop t kept) is p q same = kept_on_both t.0 kept is _ _ (local_act t.0 locals.Pop p q same)
  on_both (Ensure t room) is p q same = local_act t.0 (locals.Ensure room) p q same
  on_both (Raise t o) is p q same = thread_act t.0 (threads.Raise o.0) p q same
  on_both (Calm t) is p q same = thread_act t.0 threads.Calm p q same
  on_both (Hand t kind o) is p q same = handed_on_both t.0 kind o.0 is p q same
  on_both (Lost r) is p q same = lost_on_both r p q same
  on_both (Lend t family o via n) is p q same =
      let same_number : next_buffer p t.0 ≡ next_buffer q t.0 = rw (same.threads t.0 is) refl in
      rw same_number (buffer_event (buffers.Opened (lent t.0 (next_buffer q t.0) family o.0 via n)) _ _ (thread_act t.0 threads.CountBuffer p q same))
  on_both (Back b) is p q same = buffer_event (buffers.Closed b.maker.0 b.n) p q same
  on_both (Own t o) is p q same = alike_of same.threads same.locals same.globals same.buffers same.heap same.links
  on_both (Free t o) is p q same = alike_of same.threads same.locals same.globals same.buffers same.heap same.links
  on_both (Meet class n) is p q same = alike_of same.threads same.locals same.globals same.buffers (rw same.heap refl) same.links
  on_both (Gone o) is p q same = alike_of same.threads same.locals (handed_both (globals.Clear o.0) p.globals q.globals same.globals) same.buffers (rw same.heap refl) same.links
  on_both (Link class native) is p q same = alike_of same.threads same.locals same.globals same.buffers same.heap (rw same.links refl)
  on_both (Unlink class) is p q same = alike_of same.threads same.locals same.globals same.buffers same.heap (rw same.links refl)
  on_both (Warn home) is p q same = alike_of same.threads same.locals same.globals same.buffers same.heap (rw same.links refl)
  on_both (Checked check) is p q same = same

  -- ---- a fact of others

  abbrev One : (Parts → Parts) → Type 0
  One f = (p q : Parts) → Alike p q → Alike (f p) q

  thread_act_one : (u : ℕ) (a : threads.Act) → those u ≡ false → One (λ p. record p { threads = threads.by u a ∷ p.threads })
  thread_act_one u a off p q same = alike_of (acted_one u a p.threads q.threads off same.threads) same.locals same.globals same.buffers same.heap same.links

  local_act_one : (u : ℕ) (a : locals.Act) → those u ≡ false → One (λ p. record p { locals = locals.by u a ∷ p.locals })
  local_act_one u a off p q same = alike_of same.threads (acted_one u a p.locals q.locals off same.locals) same.globals same.buffers same.heap same.links

  buffer_event_one : (ev : buffers.Event) → those (maker_of ev) ≡ false → One (λ p. record p { buffers = ev ∷ p.buffers })
  buffer_event_one ev off p q same = alike_of same.threads same.locals same.globals (lent_one ev p.buffers q.buffers off same.buffers) same.heap same.links

  global_event_one : (ev : globals.Event) → is_others ev ≡ true → One (λ p. record p { globals = ev ∷ p.globals })
  global_event_one ev off p q same = alike_of same.threads same.locals (handed_one ev p.globals q.globals off same.globals) same.buffers same.heap same.links

  handed_on_one : (u : ℕ) (kind : Kind) (o : ℕ) → those u ≡ false → One (handed_on u kind o)
  handed_on_one u Local o off p q same = local_act_one u (locals.Make (next_ref p u) o) off _ q (thread_act_one u threads.CountRef off p q same)
  handed_on_one u Global o off p q same = global_event_one (globals.MakeStrong u (next_ref p u) o) (rw off refl) _ q (thread_act_one u threads.CountRef off p q same)
  handed_on_one u Weak o off p q same = global_event_one (globals.MakeWeak u (next_ref p u) o) (rw off refl) _ q (thread_act_one u threads.CountRef off p q same)

  kept_on_one : (u : ℕ) (kept : Option ObjId) → those u ≡ false → One (kept_on u kept)
  kept_on_one u None off p q same = same
  kept_on_one u (Some o) off p q same = handed_on_one u Local o.0 off p q same

  lost_on_one : (r : Ref) → is_theirs those r ≡ false → One (lost_on r)
  lost_on_one Null off p q same = same
  lost_on_one (To Local maker n) off p q same = local_act_one maker.0 (locals.Delete n) off p q same
  lost_on_one (To Global maker n) off p q same = global_event_one (globals.DeleteStrong maker.0 n) (rw off refl) p q same
  lost_on_one (To Weak maker n) off p q same = global_event_one (globals.DeleteWeak maker.0 n) (rw off refl) p q same

  same_maker : (u n : ℕ) (family : Family) (o : ℕ) (via : Ref) (count : ℕ) (b : Bool) → buffers.is_critical family ≡ b → (lent u n family o via count).maker ≡ u
  same_maker u n family o via count true is = rw is refl
  same_maker u n family o via count false is = rw is refl

  on_one : (x : Fact) → concerns those x ≡ false → One (on x)
  on_one (Begin t) off p q same = local_act_one t.0 locals.Start off _ q (thread_act_one t.0 threads.Attach off p q same)
  on_one (End t) off p q same =
      let acted = local_act_one t.0 locals.End off _ q (thread_act_one t.0 threads.Detach off p q same) in
      let ended = buffer_event_one (buffers.ReleaseAll t.0) off _ q acted in
      alike_of ended.threads ended.locals ended.globals ended.buffers ended.heap ended.links
  on_one (Enter t) off p q same =
      local_act_one t.0 locals.Enter off _ q (thread_act_one t.0 threads.Calm off _ q (thread_act_one t.0 threads.Enter off p q same))
  on_one (Leave t kept) off p q same =
      kept_on_one t.0 kept off _ q (local_act_one t.0 locals.Leave off _ q (thread_act_one t.0 threads.Calm off _ q (thread_act_one t.0 threads.Leave off p q same)))
  on_one (Push t room) off p q same = local_act_one t.0 (locals.Push room) off p q same
  on_one (Pop t kept) off p q same = kept_on_one t.0 kept off _ q (local_act_one t.0 locals.Pop off p q same)
  on_one (Ensure t room) off p q same = local_act_one t.0 (locals.Ensure room) off p q same
  on_one (Raise t o) off p q same = thread_act_one t.0 (threads.Raise o.0) off p q same
  on_one (Calm t) off p q same = thread_act_one t.0 threads.Calm off p q same
  on_one (Hand t kind o) off p q same = handed_on_one t.0 kind o.0 off p q same
  on_one (Lost r) off p q same = lost_on_one r off p q same
  on_one (Lend t family o via n) off p q same =
      buffer_event_one (buffers.Opened (lent t.0 (next_buffer p t.0) family o.0 via n))
      (subst (λ (u : ℕ). those u ≡ false) (sym (same_maker t.0 (next_buffer p t.0) family o.0 via n (buffers.is_critical family) refl)) off) _ q
      (thread_act_one t.0 threads.CountBuffer off p q same)
  on_one (Back b) off p q same = buffer_event_one (buffers.Closed b.maker.0 b.n) off p q same
  on_one (Own t o) off p q same = alike_of same.threads same.locals same.globals same.buffers same.heap same.links
  on_one (Free t o) off p q same = alike_of same.threads same.locals same.globals same.buffers same.heap same.links
  on_one (Meet class n) off p q same = absurd cc
  on_one (Gone o) off p q same = absurd cc
  on_one (Link class native) off p q same = absurd cc
  on_one (Unlink class) off p q same = absurd cc
  on_one (Warn home) off p q same = absurd cc
  on_one (Checked check) off p q same = absurd cc

  -- ---- all facts

  one_more : (x : Fact) (w rest : List Fact) (b : Bool) → concerns those x ≡ b → Alike (parts_of w) (parts_of rest) → Alike (on x (parts_of w)) (parts_of (if b then x ∷ rest else rest))
  one_more x w rest true is same = on_both x is (parts_of w) (parts_of rest) same
  one_more x w rest false is same = on_one x is (parts_of w) (parts_of rest) same

  alike : (w : List Fact) → Alike (parts_of w) (parts_of (concerning those w))
  alike [] = record {
    threads = λ m is. refl;
    locals = λ m is. refl;
    globals = record { strong = λ m n is. refl; weak = λ m n is. refl; target = λ m n is. refl };
    buffers = λ m n is. refl;
    heap = refl;
    links = refl;
  }
  alike (x ∷ w) = one_more x w (concerning those w) (concerns those x) refl (alike w)

  -- ---- critical regions

  opened_if : (c : Bool) (at b : buffers.Buffer) (found : Option buffers.Buffer) (m n : ℕ) → buffers.is_same m n at.maker at.n ≡ c → (found ≡ Some b → b.maker ≡ m)
      → (if c then Some at else found) ≡ Some b → b.maker ≡ m
  opened_if true at b found m n own older now =
      let is : at ≡ b = same_Some at b now in
      subst (λ (x : buffers.Buffer). x.maker ≡ m) is (grind (arith, nat_tests, own))
  opened_if false at b found m n own older now = older now

  closed_if : (c : Bool) (b : buffers.Buffer) (found : Option buffers.Buffer) (m : ℕ) → (found ≡ Some b → b.maker ≡ m)
      → if◌then◌else◌ {A = Option buffers.Buffer} c None found ≡ Some b → b.maker ≡ m
  closed_if true b found m older now = absurd cc
  closed_if false b found m older now = older now

  opened_maker : (e : List buffers.Event) (m n : ℕ) (b : buffers.Buffer) → buffers.opened e m n ≡ Some b → b.maker ≡ m
  opened_maker [] m n b now = absurd cc
  opened_maker (buffers.Opened at ∷ e) m n b now = opened_if (buffers.is_same m n at.maker at.n) at b (buffers.opened e m n) m n refl (opened_maker e m n b) now
  opened_maker (buffers.Closed k i ∷ e) m n b now = closed_if (buffers.is_same m n k i) b (buffers.opened e m n) m (opened_maker e m n b) now
  opened_maker (buffers.Wrote k i j v ∷ e) m n b now = opened_maker e m n b now
  opened_maker (buffers.ReleaseAll k ∷ e) m n b now = opened_maker e m n b (still_lent (buffers.opened e m n) (k == m) b now).0

  critical_if : (t : ℕ) (old new : List buffers.Event) → those t ≡ true → Lent old new → buffers.in_critical old t ≡ true → buffers.in_critical new t ≡ true
  critical_if t old new is same now =
      let pin = (critical_law old t).0 now in
      let own : pin.maker ≡ t = sym (opened_maker old pin.maker pin.n pin.buffer pin.is_open) ∙ pin.holds in
      (critical_law new t).1 (record {
        maker = pin.maker;
        n = pin.n;
        buffer = pin.buffer;
        is_open = sym (same pin.maker pin.n (subst (λ (m : ℕ). those m ≡ true) (sym own) is)) ∙ pin.is_open;
        critical = pin.critical;
        holds = pin.holds;
      })

  critical_same : (t : ℕ) (p q : Parts) → those t ≡ true → Alike p q → buffers.in_critical p.buffers t ≡ buffers.in_critical q.buffers t
  critical_same t p q is same =
      both_ways _ _ (critical_if t p.buffers q.buffers is same.buffers) (critical_if t q.buffers p.buffers is (λ m n own. sym (same.buffers m n own)))

  -- ---- what references name

  names_same : (t : ℕ) (p q : Parts) (r : Ref) → those t ≡ true → is_theirs those r ≡ true → Alike p q → names p t r ≡ names q t r
  names_same t p q Null is own same = refl
  names_same t p q (To Local maker n) is own same = rw (same.locals t is) refl
  names_same t p q (To Global maker n) is own same = rw (same.globals.strong maker.0 n own) refl
  names_same t p q (To Weak maker n) is own same = rw (same.globals.target maker.0 n own) refl

  theirs : (rs : List Ref) → list_any (λ r. not (is_theirs those r)) rs ≡ false → AllByRecursion (λ r. is_theirs those r ≡ true) rs
  theirs [] none = tt
  theirs (r ∷ rs) none =
      let both = or_parts (not (is_theirs those r)) _ none in
      (is_so (is_theirs those r) both.0, theirs rs both.1)
    where
      is_so : (b : Bool) → not b ≡ false → b ≡ true
      is_so true is = refl
      is_so false is = absurd cc

  first_theirs : (xs : List Argument) → AllByRecursion (λ r. is_theirs those r ≡ true) (references xs) → is_theirs those (first_reference xs) ≡ true
  first_theirs [] all = refl
  first_theirs (Reference r ∷ xs) all = all.0
  first_theirs (x ∷ xs) all = first_theirs xs all

  -- ---- each rule

  module _ (bounds : Bounds) (s : StatedSetup) (p q : Parts) (same : Alike p q) where
    kind_alike : (kind : ObjectKind) (named : Named) → is_wrong_kind s p kind named ≡ is_wrong_kind s q kind named
    kind_alike kind Nothing = refl
    kind_alike kind NamesNull = refl
    kind_alike kind (Object o) = rw (kind_same s q p kind o.0 (rw same.heap refl)) refl

    module _ (t : ℕ) (one : those t ≡ true) (xs : List Argument) (unlent : list_any is_buffer xs ≡ false)
        (own : AllByRecursion (λ r. is_theirs those r ≡ true) (references xs)) where
      named_alike : (r : Ref) → is_theirs those r ≡ true → names p t r ≡ names q t r
      named_alike r of_them = names_same t p q r one of_them same

      first_named : names p t (first_reference xs) ≡ names q t (first_reference xs)
      first_named = named_alike (first_reference xs) (first_theirs xs own)

      any_same : (old new : Judged → Bool) → ((j : Judged) → names p t j.reference ≡ names q t j.reference → old j ≡ new j) → (js : List Judged)
          → AllByRecursion (λ j. is_theirs those j.reference ≡ true) js → list_any old js ≡ list_any new js
      any_same old new each [] all = refl
      any_same old new each (j ∷ js) all = rw (each j (named_alike j.reference all.0), any_same old new each js all.1) refl

      frame_alike : (effect : Effect) → bad_frame p t effect ≡ bad_frame q t effect
      frame_alike Detaches = rw (same.threads t one) refl
      frame_alike Leaves = rw (same.threads t one) refl
      frame_alike Pops = rw (same.locals t one) refl
      frame_alike effect = refl

      pinned_alike : (effect : Effect) (r : Ref) → is_apart effect ≡ true → pinned p effect r ≡ pinned q effect r
      pinned_alike (Ends Local) r is = refl
      pinned_alike (Ends Global) r is = absurd cc
      pinned_alike (Ends Weak) r is = absurd cc
      pinned_alike effect r is = refl

      owner_alike : (effect : Effect) (r : Ref) → is_apart effect ≡ true → not_owner p t effect r ≡ not_owner q t effect r
      owner_alike Frees r is = absurd cc
      owner_alike effect r is = refl

      access_alike : (effect : Effect) → no_access s p t effect (first_reference xs) xs ≡ no_access s q t effect (first_reference xs) xs
      access_alike Links = rw first_named refl
      access_alike effect = refl

      linked_alike : (effect : Effect) → not_linked s p effect xs ≡ not_linked s q effect xs
      linked_alike Enters = by_links (class_by_name s xs) (native_by_name xs)
        where
          by_links : (class native : Option ℕ) → not (is_linked p class native) ≡ not (is_linked q class native)
          by_links None native = refl
          by_links (Some class) None = refl
          by_links (Some class) (Some native) = rw same.links refl
      linked_alike effect = refl

      module _ (env : Option EnvId) (row : Columns) (plain : is_apart row.effect ≡ true) where
        operands : AllByRecursion (λ j. is_theirs those j.reference ≡ true) (judged row.takes xs)
        operands = each_judged (λ r. is_theirs those r ≡ true) refl row.takes xs own

        detached_alike : (given : Option EnvId) → detached p t given row ≡ detached q t given row
        detached_alike None = refl
        detached_alike (Some e) = rw (same.threads t one) refl

        no_buffer_meant : (u : Parts) → bad_argument bounds s u row xs ≡ list_any (λ y. is_out_of_bounds bounds s u None y.0 y.1) (paired row.takes xs)
        no_buffer_meant u = rw (no_buffer xs unlent) refl

        rule_alike : (rule : Rule) → broken rule bounds s p t env row xs ≡ broken rule bounds s q t env row xs
        rule_alike WrongThread = refl
        rule_alike Detached = detached_alike env
        rule_alike InCritical = rw (critical_same t p q one same) refl
        rule_alike Pending = rw (same.threads t one) refl
        rule_alike ForeignLocal = refl
        rule_alike DeadReference = any_same _ _ (λ j is. rw is refl) (judged row.takes xs) operands
        rule_alike WrongRefKind = refl
        rule_alike NullReference = any_same _ _ (λ j is. rw is refl) (judged row.takes xs) operands
        rule_alike WrongType = any_same _ _ (λ j is. rw is (kind_alike j.kind (names q t j.reference))) (judged row.takes xs) operands
        rule_alike BadField = refl
        rule_alike BadBuffer =
            buffers_right p t (first_reference xs) row.takes xs unlent ∙ sym (buffers_right q t (first_reference xs) row.takes xs unlent)
        rule_alike BadArgument = no_buffer_meant p ∙ (all_bounds_same bounds s q p (paired row.takes xs) ∙ sym (no_buffer_meant q))
        rule_alike Pinned = pinned_alike row.effect (first_reference xs) plain
        rule_alike NotOwner = owner_alike row.effect (first_reference xs) plain
        rule_alike BadFrame = frame_alike row.effect
        rule_alike NoNativeAccess = access_alike row.effect
        rule_alike NotLinked = linked_alike row.effect

        first_alike : (rules : List Rule) → find (λ rule. broken rule bounds s p t env row xs) rules ≡ find (λ rule. broken rule bounds s q t env row xs) rules
        first_alike [] = refl
        first_alike (rule ∷ rules) = rw (rule_alike rule, first_alike rules) refl

        verdict_alike : verdict bounds s p t env row xs ≡ verdict bounds s q t env row xs
        verdict_alike = first_alike rules_in_order

    -- ---- which operand breaks a rule

    module _ (t : ℕ) (one : those t ≡ true) (via : Ref) (rule : Rule) where
      abbrev beside : Beside
      beside = record { bounds = bounds; via = via; info = None }

      faults_alike : (takes : Takes) (x : Argument) → is_buffer x ≡ false → is_theirs those (judged_of takes x).reference ≡ true
          → faults_of s p t beside takes x ≡ faults_of s q t beside takes x
      faults_alike takes x unlent own =
          let is = names_same t p q (judged_of takes x).reference one own same in
          rw (
            is,
            kind_alike (judged_of takes x).kind (names q t (judged_of takes x).reference),
            buffer_right p t via takes x unlent,
            buffer_right q t via takes x unlent,
            bounds_same bounds s q p takes x,
          ) refl

      place_alike : (n : ℕ) (takes : List Takes) (xs : List Argument) → list_any is_buffer xs ≡ false
          → AllByRecursion (λ r. is_theirs those r ≡ true) (references xs)
          → first_that s p t beside rule n (paired takes xs) ≡ first_that s q t beside rule n (paired takes xs)
      place_alike n takes [] unlent own = refl
      place_alike n [] (x ∷ xs) unlent own = refl
      place_alike n (take ∷ takes) (x ∷ xs) unlent own =
          let both = or_parts (is_buffer x) (list_any is_buffer xs) unlent in
          let parts = first_of (λ r. is_theirs those r ≡ true) refl x xs own in
          rw (
            faults_alike take x both.0 (operand (λ r. is_theirs those r ≡ true) refl take x parts.0),
            place_alike (n + 1) (if is_last take then take ∷ takes else takes) xs both.1 parts.1,
          ) refl

    -- ---- the answer

    module _ (t : Tid) (one : those t.0 ≡ true) (env : Option EnvId) (of_one : is_of those env ≡ true) (row : Columns) (plain : is_apart row.effect ≡ true)
        (xs : List Argument) (unlent : list_any is_buffer xs ≡ false) (own : AllByRecursion (λ r. is_theirs those r ≡ true) (references xs)) where
      abbrev place : Parts → Rule → Option ℕ
      place u rule = first_that s u t.0 (record { bounds = bounds; via = first_reference xs; info = buffer_meant u (first_buffer xs) }) rule 0 (paired row.takes xs)

      place_by : (rule : Rule) → place p rule ≡ place q rule
      place_by rule = rw (no_buffer xs unlent) (place_alike t.0 one (first_reference xs) rule 0 row.takes xs unlent own)

      culprit_alike : (rule : Rule) → culprit bounds s p t.0 rule row.takes xs ≡ culprit bounds s q t.0 rule row.takes xs
      culprit_alike ForeignLocal = place_by ForeignLocal
      culprit_alike DeadReference = place_by DeadReference
      culprit_alike NullReference = place_by NullReference
      culprit_alike WrongType = place_by WrongType
      culprit_alike BadField = place_by BadField
      culprit_alike BadBuffer = place_by BadBuffer
      culprit_alike BadArgument = place_by BadArgument
      culprit_alike rule = refl

      expected_alike : (u : Tid) → those u.0 ≡ true → (effect : Effect) → expected_of s p u row effect xs ≡ expected_of s q u row effect xs
      expected_alike u is (Lends family) = rw (first_named u.0 is xs unlent own) refl
      expected_alike u is Raises = rw (first_named u.0 is xs unlent own) refl
      expected_alike u is Owns = rw (first_named u.0 is xs unlent own) refl
      expected_alike u is Frees = rw (first_named u.0 is xs unlent own) refl
      expected_alike u is Links = rw (first_named u.0 is xs unlent own) refl
      expected_alike u is Unlinks = rw (first_named u.0 is xs unlent own) refl
      expected_alike u is Attaches = rw (same.threads u.0 is) refl
      expected_alike u is Detaches = rw (same.threads u.0 is) refl
      expected_alike u is effect = refl

      doer_theirs : (rule : Rule) (given : Option EnvId) → is_of those given ≡ true → those (doer rule t given).0 ≡ true
      doer_theirs WrongThread (Some e) of_them = of_them
      doer_theirs rule given of_them = one

      by_verdict_alike : (found : Option Rule) → by_verdict bounds s p t env row xs found ≡ by_verdict bounds s q t env row xs found
      by_verdict_alike None = rw (expected_alike t one row.effect) refl
      by_verdict_alike (Some rule) = rw (culprit_alike rule, expected_alike (doer rule t env) (doer_theirs rule env of_one) row.effect) refl

      by_row_alike : by_row bounds s p t env xs (Some row) ≡ by_row bounds s q t env xs (Some row)
      by_row_alike = rw (verdict_alike t.0 one xs unlent own env row plain, by_verdict_alike (verdict bounds s q t.0 env row xs)) refl

-- what a reference names that they were handed
pub named_apart : (those : ℕ → Bool) (t : ℕ) (r : Ref) (v w : List Fact) → those t ≡ true → is_theirs those r ≡ true → concerning those v ≡ concerning those w
    → names (parts_of v) t r ≡ names (parts_of w) t r
named_apart those t r v w one own same =
    names_same those t (parts_of v) (parts_of (concerning those v)) r one own (alike those v)
    ∙ (ap (λ u. names (parts_of u) t r) same ∙ sym (names_same those t (parts_of w) (parts_of (concerning those w)) r one own (alike those w)))

pub answered_apart : AnsweredApart
answered_apart bounds s t env function xs those v w plain unlent one of_one own same =
    of_concerning v ∙ (ap (λ u. asked bounds s (parts_of u) t env function xs) same ∙ sym (of_concerning w))
  where
    by_found : (p q : Parts) → Alike those p q → (row : Option Columns) → is_apart_row row ≡ true → by_row bounds s p t env xs row ≡ by_row bounds s q t env xs row
    by_found p q alike None is = refl
    by_found p q alike (Some row) is =
        by_row_alike those bounds s p q alike t one env of_one row is xs unlent (theirs those (references xs) own)

    of_concerning : (u : List Fact) → asked bounds s (parts_of u) t env function xs ≡ asked bounds s (parts_of (concerning those u)) t env function xs
    of_concerning u = by_found (parts_of u) (parts_of (concerning those u)) (alike those u) (slice_get functions function) plain
