-- A fact raises each count by one at the most, and one that makes nothing raises none.
use Rattle.std.proofs.Common.{ℕ, ◌≡◌, ◌+◌, ◌≤◌, Bool, true, false, List, [], ◌∷◌, Option, Some, None, refl, arith, if◌then◌else◌}
use Rattle.std.specs.Prelude.{◌==◌, ◌&&◌}
use Rattle.std.specs.Option.{is_some}
use Rattle.jg_words.specs.declared.object.ObjId.{ObjId}
use Rattle.jg_words.specs.declared.reference.Ref.{Ref}
use Rattle.jg_words.specs.declared.reference.Ref.TheVariants.{Null, To}
use Rattle.jg_words.specs.declared.reference.Kind.{Kind}
use Rattle.jg_words.specs.declared.reference.Kind.TheVariants.{Local, Global, Weak}
use Rattle.jg_lists.specs.Acts.{Event, by, acts_of, how_many}
use Rattle.jg_table_threads.specs.History as threads
use Rattle.jg_table_locals.specs.History as locals
use Rattle.jg_table_monitors.specs.History as monitors
use Rattle.jg_rules.specs.Parts.{Parts}
use Rattle.jg_core.specs.declared.fact.Fact.{Fact}
use Rattle.jg_core.specs.declared.fact.Fact.TheVariants.{Begin, End, Enter, Leave, Push, Pop, Ensure, Raise, Calm, Hand, Lost, Lend, Back, Own, Free, Meet, Gone, Link, Unlink, Warn, Checked}
use Rattle.jg_core.specs.Facts.{on, handed_on, kept_on, lost_on, parts_of, makes, made_in}
use Rattle.jg_core.specs.Counts.{AreFew, raises_count}

-- ---- one act more

module _ {Act : Type 0} (kind : Act → Bool) (n : ℕ) (u : ℕ) (a : Act) (e : List (Event Act)) where
  raised_by : (own is : Bool) (rest : List Act) → how_many kind rest ≤ n → how_many kind (if own then a ∷ rest else rest) ≤ n + 1
  raised_by true is rest few = one (kind a)
    where
      one : (b : Bool) → (if b then how_many kind rest + 1 else how_many kind rest) ≤ n + 1
      one true = omega (arith, few)
      one false = omega (arith, few)
  raised_by false is rest few = omega (arith, few)

  pub one_more : ((t : ℕ) → how_many kind (acts_of t e) ≤ n) → (t : ℕ) → how_many kind (acts_of t (by u a ∷ e)) ≤ n + 1
  one_more few t = raised_by (u == t) (kind a) (acts_of t e) (few t)

  kept_by : (own : Bool) (rest : List Act) → kind a ≡ false → how_many kind rest ≤ n → how_many kind (if own then a ∷ rest else rest) ≤ n
  kept_by true rest other few = rw other few
  kept_by false rest other few = few

  pub none_more : kind a ≡ false → ((t : ℕ) → how_many kind (acts_of t e) ≤ n) → (t : ℕ) → how_many kind (acts_of t (by u a ∷ e)) ≤ n
  none_more other few t = kept_by (u == t) (acts_of t e) other (few t)

-- ---- one fact more

-- more are allowed
wider : (k n : ℕ) (p : Parts) → AreFew k n p → AreFew k (n + 1) p
wider k n p few = record {
  threads = λ t. omega (arith, few.threads t);
  locals = λ t. omega (arith, few.locals t);
  monitors = λ t o. omega (arith, few.monitors t o);
  heap = omega (arith, few.heap);
}

handed_few : (k n t : ℕ) (kind : Kind) (o : ℕ) (p : Parts) → AreFew k n p → AreFew k (n + 1) (handed_on t kind o p)
handed_few k n t Local o p few =
    let more = wider k n p few in
    record {
      threads = one_more raises_count n t threads.CountRef p.threads few.threads;
      locals = none_more locals.is_push (n + 1) t (locals.Make _ o) p.locals refl more.locals;
      monitors = more.monitors;
      heap = more.heap;
    }
handed_few k n t Global o p few =
    let more = wider k n p few in
    record { threads = one_more raises_count n t threads.CountRef p.threads few.threads; locals = more.locals; monitors = more.monitors; heap = more.heap }
handed_few k n t Weak o p few =
    let more = wider k n p few in
    record { threads = one_more raises_count n t threads.CountRef p.threads few.threads; locals = more.locals; monitors = more.monitors; heap = more.heap }

kept_few : (k n t : ℕ) (kept : Option ObjId) (p : Parts) → AreFew k n p → AreFew k (if is_some kept then n + 1 else n) (kept_on t kept p)
kept_few k n t None p few = few
kept_few k n t (Some o) p few = handed_few k n t Local o.0 p few

lost_few : (k n : ℕ) (r : Ref) (p : Parts) → AreFew k n p → AreFew k n (lost_on r p)
lost_few k n Null p few = few
lost_few k n (To Local maker i) p few =
    record {
      threads = few.threads;
      locals = none_more locals.is_push n maker.0 (locals.Delete i) p.locals refl few.locals;
      monitors = few.monitors;
      heap =
          few.heap;
    }
lost_few k n (To Global maker i) p few = record { threads = few.threads; locals = few.locals; monitors = few.monitors; heap = few.heap }
lost_few k n (To Weak maker i) p few = record { threads = few.threads; locals = few.locals; monitors = few.monitors; heap = few.heap }

pub few_on : (k n : ℕ) (x : Fact) (p : Parts) → AreFew k n p → AreFew k (if makes x then n + 1 else n) (on x p)
few_on k n (Begin t) p few =
    let more = wider k n p few in
    record {
      threads = one_more raises_count n t.0 threads.Attach p.threads few.threads;
      locals = none_more locals.is_push (n + 1) t.0 locals.Start p.locals refl more.locals;
      monitors = more.monitors;
      heap = more.heap;
    }
few_on k n (End t) p few = record {
  threads = none_more raises_count n t.0 threads.Detach p.threads refl few.threads;
  locals = none_more locals.is_push n t.0 locals.End p.locals refl few.locals;
  monitors = λ u o. none_more (monitors.enters o) n t.0 monitors.ReleaseAll p.monitors refl (λ v. few.monitors v o) u;
  heap = few.heap;
}
few_on k n (Enter t) p few =
    let more = wider k n p few in
    record {
      threads = none_more raises_count (n + 1) t.0 threads.Calm (by t.0 threads.Enter ∷ p.threads) refl
          (one_more raises_count n t.0 threads.Enter p.threads few.threads);
      locals = none_more locals.is_push (n + 1) t.0 locals.Enter p.locals refl more.locals;
      monitors = more.monitors;
      heap = more.heap;
    }
few_on k n (Leave t kept) p few = kept_few k n t.0 kept _ (record {
  threads = none_more raises_count n t.0 threads.Calm (by t.0 threads.Leave ∷ p.threads) refl
      (none_more raises_count n t.0 threads.Leave p.threads refl few.threads);
  locals = none_more locals.is_push n t.0 locals.Leave p.locals refl few.locals;
  monitors = few.monitors;
  heap = few.heap;
})
few_on k n (Push t room) p few =
    let more = wider k n p few in
    record { threads = more.threads; locals = one_more locals.is_push n t.0 (locals.Push room) p.locals few.locals; monitors = more.monitors; heap = more.heap }
few_on k n (Pop t kept) p few = kept_few k n t.0 kept _ (record {
  threads = few.threads;
  locals = none_more locals.is_push n t.0 locals.Pop p.locals refl few.locals;
  monitors = few.monitors;
  heap = few.heap;
})
few_on k n (Ensure t room) p few =
    record {
      threads = few.threads;
      locals = none_more locals.is_push n t.0 (locals.Ensure room) p.locals refl few.locals;
      monitors = few.monitors;
      heap =
          few.heap;
    }
few_on k n (Raise t o) p few =
    record {
      threads = none_more raises_count n t.0 (threads.Raise o.0) p.threads refl few.threads;
      locals = few.locals;
      monitors = few.monitors;
      heap =
          few.heap;
    }
few_on k n (Calm t) p few =
    record { threads = none_more raises_count n t.0 threads.Calm p.threads refl few.threads; locals = few.locals; monitors = few.monitors; heap = few.heap }
few_on k n (Hand t kind o) p few = handed_few k n t.0 kind o.0 p few
few_on k n (Lost r) p few = lost_few k n r p few
few_on k n (Lend t family o via length) p few =
    let more = wider k n p few in
    record { threads = one_more raises_count n t.0 threads.CountBuffer p.threads few.threads; locals = more.locals; monitors = more.monitors; heap = more.heap }
few_on k n (Back b) p few = record { threads = few.threads; locals = few.locals; monitors = few.monitors; heap = few.heap }
few_on k n (Own t o) p few =
    let more = wider k n p few in
    record {
      threads = more.threads;
      locals = more.locals;
      monitors = λ u x. one_more (monitors.enters x) n t.0 (monitors.Enter o.0) p.monitors (λ v. few.monitors v x) u;
      heap = more.heap;
    }
few_on k n (Free t o) p few = record {
  threads = few.threads;
  locals = few.locals;
  monitors = λ u x. none_more (monitors.enters x) n t.0 (monitors.Exit o.0) p.monitors refl (λ v. few.monitors v x) u;
  heap = few.heap;
}
few_on k n (Meet class length) p few =
    let more = wider k n p few in
    record { threads = more.threads; locals = more.locals; monitors = more.monitors; heap = omega (arith, few.heap) }
few_on k n (Gone o) p few = record { threads = few.threads; locals = few.locals; monitors = few.monitors; heap = few.heap }
few_on k n (Link class native) p few =
    let more = wider k n p few in
    record { threads = more.threads; locals = more.locals; monitors = more.monitors; heap = more.heap }
few_on k n (Unlink class) p few = record { threads = few.threads; locals = few.locals; monitors = few.monitors; heap = few.heap }
few_on k n (Warn home) p few =
    let more = wider k n p few in
    record { threads = more.threads; locals = more.locals; monitors = more.monitors; heap = more.heap }
few_on k n (Checked check) p few = few

-- so the counts of a list of facts are at most as many as made something
pub are_few : (k : ℕ) (w : List Fact) → AreFew k (made_in w) (parts_of w)
are_few k [] = record { threads = λ t. omega arith; locals = λ t. omega arith; monitors = λ t o. omega arith; heap = omega arith }
are_few k (x ∷ w) = few_on k (made_in w) x (parts_of w) (are_few k w)

-- ---- what the counts are then

begun_once : (b : Bool) (sessions raised : ℕ) → sessions ≤ raised → (if b then sessions else sessions + 1) ≤ raised + 1
begun_once true sessions raised few = omega (arith, few)
begun_once false sessions raised few = omega (arith, few)

pub sessions_most : (acts : List threads.Act) → threads.sessions acts ≤ how_many raises_count acts
sessions_most [] = omega arith
sessions_most (threads.Attach ∷ acts) = begun_once (threads.attached acts) (threads.sessions acts) (how_many raises_count acts) (sessions_most acts)
sessions_most (threads.Detach ∷ acts) = sessions_most acts
sessions_most (threads.Enter ∷ acts) = omega (arith, sessions_most acts)
sessions_most (threads.Leave ∷ acts) = sessions_most acts
sessions_most (threads.Raise o ∷ acts) = sessions_most acts
sessions_most (threads.Calm ∷ acts) = sessions_most acts
sessions_most (threads.CountRef ∷ acts) = omega (arith, sessions_most acts)
sessions_most (threads.CountBuffer ∷ acts) = omega (arith, sessions_most acts)

pub references_most : (acts : List threads.Act) → threads.refs acts ≤ how_many raises_count acts
references_most [] = omega arith
references_most (threads.Attach ∷ acts) = omega (arith, references_most acts)
references_most (threads.Detach ∷ acts) = references_most acts
references_most (threads.Enter ∷ acts) = omega (arith, references_most acts)
references_most (threads.Leave ∷ acts) = references_most acts
references_most (threads.Raise o ∷ acts) = references_most acts
references_most (threads.Calm ∷ acts) = references_most acts
references_most (threads.CountRef ∷ acts) = omega (arith, references_most acts)
references_most (threads.CountBuffer ∷ acts) = omega (arith, references_most acts)

pub buffers_most : (acts : List threads.Act) → threads.buffers acts ≤ how_many raises_count acts
buffers_most [] = omega arith
buffers_most (threads.Attach ∷ acts) = omega (arith, buffers_most acts)
buffers_most (threads.Detach ∷ acts) = buffers_most acts
buffers_most (threads.Enter ∷ acts) = omega (arith, buffers_most acts)
buffers_most (threads.Leave ∷ acts) = buffers_most acts
buffers_most (threads.Raise o ∷ acts) = buffers_most acts
buffers_most (threads.Calm ∷ acts) = buffers_most acts
buffers_most (threads.CountRef ∷ acts) = omega (arith, buffers_most acts)
buffers_most (threads.CountBuffer ∷ acts) = omega (arith, buffers_most acts)

enters_most : (acts : List threads.Act) → how_many threads.is_enter (threads.since acts) ≤ how_many raises_count acts
enters_most [] = omega arith
enters_most (threads.Attach ∷ acts) = omega (arith, enters_most acts)
enters_most (threads.Detach ∷ acts) = omega arith
enters_most (threads.Enter ∷ acts) = omega (arith, enters_most acts)
enters_most (threads.Leave ∷ acts) = enters_most acts
enters_most (threads.Raise o ∷ acts) = enters_most acts
enters_most (threads.Calm ∷ acts) = enters_most acts
enters_most (threads.CountRef ∷ acts) = omega (arith, enters_most acts)
enters_most (threads.CountBuffer ∷ acts) = omega (arith, enters_most acts)

pub depth_most : (acts : List threads.Act) → threads.depth acts ≤ how_many raises_count acts
depth_most acts = omega (arith, enters_most acts)

pub frames_most : (d : ℕ) (acts : List locals.Act) → locals.done_at locals.is_push d acts ≤ how_many locals.is_push acts
frames_most d [] = omega arith
frames_most d (a ∷ acts) = by (locals.begins d a acts) (locals.is_push a) (locals.depth acts == d) (frames_most d acts)
  where
    by : (begins push here : Bool) → locals.done_at locals.is_push d acts ≤ how_many locals.is_push acts
        → (if begins then 0 else (if push && here then locals.done_at locals.is_push d acts + 1 else locals.done_at locals.is_push d acts))
        ≤ (if push then how_many locals.is_push acts + 1 else how_many locals.is_push acts)
    by true push here few = omega arith
    by false true true few = omega (arith, few)
    by false true false few = omega (arith, few)
    by false false here few = few

-- what was entered since the last release is among what was entered
enters_most_since : (o : ℕ) (acts : List monitors.Act) → how_many (monitors.enters o) (monitors.since acts) ≤ how_many (monitors.enters o) acts
enters_most_since o [] = omega arith
enters_most_since o (monitors.Enter x ∷ acts) = once (x == o) (enters_most_since o acts)
  where
    once : (b : Bool) → how_many (monitors.enters o) (monitors.since acts) ≤ how_many (monitors.enters o) acts
        → (if b then how_many (monitors.enters o) (monitors.since acts) + 1 else how_many (monitors.enters o) (monitors.since acts))
        ≤ (if b then how_many (monitors.enters o) acts + 1 else how_many (monitors.enters o) acts)
    once true few = omega (arith, few)
    once false few = few
enters_most_since o (monitors.Exit x ∷ acts) = enters_most_since o acts
enters_most_since o (monitors.ReleaseAll ∷ acts) = omega arith

pub owned_most : (e : List monitors.Event) (o n : ℕ) (owner : Option ℕ) → ((t : ℕ) → how_many (monitors.enters o) (acts_of t e) ≤ n)
    → monitors.count_of e o owner ≤ n
owned_most e o n None few = omega arith
owned_most e o n (Some t) few = omega (arith, enters_most_since o (acts_of t e), few t)
