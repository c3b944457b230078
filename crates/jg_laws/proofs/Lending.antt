-- In every legal history each buffer was lent under its thread's next number, and fits its object.
use Rattle.std.proofs.Common.{ℕ, ◌≡◌, ◌≢◌, ◌+◌, ◌≤◌, ◌++◌, ◌∙◌, Bool, true, false, List, [], ◌∷◌, Option, Some, None, refl, ap, sym, subst, arith}
use Rattle.std.specs.Prelude.{◌==◌, if◌then◌else◌}
use Rattle.std.specs.List.{AllByRecursion}
use Rattle.std.proofs.lemmas.Bool.Decides.{nat_tests}
use Rattle.std.proofs.lemmas.Option.{same_Some}
use Rattle.jg_words.specs.Entry.{Entry}
use Rattle.jg_policy.specs.Stated.{StatedSetup, class_count}
use Rattle.jg_table_threads.specs.History as threads
use Rattle.jg_table_locals.proofs.Callers.{each_thread}
use Rattle.jg_table_heap.specs.History as heap
use Rattle.jg_table_heap.specs.Making.{Making}
use Rattle.jg_table_buffers.specs.History.{Buffer, Event, Opened, Wrote, Closed, ReleaseAll, opened, is_same}
use Rattle.jg_table_buffers.specs.Laws.{IsOpenedBelow}
use Rattle.jg_table_buffers.proofs.Callers.{still_lent}
use Rattle.jg_rules.specs.Parts.{Parts}
use Rattle.jg_rules.specs.Names.{next_buffer}
use Rattle.jg_rules.specs.Effects.{parts}
use Rattle.jg_rules.specs.Legal.{Legal}
use Rattle.jg_laws.specs.Laws.{FitsMaking, FitsObject, BuffersFit}
use Rattle.jg_laws.specs.Proper.{opens_one}
use Rattle.jg_laws.proofs.Acts.{did_more, did_same, buffers_same}
use Rattle.jg_laws.proofs.Lent.{IsLent}
use Rattle.jg_laws.proofs.Steps.{Steps, each_legal}

-- ---- numbers

-- each buffer's number is below its thread's next
abbrev pub LentBelow : Parts → Type 0
LentBelow p = (t : ℕ) → IsOpenedBelow t (next_buffer p t) p.buffers

below_more : (t n m : ℕ) (e : List Event) → n ≤ m → IsOpenedBelow t n e → IsOpenedBelow t m e
below_more t n m [] le below = tt
below_more t n m (Opened b ∷ e) le below = ((λ own. omega (arith, below.0 own, le)), below_more t n m e le below.1)
below_more t n m (Wrote k i j v ∷ e) le below = below_more t n m e le below
below_more t n m (Closed k i ∷ e) le below = below_more t n m e le below
below_more t n m (ReleaseAll k ∷ e) le below = below_more t n m e le below

none_below : (t n : ℕ) (new e : List Event) → opens_one new ≡ false → IsOpenedBelow t n e → IsOpenedBelow t n (new ++ e)
none_below t n [] e none below = below
none_below t n (Opened b ∷ new) e none below = absurd cc
none_below t n (Wrote k i j v ∷ new) e none below = none_below t n new e none below
none_below t n (Closed k i ∷ new) e none below = none_below t n new e none below
none_below t n (ReleaseAll k ∷ new) e none below = none_below t n new e none below

quiet : (p : Parts) (u : ℕ) (a : threads.Act) → threads.is_count_buffer a ≡ false → LentBelow p → (t : ℕ)
    → IsOpenedBelow t (next_buffer (record p { threads = threads.by u a ∷ p.threads }) t) p.buffers
quiet p u a is old t = subst (λ (n : ℕ). IsOpenedBelow t n p.buffers) (sym (ap (λ n. n + 1) (buffers_same p.threads u a is t))) (old t)

next_more : (p : Parts) (u : ℕ) → next_buffer (record p { threads = threads.by u threads.CountBuffer ∷ p.threads }) u ≡ next_buffer p u + 1
next_more p u = rw (did_more u threads.CountBuffer p.threads) refl

next_other : (p : Parts) (v u : ℕ) → v ≢ u → next_buffer (record p { threads = threads.by u threads.CountBuffer ∷ p.threads }) v ≡ next_buffer p v
next_other p v u differ = rw (did_same v u threads.CountBuffer p.threads differ) refl

lent_below : (p : Parts) (s : StatedSetup) (u : ℕ) (b : Buffer) → IsLent s p u b → LentBelow p
    → (t : ℕ) → IsOpenedBelow t (next_buffer (record p { threads = threads.by u threads.CountBuffer ∷ p.threads }) t) (Opened b ∷ p.buffers)
lent_below p s u b lent old t =
    each_thread (λ v. IsOpenedBelow v (next_buffer (record p { threads = threads.by u threads.CountBuffer ∷ p.threads }) v) (Opened b ∷ p.buffers)) u (
      (λ own. omega (arith, next_more p u, lent.number)),
      subst (λ (n : ℕ). IsOpenedBelow u n p.buffers) (sym (next_more p u))
          (below_more u (next_buffer p u) (next_buffer p u + 1) p.buffers (omega arith) (old u)),
    )
    (λ v differ. ((λ own. absurd (differ (sym own ∙ lent.maker))), subst (λ (n : ℕ). IsOpenedBelow v n p.buffers) (sym (next_other p v u differ)) (old v)))
    t

pub below_steps : (s : StatedSetup) → Steps s LentBelow
below_steps s = record {
  begins = λ p u is old. quiet p u threads.Attach refl old;
  begun = λ p u is old. quiet p u threads.Attach refl old;
  ends = λ p u old. quiet p u threads.Detach refl old;
  enters = λ p u on old. quiet p u threads.Enter refl old;
  leaves = λ p u on deep old. quiet p u threads.Leave refl old;
  deletes = λ p u n old. old;
  pushes = λ p u room old. old;
  widens = λ p u c old. old;
  pops = λ p u some old. old;
  to_globals = λ p e none old. old;
  to_buffers = λ p e none old t. none_below t (next_buffer p t) e p.buffers none (old t);
  to_monitors = λ p e old. old;
  to_heap = λ p e all old. old;
  to_links = λ p e old. old;
  hands = λ p u n o is old. quiet p u threads.CountRef refl old;
  hands_strong = λ p u n o is old. quiet p u threads.CountRef refl old;
  hands_weak = λ p u n o is old. quiet p u threads.CountRef refl old;
  lends = λ p u b lent old. lent_below p s u b lent old;
  raises = λ p u o old. quiet p u (threads.Raise o) refl old;
  calms = λ p u old. quiet p u threads.Calm refl old;
}

pub lent_below_next : (s : StatedSetup) (h : List Entry) → Legal s h → LentBelow (parts s h)
lent_below_next s h legal = each_legal LentBelow s (below_steps s) (λ t. tt) h legal

-- ---- objects

abbrev OpenedFits : ℕ → List heap.Event → Event → Type 0
OpenedFits k e (Opened b) = FitsObject k e b
OpenedFits k e (Wrote m i j v) = Unit {0}
OpenedFits k e (Closed m i) = Unit {0}
OpenedFits k e (ReleaseAll m) = Unit {0}

fits_made : (k : ℕ) (e : List heap.Event) (m : Making) (b : Buffer) → FitsObject k e b → FitsObject k (heap.Made m ∷ e) b
fits_made k e m b fits =
    let other : (b.object == heap.count_of k e) ≡ false = grind (arith, nat_tests, fits.0) in
    let same : heap.making_at k (heap.Made m ∷ e) b.object ≡ heap.making_at k e b.object = rw other refl in
    (omega (arith, fits.0), subst (λ (n : Making). FitsMaking b.family n b.length) (sym same) fits.1)

-- as what an object was made stays
fits_later : (k : ℕ) (new e : List heap.Event) (b : Buffer) → FitsObject k e b → FitsObject k (new ++ e) b
fits_later k [] e b fits = fits
fits_later k (heap.Made m ∷ new) e b fits = fits_made k (new ++ e) m b (fits_later k new e b fits)
fits_later k (heap.Wrote o j v ∷ new) e b fits = fits_later k new e b fits
fits_later k (heap.Collected roots ∷ new) e b fits = fits_later k new e b fits
fits_later k (heap.Went o ∷ new) e b fits = fits_later k new e b fits

all_later : (k : ℕ) (new e : List heap.Event) (bs : List Event) → AllByRecursion (OpenedFits k e) bs → AllByRecursion (OpenedFits k (new ++ e)) bs
all_later k new e [] all = tt
all_later k new e (Opened b ∷ bs) all = (fits_later k new e b all.0, all_later k new e bs all.1)
all_later k new e (Wrote m i j v ∷ bs) all = (tt, all_later k new e bs all.1)
all_later k new e (Closed m i ∷ bs) all = (tt, all_later k new e bs all.1)
all_later k new e (ReleaseAll m ∷ bs) all = (tt, all_later k new e bs all.1)

none_fits : (k : ℕ) (e : List heap.Event) (new bs : List Event) → opens_one new ≡ false → AllByRecursion (OpenedFits k e) bs
    → AllByRecursion (OpenedFits k e) (new ++ bs)
none_fits k e [] bs none all = all
none_fits k e (Opened b ∷ new) bs none all = absurd cc
none_fits k e (Wrote m i j v ∷ new) bs none all = (tt, none_fits k e new bs none all)
none_fits k e (Closed m i ∷ new) bs none all = (tt, none_fits k e new bs none all)
none_fits k e (ReleaseAll m ∷ new) bs none all = (tt, none_fits k e new bs none all)

abbrev AllFit : StatedSetup → Parts → Type 0
AllFit s p = AllByRecursion (OpenedFits (class_count s) p.heap) p.buffers

fit_steps : (s : StatedSetup) → Steps s (AllFit s)
fit_steps s = record {
  begins = λ p u is old. old;
  begun = λ p u is old. old;
  ends = λ p u old. old;
  enters = λ p u on old. old;
  leaves = λ p u on deep old. old;
  deletes = λ p u n old. old;
  pushes = λ p u room old. old;
  widens = λ p u c old. old;
  pops = λ p u some old. old;
  to_globals = λ p e none old. old;
  to_buffers = λ p e none old. none_fits (class_count s) p.heap e p.buffers none old;
  to_monitors = λ p e old. old;
  to_heap = λ p e stated old. all_later (class_count s) e p.heap p.buffers old;
  to_links = λ p e old. old;
  hands = λ p u n o is old. old;
  hands_strong = λ p u n o is old. old;
  hands_weak = λ p u n o is old. old;
  lends = λ p u b lent old. (lent.fits, old);
  raises = λ p u o old. old;
  calms = λ p u old. old;
}

all_fit : (s : StatedSetup) (h : List Entry) → Legal s h → AllFit s (parts s h)
all_fit s h legal = each_legal (AllFit s) s (fit_steps s) tt h legal

opened_if : (c : Bool) (k : ℕ) (e : List heap.Event) (b x : Buffer) (rest : Option Buffer) → FitsObject k e x
    → (rest ≡ Some b → FitsObject k e b) → (if c then Some x else rest) ≡ Some b → FitsObject k e b
opened_if true k e b x rest fits later is = subst (FitsObject k e) (same_Some x b is) fits
opened_if false k e b x rest fits later is = later is

closed_if : (c : Bool) (k : ℕ) (e : List heap.Event) (b : Buffer) (rest : Option Buffer) → (rest ≡ Some b → FitsObject k e b)
    → (if c then None else rest) ≡ Some b → FitsObject k e b
closed_if true k e b rest later is = absurd cc
closed_if false k e b rest later is = later is

opened_fits : (k : ℕ) (e : List heap.Event) (bs : List Event) (m n : ℕ) (b : Buffer) → AllByRecursion (OpenedFits k e) bs → opened bs m n ≡ Some b
    → FitsObject k e b
opened_fits k e [] m n b all is = absurd cc
opened_fits k e (Opened x ∷ bs) m n b all is =
    opened_if (is_same m n x.maker x.n) k e b x (opened bs m n) all.0 (λ rest. opened_fits k e bs m n b all.1 rest) is
opened_fits k e (Wrote q i j v ∷ bs) m n b all is = opened_fits k e bs m n b all.1 is
opened_fits k e (Closed q i ∷ bs) m n b all is = closed_if (is_same m n q i) k e b (opened bs m n) (λ rest. opened_fits k e bs m n b all.1 rest) is
opened_fits k e (ReleaseAll q ∷ bs) m n b all is = opened_fits k e bs m n b all.1 (still_lent (opened bs m n) (q == m) b is).0

pub buffers_fit : BuffersFit
buffers_fit s h maker n b legal is = opened_fits (class_count s) (parts s h).heap (parts s h).buffers maker n b (all_fit s h legal) is
