-- A buffer that was released is never opened again.
use Rattle.std.proofs.Common.{◌≡◌, ◌+◌, ◌<◌, ◌≤◌, ◌++◌, ◌∙◌, ℕ, Bool, true, false, List, [], ◌∷◌, Option, Some, None, refl, ap, sym, subst, arith}
use Rattle.std.specs.Prelude.{◌==◌, if◌then◌else◌}
use Rattle.std.proofs.lemmas.Bool.Decides.{nat_tests}
use Rattle.jg_words.specs.Entry.{Entry}
use Rattle.jg_policy.specs.Stated.{StatedSetup}
use Rattle.jg_table_threads.specs.History as threads
use Rattle.jg_table_locals.proofs.Callers.{each_thread}
use Rattle.jg_table_buffers.specs.History.{Buffer, Event, Opened, Wrote, Closed, ReleaseAll, copied_only, opened, is_same}
use Rattle.jg_table_buffers.specs.Laws.{IsOpenedBelow}
use Rattle.jg_table_buffers.proofs.Callers.{still_lent}
use Rattle.jg_rules.specs.Parts.{Parts}
use Rattle.jg_rules.specs.Names.{next_buffer}
use Rattle.jg_rules.specs.Effects.{parts}
use Rattle.jg_rules.specs.Legal.{Legal}
use Rattle.jg_laws.specs.Proper.{opens_one}
use Rattle.jg_laws.proofs.Acts.{did_more, did_same, buffers_same}
use Rattle.jg_laws.proofs.Fresh.{Legal-before}
use Rattle.jg_laws.proofs.Lending.{lent_below_next}
use Rattle.jg_laws.proofs.Lent.{IsLent}
use Rattle.jg_laws.proofs.Steps.{Steps, each_since}

-- what is open was given a number below its thread's next
pub below_by : (m n k : ℕ) (e : List Event) (b : Buffer) → IsOpenedBelow m k e → opened e m n ≡ Some b → n < k
below_by m n k [] b below is = absurd cc
below_by m n k (Opened c ∷ e) b below is = by (below_by m n k e b below.1) (is_same m n c.maker c.n) refl is
  where
    by : (opened e m n ≡ Some b → n < k) → (t : Bool) → is_same m n c.maker c.n ≡ t → (if t then Some c else opened e m n) ≡ Some b → n < k
    by older true same is = let theirs = below.0 (grind (arith, nat_tests, same)) in grind (arith, nat_tests, same, theirs)
    by older false other is = older is
below_by m n k (Wrote j i p v ∷ e) b below is = below_by m n k e b below is
below_by m n k (Closed j i ∷ e) b below is = by (below_by m n k e b below) (is_same m n j i) is
  where
    by : (opened e m n ≡ Some b → n < k) → (t : Bool) → (if t then None else opened e m n) ≡ Some b → n < k
    by older true is = absurd cc
    by older false is = older is
below_by m n k (ReleaseAll j ∷ e) b below is = below_by m n k e b below (still_lent (opened e m n) (j == m) b is).0

module _ (m n : ℕ) where
  -- its number was given
  abbrev pub IsGiven : Parts → Type 0
  IsGiven p = n < next_buffer p m

  -- and it is open no more
  abbrev IsOver : Parts → Type 0
  IsOver p = (opened p.buffers m n ≡ None) × IsGiven p

  given_quiet : (p : Parts) (u : ℕ) (a : threads.Act) → threads.is_count_buffer a ≡ false → IsGiven p
      → IsGiven (record p { threads = threads.by u a ∷ p.threads })
  given_quiet p u a is old = subst (λ (k : ℕ). n < k) (sym (ap (λ k. k + 1) (buffers_same p.threads u a is m))) old

  given_more : (p : Parts) (u : ℕ) → IsGiven p → IsGiven (record p { threads = threads.by u threads.CountBuffer ∷ p.threads })
  given_more p u old =
      let now : ℕ → ℕ = next_buffer (record p { threads = threads.by u threads.CountBuffer ∷ p.threads }) in
      let more : now u ≡ next_buffer p u + 1 = rw (did_more u threads.CountBuffer p.threads) refl in
      let rises : next_buffer p m ≤ now m =
      each_thread (λ v. next_buffer p v ≤ now v) u (omega (arith, more))
      (λ v differ. let same : now v ≡ next_buffer p v = rw (did_same v u threads.CountBuffer p.threads differ) refl in omega (arith, same)) m in
      omega (arith, old, rises)

  pub given_steps : (s : StatedSetup) → Steps s IsGiven
  given_steps s = record {
    begins = λ p u is old. given_quiet p u threads.Attach refl old;
    begun = λ p u is old. given_quiet p u threads.Attach refl old;
    ends = λ p u old. given_quiet p u threads.Detach refl old;
    enters = λ p u on old. given_quiet p u threads.Enter refl old;
    leaves = λ p u on deep old. given_quiet p u threads.Leave refl old;
    deletes = λ p u i old. old;
    pushes = λ p u room old. old;
    widens = λ p u c old. old;
    pops = λ p u some old. old;
    to_globals = λ p e none old. old;
    to_buffers = λ p e none old. old;
    to_monitors = λ p e old. old;
    to_heap = λ p e all old. old;
    to_links = λ p e old. old;
    hands = λ p u i o is old. given_quiet p u threads.CountRef refl old;
    hands_strong = λ p u i o is old. given_quiet p u threads.CountRef refl old;
    hands_weak = λ p u i o is old. given_quiet p u threads.CountRef refl old;
    lends = λ p u b lent old. given_more p u old;
    raises = λ p u o old. given_quiet p u (threads.Raise o) refl old;
    calms = λ p u old. given_quiet p u threads.Calm refl old;
  }

  pub closed_still : (e old : List Event) → opens_one e ≡ false → opened old m n ≡ None → opened (e ++ old) m n ≡ None
  closed_still [] old none is = is
  closed_still (Opened b ∷ e) old none is = absurd cc
  closed_still (Wrote k i j v ∷ e) old none is = closed_still e old none is
  closed_still (Closed k i ∷ e) old none is = by (closed_still e old none is) (is_same m n k i)
    where
      by : opened (e ++ old) m n ≡ None → (t : Bool) → (if t then None else opened (e ++ old) m n) ≡ None
      by older true = refl
      by older false = older
  closed_still (ReleaseAll k ∷ e) old none is = by (k == m) (opened (e ++ old) m n) (closed_still e old none is)
    where
      by : (t : Bool) (found : Option Buffer) → found ≡ None → (if t then copied_only found else found) ≡ None
      by true found none = rw none refl
      by false found none = none

  another_lent : (s : StatedSetup) (p : Parts) (u : ℕ) (b : Buffer) → IsLent s p u b → IsOver p → opened (Opened b ∷ p.buffers) m n ≡ None
  another_lent s p u b lent old = by (is_same m n b.maker b.n) refl
    where
      by : (t : Bool) → is_same m n b.maker b.n ≡ t → (if t then Some b else opened p.buffers m n) ≡ None
      by false other = old.0
      by true same =
          let maker : u ≡ m = sym lent.maker ∙ grind (arith, nat_tests, same) in
          let number : b.n ≡ n = grind (arith, nat_tests, same) in
          let next : next_buffer p u ≡ next_buffer p m = ap (next_buffer p) maker in
          absurd (omega (arith, lent.number, number, next, old.1))

  over_steps : (s : StatedSetup) → Steps s IsOver
  over_steps s = record {
    begins = λ p u is old. (old.0, given_quiet p u threads.Attach refl old.1);
    begun = λ p u is old. (old.0, given_quiet p u threads.Attach refl old.1);
    ends = λ p u old. (old.0, given_quiet p u threads.Detach refl old.1);
    enters = λ p u on old. (old.0, given_quiet p u threads.Enter refl old.1);
    leaves = λ p u on deep old. (old.0, given_quiet p u threads.Leave refl old.1);
    deletes = λ p u i old. old;
    pushes = λ p u room old. old;
    widens = λ p u c old. old;
    pops = λ p u some old. old;
    to_globals = λ p e none old. old;
    to_buffers = λ p e none old. (closed_still e p.buffers none old.0, old.1);
    to_monitors = λ p e old. old;
    to_heap = λ p e all old. old;
    to_links = λ p e old. old;
    hands = λ p u i o is old. (old.0, given_quiet p u threads.CountRef refl old.1);
    hands_strong = λ p u i o is old. (old.0, given_quiet p u threads.CountRef refl old.1);
    hands_weak = λ p u i o is old. (old.0, given_quiet p u threads.CountRef refl old.1);
    lends = λ p u b lent old. (another_lent s p u b lent old, given_more p u old.1);
    raises = λ p u o old. (old.0, given_quiet p u (threads.Raise o) refl old.1);
    calms = λ p u old. (old.0, given_quiet p u threads.Calm refl old.1);
  }

-- from the oldest part on: it was open, and then not; then it is never open again
pub closes_once : (s : StatedSetup) (newest later first : List Entry) (m n : ℕ) (b : Buffer) → Legal s (newest ++ (later ++ first))
    → opened (parts s first).buffers m n ≡ Some b
    → opened (parts s (later ++ first)).buffers m n ≡ None → opened (parts s (newest ++ (later ++ first))).buffers m n ≡ None
closes_once s newest later first m n b legal some none =
    let until = Legal-before s newest (later ++ first) legal in
    let own = Legal-before s later first until in
    let given = below_by m n (next_buffer (parts s first) m) (parts s first).buffers b (lent_below_next s first own m) some in
    let later_given = each_since (IsGiven m n) s (given_steps m n s) later first until given in
    (each_since (IsOver m n) s (over_steps m n s) newest (later ++ first) legal (none, later_given)).0
