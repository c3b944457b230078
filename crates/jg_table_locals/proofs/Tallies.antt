-- How many locals are live in all, from one call to the next.
use Rattle.std.proofs.Common.{◌≡◌, ℕ, ◌<◌, ◌≤◌, ◌+◌, ◌-◌, ◌*◌, ◌^◌, Bool, true, false, length, List, [], ◌∷◌, ◌++◌, Some, refl, ◌∙◌, ap, sym, subst, arith}
use Rattle.std.specs.Prelude.{if◌then◌else◌, IsPermutation, map, sum_by}
use Rattle.std.specs.Map.{lookup, set_value}
use Rattle.std.proofs.lemmas.List.{length-append, length-map}
use Rattle.std.proofs.lemmas.List.Elements.{All-from_recursion, recursion_from_All}
use Rattle.std.proofs.lemmas.List.Sorted.{All-permutation, sum_by_popped}
use Rattle.std.proofs.lemmas.List.Sums.{sum_by-cons}
use Rattle.jg_lists.specs.ByNumber.{seen}
use Rattle.jg_lists.specs.ByThread.{IsOnce}
use Rattle.jg_lists.specs.declared.by_number.Numbered.{Numbered}
use Rattle.jg_table_locals.specs.Seen.{StackRows, gather, locals_of, local_row, AreFew, Counts, Tallied}
use Rattle.jg_table_locals.proofs.Gathered.{rows_added}

-- ---- one stack written back

count_at : (test : ℕ → Bool) (e : ℕ × StackRows) (es : List (ℕ × StackRows)) (v w : StackRows) (b : Bool) → (if b then Some e.1 else lookup test es) ≡ Some v
    → (lookup test es ≡ Some v → length (gather locals_of (set_value test es w)) + length v.locals ≡ length (gather locals_of es) + length w.locals)
    → length (gather locals_of (if b then (e.0, w) ∷ es else e ∷ set_value test es w)) + length v.locals ≡ length (gather locals_of (e ∷ es)) + length w.locals
count_at test e es v w true is later =
    let one : e.1 ≡ v = cc in
    let own : length e.1.locals ≡ length v.locals = ap (λ (r : StackRows). length r.locals) one in
    omega (
      arith,
      own,
      length-append (locals_of e.0 w) (gather locals_of es),
      length-append (locals_of e.0 e.1) (gather locals_of es),
      length-map w.locals (local_row e.0),
      length-map e.1.locals (local_row e.0),
    )
count_at test e es v w false is later =
    let rest = later is in
    omega (arith, rest, length-append (locals_of e.0 e.1) (gather locals_of (set_value test es w)), length-append (locals_of e.0 e.1) (gather locals_of es))

count_set : (test : ℕ → Bool) (es : List (ℕ × StackRows)) (v w : StackRows) → lookup test es ≡ Some v
    → length (gather locals_of (set_value test es w)) + length v.locals ≡ length (gather locals_of es) + length w.locals
count_set test [] v w is = cc
count_set test (e ∷ es) v w is = count_at test e es v w (test e.0) is (count_set test es v w)

few_at : (test : ℕ → Bool) (e : ℕ × StackRows) (es : List (ℕ × StackRows)) (v w : StackRows) (b : Bool) → (if b then Some e.1 else lookup test es) ≡ Some v →
    (length v.locals < 2 ^ 63 → length w.locals < 2 ^ 63)
    → (lookup test es ≡ Some v → AreFew es → AreFew (set_value test es w)) → AreFew (e ∷ es) → AreFew (if b then (e.0, w) ∷ es else e ∷ set_value test es w)
few_at test e es v w true is fits later few =
    let one : e.1 ≡ v = cc in
    (fits (subst (λ (r : StackRows). length r.locals < 2 ^ 63) one few.0), few.1)
few_at test e es v w false is fits later few = (few.0, later is few.1)

few_set : (test : ℕ → Bool) (es : List (ℕ × StackRows)) (v w : StackRows) → lookup test es ≡ Some v → (length v.locals < 2 ^ 63 → length w.locals < 2 ^ 63)
    → AreFew es → AreFew (set_value test es w)
few_set test [] v w is fits few = few
few_set test (e ∷ es) v w is fits few = few_at test e es v w (test e.0) is fits (λ h. few_set test es v w h fits) few

-- so many locals were made in it, and so many of it ended
pub counts_written : (old new : List (ℕ × StackRows)) (test : ℕ → Bool) (v w : StackRows) (made ended : ℕ) → new ≡ set_value test old w
    → lookup test old ≡ Some v
    → length v.locals + made ≡ length w.locals + ended → (length v.locals < 2 ^ 63 → length w.locals < 2 ^ 63) → Counts made ended old new
counts_written old new test v w made ended written is own fits = record {
  all = omega (arith, own, count_set test old v w is, ap (λ (es : List (ℕ × StackRows)). length (gather locals_of es)) written);
  few = λ few. subst AreFew (sym written) (few_set test old v w is fits few);
}

-- so many of its locals ended
pub counts_ended : (old new : List (ℕ × StackRows)) (test : ℕ → Bool) (v w : StackRows) (ended : ℕ) → new ≡ set_value test old w → lookup test old ≡ Some v
    → length v.locals ≡ length w.locals + ended
    → Counts 0 ended old new
counts_ended old new test v w ended written is own = counts_written old new test v w 0 ended written is (omega (arith, own)) (λ fits. omega (arith, own, fits))

-- its locals are as they were
pub counts_same : (old new : List (ℕ × StackRows)) (test : ℕ → Bool) (v w : StackRows) → new ≡ set_value test old w → lookup test old ≡ Some v
    → w.locals ≡ v.locals → Counts 0 0 old new
counts_same old new test v w written is same = counts_ended old new test v w 0 written is (omega (arith, ap length same))

counts_none : (es : List (ℕ × StackRows)) → Counts 0 0 es es
counts_none es = record { all = omega arith; few = λ few. few }

few_added : (es : List (ℕ × StackRows)) (u : ℕ) (w : StackRows) → length w.locals < 2 ^ 63 → AreFew es → AreFew (es ++ (u, w) ∷ [])
few_added [] u w fits few = (fits, few)
few_added (e ∷ es) u w fits few = (few.0, few_added es u w fits few.1)

-- a stack without locals
pub counts_added : (old new : List (ℕ × StackRows)) (u : ℕ) (w : StackRows) → new ≡ old ++ (u, w) ∷ [] → w.locals ≡ [] → w.frames ≡ [] → Counts 0 0 old new
counts_added old new u w added locals frames = record {
  all = omega (arith, ap (λ r. length r.locals) (rows_added old new u w added locals frames));
  few = λ few. subst AreFew (sym added) (few_added old u w (omega (arith, ap length locals)) few);
}

-- ---- a stack taken away

count_sum : (es : List (ℕ × StackRows)) → length (gather locals_of es) ≡ sum_by (λ e. length e.1.locals) es
count_sum [] = refl
count_sum (e ∷ es) =
    let own = length-map e.1.locals (local_row e.0) in
    let both = length-append (locals_of e.0 e.1) (gather locals_of es) in
    let sums = sum_by-cons (λ (e : ℕ × StackRows). length e.1.locals) e es in
    omega (arith, own, both, sums, count_sum es)

-- its locals ended
pub counts_dropped : (old new : List (ℕ × StackRows)) (u : ℕ) (v : StackRows) (ended : ℕ) → IsPermutation old ((u, v) ∷ new) → ended ≡ length v.locals
    → Counts 0 ended old new
counts_dropped old new u v ended moved is = record {
  all = omega (arith, is, count_sum old, count_sum new, sum_by_popped (λ (e : ℕ × StackRows). length e.1.locals) (u, v) old new moved);
  few =
      λ few.
      (recursion_from_All (λ e. length e.1.locals < 2 ^ 63) ((u, v) ∷ new)
      (All-permutation (λ e. length e.1.locals < 2 ^ 63) old ((u, v) ∷ new) moved (All-from_recursion (λ e. length e.1.locals < 2 ^ 63) old few))).1;
}

-- ---- the count of all

pub tallied : (old new : List (ℕ × StackRows)) (live after made ended : ℕ) → Tallied old live → (IsOnce old → IsOnce new) → Counts made ended old new
    → live + made ≡ after + ended → Tallied new after
tallied old new live after made ended was once counts is = record {
  once = once was.once;
  all = omega (arith, was.all, counts.all, is);
  few = counts.few was.few;
}

-- no more end than there are
pub ended_within : (old new : List (ℕ × StackRows)) (live ended : ℕ) → Tallied old live → Counts 0 ended old new → ended ≤ live
ended_within old new live ended was counts = omega (arith, was.all, counts.all)

pub tallied_less : (old new : List (ℕ × StackRows)) (live ended : ℕ) → Tallied old live → (IsOnce old → IsOnce new) → Counts 0 ended old new
    → Tallied new (live - ended)
tallied_less old new live ended was once counts =
    tallied old new live (live - ended) 0 ended was once counts (omega (arith, ended_within old new live ended was counts))

few_many : (es : List (ℕ × StackRows)) → AreFew es → length (gather locals_of es) ≤ length es * 2 ^ 63
few_many [] few = omega arith
few_many (e ∷ es) few =
    let rest = few_many es few.1 in
    omega (arith, rest, few.0, length-append (locals_of e.0 e.1) (gather locals_of es), length-map e.1.locals (local_row e.0))

-- the stacks bound it
pub live_bound : (seats : List (Numbered StackRows)) (stacks : List (ℕ × StackRows)) (live : ℕ) → map seen seats ≡ stacks → length seats < 2 ^ 63
    → Tallied stacks live → live ≤ 2 ^ 126
live_bound seats stacks live are many was =
    let all : length stacks ≡ length seats = ap length (sym are) ∙ length-map seats seen in
    omega (arith, was.all, few_many stacks was.few, all, many)
