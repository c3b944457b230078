-- What a collection marks, and what goes.
use Rattle.std.proofs.Common.{ℕ, ◌≡◌, ◌+◌, ◌<◌, ◌≤◌, ◌∙◌, Bool, true, false, zero, suc, List, ◌∷◌, ◌++◌, map, Some, refl, ap, sym, subst, arith}
use Rattle.std.specs.Prelude.{◌==◌, ◌&&◌, ◌||◌, not, filter, slice_get, slice_index_or, if◌then◌else◌}
use Rattle.std.specs.List.{list_any, range_with_len}
use Rattle.std.specs.Option.{option_map}
use Rattle.std.proofs.lemmas.Bool.Decides.{nat_tests}
use Rattle.std.proofs.lemmas.Option.{get_or_from_slice_get}
use Rattle.jg_lists.specs.Marks.{Marks}
use Rattle.jg_policy.specs.Stated.{StatedSetup, class_count}
use Rattle.jg_table_globals.specs.History as globals
use Rattle.jg_table_globals.specs.Rows as global_rows
use Rattle.jg_table_globals.specs.Standing as global_standing
use Rattle.jg_table_heap.specs.Rows as heap_rows
use Rattle.jg_table_heap.specs.Standing as heap_standing
use Rattle.jg_guard.specs.Settled.{collected_on}
use Rattle.jg_table_heap.specs.History.{Event, Collected, count_of, gone_at, held_at, going as going_at}
use Rattle.jg_table_heap.specs.Standing.{MarksRoots, MarksHeld}
use Rattle.jg_table_heap.proofs.Callers.{roots_law, rows_law}
use Rattle.jg_table_heap.specs.Rows.{count_in}
use Rattle.jg_rules.specs.Parts.{Parts, TableRows, TablesStand}
use Rattle.jg_rules.specs.Holding.{is_root, roots, going}

-- ---- marks

-- where no object was marked and the roots marked theirs, the marks are those of the roots
pub roots_marked : (s : StatedSetup) (rows : TableRows) (p : Parts) (old new : List Bool) → TablesStand s rows p
    → ((o : ℕ) → o < count_in rows.heap → slice_get old o ≡ Some false)
    → Marks (is_root p) (slice_get old) (slice_get new) → MarksRoots rows.heap.classes (roots s p) p.heap new
roots_marked s rows p old new stand unset marks o made here =
    let told = rows_law rows.heap p.heap stand.heap.stands in
    let there : o < count_in rows.heap = subst (λ (k : ℕ). o < k) (sym told.count) made in
    let own : o < count_of (class_count s) p.heap = subst (λ (k : ℕ). o < count_of k p.heap) stand.heap.classes made in
    marks o ∙ (ap (option_map (λ mark. mark || is_root p o)) (unset o there) ∙ ap Some (sym (roots_law (is_root p) (count_of (class_count s) p.heap) o own)))

pub same_going : (s : StatedSetup) (rows : TableRows) (p : Parts) → TablesStand s rows p → going_at rows.heap.classes (roots s p) p.heap ≡ going s p
same_going s rows p stand = ap (λ (k : ℕ). going_at k (roots s p) p.heap) stand.heap.classes

-- ---- what goes

past_if : (b : Bool) (a o : ℕ) (rest : List ℕ) → (a == o) ≡ false → list_any (λ x. x == o) rest ≡ false
    → list_any (λ x. x == o) (if b then a ∷ rest else rest) ≡ false
past_if true a o rest apart none = rw (apart, none) refl
past_if false a o rest apart none = none

none_past : (f : ℕ → Bool) (n a o : ℕ) → a + n ≤ o → list_any (λ x. x == o) (filter f (range_with_len a n)) ≡ false
none_past f zero a o past = refl
none_past f (suc n) a o past =
    let apart : (a == o) ≡ false = grind (arith, nat_tests, past) in
    past_if (f a) a o (filter f (range_with_len (a + 1) n)) apart (none_past f n (a + 1) o (omega (arith, past)))

-- what wasn't made doesn't go
pub unmade_stays : (k : ℕ) (held : List ℕ) (e : List Event) (o : ℕ) → count_of k e ≤ o → false ≡ list_any (λ x. x == o) (going_at k held e)
unmade_stays k held e o past = sym (none_past (λ x. not (gone_at k e x) && not (held_at k held e x)) (count_of k e) 0 o (omega (arith, past)))

-- what is gone doesn't go once more
pub gone_stays : (k : ℕ) (held : List ℕ) (e : List Event) (o : ℕ) → o < count_of k e → gone_at k e o ≡ true → false ≡ list_any (λ x. x == o) (going_at k held e)
gone_stays k held e o made gone =
    let f : ℕ → Bool = λ x. not (gone_at k e x) && not (held_at k held e x) in
    let none : f o ≡ false = rw gone refl in
    sym none ∙ sym (roots_law f (count_of k e) o made)

-- of the others those go that aren't marked
pub unmarked_goes : (k : ℕ) (held : List ℕ) (e : List Event) (o : ℕ) (marks : List Bool) → o < count_of k e → gone_at k e o ≡ false → MarksHeld k held e marks
    → not (slice_index_or marks o false) ≡ list_any (λ x. x == o) (going_at k held e)
unmarked_goes k held e o marks made here are =
    let f : ℕ → Bool = λ x. not (gone_at k e x) && not (held_at k held e x) in
    let mark : slice_index_or marks o false ≡ held_at k held e o = get_or_from_slice_get marks o (held_at k held e o) false (are o made here) in
    let goes : f o ≡ not (held_at k held e o) = rw here refl in
    ap not mark ∙ (sym goes ∙ sym (roots_law f (count_of k e) o made))

-- ---- the tables after it

pub collected : (s : StatedSetup) (rows : TableRows) (p : Parts) (cleared : global_rows.Rows) (swept : heap_rows.Rows) → TablesStand s rows p
    → global_standing.Stands cleared (map (λ o. globals.Clear o) (going_at rows.heap.classes (roots s p) p.heap) ++ p.globals)
    → heap_standing.Stands swept (Collected (roots s p) ∷ p.heap) → swept.classes ≡ rows.heap.classes
    → TablesStand s (record rows { globals = cleared; heap = swept }) (collected_on s p)
collected s rows p cleared swept stand of_globals of_heap classes = record {
  threads = stand.threads;
  locals = stand.locals;
  globals = subst (λ (objects : List ℕ). global_standing.Stands cleared (map (λ o. globals.Clear o) objects ++ p.globals)) (same_going s rows p stand)
      of_globals;
  buffers = stand.buffers;
  monitors = stand.monitors;
  heap = record { stands = of_heap; classes = classes ∙ stand.heap.classes };
  links = stand.links;
}
