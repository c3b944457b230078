-- What the list of owned monitors has.
use Rattle.std.proofs.Common.{◌≡◌, ℕ, ◌<◌, ◌≤◌, take, List, [], ◌∷◌, length, refl, ◌∙◌, ap, sym, subst, arith}
use Rattle.std.specs.Prelude.{◌==◌, filter, map, IsPermutation, IsSortedByKey}
use Rattle.std.specs.Cmp.{unsigned_tied}
use Rattle.std.specs.List.{AllByRecursion, IsDistinct}
use Rattle.std.specs.List.Sorted.{IsNonDecreasing, IsStrictlySortedBy}
use Rattle.std.specs.Map.{keys_of}
use Rattle.std.specs.Ordering.{nat_cmp}
use Rattle.std.specs.declared.cmp.Ordering.TheVariants.{Less}
use Rattle.std.proofs.lemmas.Cmp.{ranked}
use Rattle.std.proofs.lemmas.List.{get_or-map, length-map, take_all}
use Rattle.std.proofs.lemmas.List.Elements.{All-from_recursion}
use Rattle.std.proofs.lemmas.List.Sorted.{IsPermutation-map, IsNonDecreasingBy-from_default, IsNonDecreasingBy-from_sort}
use Rattle.std.proofs.lemmas.Map.Keys.{sorted_head, sorted_tail, sorted_from_strictly_increasing, IsStrictlyIncreasing-from_distinct}
use Rattle.jg_lists.specs.ByThread.{IsOnce}
use Rattle.jg_lists.specs.declared.by_number.Numbered.{Numbered}
use Rattle.jg_lists.specs.ByNumber.{seen as pair}
use Rattle.jg_lists.proofs.Lists.{map-filter}
use Rattle.jg_lists.proofs.Values.{moved_at, moved_once}
use Rattle.jg_table_monitors.specs.declared.owned.Owned.{Owned}
use Rattle.jg_table_monitors.specs.declared.owned_monitor.OwnedMonitor.{OwnedMonitor}
use Rattle.jg_table_monitors.specs.Rows.{Ascends, is_of, owned_monitor}
use Rattle.jg_table_monitors.specs.Seen.{seen}
use Rattle.jg_table_monitors.proofs.Steps.{rows_at, filter_lookup}

-- the monitors of the entries
abbrev pub listed : List (ℕ × Owned) → List OwnedMonitor
listed es = map owned_monitor (map seen es)

-- with the monitors of all seats, those of all entries are listed
pub listed_all : (seats : List (Numbered Owned)) (es : List (ℕ × Owned)) (i : ℕ) (found : List OwnedMonitor)
    → length seats ≤ i → found ≡ listed (map pair (take i seats)) → map pair seats ≡ es → found ≡ listed es
listed_all seats es i found past so_far is = so_far ∙ ap (λ l. listed (map pair l)) (take_all i seats past) ∙ ap listed is

-- ---- in another order

abbrev pub object_of : OwnedMonitor → ℕ
object_of m = m.object.0

abbrev entry_of : OwnedMonitor → ℕ × Owned
entry_of m = (object_of m, record { tid = m.owner.0; count = m.count })

entries_back : (es : List (ℕ × Owned)) → map entry_of (listed es) ≡ es
entries_back [] = refl
entries_back (e ∷ es) = ap (λ l. e ∷ l) (entries_back es)

monitors_back : (ms : List OwnedMonitor) → listed (map entry_of ms) ≡ ms
monitors_back [] = refl
monitors_back (m ∷ ms) = ap (λ l. m ∷ l) (monitors_back ms)

above : (k : ℕ) (es : List (ℕ × Owned)) → AllByRecursion (λ y. nat_cmp k y ≡ Less) (keys_of es) → AllByRecursion (λ other. k < object_of other) (listed es)
above k [] later = tt
above k (e ∷ es) later = (ranked k e.0 Less (sym later.0), above k es later.1)

-- the keys' order is the objects'
ascends_law : (es : List (ℕ × Owned)) → IsStrictlySortedBy nat_cmp (keys_of es) → Ascends (listed es)
ascends_law [] sorted = tt
ascends_law (e ∷ es) sorted = (
  All-from_recursion (λ other. e.0 < object_of other) (listed es) (above e.0 es (sorted_head nat_cmp e.0 (keys_of es) sorted)),
  ascends_law es (sorted_tail nat_cmp e.0 (keys_of es) sorted),
)

keys_back : (ms : List OwnedMonitor) → keys_of (map entry_of ms) ≡ map object_of ms
keys_back [] = refl
keys_back (m ∷ ms) = ap (λ l. object_of m ∷ l) (keys_back ms)

abbrev nothing : OwnedMonitor
nothing = record { object = record { 0 = 0 }; owner = record { 0 = 0 }; count = 0 }

-- the objects of monitors that are sorted by them don't fall
objects_rise : (ms : List OwnedMonitor) → IsSortedByKey object_of nat_cmp ms → IsNonDecreasing (map object_of ms)
objects_rise ms sorted = IsNonDecreasingBy-from_default (λ n. n) (map object_of ms) 0 (λ i j le lt.
    let within : j < length ms = omega (arith, lt, length-map ms object_of) in
    let first = get_or-map object_of ms i nothing 0 (omega (arith, le, within)) in
    let second = get_or-map object_of ms j nothing 0 within in
    let rise = IsNonDecreasingBy-from_sort object_of ms sorted i j nothing le within in
    omega (arith, first, second, rise))

-- with the monitors of all entries found and then moved
module _ (es : List (ℕ × Owned)) (found ms : List OwnedMonitor) (distinct : IsOnce es) (all : found ≡ listed es) (moved : IsPermutation found ms) where
  all_found : map entry_of found ≡ es
  all_found = ap (map entry_of) all ∙ entries_back es

  moved_entries : IsPermutation es (map entry_of ms)
  moved_entries = subst (λ l. IsPermutation l (map entry_of ms)) all_found (IsPermutation-map entry_of found ms moved)

  distinct_still : IsOnce (map entry_of ms)
  distinct_still = moved_once es (map entry_of ms) distinct moved_entries

  -- each object has the monitor that it had
  pub listed_law : (o : ℕ) → filter (λ m. object_of m == o) ms ≡ map owned_monitor (filter (is_of o) (map seen es))
  listed_law o =
      let fs = map entry_of ms in
      ap (filter (λ m. object_of m == o)) (sym (monitors_back ms))
      ∙ sym (map-filter owned_monitor (is_of o) (λ m. object_of m == o) (λ row. refl) (map seen fs))
      ∙ ap (map owned_monitor) (filter_lookup o fs distinct_still
      ∙ ap (rows_at o) (moved_at es fs o distinct moved_entries)
      ∙ sym (filter_lookup o es distinct))

  -- sorted by object, they ascend
  pub sorted_law : IsSortedByKey object_of nat_cmp ms → Ascends ms
  sorted_law sorted =
      let rise = subst IsNonDecreasing (sym (keys_back ms)) (objects_rise ms sorted) in
      let keys = keys_of (map entry_of ms) in
      subst Ascends (monitors_back ms)
      (ascends_law (map entry_of ms)
      (sorted_from_strictly_increasing keys
      (IsStrictlyIncreasing-from_distinct keys rise
      (subst (λ e. IsDistinct e keys) (λ i x y. unsigned_tied x y i) distinct_still))))
