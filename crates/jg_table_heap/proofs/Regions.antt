-- The writing of numbers into slots that follow one another.
use Rattle.std.proofs.Common.{ℕ, ℤ, ◌≡◌, ◌+◌, ◌<◌, ◌≤◌, ◌∙◌, sym, ap, List, [], ◌∷◌, ◌++◌, length, map, take, drop, set, arith, append_assoc}
use Rattle.std.proofs.lemmas.List.{map-append, take-map, drop-map, append-nil, take-append-drop, take_more_set, drop-set-lt, set-set, set-get_or}
use Rattle.std.proofs.lemmas.List.{length-append, length-take-le, length-drop, length-map}
use Rattle.jg_table_heap.specs.declared.object.Slot.{Slot}
use Rattle.jg_table_heap.specs.declared.object.Slot.TheVariants.{Number}
use Rattle.jg_table_heap.specs.Rows.{Row, no_row}
use Rattle.jg_table_heap.specs.Kept.{with_slot, overwritten}
use Rattle.jg_table_heap.specs.History.{Event, Wrote, count_of, region_writes}
use Rattle.jg_table_heap.specs.Standing.{standing, row_at, slots_at}
use Rattle.jg_table_heap.proofs.Told.{row_in-standing, length-slots_at, slots-row_at}
use Rattle.jg_table_heap.proofs.Steps.{standing_wrote, row_wrote_here}

-- ---- lists

-- seen through a function
pub overwritten_map : {X Y : Type 0} (f : X → Y) (xs : List X) (j : ℕ) (vs : List X)
    → map f (overwritten xs j vs) ≡ overwritten (map f xs) j (map f vs)
overwritten_map f xs j vs = simp (map-append, take-map, drop-map, length-map)

-- nothing is written
overwritten_none : {X : Type 0} (xs : List X) (j : ℕ) → overwritten xs j [] ≡ xs
overwritten_none xs j =
    let same : j + 0 ≡ j = omega arith in
    ap (λ l. l ++ drop (j + 0) xs) (append-nil (take j xs)) ∙ ap (λ n. take j xs ++ drop n xs) same ∙ take-append-drop j xs

-- the first, and then those that follow
overwritten_more : {X : Type 0} (xs : List X) (j : ℕ) (v : X) (vs : List X) → j < length xs
    → overwritten (set xs j v) (j + 1) vs ≡ overwritten xs j (v ∷ vs)
overwritten_more xs j v vs within =
    let n : j + 1 + length vs ≡ j + length (v ∷ vs) = omega arith in
    ap (λ l. (l ++ vs) ++ drop (j + 1 + length vs) (set xs j v)) (take_more_set xs j v within)
    ∙ ap (λ l. ((take j xs ++ v ∷ []) ++ vs) ++ l) (drop-set-lt (j + 1 + length vs) xs j v (omega arith))
    ∙ ap (λ l. l ++ drop (j + 1 + length vs) xs) (append_assoc (take j xs) (v ∷ []) vs)
    ∙ ap (λ m. (take j xs ++ v ∷ vs) ++ drop m xs) n

pub length-overwritten : {X : Type 0} (xs : List X) (j : ℕ) (vs : List X) → j + length vs ≤ length xs
    → length (overwritten xs j vs) ≡ length xs
length-overwritten xs j vs within =
    omega (
      arith,
      length-append (take j xs ++ vs) (drop (j + length vs) xs),
      length-append (take j xs) vs,
      length-take-le j xs (omega arith),
      length-drop
          (j + length vs) xs,
    )

-- ---- rows

-- the row with these slots written
abbrev pub with_region : Row → ℕ → List Slot → Row
with_region row j vs = record row { slots = overwritten row.slots j vs }

region_none : (row : Row) (j : ℕ) → with_region row j [] ≡ row
region_none row j = ap (λ (s : List Slot). record row { slots = s }) (overwritten_none row.slots j)

region_more : (row : Row) (j : ℕ) (v : Slot) (vs : List Slot) → j < length row.slots → with_region (with_slot row j v) (j + 1) vs ≡ with_region row j (v ∷ vs)
region_more row j v vs within = ap (λ (s : List Slot). record row { slots = s }) (overwritten_more row.slots j v vs within)

-- one row with these slots written
pub standing_region : (k : ℕ) (e : List Event) (o j : ℕ) (vs : List ℤ) → o < count_of k e → j + length vs ≤ length (slots_at k e o)
    → standing k (region_writes o j vs ++ e) ≡ set (standing k e) o (with_region (row_at k e o) j (map Number vs))
standing_region k e o j [] made within =
    sym (ap (set (standing k e) o) (region_none (row_at k e o) j ∙ sym (row_in-standing k e o made)) ∙ set-get_or (standing k e) o no_row)
standing_region k e o j (v ∷ vs) made within =
    let after : List Event = Wrote o j (Number v) ∷ e in
    let slots : length (slots_at k after o) ≡ length (slots_at k e o) = length-slots_at k after o ∙ sym (length-slots_at k e o) in
    let here : j < length (slots_at k e o) = omega arith in
    let here_too : j < length (row_at k e o).slots = omega (arith, ap length (slots-row_at k e o)) in
    let rest : List Slot = map Number vs in
    ap (standing k) (append_assoc (region_writes o (j + 1) vs) (Wrote o j (Number v) ∷ []) e)
    ∙ standing_region k after o (j + 1) vs made (omega arith)
    ∙ ap (λ (rs : List Row). set rs o (with_region (row_at k after o) (j + 1) rest)) (standing_wrote k e o j (Number v) made here)
    ∙ set-set (standing k e) o (with_slot (row_at k e o) j (Number v)) (with_region (row_at k after o) (j + 1) rest)
    ∙ ap (set (standing k e) o) (ap (λ (r : Row). with_region r (j + 1) rest) (row_wrote_here k e o j (Number v) here)
    ∙ region_more (row_at k e o) j (Number v) rest here_too)

pub ruleset regions = (overwritten_map)
