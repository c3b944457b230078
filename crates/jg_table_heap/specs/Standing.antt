-- When rows stand for a history.
use Rattle.std.specs.Prelude.{ℕ, ◌≡◌, ◌<◌, ◌==◌, Bool, false, not, List, Some, map, filter, slice_get, slice_index_or}
use Rattle.std.specs.List.{list_any, range_with_len}
use Rattle.jg_table_heap.specs.declared.object.Slot.{Slot}
use Rattle.jg_table_heap.specs.Making.{class_in, units_in, slots_in}
use Rattle.jg_table_heap.specs.Rows.{Row, Rows}
use Rattle.jg_table_heap.specs.Kept.{live_in}
use Rattle.jg_table_heap.specs.History.{Event, count_of, making_at, value_at, gone_at, held_at}

-- what the slots of an object hold
unfoldable pub slots_at : ℕ → List Event → ℕ → List Slot
slots_at k e o = map (value_at k e o) (range_with_len 0 (slots_in (making_at k e o)))

-- the row of an object
unfoldable pub row_at : ℕ → List Event → ℕ → Row
row_at k e o = record {
  class = class_in (making_at k e o);
  units = units_in (making_at k e o);
  slots = slots_at k e o;
  gone = gone_at k e o;
}

-- the rows of all objects
unfoldable pub standing : ℕ → List Event → List Row
standing k e = map (row_at k e) (range_with_len 0 (count_of k e))

-- the rows are exactly those of the objects that the history tells of
abbrev pub Stands : Rows → List Event → Type 0
Stands rows e = rows.objects ≡ standing rows.classes e

-- those of the first n objects that are held by this test, ascending
abbrev pub held_objects : (ℕ → Bool) → ℕ → List ℕ
held_objects is_held n = filter is_held (range_with_len 0 n)

-- the mark of each object that isn't gone says whether it is one of the roots
abbrev pub MarksRoots : ℕ → List ℕ → List Event → List Bool → Type 0
MarksRoots k roots e marks = (o : ℕ) → o < count_of k e → gone_at k e o ≡ false
    → slice_get marks o ≡ Some (list_any (λ r. r == o) roots)

-- the mark of each object that isn't gone says whether something keeps it
abbrev pub MarksHeld : ℕ → List ℕ → List Event → List Bool → Type 0
MarksHeld k roots e marks = (o : ℕ) → o < count_of k e → gone_at k e o ≡ false
    → slice_get marks o ≡ Some (held_at k roots e o)

-- the list is that of the objects in being whose marks aren't set, ascending
abbrev pub AreListed : Rows → List Bool → List ℕ → Type 0
AreListed rows marks unmarked = unmarked ≡ filter (λ o. not (slice_index_or marks o false)) (live_in rows.objects)
