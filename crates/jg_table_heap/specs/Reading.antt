-- The units that items spell in modified UTF-8, as a definition that computes. It looks for the unit whose spelling
-- stands at the front, among those that the first three items may spell, and goes on behind it.
use Rattle.std.specs.Prelude.{ℕ, ℤ, pos, negsuc, ◌+◌, ◌-◌, ◌*◌, zero, suc, Bool, ◌&&◌, nat_lt, List, [], ◌∷◌, length, map, take, drop, find, slice_index_or, Option, Some, None}
use Rattle.std.specs.Option.{option_map}
use Rattle.std.specs.Ordering.{int_eq}
use Rattle.std.specs.Cmp.Lexicographic.{pointwise}
use Rattle.jg_table_heap.specs.Spelling.{spelling}

-- the number, 0 below 0
abbrev pub natural : ℤ → ℕ
natural (pos n) = n
natural (negsuc n) = 0

-- the item at an index, 0 past the end
abbrev item_at : List ℤ → ℕ → ℕ
item_at items i = natural (slice_index_or items i (pos 0))

-- what one byte, two and three may spell
abbrev pub candidates : List ℤ → List ℕ
candidates items =
    item_at items 0
    ∷ ((item_at items 0 - 192) * 64 + (item_at items 1 - 128))
    ∷ ((item_at items 0 - 224) * 4096 + (item_at items 1 - 128) * 64 + (item_at items 2 - 128))
    ∷ []

-- it has 16 bits, and its spelling stands at the front
abbrev pub stands_first : List ℤ → ℕ → Bool
stands_first items u = nat_lt u 65536 && pointwise int_eq (take (length (spelling u)) items) (map pos (spelling u))

-- the unit at the front
abbrev pub first_unit : List ℤ → Option ℕ
first_unit items = find (stands_first items) (candidates items)

-- a unit before those that are read behind it
abbrev pub before : Option ℕ → (ℕ → Option (List ℕ)) → Option (List ℕ)
before None rest = None
before (Some u) rest = option_map (λ units. u ∷ units) (rest u)

-- read on at most so many times
abbrev pub decoded_by : List ℤ → ℕ → Option (List ℕ)
decoded_by [] n = Some []
decoded_by (x ∷ items) zero = None
decoded_by (x ∷ items) (suc n) = before (first_unit (x ∷ items))
    (λ u. decoded_by (drop (length (spelling u)) (x ∷ items)) n)

-- the units that the items spell, if they spell any
abbrev pub decoded : List ℤ → Option (List ℕ)
decoded items = decoded_by items (length items)
