-- What the events of a store tell of its objects, in more words than those of jg_table_heap. A list of events has the
-- newest first. A virtual machine's class objects are the numbers below k: they are there from the beginning and never
-- go.
use Rattle.std.specs.Prelude.{ℕ, Bool, not, ◌==◌, ◌&&◌, nat_lt, if◌then◌else◌, List, [], ◌∷◌, Option, Some, None}
use Rattle.std.specs.List.{list_any}
use Rattle.jg_words.specs.declared.object.ObjId.{ObjId}
use Rattle.jg_table_heap.specs.Making.{class_in, length_in}
use Rattle.jg_table_heap.specs.History.{Event, Went, making_at, is_there}

-- the object is there, and is no class object
abbrev pub is_told : ℕ → List Event → ℕ → Bool
is_told k e o = not (nat_lt o k) && is_there k e o

-- the class and the length of an object that is there and is no class object
unfoldable pub told : ℕ → List Event → ℕ → Option (ℕ × ℕ)
told k e o = if is_told k e o then Some (class_in (making_at k e o), length_in (making_at k e o)) else None

-- how many fields, units or items it has, where the object is there and is no class object
abbrev pub length_there : ℕ → List Event → ℕ → Option ℕ
length_there k e o = if is_told k e o then Some (length_in (making_at k e o)) else None

-- the list has the object of that number
abbrev pub is_listed : List ObjId → ℕ → Bool
is_listed objects o = list_any (λ x. x.0 == o) objects

-- the virtual machine let each object of the list go, the first of the list first
abbrev pub went : List ObjId → List Event → List Event
went [] e = e
went (o ∷ objects) e = went objects (Went o.0 ∷ e)
