-- What the definitions mean.
use Rattle.std.specs.Prelude.{true, Some, ◌↔◌, ◌≤◌, ℕ, ◌≡◌, not, ◌&&◌, ◌||◌, nat_lt, List}
use Rattle.jg_words.specs.declared.object.ObjId.{ObjId}
use Rattle.jg_table_heap.specs.History.{Event, count_of, making_at, is_there}
use Rattle.jg_table_heap.specs.Making.{class_in, length_in}
use Rattle.jg_table_objects.specs.Rows.{Rows, IsButMarks}
use Rattle.jg_table_objects.specs.Standing.{Stands}
use Rattle.jg_table_objects.specs.History.{told, is_listed, went}

-- the object is there and no class object, of this class and length
pub record IsToldAs (k : ℕ) (e : List Event) (o class len : ℕ) : Type 0 where
  pub other : k ≤ o
  pub there : is_there k e o ≡ true
  pub of_class : class_in (making_at k e o) ≡ class
  pub of_length : length_in (making_at k e o) ≡ len

-- an object's class and length are told where it is there and no class object
-- (proofs/Told.antt)
abbrev pub ToldMeans : Type 0
ToldMeans = (k : ℕ) (e : List Event) (o class len : ℕ)
    → (told k e o ≡ Some (class, len)) ↔ IsToldAs k e o class len

-- what is there once the objects of a list went: of what was there the class objects, and what the list hasn't
pub record WentWith (k : ℕ) (objects : List ObjId) (e : List Event) : Type 0 where
  pub count : count_of k (went objects e) ≡ count_of k e
  pub making : (o : ℕ) → making_at k (went objects e) o ≡ making_at k e o
  pub there : (o : ℕ) → is_there k (went objects e) o ≡ (is_there k e o && (nat_lt o k || not (is_listed objects o)))

-- (proofs/Told.antt)
abbrev pub WentMeans : Type 0
WentMeans = (k : ℕ) (objects : List ObjId) (e : List Event) → WentWith k objects e

-- rows that tell of the same stand for the same events
-- (proofs/Steps.antt)
abbrev pub MarksKeep : Type 0
MarksKeep = (old new : Rows) (e : List Event) → IsButMarks old new → Stands old e → Stands new e
