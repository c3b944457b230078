-- The object store as its history tells it, by looking back. A history has the newest event first.
use Rattle.std.specs.Prelude.{ℕ, ℤ, pos, ◌+◌, ◌-◌, ◌==◌, Bool, false, not, ◌&&◌, ◌||◌, List, [], ◌∷◌, ◌++◌, nat_lt, if◌then◌else◌, Some, None, filter}
use Rattle.std.specs.List.{list_any, range_with_len}
use Rattle.jg_table_heap.specs.declared.object.Slot.{Slot}
use Rattle.jg_table_heap.specs.declared.object.Slot.TheVariants.{Number, Object}
use Rattle.jg_table_heap.specs.Making.{Making, Plain, Text, Filled, Opaque, class_in, slots_in, slot_in}

pub data Event : Type 0 where
  -- an object was made, with the next number
  Made : Making → Event
  -- a value was written into a slot of an object
  Wrote : (object : ℕ) → (slot : ℕ) → (value : Slot) → Event
  -- what wasn't held went; with the objects that something outside the store held, ascending
  Collected : (roots : List ℕ) → Event
  -- a virtual machine said that it let an object go
  Went : (object : ℕ) → Event

-- how many objects there are: k class objects, and one for each making
abbrev pub count_of : ℕ → List Event → ℕ
count_of k [] = k
count_of k (Made m ∷ e) = count_of k e + 1
count_of k (Wrote o j v ∷ e) = count_of k e
count_of k (Collected roots ∷ e) = count_of k e
count_of k (Went p ∷ e) = count_of k e

-- as what an object was made; class objects are plain objects of class 1, java/lang/Class
abbrev pub making_at : ℕ → List Event → ℕ → Making
making_at k [] o = Plain 1 []
making_at k (Made m ∷ e) o = if o == count_of k e then m else making_at k e o
making_at k (Wrote p j v ∷ e) o = making_at k e o
making_at k (Collected roots ∷ e) o = making_at k e o
making_at k (Went p ∷ e) o = making_at k e o

-- the value of a slot: what the latest write wrote into it, or what it was made with
abbrev pub value_at : ℕ → List Event → ℕ → ℕ → Slot
value_at k [] o j = Number (pos 0)
value_at k (Made m ∷ e) o j = if o == count_of k e then slot_in m j else value_at k e o j
value_at k (Wrote p i v ∷ e) o j = if (o == p) && (j == i) then v else value_at k e o j
value_at k (Collected roots ∷ e) o j = value_at k e o j
value_at k (Went p ∷ e) o j = value_at k e o j

-- the writing of numbers into the slots from one on, one event each, in the order of the slots
abbrev pub region_writes : ℕ → ℕ → List ℤ → List Event
region_writes o j [] = []
region_writes o j (v ∷ vs) = region_writes o (j + 1) vs ++ Wrote o j (Number v) ∷ []

-- the value names o
abbrev pub holds : ℕ → Slot → Bool
holds o (Number v) = false
holds o (Object None) = false
holds o (Object (Some p)) = p.0 == o

-- some slot holds o at the making
abbrev pub made_with : ℕ → Making → Bool
made_with o (Plain class fields) = list_any (holds o) fields
made_with o (Text units) = false
made_with o (Filled class n item) = holds o item
made_with o (Opaque class n) = false

-- the event wrote a slot of p, and that slot holds o now
abbrev pub wrote_for : ℕ → List Event → ℕ → ℕ → Event → Bool
wrote_for k e p o (Made m) = false
wrote_for k e p o (Wrote q j v) = (q == p) && (nat_lt j (slots_in (making_at k e p)) && holds o (value_at k e p j))
wrote_for k e p o (Collected roots) = false
wrote_for k e p o (Went q) = false

-- some slot of p holds o now, asked slot by slot
abbrev pub some_slot : ℕ → List Event → ℕ → ℕ → Bool
some_slot k e p o = list_any (λ j. holds o (value_at k e p j)) (range_with_len 0 (slots_in (making_at k e p)))

-- some slot of p holds o now: where none did at the making, only a slot that was written can
abbrev pub points_at : ℕ → List Event → ℕ → ℕ → Bool
points_at k e p o = if made_with o (making_at k e p) then some_slot k e p o else list_any (wrote_for k e p o) e

-- what keeps an object: it is a class object, the roots hold it, or it stands in a slot of an object that isn't gone
-- (JNI Specification, chapter 2, "Global and Local References"). One link at a time: a slot of an object that is about
-- to go still holds (a virtual machine may collect a whole chain at once)
abbrev pub held_by : (ℕ → Bool) → ℕ → List ℕ → List Event → ℕ → Bool
held_by gone k roots e o = (nat_lt o k || list_any (λ r. r == o) roots)
    || list_any (λ p. not (gone p) && points_at k e p o) (range_with_len 0 (count_of k e))

-- an object is gone where it was made before some collection that found it not held, or before a virtual machine let it
-- go; class objects never go
abbrev pub gone_at : ℕ → List Event → ℕ → Bool
gone_at k [] o = false
gone_at k (Made m ∷ e) o = gone_at k e o
gone_at k (Wrote p j v ∷ e) o = gone_at k e o
gone_at k (Collected roots ∷ e) o = gone_at k e o
    || (nat_lt o (count_of k e) && not (held_by (gone_at k e) k roots e o))
gone_at k (Went p ∷ e) o = gone_at k e o || ((o == p) && (nat_lt o (count_of k e) && not (nat_lt o k)))

-- an object is held where something keeps it now
abbrev pub held_at : ℕ → List ℕ → List Event → ℕ → Bool
held_at k roots e o = held_by (gone_at k e) k roots e o

-- the objects that go at a collection now, ascending
abbrev pub going : ℕ → List ℕ → List Event → List ℕ
going k roots e = filter (λ o. not (gone_at k e o) && not (held_at k roots e o)) (range_with_len 0 (count_of k e))

-- the objects in being, but for the class objects, ascending
abbrev pub others_in_being : ℕ → List Event → List ℕ
others_in_being k e = filter (λ o. not (gone_at k e o)) (range_with_len k (count_of k e - k))

-- the object was made and isn't gone
abbrev pub is_there : ℕ → List Event → ℕ → Bool
is_there k e o = nat_lt o (count_of k e) && not (gone_at k e o)

-- the class of an object that is there; any other counts as a class object, which is of class 1, java/lang/Class
abbrev pub class_there : ℕ → List Event → ℕ → ℕ
class_there k e o = if is_there k e o then class_in (making_at k e o) else 1
