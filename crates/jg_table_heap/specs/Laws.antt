-- What the definitions over a history mean, in the words of the list.
use Rattle.std.specs.Prelude.{ℕ, ℤ, pos, Bool, [], length, slice_index_or, ◌+◌, ◌≤◌, ◌≡◌, ◌≢◌, ◌<◌, ◌⊎◌, ◌↔◌, false, ◌&&◌, ◌==◌, List, ◌∷◌, ◌++◌, Some, IsTrue}
use Rattle.std.specs.List.{Contains, AllByRecursion, list_any}
use Rattle.jg_words.specs.declared.object.ObjId.{ObjId}
use Rattle.jg_table_heap.specs.declared.object.Slot.{Slot}
use Rattle.jg_table_heap.specs.declared.object.Slot.TheVariants.{Number, Object as ToObject}
use Rattle.jg_table_heap.specs.Making.{Making, Plain, class_in, length_in, slots_in, slot_in}
use Rattle.jg_table_heap.specs.Rows.{Rows, count_in, class_at, gone_in, length_at}
use Rattle.jg_table_heap.specs.Standing.{Stands, held_objects}
use Rattle.jg_table_heap.specs.Spelling.{spelt, AreUnits, IsSpeltInItems}
use Rattle.jg_table_heap.specs.Reading.{decoded}
use Rattle.jg_table_heap.specs.History.{Event, Made, Wrote, Collected, Went, count_of, making_at, value_at, gone_at, held_at, going, points_at, region_writes}

-- some slot of an object that isn't gone holds it
abbrev pub StandsInASlot : ℕ → List Event → ℕ → Type 0
StandsInASlot k e o = (p : ℕ) × (j : ℕ) × (target : ObjId) × (p < count_of k e) × (j < slots_in (making_at k e p))
    × (gone_at k e p ≡ false) × (value_at k e p j ≡ ToObject (Some target)) × (target.0 ≡ o)

-- some slot of p holds o
abbrev pub HoldsInASlot : ℕ → List Event → ℕ → ℕ → Type 0
HoldsInASlot k e p o = (j : ℕ) × (target : ObjId) × (j < slots_in (making_at k e p))
    × (value_at k e p j ≡ ToObject (Some target)) × (target.0 ≡ o)

-- an object points at another exactly where some slot of it holds that one
-- (proofs/Laws.antt)
abbrev pub PointsMeans : Type 0
PointsMeans = (k : ℕ) (e : List Event) (p o : ℕ) → IsTrue (points_at k e p o) ↔ HoldsInASlot k e p o

-- an object is held exactly where it is a class object, a root holds it, or it stands in such a slot
-- (proofs/Laws.antt)
abbrev pub HeldMeans : Type 0
HeldMeans = (k : ℕ) (roots : List ℕ) (e : List Event) (o : ℕ)
    → IsTrue (held_at k roots e o) ↔ ((o < k) ⊎ (Contains roots o ⊎ StandsInASlot k e o))

-- some collection, of which this is the list before, found it made and not held
abbrev pub WasCollected : ℕ → List Event → ℕ → Type 0
WasCollected k e o = (later : List Event) × (roots : List ℕ) × (before : List Event)
    × (e ≡ later ++ Collected roots ∷ before) × (o < count_of k before) × (held_at k roots before o ≡ false)

-- a virtual machine let it go, and it was made before that and is no class object
abbrev pub WasLetGo : ℕ → List Event → ℕ → Type 0
WasLetGo k e o = (later : List Event) × (before : List Event) × (e ≡ later ++ Went o ∷ before)
    × (o < count_of k before) × (k ≤ o)

-- an object is gone exactly where either was so
-- (proofs/Laws.antt)
abbrev pub GoneMeans : Type 0
GoneMeans = (k : ℕ) (e : List Event) (o : ℕ) → IsTrue (gone_at k e o) ↔ (WasCollected k e o ⊎ WasLetGo k e o)

-- what is gone stays gone, whatever comes later
-- (proofs/Laws.antt)
abbrev pub StaysGone : Type 0
StaysGone = (k : ℕ) (later before : List Event) (o : ℕ) → IsTrue (gone_at k before o)
    → IsTrue (gone_at k (later ++ before) o)

-- class objects never go
-- (proofs/Laws.antt)
abbrev pub ClassesStay : Type 0
ClassesStay = (k : ℕ) (e : List Event) (o : ℕ) → o < k → gone_at k e o ≡ false

-- those that go at a collection are those that are gone after it and weren't before
-- (proofs/Laws.antt)
abbrev pub GoingMeans : Type 0
GoingMeans = (k : ℕ) (roots : List ℕ) (e : List Event) (o : ℕ)
    → Contains (going k roots e) o ↔ ((gone_at k e o ≡ false) × IsTrue (gone_at k (Collected roots ∷ e) o))

-- the event doesn't write this slot
abbrev pub Spares : ℕ → ℕ → Event → Type 0
Spares o j (Made m) = Unit {0}
Spares o j (Wrote p i v) = ((o == p) && (j == i)) ≡ false
Spares o j (Collected roots) = Unit {0}
Spares o j (Went p) = Unit {0}

-- a slot of an object that was made holds what the latest write wrote into it
-- (proofs/Laws.antt)
abbrev pub LatestWrite : Type 0
LatestWrite = (k : ℕ) (later before : List Event) (o j : ℕ) (v : Slot) → o < count_of k before
    → AllByRecursion (Spares o j) later → value_at k (later ++ Wrote o j v ∷ before) o j ≡ v

-- one that wasn't written since the making holds what it was made with
-- (proofs/Laws.antt)
abbrev pub FirstValue : Type 0
FirstValue = (k : ℕ) (later before : List Event) (m : Making) (j : ℕ)
    → AllByRecursion (Spares (count_of k before) j) later
    → value_at k (later ++ Made m ∷ before) (count_of k before) j ≡ slot_in m j

-- what the event writes into this slot, if it does, passes the test
abbrev WritesPassing : (Slot → Bool) → ℕ → ℕ → Event → Type 0
WritesPassing test o j (Made m) = Unit {0}
WritesPassing test o j (Wrote p i v) = IsTrue ((o == p) && (j == i)) → IsTrue (test v)
WritesPassing test o j (Collected roots) = Unit {0}
WritesPassing test o j (Went p) = Unit {0}

-- a slot holds what passes a test, as being a number, where its first value and all that was written into it do
-- (proofs/Laws.antt)
abbrev pub ValuePasses : Type 0
ValuePasses = (test : Slot → Bool) (k : ℕ) (e : List Event) (o j : ℕ) → IsTrue (test (slot_in (making_at k e o) j))
    → AllByRecursion (WritesPassing test o j) e → IsTrue (test (value_at k e o j))

-- the writing of numbers into the slots from j on writes the i-th into slot j + i
-- (proofs/Laws.antt)
abbrev pub RegionWritten : Type 0
RegionWritten = (k : ℕ) (e : List Event) (o j : ℕ) (values : List ℤ) (i : ℕ) → i < length values
    → value_at k (region_writes o j values ++ e) o (j + i) ≡ Number (slice_index_or values i (pos 0))

-- and no other slot
-- (proofs/Laws.antt)
abbrev pub RegionSpares : Type 0
RegionSpares = (k : ℕ) (e : List Event) (o j : ℕ) (values : List ℤ) (p i : ℕ)
    → (p ≢ o) ⊎ ((i < j) ⊎ (j + length values ≤ i))
    → value_at k (region_writes o j values ++ e) p i ≡ value_at k e p i

-- and makes and ends no object
pub record KeepsObjects (k : ℕ) (before after : List Event) : Type 0 where
  pub count : count_of k after ≡ count_of k before
  pub making : (o : ℕ) → making_at k after o ≡ making_at k before o
  pub gone : (o : ℕ) → gone_at k after o ≡ gone_at k before o

-- (proofs/Laws.antt)
abbrev pub RegionKeeps : Type 0
RegionKeeps = (k : ℕ) (e : List Event) (o j : ℕ) (values : List ℤ)
    → KeepsObjects k e (region_writes o j values ++ e)

-- as what an object was made: what its making says, whatever comes later
-- (proofs/Laws.antt)
abbrev pub MadeAs : Type 0
MadeAs = (k : ℕ) (later before : List Event) (m : Making)
    → making_at k (later ++ Made m ∷ before) (count_of k before) ≡ m

-- (proofs/Laws.antt)
abbrev pub MadeStays : Type 0
MadeStays = (k : ℕ) (later before : List Event) (o : ℕ) → o < count_of k before
    → making_at k (later ++ before) o ≡ making_at k before o

-- class objects are plain objects of class 1
-- (proofs/Laws.antt)
abbrev pub ClassesAre : Type 0
ClassesAre = (k : ℕ) (e : List Event) (o : ℕ) → o < k → making_at k e o ≡ Plain 1 []

-- the objects that a test holds are listed where it does
-- (proofs/Laws.antt)
abbrev pub RootsMean : Type 0
RootsMean = (is_held : ℕ → Bool) (n o : ℕ) → o < n → list_any (λ r. r == o) (held_objects is_held n) ≡ is_held o

-- no more go at a collection than there are
-- (proofs/Laws.antt)
abbrev pub GoingIsBounded : Type 0
GoingIsBounded = (k : ℕ) (roots : List ℕ) (e : List Event) → length (going k roots e) ≤ count_of k e

-- what rows that stand for a history say of it
pub record RowsTell (rows : Rows) (e : List Event) : Type 0 where
  pub count : count_in rows ≡ count_of rows.classes e
  pub class : (o : ℕ) → o < count_of rows.classes e → class_at rows o ≡ class_in (making_at rows.classes e o)
  pub len : (o : ℕ) → o < count_of rows.classes e → length_at rows o ≡ length_in (making_at rows.classes e o)
  pub gone : (o : ℕ) → o < count_of rows.classes e → gone_in rows o ≡ gone_at rows.classes e o

-- (proofs/Laws.antt)
abbrev pub RowsMean : Type 0
RowsMean = (rows : Rows) (e : List Event) → Stands rows e → RowsTell rows e

-- the definition that computes finds exactly the units that the items spell
-- (proofs/Decoding.antt)
abbrev pub DecodedMeans : Type 0
DecodedMeans = (items : List ℤ) (units : List ℕ) → (decoded items ≡ Some units) ↔ IsSpeltInItems units items

-- bytes spell one list of units alone
-- (proofs/Decoding.antt)
abbrev pub SpellingIsUnique : Type 0
SpellingIsUnique = (units others : List ℕ) → AreUnits units → AreUnits others → spelt units ≡ spelt others
    → units ≡ others
