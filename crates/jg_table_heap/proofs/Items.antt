-- The items of an array, seen as slots.
use Rattle.std.proofs.Common.{ℕ, ℤ, zero, suc, ◌≡◌, ◌<◌, sym, refl, List, [], ◌∷◌, length, map, arith, false, Option}
use Rattle.std.proofs.lemmas.Bool.{false≢true}
use Rattle.std.proofs.lemmas.List.{map-set}
use Rattle.std.specs.List.{list_any}
use Rattle.jg_words.specs.declared.object.ObjId.{ObjId}
use Rattle.jg_words.proofs.Common.{list_any-map}
use Rattle.jg_table_heap.specs.declared.object.Slot.TheVariants.{Number, Object as ToObject}
use Rattle.jg_table_heap.specs.declared.body.Body.{Body}
use Rattle.jg_table_heap.specs.declared.body.Body.TheVariants.{Class, Fields, Units, Numbers, References}
use Rattle.jg_table_heap.specs.History.{holds}
use Rattle.jg_table_heap.specs.Kept.{Object, row_of, slots_of_body, body_may_point, may_point_at, slot_of_row_holds}

-- a number names no object
pub numbers_hold : (o : ℕ) (items : List ℤ) → list_any (holds o) (map Number items) ≡ false
numbers_hold o [] = refl
numbers_hold o (n ∷ items) = numbers_hold o items

pub references_hold : (o : ℕ) (items : List (Option ObjId)) → list_any (holds o) (map ToObject items) ≡ list_any (λ target. holds o (ToObject target)) items
references_hold o items = list_any-map ToObject (holds o) items

-- what may not point at objects holds none
holds_none : {A : Type 0} (o : ℕ) (body : Body A) → body_may_point body ≡ false → list_any (holds o) (slots_of_body body) ≡ false
holds_none o Class h = refl
holds_none o (Fields instance) h = absurd (false≢true (sym h))
holds_none o (Units text) h = refl
holds_none o (Numbers element items) h = numbers_hold o items.items
holds_none o (References items) h = absurd (false≢true (sym h))

-- so none of the object of that number does
pub none_at : {A : Type 0} (o : ℕ) (objects : List (Object A)) (p : ℕ) → p < length objects → may_point_at objects p ≡ false
    → slot_of_row_holds (map row_of objects) o p ≡ false
none_at o [] p within h = absurd (omega arith)
none_at o (x ∷ objects) zero within h = holds_none o x.body h
none_at o (x ∷ objects) (suc p) within h = none_at o objects p (omega arith) h

pub ruleset written = (map-set)
