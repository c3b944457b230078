-- How long what is there is, by what a store of its class and length alone tells.
use Rattle.std.proofs.Common.{◌≡◌, ℕ, Bool, true, false, List, ◌∷◌, [], Some, None, refl, ap, arith}
use Rattle.std.specs.Prelude.{◌==◌, ◌&&◌, if◌then◌else◌, nat_lt, not}
use Rattle.std.proofs.lemmas.Bool.Decides.{nat_tests}
use Rattle.jg_table_heap.specs.History.{Event, Made, Wrote, Collected, Went, count_of, is_there, making_at}
use Rattle.jg_table_heap.specs.Making.{length_in}
use Rattle.jg_table_heap.proofs.Callers.{classes_counted}
use Rattle.jg_table_objects.specs.History.{length_there}
use Rattle.jg_advice.specs.Throwing.{length_here}

-- a class object has no items
class_object : (k : ℕ) (e : List Event) (o : ℕ) → nat_lt o k ≡ true → length_in (making_at k e o) ≡ 0
class_object k [] o is = refl
class_object k (Made m ∷ e) o is =
    let other : (o == count_of k e) ≡ false = grind (arith, nat_tests, is, classes_counted k e) in
    rw other (class_object k e o is)
class_object k (Wrote p j v ∷ e) o is = class_object k e o is
class_object k (Collected roots ∷ e) o is = class_object k e o is
class_object k (Went p ∷ e) o is = class_object k e o is

untold_by : (below there : Bool) (m : ℕ) → (below ≡ true → m ≡ 0) → (if not below && there then Some m else None) ≡ None → there ≡ true
    → (if there then Some m else None) ≡ Some 0
untold_by true true m none is there = ap Some (none refl)
untold_by false true m none is there = absurd cc
untold_by below false m none is there = absurd cc

pub of_class : (k : ℕ) (e : List Event) (o : ℕ) → length_there k e o ≡ None → is_there k e o ≡ true → length_here k e o ≡ Some 0
of_class k e o is there = untold_by (nat_lt o k) (is_there k e o) (length_in (making_at k e o)) (class_object k e o) is there
