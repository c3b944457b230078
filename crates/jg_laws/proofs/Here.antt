-- What is live, pending, or in a slot of an object that isn't gone, isn't gone: one event of the store later.
use Rattle.std.proofs.Common.{ℕ, ℤ, ◌≡◌, ◌+◌, ◌<◌, ◌≤◌, ◌++◌, ◌∙◌, Bool, true, false, List, [], ◌∷◌, Some, refl, ap, sym, subst, inr, arith}
use Rattle.std.specs.Prelude.{◌==◌, ◌&&◌, ◌||◌, not, nat_lt, if◌then◌else◌}
use Rattle.std.specs.List.{list_any}
use Rattle.std.proofs.lemmas.Bool.Decides.{nat_tests}
use Rattle.jg_words.specs.declared.object.ObjId.{ObjId}
use Rattle.jg_words.proofs.Common.{or_middle}
use Rattle.jg_table_heap.specs.declared.object.Slot.{Slot}
use Rattle.jg_table_heap.specs.declared.object.Slot.TheVariants.{Number, Object}
use Rattle.jg_table_heap.specs.Making.{Making, class_in, slots_in, slot_in}
use Rattle.jg_table_heap.specs.History.{Event, Made, Wrote, Collected, count_of, making_at, value_at, gone_at, held_by, held_at, going, region_writes}
use Rattle.jg_table_heap.specs.Standing.{held_objects}
use Rattle.jg_table_heap.proofs.Callers.{roots_law, held_law, gone_past}

-- it was made, and isn't gone
abbrev pub Here : ℕ → List Event → ℕ → Type 0
Here k e o = (o < count_of k e) × (gone_at k e o ≡ false)

-- what the slots of those hold is there, too
abbrev pub SlotsMeet : ℕ → List Event → Type 0
SlotsMeet k e = (x j : ℕ) (o : ObjId) → x < count_of k e → gone_at k e x ≡ false → j < slots_in (making_at k e x) → value_at k e x j ≡ Object (Some o)
    → Here k e o.0

-- each object is of a class of the setup
abbrev pub AreKnown : ℕ → List Event → Type 0
AreKnown k e = (o : ℕ) → class_in (making_at k e o) < k

-- ---- an object is made

both_no : (b : Bool) → (b && false) ≡ false
both_no true = refl
both_no false = refl

unmade_if : (k : ℕ) (e : List Event) (roots : List ℕ) (o : ℕ) → count_of k e ≤ o → gone_at k e o ≡ false
    → (gone_at k e o || (nat_lt o (count_of k e) && not (held_by (gone_at k e) k roots e o))) ≡ false
unmade_if k e roots o past old =
    let none : nat_lt o (count_of k e) ≡ false = grind (arith, nat_tests) in
    rw (old, none) refl

unmade_went : (k : ℕ) (e : List Event) (p o : ℕ) → count_of k e ≤ o → gone_at k e o ≡ false
    → (gone_at k e o || ((o == p) && (nat_lt o (count_of k e) && not (nat_lt o k)))) ≡ false
unmade_went k e p o past old =
    let none : nat_lt o (count_of k e) ≡ false = grind (arith, nat_tests) in
    rw (old, none) (both_no (o == p))

pub here_made : (k : ℕ) (e : List Event) (m : Making) (o : ℕ) → Here k e o → Here k (Made m ∷ e) o
here_made k e m o here = (omega (arith, here.0), here.1)

-- a new object is there
pub here_new : (k : ℕ) (e : List Event) (m : Making) → Here k (Made m ∷ e) (count_of k e)
here_new k e m = (omega arith, gone_past k e (count_of k e) (omega arith))

-- the pointers that a making has are there
abbrev pub PointsHere : ℕ → List Event → Making → Type 0
PointsHere k e m = (j : ℕ) (o : ObjId) → j < slots_in m → slot_in m j ≡ Object (Some o) → Here k e o.0

new_slots : (b : Bool) (k : ℕ) (e : List Event) (m : Making) (x j : ℕ) (o : ObjId) → (x == count_of k e) ≡ b → SlotsMeet k e → PointsHere k e m
    → x < count_of k e + 1 → gone_at k e x ≡ false
    → j < slots_in (if b then m else making_at k e x) → (if b then slot_in m j else value_at k e x j) ≡ Object (Some o) → Here k e o.0
new_slots true k e m x j o same old new made gone within is = new j o within is
new_slots false k e m x j o other old new made gone within is =
    let before : x < count_of k e = grind (arith, nat_tests, other, made) in
    old x j o before gone within is

known_if : (b : Bool) (k : ℕ) (m n : Making) → class_in m < k → class_in n < k → class_in (if b then m else n) < k
known_if true k m n new old = new
known_if false k m n new old = old

pub known_made : (k : ℕ) (e : List Event) (m : Making) → class_in m < k → AreKnown k e → AreKnown k (Made m ∷ e)
known_made k e m new old o = known_if (o == count_of k e) k m (making_at k e o) new (old o)

pub slots_made : (k : ℕ) (e : List Event) (m : Making) → SlotsMeet k e → PointsHere k e m → SlotsMeet k (Made m ∷ e)
slots_made k e m old new x j o made gone within is =
    here_made k e m o.0 (new_slots (x == count_of k e) k e m x j o refl old new made gone within is)

-- ---- a slot is written

written : (b : Bool) (k : ℕ) (e : List Event) (v w : Slot) (o : ObjId) → (w ≡ Object (Some o) → Here k e o.0)
    → (v ≡ Object (Some o) → Here k e o.0) → (if b then v else w) ≡ Object (Some o) → Here k e o.0
written true k e v w o old new is = new is
written false k e v w o old new is = old is

pub slots_wrote : (k : ℕ) (e : List Event) (p i : ℕ) (v : Slot) → SlotsMeet k e → ((o : ObjId) → v ≡ Object (Some o) → Here k e o.0)
    → SlotsMeet k (Wrote p i v ∷ e)
slots_wrote k e p i v old new x j o made gone within is =
    written ((x == p) && (j == i)) k e v (value_at k e x j) o (old x j o made gone within) (new o) is

pub number_no : (v : ℤ) (o : ObjId) → Number v ≡ Object (Some o) → ⊥
number_no v o is = cc

-- ---- a region of numbers is written

-- the objects are there after these events, and the slots and classes still meet their conditions
pub record Still (k : ℕ) (e after : List Event) : Type 0 where
  pub here : (o : ℕ) → Here k e o → Here k after o
  pub slots : SlotsMeet k after
  pub known : AreKnown k e → AreKnown k after

assoc : (es : List Event) (ev : Event) (e : List Event) → es ++ ev ∷ e ≡ (es ++ ev ∷ []) ++ e
assoc [] ev e = refl
assoc (x ∷ es) ev e = ap (λ ys. x ∷ ys) (assoc es ev e)

pub region_still : (k o : ℕ) (values : List ℤ) (j : ℕ) (e : List Event) → SlotsMeet k e → Still k e (region_writes o j values ++ e)
region_still k o [] j e old = record { here = λ x here. here; slots = old; known = λ are. are }
region_still k o (v ∷ values) j e old =
    let first : SlotsMeet k (Wrote o j (Number v) ∷ e) = slots_wrote k e o j (Number v) old (λ x is. absurd (number_no v x is)) in
    let rest = region_still k o values (j + 1) (Wrote o j (Number v) ∷ e) first in
    subst (λ (after : List Event). Still k e (after)) (assoc (region_writes o (j + 1) values) (Wrote o j (Number v)) e)
    (record { here = λ x here. rest.here x here; slots = rest.slots; known = λ are. rest.known are })

-- ---- a collection

either : (a b c : Bool) → (a || (b && not c)) ≡ false → b ≡ true → (a ≡ false) × (c ≡ true)
either true b c is there = absurd cc
either false true true is there = (refl, refl)
either false true false is there = absurd cc
either false false c is there = absurd cc

stays : (a b c : Bool) → a ≡ false → c ≡ true → (a || (b && not c)) ≡ false
stays a true c kept held = rw (kept, held) refl
stays a false c kept held = rw kept refl

-- what is held stays
here_held : (k : ℕ) (roots : List ℕ) (e : List Event) (o : ℕ) → Here k e o → held_at k roots e o ≡ true → Here k (Collected roots ∷ e) o
here_held k roots e o here held = (here.0, stays (gone_at k e o) (nat_lt o (count_of k e)) (held_at k roots e o) here.1 held)

-- what a root holds stays
pub here_rooted : (k : ℕ) (is_root : ℕ → Bool) (e : List Event) (o : ℕ) → Here k e o → is_root o ≡ true
    → Here k (Collected (held_objects is_root (count_of k e)) ∷ e) o
here_rooted k is_root e o here is =
    here_held k (held_objects is_root (count_of k e)) e o here
    (or_middle (nat_lt o k) (list_any (λ r. r == o) (held_objects is_root (count_of k e))) _ (roots_law is_root (count_of k e) o here.0 ∙ is))

is_held : (gone held : Bool) → gone ≡ false → (not gone && not held) ≡ false → held ≡ true
is_held true held kept is = absurd cc
is_held false true kept is = refl
is_held false false kept is = absurd cc

-- what isn't among those that go stays
pub here_kept : (k : ℕ) (roots : List ℕ) (e : List Event) (o : ℕ) → Here k e o → list_any (λ p. p == o) (going k roots e) ≡ false
    → Here k (Collected roots ∷ e) o
here_kept k roots e o here kept =
    let f : ℕ → Bool = λ x. not (gone_at k e x) && not (held_at k roots e x) in
    let not_going : f o ≡ false = sym (roots_law f (count_of k e) o here.0) ∙ kept in
    here_held k roots e o here (is_held (gone_at k e o) (held_at k roots e o) here.1 not_going)

-- what stands in a slot of what stays, stays
pub slots_collected : (k : ℕ) (roots : List ℕ) (e : List Event) → SlotsMeet k e → SlotsMeet k (Collected roots ∷ e)
slots_collected k roots e old x j o made gone within is =
    let there : nat_lt x (count_of k e) ≡ true = grind (arith, nat_tests, made) in
    let was : gone_at k e x ≡ false = (either (gone_at k e x) (nat_lt x (count_of k e)) (held_at k roots e x) gone there).0 in
    here_held k roots e o.0 (old x j o made was within is) ((held_law k roots e o.0).1 (inr (inr (x, j, o, made, within, was, is, refl))))
