-- What the definitions say of an object, wherever the tables stand.
use Rattle.std.proofs.Common.{◌≡◌, ℕ, ℤ, ◌<◌, ◌≤◌, ◌∙◌, Bool, true, false, List, [], ◌∷◌, map, length, refl, ap, sym, subst, arith}
use Rattle.std.specs.Prelude.{◌||◌, ◌&&◌, if◌then◌else◌, nat_lt, not}
use Rattle.std.specs.List.{range_with_len}
use Rattle.std.specs.Option.{unwrap_or}
use Rattle.std.proofs.lemmas.List.{length-map}
use Rattle.std.proofs.lemmas.List.FromFn.{length-map-range_with_len}
use Rattle.std.proofs.lemmas.Bool.Decides.{nat_tests}
use Rattle.jg_policy.specs.Stated.{StatedSetup, class_count}
use Rattle.jg_table_heap.specs.declared.object.Slot.{Slot}
use Rattle.jg_table_heap.specs.declared.object.Slot.TheVariants.{Number}
use Rattle.jg_table_heap.specs.Making.{class_in, length_in}
use Rattle.jg_table_heap.specs.Rows.{Rows, count_in, class_at, gone_in, length_at}
use Rattle.jg_table_heap.specs.History.{Event, class_there, count_of, gone_at, making_at, value_at}
use Rattle.jg_table_heap.specs.Laws.{RowsTell}
use Rattle.jg_table_heap.proofs.Callers.{rows_law}
use Rattle.jg_rules.specs.declared.named.Named.{Named}
use Rattle.jg_rules.specs.declared.named.Named.TheVariants.{Nothing, Null as NamesNull, Object}
use Rattle.jg_rules.specs.declared.operand.ObjectType.{ObjectType}
use Rattle.jg_rules.specs.Parts.{HeapTells, Parts, TableRows, TablesStand}
use Rattle.jg_rules.specs.Names.{class_of, object_in, length_of, items_of, slot_of, number_in}
use Rattle.jg_rules.specs.Operands.{is_of}
use Rattle.jg_rules.specs.Rules.{is_nothing, is_null, is_wrong}

-- ---- classes

-- the class that the store's rows tell of
abbrev class_told : Rows → ℕ → ℕ
class_told rows o = if nat_lt o (count_in rows) && not (gone_in rows o) then class_at rows o else 1

told_if : (b : Bool) (rows : Rows) (e : List Event) (o : ℕ) → nat_lt o (count_of rows.classes e) ≡ b → RowsTell rows e
    → class_there rows.classes e o ≡ class_told rows o
told_if true rows e o is told = let made : o < count_of rows.classes e = grind (arith, nat_tests, is)
    in rw (told.count, told.class o made, told.gone o made) refl
told_if false rows e o is told = rw (told.count, is) refl

-- wherever the store stands, it tells of this class
class_by_rows : (rows : Rows) (k : ℕ) (e : List Event) (o : ℕ) → HeapTells rows k e → class_there k e o ≡ class_told rows o
class_by_rows rows k e o tells =
    ap (λ n. class_there n e o) (sym tells.classes) ∙ told_if (nat_lt o (count_of rows.classes e)) rows e o refl (rows_law rows e tells.stands)

-- wherever the tables stand, it is the same
pub same_class : (s : StatedSetup) (rows : TableRows) (p q : Parts) (o : ℕ) → TablesStand s rows p → TablesStand s rows q → class_of s p o ≡ class_of s q o
same_class s rows p q o one other = class_by_rows rows.heap (class_count s) p.heap o one.heap
    ∙ sym (class_by_rows rows.heap (class_count s) q.heap o other.heap)

-- an object that was made of this class, and isn't gone
pub record IsMade (s : StatedSetup) (p : Parts) (o kind : ℕ) : Type 0 where
  pub made : o < count_of (class_count s) p.heap
  pub here : gone_at (class_count s) p.heap o ≡ false
  pub class : class_in (making_at (class_count s) p.heap o) ≡ kind

made_if : (made gone : Bool) (s : StatedSetup) (p : Parts) (o kind : ℕ) → nat_lt o (count_of (class_count s) p.heap) ≡ made
    → gone_at (class_count s) p.heap o ≡ gone
    → (if made && not gone then class_in (making_at (class_count s) p.heap o) else 1) ≡ kind → 2 ≤ kind → IsMade s p o kind
made_if true false s p o kind is stays class other = record { made = grind (arith, nat_tests, is); here = stays; class = class }
made_if true true s p o kind is gone class other = absurd (omega (arith, class, other))
made_if false gone s p o kind is stays class other = absurd (omega (arith, class, other))

-- what is no class object is one
pub made_so : (s : StatedSetup) (p : Parts) (o kind : ℕ) → class_of s p o ≡ kind → 2 ≤ kind → IsMade s p o kind
made_so s p o kind is other = made_if (nat_lt o (count_of (class_count s) p.heap)) (gone_at (class_count s) p.heap o) s p o kind refl refl is other

-- an object is in the store, with its class and length
pub record IsThere (s : StatedSetup) (rows : TableRows) (p : Parts) (o kind : ℕ) : Type 0 where
  pub made : o < count_in rows.heap
  pub class : class_at rows.heap o ≡ kind
  pub len : length_at rows.heap o ≡ length_of s p o

-- so is each that was made
pub as_made : (s : StatedSetup) (rows : TableRows) (p : Parts) (o : ℕ) → TablesStand s rows p → o < count_of (class_count s) p.heap
    → IsThere s rows p o (class_in (making_at (class_count s) p.heap o))
as_made s rows p o stand made =
    let told = rows_law rows.heap p.heap stand.heap.stands in
    let own : o < count_of rows.heap.classes p.heap = subst (λ (k : ℕ). o < count_of k p.heap) (sym stand.heap.classes) made in
    record {
      made = subst (λ (k : ℕ). o < k) (sym told.count) own;
      class = told.class o own ∙ ap (λ k. class_in (making_at k p.heap o)) stand.heap.classes;
      len = told.len o own ∙ ap (λ k. length_in (making_at k p.heap o)) stand.heap.classes;
    }

-- and each of a class other than java/lang/Class
pub is_there : (s : StatedSetup) (rows : TableRows) (p : Parts) (o class : ℕ) → TablesStand s rows p → class_of s p o ≡ class → 2 ≤ class
    → IsThere s rows p o class
is_there s rows p o class stand is other =
    let made = made_so s p o class is other in
    subst (λ (kind : ℕ). IsThere s rows p o kind) made.class (as_made s rows p o stand made.made)

pub made_there : (s : StatedSetup) (rows : TableRows) (p : Parts) (o : ℕ) → TablesStand s rows p → 2 ≤ class_of s p o → o < count_in rows.heap
made_there s rows p o stand other = (is_there s rows p o (class_of s p o) stand refl other).made

-- ---- types

right_if : (b c : Bool) → (not b || c) ≡ false → b ≡ true
right_if true c is = refl
right_if false c is = absurd cc

-- the first operand that must name an object names one of its type, where the call breaks no rule
pub first_is_of : (s : StatedSetup) (p : Parts) (type : ObjectType) (named : Named) (a b c : Bool) → (is_nothing named || a) ≡ false
    → ((true && is_null named) || b) ≡ false
    → (is_wrong s p type named || c) ≡ false → is_of s p type (unwrap_or (object_in named) 0) ≡ true
first_is_of s p type Nothing a b c alive there right = absurd cc
first_is_of s p type NamesNull a b c alive there right = absurd cc
first_is_of s p type (Object x) a b c alive there right = right_if (is_of s p type x.0) c right

-- ---- items

numbers : (xs : List ℤ) → map number_in (map Number xs) ≡ xs
numbers [] = refl
numbers (x ∷ xs) = ap (λ ys. x ∷ ys) (numbers xs)

-- the items of an array, as the store lends them
pub items_are : (s : StatedSetup) (rows : TableRows) (p : Parts) (o : ℕ) (xs : List ℤ) → TablesStand s rows p
    → map Number xs ≡ map (value_at rows.heap.classes p.heap o) (range_with_len 0 (length_in (making_at rows.heap.classes p.heap o))) → items_of s p o ≡ xs
items_are s rows p o xs stand is =
    ap (λ k. map number_in (map (value_at k p.heap o) (range_with_len 0 (length_in (making_at k p.heap o))))) (sym stand.heap.classes)
    ∙ (ap (λ (ys : List Slot). map number_in ys) (sym is) ∙ numbers xs)

pub items_of-length : (s : StatedSetup) (p : Parts) (o : ℕ) → length (items_of s p o) ≡ length_of s p o
items_of-length s p o = length-map (map (slot_of s p o) (range_with_len 0 (length_of s p o))) number_in
    ∙ length-map-range_with_len (slot_of s p o) 0 (length_of s p o)
