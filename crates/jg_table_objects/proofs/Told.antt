-- What the events tell of an object, event by event.
use Rattle.std.proofs.Common.{◌≡◌, ◌≢◌, ℕ, ◌<◌, ◌≤◌, ◌+◌, Bool, true, false, List, [], ◌∷◌, Option, Some, None, refl, ◌∙◌, ap, subst, arith}
use Rattle.std.specs.Prelude.{not, ◌==◌, ◌&&◌, ◌||◌, if◌then◌else◌, nat_lt}
use Rattle.std.specs.Option.{option_map, is_some}
use Rattle.std.proofs.lemmas.Bool.Decides.{nat_tests}
use Rattle.jg_words.specs.declared.object.ObjId.{ObjId}
use Rattle.jg_table_heap.specs.Making.{Making, class_in, length_in}
use Rattle.jg_table_heap.specs.History.{Event, Made, Wrote, Collected, Went, count_of, making_at, gone_at, is_there, class_there}
use Rattle.jg_table_heap.proofs.Callers.{classes_law, gone_past, classes_counted}
use Rattle.jg_table_objects.specs.History.{is_told, told, length_there, is_listed, went}
use Rattle.jg_table_objects.specs.Laws.{ToldMeans, WentMeans}

-- ---- what isn't made yet, and class objects

class_object_class : (k : ℕ) (e : List Event) (o : ℕ) → o < k → class_in (making_at k e o) ≡ 1
class_object_class k [] o is = refl
class_object_class k (Made m ∷ e) o is =
    let other : (o == count_of k e) ≡ false = grind (arith, nat_tests, is, classes_counted k e) in
    rw other (class_object_class k e o is)
class_object_class k (Wrote p j v ∷ e) o is = class_object_class k e o is
class_object_class k (Collected roots ∷ e) o is = class_object_class k e o is
class_object_class k (Went p ∷ e) o is = class_object_class k e o is

class_object_there : (k : ℕ) (e : List Event) (o : ℕ) → nat_lt o k ≡ true → is_there k e o ≡ true
class_object_there k e o is =
    let below : o < k = grind (arith, nat_tests, is) in
    let made : nat_lt o (count_of k e) ≡ true = grind (arith, nat_tests, below, classes_counted k e) in
    rw (made, classes_law k e o below) refl

-- ---- what is known of an object, from what is told

there_by : (below there : Bool) (t : ℕ × ℕ) → (below ≡ true → there ≡ true) → there ≡ (below || is_some (if not below && there then Some t else None))
there_by true there t is = is refl
there_by false true t is = refl
there_by false false t is = refl

pub there_told : (k : ℕ) (e : List Event) (o : ℕ) → is_there k e o ≡ (nat_lt o k || is_some (told k e o))
unfolding told
there_told k e o = there_by (nat_lt o k) (is_there k e o) _ (class_object_there k e o)

abbrev pub class_told : Option (ℕ × ℕ) → ℕ
class_told None = 1
class_told (Some t) = t.0

class_by : (below there : Bool) (class len : ℕ) → (below ≡ true → class ≡ 1)
    → (if there then class else 1) ≡ class_told (if not below && there then Some (class, len) else None)
class_by true true class len is = is refl
class_by true false class len is = refl
class_by false true class len is = refl
class_by false false class len is = refl

pub class_of_told : (k : ℕ) (e : List Event) (o : ℕ) → class_there k e o ≡ class_told (told k e o)
unfolding told
class_of_told k e o = class_by (nat_lt o k) (is_there k e o) _ _ (λ is. class_object_class k e o (grind (arith, nat_tests, is)))

length_by : (b : Bool) (class len : ℕ) → (if b then Some len else None) ≡ option_map (λ (t : ℕ × ℕ). t.1) (if b then Some (class, len) else None)
length_by true class len = refl
length_by false class len = refl

pub length_of_told : (k : ℕ) (e : List Event) (o : ℕ) → length_there k e o ≡ option_map (λ (t : ℕ × ℕ). t.1) (told k e o)
unfolding told
length_of_told k e o = length_by (is_told k e o) _ _

none_by : (below : Bool) (t : ℕ × ℕ) → (if not below && (below && true) then Some t else None) ≡ None
none_by true t = refl
none_by false t = refl

pub told_at_first : (k o : ℕ) → told k [] o ≡ None
unfolding told
told_at_first k o = none_by (nat_lt o k) (1, 0)

-- ---- an object is made

told_made_new : (k : ℕ) (m : Making) (e : List Event) → told k (Made m ∷ e) (count_of k e) ≡ Some (class_in m, length_in m)
unfolding told
told_made_new k m e =
    let other : nat_lt (count_of k e) k ≡ false = grind (arith, nat_tests, classes_counted k e) in
    let made : nat_lt (count_of k e) (count_of k e + 1) ≡ true = grind (arith, nat_tests) in
    let mine : (count_of k e == count_of k e) ≡ true = grind (arith, nat_tests) in
    rw (other, made, gone_past k e (count_of k e) (omega arith), mine) refl

told_made_old : (k : ℕ) (m : Making) (e : List Event) (o : ℕ) → o ≢ count_of k e → told k (Made m ∷ e) o ≡ told k e o
unfolding told
told_made_old k m e o differ =
    let made : nat_lt o (count_of k e + 1) ≡ nat_lt o (count_of k e) = grind (arith, nat_tests, differ) in
    let other : (o == count_of k e) ≡ false = grind (arith, nat_tests, differ) in
    rw (made, other) refl

told_made_by : (k : ℕ) (m : Making) (e : List Event) (o : ℕ) (b : Bool) → (count_of k e == o) ≡ b
    → told k (Made m ∷ e) o ≡ (if b then Some (class_in m, length_in m) else told k e o)
told_made_by k m e o true same =
    let mine : count_of k e ≡ o = grind (arith, nat_tests, same) in
    subst (λ n. told k (Made m ∷ e) n ≡ Some (class_in m, length_in m)) mine (told_made_new k m e)
told_made_by k m e o false differ = told_made_old k m e o (grind (arith, nat_tests, differ))

-- the object of the next number is told of as it was made, and each other one as before
pub told_made : (k : ℕ) (m : Making) (e : List Event) (o : ℕ)
    → told k (Made m ∷ e) o ≡ (if count_of k e == o then Some (class_in m, length_in m) else told k e o)
told_made k m e o = told_made_by k m e o (count_of k e == o) refl

-- ---- objects go

pub count_went : (k : ℕ) (objects : List ObjId) (e : List Event) → count_of k (went objects e) ≡ count_of k e
count_went k [] e = refl
count_went k (x ∷ objects) e = count_went k objects (Went x.0 ∷ e)

making_went : (k : ℕ) (objects : List ObjId) (e : List Event) (o : ℕ) → making_at k (went objects e) o ≡ making_at k e o
making_went k [] e o = refl
making_went k (x ∷ objects) e o = making_went k objects (Went x.0 ∷ e) o

none_went : (there below : Bool) → there ≡ (there && (below || true))
none_went true true = refl
none_went true false = refl
none_went false below = refl

one_went : (below made gone mine rest : Bool)
    → ((made && not (gone || (mine && (made && not below)))) && rest) ≡ ((made && not gone) && ((below || not mine) && rest))
one_went below false gone mine rest = refl
one_went below true true mine rest = refl
one_went true true false true rest = refl
one_went true true false false rest = refl
one_went false true false true rest = refl
one_went false true false false rest = refl

both_went : (there below mine listed : Bool) → (there && ((below || not mine) && (below || not listed))) ≡ (there && (below || not (mine || listed)))
both_went there true mine listed = refl
both_went there false true listed = refl
both_went there false false listed = refl

there_went : (k : ℕ) (objects : List ObjId) (e : List Event) (o : ℕ)
    → is_there k (went objects e) o ≡ (is_there k e o && (nat_lt o k || not (is_listed objects o)))
there_went k [] e o = none_went (is_there k e o) (nat_lt o k)
there_went k (x ∷ objects) e o =
    let turned : (o == x.0) ≡ (x.0 == o) = grind (arith, nat_tests) in
    there_went k objects (Went x.0 ∷ e) o
    ∙ one_went (nat_lt o k) (nat_lt o (count_of k e)) (gone_at k e o) (o == x.0) (nat_lt o k || not (is_listed objects o))
    ∙ rw turned (both_went (is_there k e o) (nat_lt o k) (x.0 == o) (is_listed objects o))

pub went_means : WentMeans
went_means k objects e = record { count = count_went k objects e; making = making_went k objects e; there = there_went k objects e }

told_unless : (below there listed : Bool) (t : ℕ × ℕ)
    → (if not below && (there && (below || not listed)) then Some t else None) ≡ (if listed then None else (if not below && there then Some t else None))
told_unless true there true t = refl
told_unless true there false t = refl
told_unless false true true t = refl
told_unless false true false t = refl
told_unless false false true t = refl
told_unless false false false t = refl

-- of what went nothing is told, and of each other object what was told before
pub told_went : (k : ℕ) (objects : List ObjId) (e : List Event) (o : ℕ) → told k (went objects e) o ≡ (if is_listed objects o then None else told k e o)
unfolding told
told_went k objects e o = rw (there_went k objects e o, making_went k objects e o) (told_unless (nat_lt o k) (is_there k e o) (is_listed objects o) _)

-- ---- what it means

told_parts : (below there : Bool) (t u : ℕ × ℕ) → (if not below && there then Some t else None) ≡ Some u → (below ≡ false) × ((there ≡ true) × (t ≡ u))
told_parts true there t u is = cc
told_parts false false t u is = cc
told_parts false true t u is = (refl, (refl, cc))

pub told_means : ToldMeans
unfolding told
told_means k e o class len = (
  (λ is.
      let parts = told_parts (nat_lt o k) (is_there k e o) _ _ is in
      record {
        other = grind (arith, nat_tests, parts.0);
        there = parts.1.0;
        of_class = ap (λ t. t.0) parts.1.1;
        of_length = ap (λ t. t.1) parts.1.1;
      }),
  (λ as_told.
      let other : nat_lt o k ≡ false = grind (arith, nat_tests, as_told.other) in
      rw (other, as_told.there, as_told.of_class, as_told.of_length) refl),
)
