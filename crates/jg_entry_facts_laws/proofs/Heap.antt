-- What is known of objects without what they hold: the same events keep it the same, and so does a collection however it
-- is told.
use Rattle.std.proofs.Common.{ℕ, ℤ, ◌≡◌, ◌+◌, ◌<◌, Bool, true, false, List, [], ◌∷◌, ◌++◌, refl, ap, sym, subst, ◌∙◌, append_assoc, arith, if◌then◌else◌}
use Rattle.std.specs.Prelude.{◌==◌, ◌||◌, ◌&&◌, not, nat_lt}
use Rattle.std.specs.List.{list_any}
use Rattle.std.proofs.lemmas.Bool.Decides.{nat_tests}
use Rattle.jg_table_heap.specs.History.{Event, Made, Wrote, Collected, Went, count_of, making_at, gone_at, held_at, going, region_writes, is_there, class_there}
use Rattle.jg_table_heap.specs.Standing.{held_objects}
use Rattle.jg_table_heap.specs.Making.{Making, Opaque, class_in, length_in}
use Rattle.jg_table_heap.specs.declared.object.Slot.{Slot}
use Rattle.jg_table_heap.specs.declared.object.Slot.TheVariants.{Number}
use Rattle.jg_table_heap.proofs.Callers.{roots_law}

pub record SameHeap (k : ℕ) (e f : List Event) : Type 0 where
  pub count : count_of k e ≡ count_of k f
  pub gone : (o : ℕ) → gone_at k e o ≡ gone_at k f o
  pub class : (o : ℕ) → class_in (making_at k e o) ≡ class_in (making_at k f o)
  pub length : (o : ℕ) → length_in (making_at k e o) ≡ length_in (making_at k f o)

pub same_there : (k : ℕ) (e f : List Event) (o : ℕ) → SameHeap k e f → is_there k e o ≡ is_there k f o
same_there k e f o same = rw (same.count, same.gone o) refl

pub same_class : (k : ℕ) (e f : List Event) (o : ℕ) → SameHeap k e f → class_there k e o ≡ class_there k f o
same_class k e f o same = rw (same_there k e f o same, same.class o) refl

made_if : {A : Type 0} (read : Making → A) (b : Bool) (m n x y : Making) → read m ≡ read n → read x ≡ read y
    → read (if b then m else x) ≡ read (if b then n else y)
made_if read true m n x y made old = made
made_if read false m n x y made old = old

-- an object of the same class and length is made
pub made_both : (k : ℕ) (e f : List Event) (m : Making) → SameHeap k e f → SameHeap k (Made (Opaque (class_in m) (length_in m)) ∷ e) (Made m ∷ f)
made_both k e f m same = record {
  count = ap (λ n. n + 1) same.count;
  gone = same.gone;
  class = λ o. rw same.count
      (made_if class_in (o == count_of k f) (Opaque (class_in m) (length_in m)) m (making_at k e o) (making_at k f o) refl (same.class o));
  length = λ o. rw same.count
      (made_if length_in (o == count_of k f) (Opaque (class_in m) (length_in m)) m (making_at k e o) (making_at k f o) refl (same.length o));
}

-- what is written changes nothing that is known
pub wrote_one : (k : ℕ) (e f : List Event) (o j : ℕ) (v : Slot) → SameHeap k e f → SameHeap k e (Wrote o j v ∷ f)
wrote_one k e f o j v same = record { count = same.count; gone = same.gone; class = same.class; length = same.length }

pub wrote_region : (k : ℕ) (e f : List Event) (o j : ℕ) (values : List ℤ) → SameHeap k e f → SameHeap k e (region_writes o j values ++ f)
wrote_region k e f o j [] same = same
wrote_region k e f o j (v ∷ values) same =
    subst (λ (g : List Event). SameHeap k e g) (sym (append_assoc (region_writes o (j + 1) values) (Wrote o j (Number v) ∷ []) f))
    (wrote_region k e (Wrote o j (Number v) ∷ f) o (j + 1) values (wrote_one k e f o j (Number v) same))

-- ---- a collection

-- gone one after the other, the first of the list first
abbrev pub go_each : List ℕ → List Event → List Event
go_each [] e = e
go_each (o ∷ objects) e = go_each objects (Went o ∷ e)

-- the object is one of these, was made, and is no class object
abbrev pub goes : ℕ → List Event → List ℕ → ℕ → Bool
goes k e objects o = list_any (λ x. x == o) objects && (nat_lt o (count_of k e) && not (nat_lt o k))

count_each : (k : ℕ) (objects : List ℕ) (e : List Event) → count_of k (go_each objects e) ≡ count_of k e
count_each k [] e = refl
count_each k (x ∷ objects) e = count_each k objects (Went x ∷ e)

making_each : (k : ℕ) (objects : List ℕ) (e : List Event) (o : ℕ) → making_at k (go_each objects e) o ≡ making_at k e o
making_each k [] e o = refl
making_each k (x ∷ objects) e o = making_each k objects (Went x ∷ e) o

flip : (o x : ℕ) → (o == x) ≡ (x == o)
flip o x = grind (arith, nat_tests)

gone_more : (g a b c : Bool) → ((g || (a && c)) || (b && c)) ≡ (g || ((a || b) && c))
gone_more true a b c = refl
gone_more false true b true = refl
gone_more false true true false = refl
gone_more false true false false = refl
gone_more false false b c = refl

gone_none : (g : Bool) → g ≡ (g || false)
gone_none true = refl
gone_none false = refl

gone_each : (k : ℕ) (objects : List ℕ) (e : List Event) (o : ℕ) → gone_at k (go_each objects e) o ≡ (gone_at k e o || goes k e objects o)
gone_each k [] e o = gone_none (gone_at k e o)
gone_each k (x ∷ objects) e o =
    gone_each k objects (Went x ∷ e) o
    ∙ (rw (flip o x) (gone_more (gone_at k e o) (x == o) (list_any (λ y. y == o) objects) (nat_lt o (count_of k e) && not (nat_lt o k))))

collected_if : (g l a b any : Bool) → any ≡ (not g && not ((l || a) || b)) → (g || (any && (true && not l))) ≡ (g || (true && not ((l || a) || b)))
collected_if true l a b any is = refl
collected_if false true a b any is = rw is refl
collected_if false false true b any is = rw is refl
collected_if false false false true any is = rw is refl
collected_if false false false false any is = rw is refl

past_if : (g l h any : Bool) → (g || (any && (false && not l))) ≡ (g || (false && not h))
past_if g l h true = refl
past_if g l h false = refl

-- those that go at a collection are those that aren't held
collected_at : (k : ℕ) (roots : List ℕ) (f : List Event) (o : ℕ) (made : Bool) → nat_lt o (count_of k f) ≡ made
    → (gone_at k f o || (list_any (λ x. x == o) (going k roots f) && (nat_lt o (count_of k f) && not (nat_lt o k)))) ≡ gone_at k (Collected roots ∷ f) o
collected_at k roots f o true made =
    let within : o < count_of k f = grind (arith, nat_tests, made) in
    let t : ℕ → Bool = λ x. not (gone_at k f x) && not (held_at k roots f x) in
    let is : list_any (λ x. x == o) (held_objects t (count_of k f)) ≡ t o = roots_law t (count_of k f) o within in
    rw made (collected_if (gone_at k f o) (nat_lt o k) (list_any (λ r. r == o) roots) _ (list_any (λ x. x == o) (going k roots f)) is)
collected_at k roots f o false made = rw made (past_if (gone_at k f o) (nat_lt o k) (held_at k roots f o) (list_any (λ x. x == o) (going k roots f)))

pub all_gone : (k : ℕ) (roots : List ℕ) (e f : List Event) → SameHeap k e f → SameHeap k (go_each (going k roots f) e) (Collected roots ∷ f)
all_gone k roots e f same = record {
  count = count_each k (going k roots f) e ∙ same.count;
  gone = λ o. gone_each k (going k roots f) e o ∙ ((rw (same.count, same.gone o) refl) ∙ collected_at k roots f o (nat_lt o (count_of k f)) refl);
  class = λ o. ap class_in (making_each k (going k roots f) e o) ∙ same.class o;
  length = λ o. ap length_in (making_each k (going k roots f) e o) ∙ same.length o;
}
