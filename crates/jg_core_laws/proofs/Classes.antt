-- Of which class an object is, one fact later.
use Rattle.std.proofs.Common.{ℕ, ◌≡◌, true, false, List, ◌∷◌, Option, Some, None, refl, arith}
use Rattle.std.specs.Prelude.{◌==◌, not, nat_lt}
use Rattle.std.proofs.lemmas.Bool.Decides.{nat_tests}
use Rattle.jg_words.specs.declared.object.ObjId.{ObjId}
use Rattle.jg_words.specs.declared.object.ItemType.TheVariants.{Of, Float, Double}
use Rattle.jg_words.specs.declared.reference.Ref.{Ref}
use Rattle.jg_words.specs.declared.reference.Ref.TheVariants.{Null, To}
use Rattle.jg_words.specs.declared.reference.Kind.{Kind}
use Rattle.jg_words.specs.declared.reference.Kind.TheVariants.{Local, Global, Weak}
use Rattle.jg_words.proofs.Common.{and_first}
use Rattle.jg_policy.specs.Stated.{StatedSetup, class_count}
use Rattle.jg_table_heap.specs.History as heap
use Rattle.jg_table_heap.specs.Making.{Opaque}
use Rattle.jg_rows.specs.declared.row.ObjectKind.{ObjectKind}
use Rattle.jg_rows.specs.declared.row.ObjectKind.TheVariants.{AnyObject, ClassObject, PlainClass, InstanceClass, ThrowableObject, StringObject, AnyArray, PrimitiveArray, ArrayOf, ObjectArray}
use Rattle.jg_rules.specs.Parts.{Parts}
use Rattle.jg_rules.specs.Names.{is_here, class_of}
use Rattle.jg_judge.specs.Kinds.{is_kind}
use Rattle.jg_core.specs.declared.fact.Fact.{Fact}
use Rattle.jg_core.specs.declared.fact.Fact.TheVariants.{Leave, Pop, Hand, Lost, Meet, Gone}
use Rattle.jg_core.specs.Facts.{on, handed_on, kept_on, lost_on}

-- an object that is there was made as what it was made, whatever happened since
abbrev Made : ℕ → List heap.Event → List heap.Event → ℕ → Type 0
Made k old new o = heap.is_there k old o ≡ true → heap.making_at k new o ≡ heap.making_at k old o

made_more : (k : ℕ) (e : List heap.Event) (class n o : ℕ) → Made k e (heap.Made (Opaque class n) ∷ e) o
made_more k e class n o here =
    let first = and_first (nat_lt o (heap.count_of k e)) (not (heap.gone_at k e o)) here in
    let other : (o == heap.count_of k e) ≡ false = grind (arith, nat_tests, first) in
    rw other refl

handed_made : (k u : ℕ) (kind : Kind) (q : ℕ) (p : Parts) (o : ℕ) → Made k p.heap (handed_on u kind q p).heap o
handed_made k u Local q p o here = refl
handed_made k u Global q p o here = refl
handed_made k u Weak q p o here = refl

kept_made : (k u : ℕ) (kept : Option ObjId) (p : Parts) (o : ℕ) → Made k p.heap (kept_on u kept p).heap o
kept_made k u None p o here = refl
kept_made k u (Some q) p o here = refl

lost_made : (k : ℕ) (r : Ref) (p : Parts) (o : ℕ) → Made k p.heap (lost_on r p).heap o
lost_made k Null p o here = refl
lost_made k (To Local maker n) p o here = refl
lost_made k (To Global maker n) p o here = refl
lost_made k (To Weak maker n) p o here = refl

fact_made : (k : ℕ) (x : Fact) (p : Parts) (o : ℕ) → Made k p.heap (on x p).heap o
fact_made k (Leave u kept) p o here = kept_made k u.0 kept _ o here
fact_made k (Pop u kept) p o here = kept_made k u.0 kept _ o here
fact_made k (Hand u kind q) p o here = handed_made k u.0 kind q.0 p o here
fact_made k (Lost r) p o here = lost_made k r p o here
fact_made k (Meet class n) p o here = made_more k p.heap class n o here
fact_made k (Gone q) p o here = refl
fact_made k x p o here = refl

pub fact_class : (s : StatedSetup) (x : Fact) (p : Parts) (o : ℕ) → is_here s p o ≡ true → is_here s (on x p) o ≡ true
    → class_of s (on x p) o ≡ class_of s p o
fact_class s x p o here still = rw (here, still, fact_made (class_count s) x p o here) refl

-- ---- its kind is by its class

pub kind_same : (s : StatedSetup) (p q : Parts) (kind : ObjectKind) (o : ℕ) → class_of s q o ≡ class_of s p o → is_kind s q kind o ≡ is_kind s p kind o
kind_same s p q AnyObject o same = refl
kind_same s p q ClassObject o same = rw same refl
kind_same s p q PlainClass o same = rw same refl
kind_same s p q InstanceClass o same = rw same refl
kind_same s p q ThrowableObject o same = rw same refl
kind_same s p q StringObject o same = rw same refl
kind_same s p q AnyArray o same = rw same refl
kind_same s p q PrimitiveArray o same = rw same refl
kind_same s p q (ArrayOf (Of element)) o same = rw same refl
kind_same s p q (ArrayOf Float) o same = rw same refl
kind_same s p q (ArrayOf Double) o same = rw same refl
kind_same s p q ObjectArray o same = rw same refl
