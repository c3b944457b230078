-- The counts of the pinned buffers, from one call to the next.
use Rattle.std.proofs.Common.{◌≡◌, ℕ, ◌+◌, ◌-◌, Bool, true, false, length, List, ◌∷◌, refl, ◌∙◌, ap, sym, arith, eqb-true, IsPermutation}
use Rattle.std.specs.Prelude.{◌==◌, ◌&&◌, if◌then◌else◌, slice_index_or}
use Rattle.indexmap.specs.IndexMap.{IndexMap, get}
use Rattle.std.proofs.lemmas.Bool.Decides.{nat_tests}
use Rattle.std.proofs.lemmas.List.{length-append}
use Rattle.std.proofs.lemmas.List.Sorted.{length_permutation}
use Rattle.jg_words.specs.declared.thread.Tid.{Tid}
use Rattle.jg_words.specs.declared.reference.Ref.{Ref}
use Rattle.jg_words.specs.declared.reference.Ref.TheVariants.{Null, To}
use Rattle.jg_words.specs.declared.reference.Kind.{Kind}
use Rattle.jg_words.specs.declared.reference.Kind.TheVariants.{Local, Global, Weak}
use Rattle.jg_table_buffers.specs.declared.pinned.Pinned.{Pinned}
use Rattle.jg_table_buffers.specs.History.{same_ref}
use Rattle.jg_lists.specs.ByMaker.{Name, Adds}
use Rattle.jg_lists.proofs.Acts.{how_many-between}
use Rattle.jg_table_buffers.specs.Keys.{same_triple}
use Rattle.jg_table_buffers.specs.Seen.{key_of, count_at}
use Rattle.jg_table_buffers.specs.Tallies.{how_many, Counted}
use Rattle.jg_table_buffers.proofs.Maps.{at_key, counted_popped}

-- equal counts count the same
pub counts_same : {T : Type 0} (pins : List (Name × Pinned)) (makers makers' : List ℕ) (vias vias' : IndexMap (ℕ × ℕ × ℕ) ℕ T) → Counted pins makers vias
    → ((q : ℕ) → slice_index_or makers' q 0 ≡ slice_index_or makers q 0)
    → ((q : ℕ × ℕ × ℕ) → count_at (get same_triple vias' q) ≡ count_at (get same_triple vias q))
    → Counted pins makers' vias'
counts_same pins makers makers' vias vias' was same alike = record {
  by_maker = λ t. same t ∙ was.by_maker t;
  by_via = λ r. alike (key_of r) ∙ was.by_via r;
}

to_is : (k : Kind) (m i : Tid) (n o : ℕ) → (m.0 == i.0) && (n == o) ≡ true → To k m n ≡ To k i o
to_is k m i n o is =
    let maker : m.0 ≡ i.0 = grind (arith, nat_tests) in
    let number : n ≡ o = grind (arith, nat_tests) in
    ap (λ t. To k (record { 0 = t }) n) maker ∙ ap (λ j. To k i j) number

pub same_ref_is : (r s : Ref) → same_ref r s ≡ true → r ≡ s
same_ref_is Null Null is = refl
same_ref_is Null (To k m n) is = cc
same_ref_is (To k m n) Null is = cc
same_ref_is (To Local m n) (To Local i o) is = to_is Local m i n o is
same_ref_is (To Local m n) (To Global i o) is = cc
same_ref_is (To Local m n) (To Weak i o) is = cc
same_ref_is (To Global m n) (To Local i o) is = cc
same_ref_is (To Global m n) (To Global i o) is = to_is Global m i n o is
same_ref_is (To Global m n) (To Weak i o) is = cc
same_ref_is (To Weak m n) (To Local i o) is = cc
same_ref_is (To Weak m n) (To Global i o) is = cc
same_ref_is (To Weak m n) (To Weak i o) is = to_is Weak m i n o is

raise_by : (a b : ℕ) (same : Bool) → (same ≡ true → a ≡ b) → (if same then a + 1 else b) ≡ (if same then b + 1 else b)
raise_by a b true alike = ap (λ n. n + 1) (alike refl)
raise_by a b false alike = refl

lower_by : (a b new : ℕ) (same : Bool) → (same ≡ true → a ≡ b) → b ≡ (if same then new + 1 else new) → (if same then a - 1 else b) ≡ new
lower_by a b new true alike is =
    let was : a ≡ b = alike refl in
    omega (arith, was, is)
lower_by a b new false alike is = is

-- one more pinned buffer of a kind
counted_more : (p : Name × Pinned → Bool) (pins news : List (Name × Pinned)) (q : Name) (w : Pinned)
    → Adds q w pins news → how_many p news ≡ (if p (q, w) then how_many p pins + 1 else how_many p pins)
counted_more p pins news q w adds =
    ap (how_many p) adds.now ∙ how_many-between p adds.front (q, w) adds.back ∙ ap (λ es. if p (q, w) then how_many p es + 1 else how_many p es) (sym adds.was)

-- one more pinned buffer
pub counts_raised : {T : Type 0} (pins news : List (Name × Pinned)) (makers makers' : List ℕ) (vias vias' : IndexMap (ℕ × ℕ × ℕ) ℕ T) (t n : ℕ) (w : Pinned)
    → Counted pins makers vias
    → Adds (t, n) w pins news
    → ((q : ℕ) → slice_index_or makers' q 0 ≡ (if t == q then slice_index_or makers t 0 + 1 else slice_index_or makers q 0))
    → ((q : ℕ × ℕ × ℕ) → count_at (get same_triple vias' q)
    ≡ (if same_triple (key_of w.via) q then count_at (get same_triple vias (key_of w.via)) + 1 else count_at (get same_triple vias q)))
    → Counted news makers' vias'
counts_raised pins news makers makers' vias vias' t n w was adds maker via = record {
  by_maker = λ q. maker q ∙ rw (was.by_maker t, was.by_maker q, counted_more (λ e. e.0.0 == q) pins news (t, n) w adds)
      (raise_by (how_many (λ e. e.0.0 == t) pins) (how_many (λ e. e.0.0 == q) pins) (t == q)
      (λ is. ap (λ u. how_many (λ e. e.0.0 == u) pins) (eqb-true t q is)));
  by_via = λ r. via (key_of r) ∙ rw (at_key w.via r, was.by_via w.via, was.by_via r, counted_more (λ e. same_ref e.1.via r) pins news (t, n) w adds)
      (raise_by (how_many (λ e. same_ref e.1.via w.via) pins) (how_many (λ e. same_ref e.1.via r) pins) (same_ref w.via r)
      (λ is. ap (λ u. how_many (λ e. same_ref e.1.via u) pins) (same_ref_is w.via r is)));
}

-- one pinned buffer less
pub counts_lowered : {T : Type 0} (pins news : List (Name × Pinned)) (makers makers' : List ℕ) (vias vias' : IndexMap (ℕ × ℕ × ℕ) ℕ T) (t n : ℕ) (w : Pinned)
    → Counted pins makers vias
    → IsPermutation pins (((t, n), w) ∷ news)
    → ((q : ℕ) → slice_index_or makers' q 0 ≡ (if t == q then slice_index_or makers t 0 - 1 else slice_index_or makers q 0))
    → ((q : ℕ × ℕ × ℕ) → count_at (get same_triple vias' q)
    ≡ (if same_triple (key_of w.via) q then count_at (get same_triple vias (key_of w.via)) - 1 else count_at (get same_triple vias q)))
    → Counted news makers' vias'
counts_lowered pins news makers makers' vias vias' t n w was taken maker via = record {
  by_maker = λ q. maker q ∙ rw (was.by_maker t, was.by_maker q)
      (lower_by (how_many (λ e. e.0.0 == t) pins) (how_many (λ e. e.0.0 == q) pins) _ (t == q)
      (λ is. ap (λ u. how_many (λ e. e.0.0 == u) pins) (eqb-true t q is))
      (counted_popped (λ e. e.0.0 == q) ((t, n), w) pins news taken));
  by_via = λ r. via (key_of r) ∙ rw (at_key w.via r, was.by_via w.via, was.by_via r)
      (lower_by (how_many (λ e. same_ref e.1.via w.via) pins) (how_many (λ e. same_ref e.1.via r) pins) _ (same_ref w.via r)
      (λ is. ap (λ u. how_many (λ e. same_ref e.1.via u) pins) (same_ref_is w.via r is))
      (counted_popped (λ e. same_ref e.1.via r) ((t, n), w) pins news taken));
}

-- ---- the count of all

-- one more pinned buffer
pub all_raised : (pins news : List (Name × Pinned)) (q : Name) (w : Pinned) (count : ℕ) → count ≡ length pins → Adds q w pins news → count + 1 ≡ length news
all_raised pins news q w count was adds =
    let before = ap length adds.was ∙ length-append adds.front adds.back in
    let after = ap length adds.now ∙ length-append adds.front ((q, w) ∷ adds.back) in
    omega (arith, was, before, after)

-- one pinned buffer less
pub all_lowered : (pins news : List (Name × Pinned)) (e : Name × Pinned) (count : ℕ) → count ≡ length pins → IsPermutation pins (e ∷ news)
    → count ≡ length news + 1
all_lowered pins news e count was taken =
    let same = length_permutation pins (e ∷ news) taken in
    omega (arith, was, same)
