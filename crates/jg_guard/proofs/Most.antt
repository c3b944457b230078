-- One entry more, and what there is at most then.
use Rattle.std.proofs.Common.{◌≡◌, ◌+◌, ◌≤◌, ◌<◌, ◌++◌, ◌∙◌, ℕ, Bool, true, false, List, [], ◌∷◌, length, map, refl, ap, sym, subst, arith}
use Rattle.std.specs.Prelude.{max, nat_lt, ◌==◌, ◌&&◌, ◌-◌, filter, not}
use Rattle.std.specs.List.{range_with_len}
use Rattle.std.proofs.lemmas.Bool.Decides.{nat_tests}
use Rattle.jg_words.specs.Entry.{Entry}
use Rattle.jg_words.specs.declared.buffer.BufId.{BufId}
use Rattle.jg_words.specs.declared.reference.Ref.{Ref}
use Rattle.jg_words.specs.declared.reference.Ref.TheVariants.{Null, To}
use Rattle.jg_words.specs.declared.thread.Tid.{Tid}
use Rattle.jg_words.specs.declared.reference.Kind.{Kind}
use Rattle.jg_words.specs.declared.reference.Kind.TheVariants.{Local, Global, Weak}
use Rattle.jg_policy.specs.Stated.{StatedSetup}
use Rattle.jg_policy.specs.Stated.{class_count}
use Rattle.jg_table_buffers.specs.History.{same_ref, is_same}
use Rattle.jg_table_heap.specs.History.{gone_at, others_in_being}
use Rattle.jg_leaks.specs.Left.{is_left}
use Rattle.jg_rules.specs.Parts.{Parts}
use Rattle.jg_rules.specs.Effects.{parts}
use Rattle.jg_rules.specs.Parts.{TableRows, TablesStand}
use Rattle.jg_guard.specs.declared.peaks.Peaks.{Peaks}
use Rattle.jg_guard.specs.Peaks.{ArePeaks, CountsBuffers, CountsObjects, CountsRefs, IsMost, IsNow, raised}
use Rattle.jg_guard.proofs.Counting.{as_long}
use Rattle.jg_rules.specs.Parts.{HeapTells}
use Rattle.jg_rules.proofs.Holders.{holders_stand}
use Rattle.jg_leaks.proofs.Once.{all_listed, buffers_listed, refs_of}
use Rattle.std.proofs.lemmas.List.{length-append, length-map}
use Rattle.jg_lists.specs.Acts.{once_if}
use Rattle.jg_table_locals.specs.Rows.{local_ref}
use Rattle.jg_table_globals.specs.Rows.{strong_ref, weak_ref}
use Rattle.jg_table_buffers.specs.Rows.{name_of}
use Rattle.jg_table_buffers.proofs.Callers.{same_ref_is, ref_self}

numbered : (kind : Kind) (m k : Tid) (n o : ℕ) → m.0 ≡ k.0 → n ≡ o → To kind m n ≡ To kind k o
numbered kind m k n o maker number = ap (λ (i : ℕ). To kind (record { 0 = i }) n) maker ∙ ap (λ (i : ℕ). To kind k i) number

tail_same : (x y : Entry) (h l : List Entry) → x ∷ h ≡ y ∷ l → h ≡ l
tail_same x y h l is = cc

-- two lists of the references that are left are as long as each other
refs_once : (p : Parts) (m n : ℕ) → CountsRefs p m → CountsRefs p n → m ≡ n
refs_once p m n (qs, lists, long) (rs, others, same) =
    sym long ∙ as_long same_ref ref_self same_ref_is qs rs (λ r. lists r ∙ sym (others r)) ∙ same

module _ (Counts : Parts → ℕ → Type 0) (once : (p : Parts) (m n : ℕ) → Counts p m → Counts p n → m ≡ n) (s : StatedSetup) where
  most_begun : (n : ℕ) → Counts (parts s []) n → IsMost Counts s [] n
  most_begun n counted = record {
    later = [];
    before = [];
    whole = refl;
    reached = counted;
    most = λ newer older m whole counts. first newer older m whole counts;
  }
    where
      first : (newer older : List Entry) (m : ℕ) → [] ≡ newer ++ older → Counts (parts s older) m → m ≤ n
      first [] [] m whole counts = let same = once (parts s []) m n counts counted in omega (arith, same)
      first [] (x ∷ older) m whole counts = absurd cc
      first (x ∷ newer) older m whole counts = absurd cc

  most_more : (h : List Entry) (x : Entry) (n k : ℕ) → IsMost Counts s h n → Counts (parts s (x ∷ h)) k → IsMost Counts s (x ∷ h) (max n k)
  most_more h x n k old counted = by (nat_lt n k) refl
    where
      rest : (newer older : List Entry) (m : ℕ) → x ∷ h ≡ newer ++ older → Counts (parts s older) m → m ≤ max n k
      rest [] older m whole counts =
          let same = once (parts s (x ∷ h)) m k (subst (λ (l : List Entry). Counts (parts s l) m) (sym whole) counts) counted in
          omega (arith, same)
      rest (y ∷ newer) older m whole counts =
          let low = old.most newer older m (tail_same x y h (newer ++ older) whole) counts in
          omega (arith, low)

      by : (b : Bool) → nat_lt n k ≡ b → IsMost Counts s (x ∷ h) (max n k)
      by true above =
          let is : k ≡ max n k = grind (arith, nat_tests, above) in
          record { later = []; before = x ∷ h; whole = refl; reached = subst (Counts (parts s (x ∷ h))) is counted; most = rest }
      by false not_above =
          let is : n ≡ max n k = grind (arith, nat_tests, not_above) in
          record {
            later = x ∷ old.later;
            before = old.before;
            whole = ap (λ l. x ∷ l) old.whole;
            reached = subst (Counts (parts s old.before)) is old.reached;
            most = rest;
          }

  -- a denied entry changes nothing
  most_same : (h : List Entry) (x : Entry) (n : ℕ) → parts s (x ∷ h) ≡ parts s h → IsMost Counts s h n → IsMost Counts s (x ∷ h) n
  most_same h x n same old = record {
    later = x ∷ old.later;
    before = old.before;
    whole = ap (λ l. x ∷ l) old.whole;
    reached = old.reached;
    most = rest;
  }
    where
      rest : (newer older : List Entry) (m : ℕ) → x ∷ h ≡ newer ++ older → Counts (parts s older) m → m ≤ n
      rest [] older m whole counts =
          old.most [] h m refl (subst (λ (p : Parts). Counts p m) (ap (parts s) (sym whole) ∙ same) counts)
      rest (y ∷ newer) older m whole counts = old.most newer older m (tail_same x y h (newer ++ older) whole) counts

buffer_itself : (b : BufId) → is_same b.maker.0 b.n b.maker.0 b.n ≡ true
buffer_itself b = grind (arith, nat_tests)

buffer_equal : (b c : BufId) → is_same c.maker.0 c.n b.maker.0 b.n ≡ true → b ≡ c
buffer_equal b c is =
    let maker : b.maker.0 ≡ c.maker.0 = grind (arith, nat_tests, is) in
    let number : b.n ≡ c.n = grind (arith, nat_tests, is) in
    ap (λ (i : ℕ). record { maker = record { 0 = i }; n = b.n }) maker ∙ ap (λ (k : ℕ). record { maker = c.maker; n = k }) number

buffers_once : (p : Parts) (m n : ℕ) → CountsBuffers p m → CountsBuffers p n → m ≡ n
buffers_once p m n (bs, lists, long) (cs, others, same) =
    sym long ∙ as_long (λ b c. is_same c.maker.0 c.n b.maker.0 b.n) buffer_itself buffer_equal bs cs (λ b. lists b.maker.0 b.n ∙ sym (others b.maker.0 b.n))
    ∙ same

objects_once : (s : StatedSetup) (p : Parts) (m n : ℕ) → CountsObjects s p m → CountsObjects s p n → m ≡ n
objects_once s p m n first second = first ∙ sym second

pub peaks_raised : (s : StatedSetup) (h : List Entry) (x : Entry) (peaks now : Peaks) → ArePeaks s h peaks → IsNow s (x ∷ h) now
    → ArePeaks s (x ∷ h) (raised peaks now)
peaks_raised s h x peaks now old counts = record {
  references = most_more CountsRefs refs_once s h x peaks.references now.references old.references counts.references;
  objects = most_more (CountsObjects s) (objects_once s) s h x peaks.objects now.objects old.objects counts.objects;
  buffers = most_more CountsBuffers buffers_once s h x peaks.buffers now.buffers old.buffers counts.buffers;
}

pub peaks_same : (s : StatedSetup) (h : List Entry) (x : Entry) (peaks : Peaks) → parts s (x ∷ h) ≡ parts s h → ArePeaks s h peaks → ArePeaks s (x ∷ h) peaks
peaks_same s h x peaks same old = record {
  references = most_same CountsRefs refs_once s h x peaks.references same old.references;
  objects = most_same (CountsObjects s) (objects_once s) s h x peaks.objects same old.objects;
  buffers = most_same CountsBuffers buffers_once s h x peaks.buffers same old.buffers;
}

nothing_left : (s : StatedSetup) → CountsRefs (parts s []) 0
nothing_left s = ([], none, refl)
  where
    none : (r : Ref) → 0 ≡ once_if (is_left (parts s []) r)
    none Null = refl
    none (To Local maker n) = refl
    none (To Global maker n) = refl
    none (To Weak maker n) = refl

pub none_at_first : (s : StatedSetup) (none : Peaks) → none ≡ record { references = 0; objects = 0; buffers = 0 } → ArePeaks s [] none
none_at_first s none is = subst (ArePeaks s []) (sym is) (record {
  references = most_begun CountsRefs refs_once s 0 (nothing_left s);
  objects = most_begun (CountsObjects s) (objects_once s) s 0 no_objects;
  buffers = most_begun CountsBuffers buffers_once s 0 ([], (λ maker n. refl), refl);
})
  where
    nothing_more : (k : ℕ) → 0 ≡ k - k
    nothing_more k = omega arith

    no_objects : 0 ≡ length (others_in_being (class_count s) [])
    no_objects = ap (λ n. length (filter (λ o. not (gone_at (class_count s) [] o)) (range_with_len (class_count s) n))) (nothing_more (class_count s))

pub counted_refs : (s : StatedSetup) (rows : TableRows) (p : Parts) → TablesStand s rows p → (n : ℕ)
    → n ≡ length rows.locals.locals + (length rows.globals.strong + length rows.globals.weak)
    → CountsRefs p n
counted_refs s rows p stands n is =
    let strong = map strong_ref rows.globals.strong in
    let weak = map weak_ref rows.globals.weak in
    let all = length-append (map local_ref rows.locals.locals) (strong ++ weak) in
    let others = length-append strong weak in
    let a = length-map rows.locals.locals local_ref in
    let b = length-map rows.globals.strong strong_ref in
    let c = length-map rows.globals.weak weak_ref in
    (refs_of rows, all_listed rows p (holders_stand HeapTells s rows p stands), omega (arith, all, others, a, b, c, is))

pub counted_buffers : (s : StatedSetup) (rows : TableRows) (p : Parts) → TablesStand s rows p → (n : ℕ) → n ≡ length rows.buffers.lent → CountsBuffers p n
counted_buffers s rows p stands n is =
    (map name_of rows.buffers.lent, buffers_listed rows p (holders_stand HeapTells s rows p stands), length-map rows.buffers.lent name_of ∙ sym is)
