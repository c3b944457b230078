-- How many objects are in being.
use Rattle.std.proofs.Common.{ℕ, zero, suc, ◌≡◌, ◌<◌, ◌+◌, ◌-◌, ◌∙◌, sym, ap, refl, List, [], ◌∷◌, ◌++◌, length, map, get_or, arith, Bool, true, false, not, ◌&&◌, eqb, zero-add}
use Rattle.std.specs.Prelude.{filter}
use Rattle.std.specs.List.{list_any, range_with_len}
use Rattle.std.proofs.lemmas.List.{length-map}
use Rattle.std.proofs.lemmas.List.Filters.{length-filter_both}
use Rattle.jg_table_heap.specs.declared.body.Body.{Body}
use Rattle.jg_table_heap.specs.History.{Event, count_of, gone_at, others_in_being}
use Rattle.jg_table_heap.specs.Rows.{Row, Rows, row_in}
use Rattle.jg_table_heap.specs.Kept.{trues, objects_of, row_of, ended_row, live_in}
use Rattle.jg_table_heap.specs.Standing.{Stands, standing}
use Rattle.jg_table_heap.proofs.Collecting.{goes_listed}
use Rattle.jg_table_heap.proofs.Laws.{classes_counted, classes_stay}
use Rattle.jg_table_heap.proofs.Letting.{trues_live}
use Rattle.jg_table_heap.proofs.Lists.{keep_agree}
use Rattle.jg_table_heap.proofs.Objects.{length-objects_of, swept_of}
use Rattle.jg_table_heap.proofs.Sweeping.{live_swept}
use Rattle.jg_table_heap.proofs.Told.{length-standing, row_in-standing, gone-row_at}

-- ---- from one call to the next

true_more : (flags : List Bool) → trues (flags ++ true ∷ []) ≡ trues flags + 1
true_more [] = refl
true_more (true ∷ flags) = let later = true_more flags in omega (arith, later)
true_more (false ∷ flags) = true_more flags

-- one more
pub being_more : (there flags : List Bool) (count : ℕ) → count ≡ trues there → flags ≡ there ++ true ∷ [] → count + 1 ≡ trues flags
being_more there flags count is more = omega (arith, is, ap trues more, true_more there)

-- those that are listed are no more
module _ {A : Type 0} (bodies : List (Body A)) (there marks : List Bool) (unheld : List ℕ) (same : length there ≡ length bodies)
    (listed : unheld ≡ filter (λ o. not (get_or marks o false)) (live_in (map row_of (objects_of bodies there))))
    (flags : List Bool) (count : length flags ≡ length there) (goes : (o : ℕ)
    → get_or flags o false ≡ (get_or there o false && not (list_any (λ p. eqb p o) unheld))) where
  pub being_less : length unheld + trues flags ≡ trues there
  being_less =
      let rows : List Row = map row_of (objects_of bodies there) in
      let new : List Row = map row_of (objects_of bodies flags) in
      let stay : ℕ → Bool = λ o. get_or marks o false in
      let many : length new ≡ length rows =
      length-map (objects_of bodies flags) row_of ∙ length-objects_of bodies flags (count ∙ same)
      ∙ sym (length-map (objects_of bodies there) row_of ∙ length-objects_of bodies there same) in
      let left : filter stay (live_in rows) ≡ live_in new =
      live_swept rows new stay many
      (λ o. swept_of bodies there marks unheld same listed flags count goes o
      ∙ ap (λ b. ended_row b (row_in rows o)) (goes_listed rows marks unheld o listed)) in
      let both = length-filter_both stay (λ o. not (stay o)) (λ o. refl) (live_in rows) in
      omega (arith, trues_live bodies there same, trues_live bodies flags (count ∙ same), ap length left, both, ap length listed)

-- ---- against the history

-- where all of the first k numbers from one on pass
first_pass : (p : ℕ → Bool) (a b k n m : ℕ) → b ≡ a + k → m ≡ k + n → ((o : ℕ) → o < b → p o ≡ true)
    → length (filter p (range_with_len a m)) ≡ k + length (filter p (range_with_len b n))
first_pass p a b zero n m start many pass =
    let here : b ≡ a = omega (arith, start) in
    let all : m ≡ n = omega (arith, many) in
    ap (λ j. length (filter p (range_with_len a j))) all ∙ ap (λ j. length (filter p (range_with_len j n))) (sym here) ∙ sym (zero-add _)
first_pass p a b (suc k) n zero start many pass = absurd (omega (arith, many))
first_pass p a b (suc k) n (suc m) start many pass =
    let later = first_pass p (a + 1) b k n m (omega (arith, start)) (omega (arith, many)) pass in
    rw (pass a (omega (arith, start))) (omega (arith, later))

live_standing : (k : ℕ) (e : List Event) → live_in (standing k e) ≡ filter (λ o. not (gone_at k e o)) (range_with_len 0 (count_of k e))
live_standing k e =
    ap (λ n. filter (λ o. not (row_in (standing k e) o).gone) (range_with_len 0 n)) (length-standing k e)
    ∙ keep_agree (λ o. not (row_in (standing k e) o).gone) (λ o. not (gone_at k e o)) 0 (count_of k e)
    (λ o h. ap not (ap (λ (r : Row). r.gone) (row_in-standing k e o (omega arith)) ∙ gone-row_at k e o))

classes_there : (k : ℕ) (e : List Event) (o : ℕ) → o < k → not (gone_at k e o) ≡ true
classes_there k e o is = ap not (classes_stay k e o is)

-- those in being are the class objects and the others
pub being_told : {A : Type 0} (bodies : List (Body A)) (there : List Bool) (k : ℕ) (rows : Rows) (e : List Event) → length there ≡ length bodies
    → record { classes = k; objects = map row_of (objects_of bodies there) } ≡ rows → Stands rows e → trues there ≡ k + length (others_in_being rows.classes e)
being_told bodies there k rows e same view stands =
    let all : ℕ = count_of rows.classes e in
    let stay : ℕ → Bool = λ o. not (gone_at rows.classes e o) in
    let live = trues_live bodies there same ∙ ap (λ (rs : List Row). length (live_in rs)) (ap (λ (r : Rows). r.objects) view ∙ stands)
    ∙ ap length (live_standing rows.classes e) in
    let rest : ℕ = all - rows.classes in
    let whole : all ≡ rows.classes + rest = omega (arith, classes_counted rows.classes e) in
    let parts = first_pass stay 0 rows.classes rows.classes rest all (sym (zero-add rows.classes)) whole (classes_there rows.classes e) in
    let classes = ap (λ (r : Rows). r.classes) view in
    omega (arith, live, parts, classes)
