-- What the objects hold and which are in being, two lists, seen as one.
use Rattle.std.proofs.Common.{ℕ, zero, suc, ◌≡◌, ◌≤◌, ◌<◌, ◌∙◌, sym, ap, refl, List, [], ◌∷◌, ◌++◌, length, map, get_or, set, arith, Bool, true, false, not, ◌&&◌, ◌||◌, eqb, inl, inr, get_or-set_same, get_or-set_other, subst, take, cond, ◌+◌}
use Rattle.std.specs.Prelude.{All, filter}
use Rattle.std.specs.List.{list_any}
use Rattle.std.proofs.lemmas.Bool.{cases_eq, eq-eqb, ne_eqb}
use Rattle.std.proofs.lemmas.Bool.Decides.{nat_tests}
use Rattle.std.proofs.lemmas.List.Elements.{All-filter}
use Rattle.std.proofs.lemmas.List.{length-append, length-map, length-set}
use Rattle.std.proofs.lemmas.List.Folds.{list_any_more}
use Rattle.std.proofs.Math.Bool.{not-not}
use Rattle.jg_table_heap.specs.declared.body.Body.{Body}
use Rattle.jg_table_heap.specs.Rows.{Row, row_in, no_row}
use Rattle.jg_table_heap.specs.Kept.{Object, Keeps, Stored, AreWhole, numbers_in, live_in, objects_of, row_of, row_of_body, ended_row, in_being, may_point, body_may_point, slot_of_row_holds}
use Rattle.jg_table_heap.proofs.Told.{kept}
use Rattle.jg_table_heap.proofs.Sweeping.{all_below, ended_none, keeps_wrote, keeps_made, keeps_swept}
use Rattle.jg_table_heap.proofs.Collecting.{goes_listed}

-- it goes, or it was gone
goes_or_gone : (is goes : Bool) → not (is && not goes) ≡ (not is || goes)
goes_or_gone true goes = not-not goes
goes_or_gone false goes = refl

module _ {A : Type 0} where
  pub length-objects_of : (bodies : List (Body A)) (there : List Bool) → length there ≡ length bodies → length (objects_of bodies there) ≡ length bodies
  length-objects_of [] there same = refl
  length-objects_of (b ∷ bodies) [] same = absurd (omega (arith, same))
  length-objects_of (b ∷ bodies) (is ∷ there) same = ap suc (length-objects_of bodies there (omega (arith, same)))

  pub being_of : (bodies : List (Body A)) (there : List Bool) → length there ≡ length bodies → there ≡ map in_being (objects_of bodies there)
  being_of [] [] same = refl
  being_of [] (is ∷ there) same = absurd (omega (arith, same))
  being_of (b ∷ bodies) [] same = absurd (omega (arith, same))
  being_of (b ∷ bodies) (is ∷ there) same =
      ap (λ t. t ∷ there) (sym (not-not is)) ∙ ap (λ (l : List Bool). not (not is) ∷ l) (being_of bodies there (omega (arith, same)))

  pub pointing_of : (bodies : List (Body A)) (there : List Bool) → length there ≡ length bodies
      → map may_point (objects_of bodies there) ≡ map body_may_point bodies
  pointing_of [] there same = refl
  pointing_of (b ∷ bodies) [] same = absurd (omega (arith, same))
  pointing_of (b ∷ bodies) (is ∷ there) same = ap (λ (l : List Bool). body_may_point b ∷ l) (pointing_of bodies there (omega (arith, same)))

  -- the object that was read at an index
  abbrev pub object_at : List Bool → ℕ → Body A → Object A
  object_at there i body = record { body = body; gone = not (get_or there i true) }

  pub read_at : (bodies : List (Body A)) (there : List Bool) (i : ℕ) (b : Body A) → length there ≡ length bodies → i < length bodies → b ≡ get_or bodies i b
      → object_at there i b ≡ get_or (objects_of bodies there) i (object_at there i b)
  read_at [] there i b same within is = absurd (omega (arith, within))
  read_at (x ∷ bodies) [] i b same within is = absurd (omega (arith, same))
  read_at (x ∷ bodies) (t ∷ there) zero b same within is = ap (λ (y : Body A). record { body = y; gone = not t }) is
  read_at (x ∷ bodies) (t ∷ there) (suc i) b same within is = read_at bodies there i b (omega (arith, same)) (omega (arith, within)) is

  pub written_at : (bodies : List (Body A)) (there : List Bool) (i : ℕ) (b : Body A) → length there ≡ length bodies → i < length bodies
      → objects_of (set bodies i b) there ≡ set (objects_of bodies there) i (object_at there i b)
  written_at [] there i b same within = absurd (omega (arith, within))
  written_at (x ∷ bodies) [] i b same within = absurd (omega (arith, same))
  written_at (x ∷ bodies) (t ∷ there) zero b same within = refl
  written_at (x ∷ bodies) (t ∷ there) (suc i) b same within =
      ap (λ (l : List (Object A)). record { body = x; gone = not t } ∷ l)
      (written_at bodies there i b (omega (arith, same)) (omega (arith, within)))

  pub made_of : (bodies : List (Body A)) (there : List Bool) (b : Body A) → length there ≡ length bodies
      → objects_of (bodies ++ b ∷ []) (there ++ true ∷ []) ≡ objects_of bodies there ++ record { body = b; gone = false } ∷ []
  made_of [] [] b same = refl
  made_of [] (t ∷ there) b same = absurd (omega (arith, same))
  made_of (x ∷ bodies) [] b same = absurd (omega (arith, same))
  made_of (x ∷ bodies) (t ∷ there) b same = ap (λ (l : List (Object A)). record { body = x; gone = not t } ∷ l) (made_of bodies there b (omega (arith, same)))

  -- with an object more, as the code comes upon it
  pub more_of : (bodies more : List (Body A)) (there flags : List Bool) (b : Body A) → length there ≡ length bodies → more ≡ bodies ++ b ∷ []
      → flags ≡ there ++ true ∷ []
      → objects_of more flags ≡ objects_of bodies there ++ record { body = b; gone = false } ∷ []
  more_of bodies more there flags b same is flag =
      ap (λ (xs : List (Body A)). objects_of xs flags) is ∙ ap (objects_of (bodies ++ b ∷ [])) flag ∙ made_of bodies there b same

  pub stored_made : (bodies more : List (Body A)) (there flags : List Bool) (blocks after : List ℕ) (loose rest : ℕ)
      (pointing points : List ℕ) (b : Body A) (n : ℕ) → Stored bodies there blocks loose pointing
      → more ≡ bodies ++ b ∷ []
      → n ≡ length bodies → flags ≡ there ++ true ∷ [] → numbers_in after rest (n + 1) ≡ numbers_in blocks loose (n + 1)
      → (AreWhole blocks (n + 1) → AreWhole after (n + 1)) → rest ≤ n + 1
      → points ≡ pointing ++ cond (body_may_point b) (n ∷ []) [] → Stored more flags after rest points
  stored_made bodies more there flags blocks after loose rest pointing points b n stored is len flag same whole order point = record {
    same = ap (λ (ts : List Bool). length ts) flag ∙ length-append there (true ∷ []) ∙ ap (λ k. k + 1) stored.same
        ∙ sym (ap (λ (xs : List (Body A)). length xs) is ∙ length-append bodies (b ∷ []));
    keeps = keeps_made (objects_of bodies there) (objects_of more flags) there flags blocks after loose rest pointing points (record { body = b; gone = false })
        n stored.keeps
        (more_of bodies more there flags b stored.same is flag) refl (len ∙ sym (length-objects_of bodies there stored.same)) flag same whole order point;
  }

  -- whether the object at an index is gone
  pub gone_of : (bodies : List (Body A)) (there : List Bool) (i : ℕ) (t : Bool) → length there ≡ length bodies → i < length bodies → t ≡ get_or there i t
      → not t ≡ (row_in (map row_of (objects_of bodies there)) i).gone
  gone_of [] there i t same within is = absurd (omega (arith, within))
  gone_of (x ∷ bodies) [] i t same within is = absurd (omega (arith, same))
  gone_of (x ∷ bodies) (u ∷ there) zero t same within is = ap not is
  gone_of (x ∷ bodies) (u ∷ there) (suc i) t same within is = gone_of bodies there i t (omega (arith, same)) (omega (arith, within)) is

  count_of_objects : (bodies : List (Body A)) (there : List Bool) (objects : List Row) → length there ≡ length bodies
      → map row_of (objects_of bodies there) ≡ objects → length objects ≡ length bodies
  count_of_objects bodies there objects same view = sym (ap (λ (rs : List Row). length rs) view) ∙ length-map (objects_of bodies there) row_of
      ∙ length-objects_of bodies there same

  pub made_body : (bodies : List (Body A)) (there : List Bool) (objects : List Row) (o : ℕ)
      → length there ≡ length bodies → map row_of (objects_of bodies there) ≡ objects → o < length objects
      → o < length bodies
  made_body bodies there objects o same view made = omega (arith, made, count_of_objects bodies there objects same view)

  -- the row of what was read at an index
  pub kept_body : (bodies : List (Body A)) (there : List Bool) (objects : List Row) (o : ℕ) (b : Body A)
      → length there ≡ length bodies → map row_of (objects_of bodies there) ≡ objects → o < length objects
      → b ≡ get_or bodies o b
      → row_of (object_at there o b) ≡ row_in objects o
  kept_body bodies there objects o b same view made is =
      kept (objects_of bodies there) objects o (object_at there o b) view made
      (read_at bodies there o b same (made_body bodies there objects o same view made) is)

  -- the slots are those of what it holds
  pub slots_of_object : (bodies : List (Body A)) (there : List Bool) (o p : ℕ) → length there ≡ length bodies
      → slot_of_row_holds (map row_of_body bodies) o p ≡ slot_of_row_holds (map row_of (objects_of bodies there)) o p
  slots_of_object [] there o p same = refl
  slots_of_object (x ∷ bodies) [] o p same = absurd (omega (arith, same))
  slots_of_object (x ∷ bodies) (t ∷ there) o zero same = refl
  slots_of_object (x ∷ bodies) (t ∷ there) o (suc p) same = slots_of_object bodies there o p (omega (arith, same))

  pub any_slot_of_object : (bodies : List (Body A)) (there : List Bool) (o : ℕ) (pointing : List ℕ) → length there ≡ length bodies
      → list_any (slot_of_row_holds (map row_of_body bodies) o) pointing ≡ list_any (slot_of_row_holds (map row_of (objects_of bodies there)) o) pointing
  any_slot_of_object bodies there o [] same = refl
  any_slot_of_object bodies there o (p ∷ pointing) same = rw (slots_of_object bodies there o p same, any_slot_of_object bodies there o pointing same) refl

  -- with what was written at an index
  pub stored_written : (bodies : List (Body A)) (there : List Bool) (blocks : List ℕ) (loose : ℕ) (pointing : List ℕ)
      (o : ℕ) (b new : Body A) → Stored bodies there blocks loose pointing → o < length bodies → b ≡ get_or bodies o b
      → body_may_point new ≡ body_may_point b → Stored (set bodies o new) there blocks loose pointing
  stored_written bodies there blocks loose pointing o b new stored within is kind = record {
    same = stored.same ∙ sym (length-set bodies o new);
    keeps = subst (λ (xs : List (Object A)). Keeps xs there blocks loose pointing) (sym (written_at bodies there o new stored.same within))
        (keeps_wrote (objects_of bodies there) there blocks loose pointing o (object_at there o b)
        (object_at there o new) stored.keeps (omega (arith, within, length-objects_of bodies there stored.same))
        (read_at bodies there o b stored.same within is) refl kind);
  }

  -- the objects that are let go
  pub ended_of : (bodies : List (Body A)) (old new : List Bool) (goes : ℕ → Bool) → length old ≡ length bodies
      → length new ≡ length bodies → ((o : ℕ) → get_or new o false ≡ (get_or old o false && not (goes o)))
      → ((o : ℕ) → length bodies ≤ o → goes o ≡ false) → (o : ℕ)
      → row_in (map row_of (objects_of bodies new)) o ≡ ended_row (goes o) (row_in (map row_of (objects_of bodies old)) o)
  ended_of [] old new goes before after ends past o = ended_none no_row ∙ ap (λ b. ended_row b no_row) (sym (past o (omega arith)))
  ended_of (x ∷ bodies) [] new goes before after ends past o = absurd (omega (arith, before))
  ended_of (x ∷ bodies) (t ∷ old) [] goes before after ends past o = absurd (omega (arith, after))
  ended_of (x ∷ bodies) (t ∷ old) (u ∷ new) goes before after ends past zero =
      ap (λ b. row_of (record { body = x; gone = not b })) (ends 0)
      ∙ ap (λ g. row_of (record { body = x; gone = g })) (goes_or_gone t (goes 0))
  ended_of (x ∷ bodies) (t ∷ old) (u ∷ new) goes before after ends past (suc o) =
      ended_of bodies old new (λ p. goes (suc p)) (omega (arith, before)) (omega (arith, after)) (λ p. ends (suc p)) (λ p h. past (suc p) (omega (arith, h))) o

-- ---- the flags of those that are let go

-- numbers of objects name none past the end
none_past : (unheld : List ℕ) (n o : ℕ) → All (λ p. p < n) unheld → n ≤ o → list_any (λ p. eqb p o) unheld ≡ false
none_past [] n o all past = refl
none_past (p ∷ unheld) n o all past =
    let below : p < n = all 0 0 (omega arith) in
    let apart : eqb p o ≡ false = grind (arith, nat_tests, below, past) in
    rw (apart, none_past unheld n o (λ i d h. all (suc i) d (omega (arith, h))) past) refl

pub stays : (b : Bool) → b ≡ (b && true)
stays true = refl
stays false = refl

goes_both : (b x y : Bool) → ((b && not x) && not y) ≡ (b && not (x || y))
goes_both true true y = refl
goes_both true false y = refl
goes_both false x y = refl

none : (b : Bool) → false ≡ (b && false)
none true = refl
none false = refl

pub unset_at : (there : List Bool) (p o : ℕ) → p < length there → get_or (set there p false) o false ≡ (get_or there o false && not (eqb p o))
unset_at there p o within =
    elim (cases_eq p o) [
      | inl same ↦
          ap (λ q. get_or (set there p false) q false) (sym same) ∙ get_or-set_same there p false false within
          ∙ none (get_or there o false) ∙ ap (λ b. get_or there o false && not b) (sym (eq-eqb p o same))
      | inr other ↦ get_or-set_other there p o false false (λ same. other (sym same)) ∙ stays (get_or there o false)
          ∙ ap (λ b. get_or there o false && not b) (sym (ne_eqb p o other))
    ]

-- none is let go
pub none_goes : (there : List Bool) (o : ℕ) → get_or there o false ≡ (get_or there o false && not (list_any (λ p. eqb p o) []))
none_goes there o = stays (get_or there o false)

-- one more is let go
pub one_goes : (old mid : List Bool) (unheld : List ℕ) (i o : ℕ) → i < length unheld → get_or unheld i 0 < length mid
    → get_or mid o false ≡ (get_or old o false && not (list_any (λ p. eqb p o) (take i unheld)))
    → get_or (set mid (get_or unheld i 0) false) o false ≡ (get_or old o false && not (list_any (λ p. eqb p o) (take (i + 1) unheld)))
one_goes old mid unheld i o within inside is =
    unset_at mid (get_or unheld i 0) o inside ∙ ap (λ b. b && not (eqb (get_or unheld i 0) o)) is
    ∙ goes_both (get_or old o false) (list_any (λ p. eqb p o) (take i unheld)) (eqb (get_or unheld i 0) o)
    ∙ ap (λ b. get_or old o false && not b) (sym (list_any_more (λ p. eqb p o) unheld i 0 within))

-- ---- a collection

module _ {A : Type 0} (bodies : List (Body A)) (there : List Bool) (marks : List Bool) (unheld : List ℕ) (same : length there ≡ length bodies)
    (listed : unheld ≡ filter (λ o. not (get_or marks o false)) (live_in (map row_of (objects_of bodies there)))) where
  -- those that are listed are numbers of objects
  pub all_of : All (λ p. p < length there) unheld
  all_of =
      let objects : List (Object A) = objects_of bodies there in
      let all : All (λ p. p < length objects) unheld =
      subst (All (λ p. p < length objects)) (sym listed)
      (All-filter (λ o. not (get_or marks o false)) (λ p. p < length objects) (live_in (map row_of objects)) (all_below objects)) in
      λ i d h. omega (arith, all i d h, same, length-objects_of bodies there same)

  module _ (flags : List Bool) (count : length flags ≡ length there) (goes : (o : ℕ)
      → get_or flags o false ≡ (get_or there o false && not (list_any (λ p. eqb p o) unheld))) where
    pub swept_of : (o : ℕ) → row_in (map row_of (objects_of bodies flags)) o
        ≡ ended_row (list_any (λ p. eqb p o) unheld) (row_in (map row_of (objects_of bodies there)) o)
    swept_of o = ended_of bodies there flags (λ q. list_any (λ p. eqb p q) unheld) same (count ∙ same) goes
        (λ q past. none_past unheld (length there) q all_of (omega (arith, past, same))) o

    pub stored_swept : (blocks after : List ℕ) (loose : ℕ) (pointing points : List ℕ) → Stored bodies there blocks loose pointing
        → filter (λ o. get_or flags o false) (numbers_in after loose (length flags))
        ≡ filter (λ o. get_or flags o false) (numbers_in blocks loose (length flags))
        → AreWhole after (length flags) → points ≡ filter (λ o. get_or marks o false) pointing → Stored bodies flags after loose points
    stored_swept blocks after loose pointing points stored closed whole point = record {
      same = count ∙ same;
      keeps = keeps_swept (objects_of bodies there) (objects_of bodies flags) there flags blocks after loose pointing points (λ o. get_or marks o false)
          stored.keeps
          (length-objects_of bodies flags (count ∙ same) ∙ sym (length-objects_of bodies there same))
          (λ o. swept_of o ∙ ap (λ b. ended_row b (row_in (map row_of (objects_of bodies there)) o))
          (goes_listed (map row_of (objects_of bodies there)) marks unheld o listed))
          (pointing_of bodies flags (count ∙ same) ∙ sym (pointing_of bodies there same)) (being_of bodies flags (count ∙ same)) closed whole point;
    }
