-- Names, and pairs of them, that were put in order one after another.
use Rattle.std.proofs.Common.{◌≡◌, ℕ, ◌<◌, ◌+◌, Bool, true, false, ◌||◌, ◌&&◌, cond, Ordering, List, [], ◌∷◌, ◌++◌, length, take, drop, get_or, refl, ◌∙◌, sym}
use Rattle.std.proofs.lemmas.Bool.{false≢true}
use Rattle.std.proofs.lemmas.List.Folds.{list_any-append}
use Rattle.std.proofs.lemmas.Map.Text.{is_eq-slice_cmp}
use Rattle.std.specs.Cmp.Lexicographic.{slice_cmp, nat_list_eq_equiv}
use Rattle.std.specs.List.{list_any}
use Rattle.std.specs.Ordering.{is_eq, nat_cmp, ordering_then}
use Rattle.std.specs.Str.{bytes_eq}
use denote.Ref.{Bor}
use Rattle.jg_words.proofs.Common.{list_any-front}
use Rattle.toml.specs.Data.{Data}
use Rattle.toml.specs.View.{view, items_view}
use Rattle.toml.specs.declared.value.Value.{Value}
use Rattle.jg_policy.specs.Stated.{StatedMember, StatedClass, each_item, class_stated}
use Rattle.jg_policy.specs.Findings.{has_repeat, same_member, states_twice}
use Rattle.jg_policy.proofs.Repeats.{any_last, repeat_here, no_repeat-last}
use Rattle.jg_policy.proofs.Stating.{each_item-parts, each_item-more}

abbrev Text : Type 0
Text = Bor (List ℕ)

abbrev pub text : List ℕ → Text
text bytes = record { ref_ptr = (0, 0); now = bytes }

abbrev pub text_order : Text → Text → Ordering
text_order x y = slice_cmp nat_cmp x.now y.now

abbrev pub pair_order : Text × Text → Text × Text → Ordering
pair_order x y = ordering_then (text_order x.0 y.0) (text_order x.1 y.1)

both_equal : (a b : Ordering) → is_eq (ordering_then a b) ≡ (is_eq a && is_eq b)
both_equal Ordering.Less b = refl
both_equal Ordering.Equal b = refl
both_equal Ordering.Greater b = refl

flipped : (name seen : List ℕ) → is_eq (slice_cmp nat_cmp seen name) ≡ bytes_eq name seen
flipped name seen = is_eq-slice_cmp seen name ∙ nat_list_eq_equiv.symm seen name

more : (b held : Bool) → cond b true held ≡ (held || (b || false))
more true true = refl
more true false = refl
more false true = refl
more false false = refl

-- a name that was put among those before it
pub name_put : (k : Text) (name : List ℕ) (held : Bool) (names : List (List ℕ)) → held ≡ list_any (bytes_eq name) names
    → cond (is_eq (text_order k (text name))) true held ≡ list_any (bytes_eq name) (names ++ k.now ∷ [])
name_put k name held names is = rw (flipped name k.now, list_any-append (bytes_eq name) names (k.now ∷ []), is) (more (bytes_eq name k.now) _)

-- a name and a type that were put among those before them
pub pair_put : (k : Text × Text) (m : StatedMember) (held : Bool) (members : List StatedMember) → held ≡ list_any (same_member m) members
    → cond (is_eq (pair_order k (text m.name, text m.signature))) true held
    ≡ list_any (same_member m) (members ++ record { name = k.0.now; signature = k.1.now } ∷ [])
pair_put k m held members is =
    rw (
      both_equal (text_order k.0 (text m.name)) (text_order k.1 (text m.signature)),
      flipped m.name k.0.now,
      flipped m.signature k.1.now,
      list_any-append (same_member m) members (record { name = k.0.now; signature = k.1.now } ∷ []),
      is,
    )
    (more (bytes_eq m.name k.0.now && bytes_eq m.signature k.1.now) _)

-- ---- what an array states, item by item

module _ {A : Type 0} (same : A → A → Bool) (f : Data → A) (vs : List Value) (i : ℕ) (v : Value) where
  -- an item that states what one before it states
  pub stated_again : i < length vs → v ≡ get_or vs i v → list_any (same (f (view v))) (each_item f (items_view (take i vs))) ≡ true
      → has_repeat same (each_item f (items_view vs)) ≡ true
  stated_again below is old =
      rw (each_item-parts f (each_item f (items_view (take i vs))) vs i v below is refl)
      (repeat_here same (each_item f (items_view (take i vs))) (f (view v)) (each_item f (items_view (drop (i + 1) vs))) old)

  -- an item that states what none before it states
  pub stated_once : i < length vs → v ≡ get_or vs i v → list_any (same (f (view v))) (each_item f (items_view (take i vs))) ≡ false
      → has_repeat same (each_item f (items_view (take i vs))) ≡ false → has_repeat same (each_item f (items_view (take (i + 1) vs))) ≡ false
  stated_once below is new none =
      rw (each_item-more f vs i v below, ← is) (no_repeat-last same (each_item f (items_view (take i vs))) (f (view v)) new none)

-- what would make another test hold, which doesn't
pub refuted : (b other : Bool) → other ≡ false → (b ≡ true → other ≡ true) → b ≡ false
refuted true other fails h = absurd (false≢true (sym fails ∙ h refl))
refuted false other fails h = refl

module _ (vs : List Value) (i : ℕ) (v : Value) where
  -- a class by which something is stated twice, whatever follows
  pub twice_here : i < length vs → v ≡ get_or vs i v
      → ((rest : List StatedClass) → states_twice ((each_item class_stated (items_view (take i vs)) ++ class_stated (view v) ∷ []) ++ rest) ≡ true)
      → states_twice (each_item class_stated (items_view vs)) ≡ true
  twice_here below is twice =
      rw (each_item-parts class_stated (each_item class_stated (items_view (take i vs))) vs i v below is refl)
      (twice (each_item class_stated (items_view (drop (i + 1) vs))))

module _ {A : Type 0} (p : A → Bool) (f : Data → A) (vs : List Value) (i : ℕ) (v : Value) where
  -- an item that passes a test
  pub any_here : i < length vs → v ≡ get_or vs i v → p (f (view v)) ≡ true → list_any p (each_item f (items_view vs)) ≡ true
  any_here below is passes =
      let done = each_item f (items_view (take i vs)) in
      rw (each_item-parts f done vs i v below is refl)
      (list_any-front p (done ++ f (view v) ∷ []) (each_item f (items_view (drop (i + 1) vs))) (any_last p done (f (view v)) passes))

  -- an item that doesn't, as none before it does
  pub none_more : i < length vs → v ≡ get_or vs i v → p (f (view v)) ≡ false → list_any p (each_item f (items_view (take i vs))) ≡ false
      → list_any p (each_item f (items_view (take (i + 1) vs))) ≡ false
  none_more below is fails none =
      let done = each_item f (items_view (take i vs)) in
      rw (each_item-more f vs i v below, ← is, list_any-append p done (f (view v) ∷ []), none, fails)
