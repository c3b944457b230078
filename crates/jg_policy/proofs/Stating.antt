-- The items of an array as they are stated, one after another.
use Rattle.std.proofs.Common.{◌≡◌, ℕ, ◌<◌, ◌+◌, List, [], ◌∷◌, ◌++◌, length, take, drop, get_or, map, Bool, ◌||◌, suc, refl, ap, ◌∙◌, sym}
use Rattle.std.proofs.lemmas.List.{take_more, take-append-drop, map-append}
use Rattle.std.specs.List.{list_any}
use Rattle.std.specs.Str.{bytes_eq}
use Rattle.toml.specs.Data.{Data}
use Rattle.toml.specs.View.{view, items_view}
use Rattle.toml.specs.declared.value.Value.{Value}
use Rattle.jg_policy.specs.Stated.{each_item, text_item}

module _ {A : Type 0} (f : Data → A) where
  each_item-append : (vs ws : List Value) → each_item f (items_view (vs ++ ws)) ≡ each_item f (items_view vs) ++ each_item f (items_view ws)
  each_item-append [] ws = refl
  each_item-append (v ∷ vs) ws = ap (λ t. f (view v) ∷ t) (each_item-append vs ws)

  -- one more item
  pub each_item-more : (vs : List Value) (i : ℕ) (d : Value) → i < length vs
      → each_item f (items_view (take (i + 1) vs)) ≡ each_item f (items_view (take i vs)) ++ f (view (get_or vs i d)) ∷ []
  each_item-more vs i d h = rw (take_more vs i d h) (each_item-append (take i vs) (get_or vs i d ∷ []))

  -- what is stated: what is done, this item, and the rest
  pub each_item-parts : (done : List A) (vs : List Value) (i : ℕ) (v : Value) → i < length vs → v ≡ get_or vs i v
      → done ≡ each_item f (items_view (take i vs))
      → each_item f (items_view vs) ≡ (done ++ f (view v) ∷ []) ++ each_item f (items_view (drop (i + 1) vs))
  each_item-parts done vs i v below is kept =
      ap (λ ws. each_item f (items_view ws)) (sym (take-append-drop (i + 1) vs)) ∙ each_item-append (take (i + 1) vs) (drop (i + 1) vs)
      ∙ rw (each_item-more vs i v below, ← is, ← kept) refl

-- an array up to an item, and what is kept of it
pub kept_more : {A B : Type 0} (show : A → B) (f : Data → B) (kept : List A) (a : A) (vs : List Value) (i : ℕ) (v : Value)
    → i < length vs → v ≡ get_or vs i v → show a ≡ f (view v)
    → map show kept ≡ each_item f (items_view (take i vs))
    → map show (kept ++ a ∷ []) ≡ each_item f (items_view (take (i + 1) vs))
kept_more show f kept a vs i v below is seen stated =
    rw (each_item-more f vs i v below, map-append show kept (a ∷ []), ← is, ← seen, ← stated) refl

-- a text among the items, by their bytes
pub listed : (text : List ℕ) (vs : List Value)
    → list_any (bytes_eq text) (each_item text_item (items_view vs)) ≡ list_any (λ v. bytes_eq text (text_item (view v))) vs
listed text [] = refl
listed text (v ∷ vs) = ap (λ b. bytes_eq text (text_item (view v)) || b) (listed text vs)

pub ruleset text_rules = (listed)

-- an array states as many as it has items
pub stated_count : {A : Type 0} (f : Data → A) (vs : List Value) → length (each_item f (items_view vs)) ≡ length vs
stated_count f [] = refl
stated_count f (v ∷ vs) = ap suc (stated_count f vs)

-- a test of what the items state
any_stated : {A : Type 0} (p : A → Bool) (f : Data → A) (vs : List Value) → list_any p (each_item f (items_view vs)) ≡ list_any (λ v. p (f (view v))) vs
any_stated p f [] = refl
any_stated p f (v ∷ vs) = ap (λ b. p (f (view v)) || b) (any_stated p f vs)
