-- The first value that passes a test, in one table and in those of all makers.
use Rattle.std.proofs.Common.{◌≡◌, ◌<◌, ◌≤◌, ◌+◌, ℕ, Bool, true, false, cond, List, [], ◌∷◌, ◌++◌, Option, Some, None, length, get_or, drop, is_some, inl, inr, refl, ◌∙◌, ap, sym}
use Rattle.std.specs.Prelude.{◌||◌, find, map, IfSome}
use Rattle.std.specs.List.{list_any}
use Rattle.std.specs.Option.{option_map, option_or}
use Rattle.std.proofs.lemmas.List.{at_drop_more, at_drop_all}
use Rattle.std.proofs.lemmas.List.Folds.{find-append}
use Rattle.jg_lists.specs.declared.by_number.Numbered.{Numbered}
use Rattle.jg_lists.specs.ByNumber.{seen}
use Rattle.jg_lists.specs.ByMaker.{Name, entries, named}
use Rattle.jg_lists.proofs.Lists.{Member}

-- what is found passes, and is of the list
pub is_found : {X : Type 0} (p : X → Bool) (xs : List X) → IfSome (find p xs) (λ x. Member x xs × (p x ≡ true))
is_found p [] = tt
is_found {X} p (x ∷ xs) = by (p x) refl (find p xs) (is_found p xs)
  where
    by : (b : Bool) → p x ≡ b → (found : Option X) → IfSome found (λ y. Member y xs × (p y ≡ true))
        → IfSome (cond b (Some x) found) (λ y. Member y (x ∷ xs) × (p y ≡ true))
    by true is found later = (inl refl, is)
    by false is None later = tt
    by false is (Some y) later = (inr later.0, later.1)

-- something is found where something passes
pub any_found : {X Y : Type 0} (f : X → Y) (p : X → Bool) (xs : List X) → is_some (option_map f (find p xs)) ≡ list_any p xs
any_found f p [] = refl
any_found {X} f p (x ∷ xs) = by (p x) (find p xs) (list_any p xs) (any_found f p xs)
  where
    by : (b : Bool) (found : Option X) (rest : Bool) → is_some (option_map f found) ≡ rest → is_some (option_map f (cond b (Some x) found)) ≡ (b || rest)
    by true found rest same = refl
    by false found rest same = same

-- what is made of what is found, in a list and in what is made of its items
pub found_in : {X Y R : Type 0} (show : X → Y) (p : Y → Bool) (f : Y → R) (xs : List X)
    → option_map (λ x. f (show x)) (find (λ x. p (show x)) xs) ≡ option_map f (find p (map show xs))
found_in show p f [] = refl
found_in {X} {Y} show p f (x ∷ xs) = by (p (show x)) (find (λ y. p (show y)) xs) (find p (map show xs)) (found_in show p f xs)
  where
    by : (b : Bool) (found : Option X) (seen : Option Y) → option_map (λ y. f (show y)) found ≡ option_map f seen
        → option_map (λ y. f (show y)) (cond b (Some x) found) ≡ option_map f (cond b (Some (show x)) seen)
    by true found seen same = refl
    by false found seen same = same

-- the number of a table's first value that passes
abbrev pub number_where : {V : Type 0} → (V → Bool) → List (ℕ × V) → Option ℕ
number_where p es = option_map (λ e. e.0) (find (λ e. p e.1) es)

pub found_seat : {V : Type 0} (p : V → Bool) (seats : List (Numbered V)) (es : List (ℕ × V)) → map seen seats ≡ es
    → option_map (λ seat. seat.number) (find (λ seat. p seat.value) seats) ≡ number_where p es
found_seat p seats es is = found_in seen (λ e. p e.1) (λ e. e.0) seats ∙ ap (number_where p) is

-- the name of the first value that passes, over all tables
abbrev pub name_where : {V : Type 0} → (V → Bool) → List (ℕ × List (ℕ × V)) → Option Name
name_where p tables = option_map (λ e. e.0) (find (λ e. p e.1) (named tables))

module _ {V : Type 0} (p : V → Bool) where
  -- it is one table's, or else that of the others
  name_first : (maker : ℕ) (es : List (ℕ × V)) (tables : List (ℕ × List (ℕ × V)))
      → name_where p ((maker, es) ∷ tables) ≡ option_or (option_map {U = Name} (λ n. (maker, n)) (number_where p es)) (name_where p tables)
  name_first maker es tables =
      ap (option_map (λ (e : Name × V). e.0)) (find-append (λ (e : Name × V). p e.1) (entries maker es) (named tables))
      ∙ either (find (λ (e : Name × V). p e.1) (entries maker es)) (find (λ (e : Name × V). p e.1) (named tables))
      ∙ ap (λ own. option_or own (name_where p tables)) (sym (found_in (λ (e : ℕ × V). ((maker, e.0), e.1)) (λ e. p e.1) (λ e. e.0) es)
      ∙ inside (find (λ e. p e.1) es))
    where
      either : (own later : Option (Name × V))
          → option_map (λ (e : Name × V). e.0) (option_or own later)
          ≡ option_or (option_map (λ (e : Name × V). e.0) own) (option_map (λ (e : Name × V). e.0) later)
      either None later = refl
      either (Some e) later = refl

      inside : (found : Option (ℕ × V))
          → option_map {U = Name} (λ (e : ℕ × V). (maker, e.0)) found ≡ option_map {U = Name} (λ n. (maker, n)) (option_map (λ (e : ℕ × V). e.0) found)
      inside None = refl
      inside (Some e) = refl

  module _ (seats : List (Numbered (List (ℕ × V)))) (i : ℕ) (d : Numbered (List (ℕ × V))) (within : i < length seats)
      (rest : name_where p (map seen (drop i seats)) ≡ name_where p (map seen seats)) where
    from_here : option_or (option_map {U = Name} (λ n. ((get_or seats i d).number, n)) (number_where p (get_or seats i d).value))
        (name_where p (map seen (drop (i + 1) seats)))
        ≡ name_where p (map seen seats)
    from_here =
        sym (name_first (get_or seats i d).number (get_or seats i d).value (map seen (drop (i + 1) seats)))
        ∙ sym (at_drop_more (λ l. name_where p (map seen l)) seats i d within) ∙ rest

    -- a table has none, so that it is that of the tables behind
    pub name_past : None ≡ number_where p (get_or seats i d).value → name_where p (map seen (drop (i + 1) seats)) ≡ name_where p (map seen seats)
    name_past none = ap (λ own. option_or (option_map {U = Name} (λ n. ((get_or seats i d).number, n)) own) (name_where p (map seen (drop (i + 1) seats)))) none
        ∙ from_here

    -- a table has one
    pub name_here : (n : ℕ) → Some n ≡ number_where p (get_or seats i d).value → Some ((get_or seats i d).number, n) ≡ name_where p (map seen seats)
    name_here n found = ap (λ own. option_or (option_map {U = Name} (λ k. ((get_or seats i d).number, k)) own) (name_where p (map seen (drop (i + 1) seats))))
        found ∙ from_here

  -- no table is left
  name_nowhere : (seats : List (Numbered (List (ℕ × V)))) (i : ℕ) → length seats ≤ i → name_where p (map seen (drop i seats)) ≡ name_where p (map seen seats)
      → None ≡ name_where p (map seen seats)
  name_nowhere seats i past rest = sym (at_drop_all (λ l. name_where p (map seen l)) seats i past) ∙ rest
