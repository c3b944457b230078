-- What is stated twice.
use Rattle.std.proofs.Common.{◌≡◌, ℕ, Bool, true, false, not, ◌||◌, ◌&&◌, cond, List, [], ◌∷◌, ◌++◌, map, Option, Some, is_some, String, Global, string_bytes, refl, ◌∙◌, sym, append_assoc}
use Rattle.std.proofs.lemmas.List.{map-append}
use Rattle.std.proofs.lemmas.Bool.{false≢true, or_parts}
use Rattle.std.proofs.lemmas.List.Folds.{list_any-append}
use Rattle.std.specs.List.{list_any}
use Rattle.std.specs.Map.{lookup}
use Rattle.std.specs.Str.{bytes_eq}
use Rattle.std.proofs.Math.Bool.{or-true}
use Rattle.jg_words.proofs.Common.{list_any-map, list_any-front}
use Rattle.jg_policy.specs.declared.class.Class.{Class}
use Rattle.jg_policy.specs.declared.class.Member.{Member}
use Rattle.jg_policy.specs.BaseClasses.{base_names}
use Rattle.jg_policy.specs.Stated.{StatedClass}
use Rattle.jg_policy.specs.Findings.{has_repeat, same_member, repeats_member, repeats_name, states_twice}
use Rattle.jg_policy.specs.Kept.{member_view, class_view}

regroup : (a b c d : Bool) → ((a || (b || false)) || (c || d)) ≡ ((a || c) || (b || d))
regroup true b c d = refl
regroup false true true d = refl
regroup false true false d = refl
regroup false false c d = refl

either_grows : (a b c d : Bool) → (a ≡ true → b ≡ true) → (c ≡ true → d ≡ true) → (a || c) ≡ true → (b || d) ≡ true
either_grows true b c d p q h = rw (p refl)
either_grows false true c d p q h = refl
either_grows false false c d p q h = q h

pub any_last : {A : Type 0} (p : A → Bool) (xs : List A) (x : A) → p x ≡ true → list_any p (xs ++ x ∷ []) ≡ true
any_last p xs x h = rw (list_any-append p xs (x ∷ []), h) (or-true (list_any p xs))

module _ {A : Type 0} (same : A → A → Bool) where
  -- a last item repeats one before it
  has_repeat-last : (xs : List A) (x : A) → has_repeat same (xs ++ x ∷ []) ≡ (has_repeat same xs || list_any (same x) xs)
  has_repeat-last [] x = refl
  has_repeat-last (y ∷ ys) x =
      rw (list_any-append (λ z. same z y) ys (x ∷ []), has_repeat-last ys x)
      (regroup (list_any (λ z. same z y) ys) (same x y) (has_repeat same ys) (list_any (same x) ys))

  has_repeat-grows : (xs ys : List A) → has_repeat same xs ≡ true → has_repeat same (xs ++ ys) ≡ true
  has_repeat-grows [] ys h = absurd (false≢true h)
  has_repeat-grows (x ∷ xs) ys h = either_grows _ _ _ _ (list_any-front (λ y. same y x) xs ys) (has_repeat-grows xs ys) h

  -- a new item leaves a list without repeats
  pub no_repeat-last : (xs : List A) (x : A) → list_any (same x) xs ≡ false → has_repeat same xs ≡ false → has_repeat same (xs ++ x ∷ []) ≡ false
  no_repeat-last xs x new none = rw (has_repeat-last xs x, none, new)

  -- an item that is among those before it makes a repeat, whatever follows
  pub repeat_here : (xs : List A) (x : A) (rest : List A) → list_any (same x) xs ≡ true → has_repeat same ((xs ++ x ∷ []) ++ rest) ≡ true
  repeat_here xs x rest old = has_repeat-grows (xs ++ x ∷ []) rest (rw (has_repeat-last xs x, old) (or-true (has_repeat same xs)))

-- ---- classes

abbrev pub names : List StatedClass → List (List ℕ)
names classes = map (λ c. c.name) classes

twice_grows : (cs ds : List StatedClass) → states_twice cs ≡ true → states_twice (cs ++ ds) ≡ true
twice_grows cs ds h =
    rw (map-append (λ (c : StatedClass). c.name) cs ds, ← append_assoc base_names (names cs) (names ds))
    (either_grows _ _ _ _ (has_repeat-grows bytes_eq (base_names ++ names cs) (names ds)) (list_any-front repeats_member cs ds) h)

-- a class with a repeated member
pub twice_member : (cs : List StatedClass) (c : StatedClass) (rest : List StatedClass) → repeats_member c ≡ true → states_twice ((cs ++ c ∷ []) ++ rest) ≡ true
twice_member cs c rest h =
    twice_grows (cs ++ c ∷ []) rest (rw (any_last repeats_member cs c h) (or-true (repeats_name (names (cs ++ c ∷ [])))))

repeats_name-last : (cs : List StatedClass) (c : StatedClass)
    → repeats_name (names (cs ++ c ∷ [])) ≡ (repeats_name (names cs) || (list_any (bytes_eq c.name) base_names || list_any (bytes_eq c.name) (names cs)))
repeats_name-last cs c =
    rw (
      map-append (λ (d : StatedClass). d.name) cs (c ∷ []),
      ← append_assoc base_names (names cs) (c.name ∷ []),
      has_repeat-last bytes_eq (base_names ++ names cs) c.name,
      list_any-append (bytes_eq c.name) base_names (names cs),
    )

-- a class whose name is a base class's
pub twice_base : (cs : List StatedClass) (c : StatedClass) (rest : List StatedClass) → list_any (bytes_eq c.name) base_names ≡ true
    → states_twice ((cs ++ c ∷ []) ++ rest) ≡ true
twice_base cs c rest h =
    twice_grows (cs ++ c ∷ []) rest (rw (repeats_name-last cs c, h, or-true (repeats_name (names cs))))

-- a class whose name is an earlier one's
pub twice_name : (cs : List StatedClass) (c : StatedClass) (rest : List StatedClass) → list_any (bytes_eq c.name) (names cs) ≡ true
    → states_twice ((cs ++ c ∷ []) ++ rest) ≡ true
twice_name cs c rest h =
    twice_grows (cs ++ c ∷ []) rest (rw (repeats_name-last cs c, h, or-true (list_any (bytes_eq c.name) base_names), or-true (repeats_name (names cs))))

-- a new class without repeats
pub once_stated : (cs : List StatedClass) (c : StatedClass) → list_any (bytes_eq c.name) base_names ≡ false → list_any (bytes_eq c.name) (names cs) ≡ false
    → repeats_member c ≡ false → states_twice cs ≡ false → states_twice (cs ++ c ∷ []) ≡ false
once_stated cs c base new own none =
    let before = or_parts (repeats_name (names cs)) (list_any repeats_member cs) none in
    rw (repeats_name-last cs c, base, new, list_any-append repeats_member cs (c ∷ []), own, before.0, before.1)

-- ---- as they are kept

pub any_named : (name : List ℕ) (es : List (String Global × Class))
    → list_any (bytes_eq name) (names (map class_view es)) ≡ is_some (lookup (λ k. bytes_eq name (string_bytes k)) es)
any_named name [] = refl
any_named name (e ∷ es) = by_test (bytes_eq name (string_bytes e.0)) e.1 _ _ (any_named name es)
  where
    by_test : (b : Bool) (c : Class) (r : Bool) (o : Option Class) → r ≡ is_some o → (b || r) ≡ is_some (cond b (Some c) o)
    by_test true c r o h = refl
    by_test false c r o h = h

-- ---- members

-- equal members by their texts
abbrev pub equal_members : Member → Member → Bool
equal_members m n = bytes_eq (string_bytes m.name) (string_bytes n.name) && bytes_eq (string_bytes m.signature) (string_bytes n.signature)

pub member_among : (m : Member) (ks : List Member) → list_any (same_member (member_view m)) (map member_view ks) ≡ list_any (equal_members m) ks
member_among m ks = list_any-map member_view (same_member (member_view m)) ks

pub false_not : (b : Bool) → false ≡ not b → b ≡ true
false_not true h = refl
false_not false h = absurd (false≢true h)

pub true_not : (b : Bool) → true ≡ not b → b ≡ false
true_not true h = absurd (false≢true (sym h))
true_not false h = refl

-- the base classes have different names
pub nothing_twice : states_twice [] ≡ false
unfolding base_names
nothing_twice = refl
