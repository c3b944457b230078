-- What entries by name have of one name: the rows that contracts see, and its numbers.
use Rattle.std.proofs.Common.{◌≡◌, ◌≤◌, ◌+◌, ℕ, Bool, true, false, cond, length, List, [], ◌∷◌, ◌++◌, Some, None, refl, ◌∙◌, ap, sym, subst, arith}
use Rattle.std.specs.Prelude.{if◌then◌else◌, filter, map, All}
use Rattle.std.specs.Cmp.{IsEquivalence}
use Rattle.std.specs.List.{AllByRecursion}
use Rattle.std.specs.Map.{keys_of, lookup}
use Rattle.std.specs.Option.{option_map, option_to_list, IsSome}
use Rattle.std.proofs.lemmas.Bool.Decides.{nat_tests}
use Rattle.std.proofs.lemmas.Cmp.{and_equiv, on_equiv, nat_eq_equiv}
use Rattle.std.proofs.lemmas.List.{length-map}
use Rattle.std.proofs.lemmas.List.Elements.{recursion_from_All, All-from_recursion, All-contains}
use Rattle.std.proofs.lemmas.Map.Views.{All-keys_from_lookup, Contains-keys_from_lookup}
use Rattle.jg_lists.specs.Acts.{how_many}
use Rattle.jg_lists.specs.ByMaker.{Name, same_name, Adds, IsThereOnce}
use Rattle.jg_lists.proofs.Acts.{how_many-between, length-filter}
use Rattle.jg_lists.proofs.Lists.{first, map-filter}

pub name_laws : IsEquivalence same_name
name_laws = and_equiv (on_equiv (λ a. a.0) nat_eq_equiv) (on_equiv (λ a. a.1) nat_eq_equiv)

pub equal_names : (a b : Name) → same_name a b ≡ true → a ≡ b
equal_names a b is =
    let maker : a.0 ≡ b.0 = grind (arith, nat_tests) in
    let n : a.1 ≡ b.1 = grind (arith, nat_tests) in
    (λ j. (maker j, n j))

module _ {V R : Type 0} (seen : Name × V → R) (test : R → Bool) (q : Name) (tests : (e : Name × V) → test (seen e) ≡ same_name q e.0) where
  entry_seen : (e : Name × V) → same_name q e.0 ≡ true → seen e ≡ seen (q, e.1)
  entry_seen e is =
      let named : q ≡ e.0 = equal_names q e.0 is in
      ap (λ k. seen (k, e.1)) (sym named)

  -- the first row that passes the test is that of the name
  pub first_named : (es : List (Name × V)) → first (filter test (map seen es)) ≡ option_map (λ v. seen (q, v)) (lookup (same_name q) es)
  first_named [] = refl
  first_named (e ∷ es) =
      let P : Bool → Type 0 = λ b. first (if b then seen e ∷ filter test (map seen es) else filter test (map seen es))
      ≡ option_map (λ v. seen (q, v)) (lookup (same_name q) (e ∷ es)) in
      subst P (sym (tests e)) (by (same_name q e.0) refl (first_named es))
    where
      by : (b : Bool) → same_name q e.0 ≡ b → first (filter test (map seen es)) ≡ option_map (λ v. seen (q, v)) (lookup (same_name q) es)
          → first (if b then seen e ∷ filter test (map seen es) else filter test (map seen es))
          ≡ option_map (λ v. seen (q, v)) (cond b (Some e.1) (lookup (same_name q) es))
      by true is rest = ap Some (entry_seen e is)
      by false is rest = rest

  same_length : (es : List (Name × V)) → length (filter test (map seen es)) ≡ length (filter (λ e. same_name q e.0) es)
  same_length es = ap length (sym (map-filter seen (λ e. same_name q e.0) test (λ e. sym (tests e)) es)) ∙ length-map (filter (λ e. same_name q e.0) es) seen

  -- one row at most passes the test where no two entries have the name, and the other way
  pub once_named : (es : List (Name × V)) → length (filter test (map seen es)) ≤ 1 → IsThereOnce q es
  once_named es few = omega (arith, few, same_length es)

  one_or_none : (rows : List R) → length rows ≤ 1 → rows ≡ option_to_list (first rows)
  one_or_none [] few = refl
  one_or_none (row ∷ []) few = refl
  one_or_none (row ∷ other ∷ rows) few = absurd (omega (arith, few))

  -- the rows that pass the test are that of the name, where it is found
  pub rows_named : (es : List (Name × V)) → IsThereOnce q es
      → filter test (map seen es) ≡ option_to_list (option_map (λ v. seen (q, v)) (lookup (same_name q) es))
  rows_named es once = one_or_none (filter test (map seen es)) (omega (arith, once, same_length es)) ∙ ap option_to_list (first_named es)

-- a map in which only names of another are found has only names of it
pub names_kept : {V W : Type 0} (P : Name → Type 0) (es : List (Name × V)) (news : List (Name × W))
    → ((q : Name) → IsSome (lookup (same_name q) news) → IsSome (lookup (same_name q) es)) → All P (keys_of es) → All P (keys_of news)
names_kept P es news known all = All-keys_from_lookup name_laws P news (λ q found.
    All-contains P (keys_of es) q all (Contains-keys_from_lookup equal_names q es (known q found)))

module _ {V R : Type 0} (seen : Name × V → R) (P : Name → Type 0) (Q : R → Type 0) where
  keys_by : ((e : Name × V) → Q (seen e) → P e.0) → (es : List (Name × V)) → AllByRecursion Q (map seen es) → AllByRecursion P (keys_of es)
  keys_by says [] all = tt
  keys_by says (e ∷ es) all = (says e all.0, keys_by says es all.1)

  rows_by : ((e : Name × V) → P e.0 → Q (seen e)) → (es : List (Name × V)) → AllByRecursion P (keys_of es) → AllByRecursion Q (map seen es)
  rows_by says [] all = tt
  rows_by says (e ∷ es) all = (says e all.0, rows_by says es all.1)

  -- what holds of each row holds of each name, and the other way
  pub all_keys : ((e : Name × V) → Q (seen e) → P e.0) → (es : List (Name × V)) → All Q (map seen es) → All P (keys_of es)
  all_keys says es all = All-from_recursion _ _ (keys_by says es (recursion_from_All _ _ all))

  pub all_rows : ((e : Name × V) → P e.0 → Q (seen e)) → (es : List (Name × V)) → All P (keys_of es) → All Q (map seen es)
  all_rows says es all = All-from_recursion _ _ (rows_by says es (recursion_from_All _ _ all))

-- ---- one name more

nothing_passes : {V : Type 0} (q : Name) (es : List (Name × V)) → lookup (same_name q) es ≡ None → how_many (λ e. same_name q e.0) es ≡ 0
nothing_passes q [] none = refl
nothing_passes q (e ∷ es) none = by (same_name q e.0) none (nothing_passes q es)
  where
    by : (b : Bool) → cond b (Some e.1) (lookup (same_name q) es) ≡ None → (lookup (same_name q) es ≡ None → how_many (λ e. same_name q e.0) es ≡ 0)
        → (if b then how_many (λ e. same_name q e.0) es + 1 else how_many (λ e. same_name q e.0) es) ≡ 0
    by true none later = cc
    by false none later = later none

found_between : {V : Type 0} (q : Name) (v : V) (front back : List (Name × V)) → lookup (same_name q) (front ++ back) ≡ None
    → (p : Name) → lookup (same_name p) (front ++ (q, v) ∷ back) ≡ (if same_name q p then Some v else lookup (same_name p) (front ++ back))
found_between q v [] back none p = rw (name_laws.symm p q) refl
found_between q v (e ∷ front) back none p =
    let later = found_between q v front back in
    grind (arith, nat_tests, none, later)

pub found_more : {V : Type 0} (q : Name) (v : V) (old new : List (Name × V)) → lookup (same_name q) old ≡ None → Adds q v old new
    → (p : Name) → lookup (same_name p) new ≡ (if same_name q p then Some v else lookup (same_name p) old)
found_more {V} q v old new none adds p =
    ap (lookup (same_name p)) adds.now
    ∙ found_between q v adds.front adds.back (ap (lookup (same_name q)) (sym adds.was) ∙ none) p
    ∙ ap (λ es. if same_name q p then Some v else lookup (same_name p) es) (sym adds.was)

once_by : {V : Type 0} (p q : Name) (old : List (Name × V)) (now : ℕ) (b : Bool) → same_name p q ≡ b → lookup (same_name q) old ≡ None
    → now ≡ (if b then how_many (λ e. same_name p e.0) old + 1 else how_many (λ e. same_name p e.0) old) → how_many (λ e. same_name p e.0) old ≤ 1 → now ≤ 1
once_by p q old now true is none counted few =
    let P : Name → Type 0 = λ k. lookup (same_name k) old ≡ None in
    omega (arith, counted, nothing_passes p old (subst P (sym (equal_names p q is)) none))
once_by p q old now false is none counted few = omega (arith, counted, few)

pub once_more : {V : Type 0} (q : Name) (v : V) (old new : List (Name × V)) → lookup (same_name q) old ≡ None → Adds q v old new → (p : Name)
    → IsThereOnce p old → IsThereOnce p new
once_more {V} q v old new none adds p once =
    let test : Name × V → Bool = λ e. same_name p e.0 in
    let counted : how_many test new ≡ (if same_name p q then how_many test old + 1 else how_many test old) =
    ap (how_many test) adds.now ∙ how_many-between test adds.front (q, v) adds.back
    ∙ ap (λ es. if same_name p q then how_many test es + 1 else how_many test es) (sym adds.was) in
    let few = once_by p q old (how_many test new) (same_name p q) refl none counted (omega (arith, once, length-filter test old)) in
    omega (arith, few, length-filter test new)
