-- Rows and the look-ups of the table's maps.
use Rattle.std.proofs.Common.{◌≡◌, ℕ, ◌+◌, Bool, true, false, List, [], ◌∷◌, Some, None, refl, ◌∙◌, ap, arith, IsPermutation}
use Rattle.std.specs.Prelude.{◌||◌, nat_lt, if◌then◌else◌, filter, map, find}
use Rattle.std.specs.List.{list_any, sum_by, IsDistinct}
use Rattle.std.specs.Option.{option_map, option_to_list}
use Rattle.std.specs.Map.{lookup, keys_of}
use Rattle.std.proofs.lemmas.Bool.Decides.{nat_tests}
use Rattle.std.proofs.lemmas.List.Sums.{sum_by-cons}
use Rattle.std.proofs.lemmas.List.Sorted.{sum_by_popped}
use Rattle.std.proofs.lemmas.Map.{lookup-none}
use Rattle.std.proofs.lemmas.Map.Entries.{none_past_head}
use Rattle.std.proofs.lemmas.Map.Keys.{IsDistinct-tail}
use Rattle.jg_words.specs.declared.reference.Ref.{Ref}
use Rattle.jg_words.specs.declared.reference.Ref.TheVariants.{Null, To}
use Rattle.jg_words.specs.declared.reference.Kind.TheVariants.{Local, Global, Weak}
use Rattle.jg_lists.proofs.Named.{name_laws, equal_names}
use Rattle.jg_table_buffers.specs.History.{Buffer, same_ref}
use Rattle.jg_lists.specs.ByMaker.{same_name}
use Rattle.jg_lists.specs.Acts.{once_if}
use Rattle.jg_table_buffers.specs.Keys.{same_triple}
use Rattle.jg_table_buffers.specs.Rows.{is_buffer}
use Rattle.jg_table_buffers.specs.Seen.{key_of}
use Rattle.jg_table_buffers.specs.Tallies.{how_many}

-- ---- keys

pub at_key : (r s : Ref) → same_triple (key_of r) (key_of s) ≡ same_ref r s
at_key Null Null = refl
at_key Null (To Local m n) = refl
at_key Null (To Global m n) = refl
at_key Null (To Weak m n) = refl
at_key (To Local m n) Null = refl
at_key (To Global m n) Null = refl
at_key (To Weak m n) Null = refl
at_key (To Local m n) (To Local i o) = grind (arith, nat_tests)
at_key (To Local m n) (To Global i o) = refl
at_key (To Local m n) (To Weak i o) = refl
at_key (To Global m n) (To Local i o) = refl
at_key (To Global m n) (To Global i o) = grind (arith, nat_tests)
at_key (To Global m n) (To Weak i o) = refl
at_key (To Weak m n) (To Local i o) = refl
at_key (To Weak m n) (To Global i o) = refl
at_key (To Weak m n) (To Weak i o) = grind (arith, nat_tests)

-- ---- rows by key

-- how the table sees an entry: with its key as maker and number
abbrev pub Keyed : {X : Type 0} → ((ℕ × ℕ) × X → Buffer) → Type 0
Keyed {X} f = (m n : ℕ) (e : (ℕ × ℕ) × X) → is_buffer m n (f e) ≡ same_name e.0 (m, n)

found_by : {X : Type 0} (f : (ℕ × ℕ) × X → Buffer) (m n : ℕ) (e : (ℕ × ℕ) × X) (es : List ((ℕ × ℕ) × X)) (b : Bool) → same_name e.0 (m, n) ≡ b
    → find (is_buffer m n) (map f es) ≡ option_map (λ w. f ((m, n), w)) (lookup (same_name (m, n)) es)
    → (if b then Some (f e) else find (is_buffer m n) (map f es)) ≡ option_map (λ w. f ((m, n), w)) (if b then Some e.1 else lookup (same_name (m, n)) es)
found_by f m n e es true is later = ap (λ k. Some (f (k, e.1))) (equal_names e.0 (m, n) is)
found_by f m n e es false is later = later

pub found_row : {X : Type 0} (f : (ℕ × ℕ) × X → Buffer) (keyed : Keyed f) (m n : ℕ) (es : List ((ℕ × ℕ) × X))
    → find (is_buffer m n) (map f es) ≡ option_map (λ w. f ((m, n), w)) (lookup (same_name (m, n)) es)
found_row f keyed m n [] = refl
found_row f keyed m n (e ∷ es) = rw (name_laws.symm (m, n) e.0, keyed m n e) (found_by f m n e es (same_name e.0 (m, n)) refl (found_row f keyed m n es))

kept_by : {X : Type 0} (f : (ℕ × ℕ) × X → Buffer) (m n : ℕ) (e : (ℕ × ℕ) × X) (es : List ((ℕ × ℕ) × X)) (b : Bool) → same_name e.0 (m, n) ≡ b
    → IsDistinct same_name (keys_of (e ∷ es))
    → filter (is_buffer m n) (map f es) ≡ option_to_list (option_map (λ w. f ((m, n), w)) (lookup (same_name (m, n)) es))
    → (if b then f e ∷ filter (is_buffer m n) (map f es) else filter (is_buffer m n) (map f es))
    ≡ option_to_list (option_map (λ w. f ((m, n), w)) (if b then Some e.1 else lookup (same_name (m, n)) es))
kept_by f m n e es true is distinct later =
    let none : lookup (same_name (m, n)) es ≡ None = lookup-none (same_name (m, n)) es
    (none_past_head name_laws (m, n) e es distinct (name_laws.symm (m, n) e.0 ∙ is)) in
    let empty : filter (is_buffer m n) (map f es) ≡ [] = later ∙ ap (λ o. option_to_list (option_map (λ w. f ((m, n), w)) o)) none in
    ap (λ l. f e ∷ l) empty ∙ ap (λ k. f (k, e.1) ∷ []) (equal_names e.0 (m, n) is)
kept_by f m n e es false is distinct later = later

-- each key has exactly what a look-up finds
abbrev pub IsExact : {X : Type 0} → ((ℕ × ℕ) × X → Buffer) → List ((ℕ × ℕ) × X) → Type 0
IsExact f es = (m n : ℕ) → filter (is_buffer m n) (map f es) ≡ option_to_list (option_map (λ w. f ((m, n), w)) (lookup (same_name (m, n)) es))

pub exact : {X : Type 0} (f : (ℕ × ℕ) × X → Buffer) (keyed : Keyed f) (es : List ((ℕ × ℕ) × X)) → IsDistinct same_name (keys_of es) → IsExact f es
exact f keyed [] distinct m n = refl
exact f keyed (e ∷ es) distinct m n =
    rw (name_laws.symm (m, n) e.0, keyed m n e)
    (kept_by f m n e es (same_name e.0 (m, n)) refl distinct (exact f keyed es (IsDistinct-tail same_name e.0 (keys_of es) distinct) m n))

-- ---- counts

some_here : {X : Type 0} (p : X → Bool) (x : X) (xs : List X) (b : Bool) → nat_lt 0 (how_many p xs) ≡ list_any p xs
    → nat_lt 0 (if b then how_many p xs + 1 else how_many p xs) ≡ (b || list_any p xs)
some_here p x xs true is = grind (arith, nat_tests)
some_here p x xs false is = is

-- a count is above 0 where there is one
pub some_counted : {X : Type 0} (p : X → Bool) (xs : List X) → nat_lt 0 (how_many p xs) ≡ list_any p xs
some_counted p [] = refl
some_counted p (x ∷ xs) = some_here p x xs (p x) (some_counted p xs)

added : (b : Bool) (h : ℕ) → once_if b + h ≡ (if b then h + 1 else h)
added true h = omega arith
added false h = omega arith

counted_sum : {X : Type 0} (p : X → Bool) (xs : List X) → sum_by (λ x. once_if (p x)) xs ≡ how_many p xs
counted_sum p [] = refl
counted_sum p (x ∷ xs) = sum_by-cons (λ x. once_if (p x)) x xs ∙ (ap (λ h. once_if (p x) + h) (counted_sum p xs) ∙ added (p x) (how_many p xs))

-- one entry less is one less of the count
pub counted_popped : {X : Type 0} (p : X → Bool) (x : X) (xs ys : List X) → IsPermutation xs (x ∷ ys)
    → how_many p xs ≡ (if p x then how_many p ys + 1 else how_many p ys)
counted_popped p x xs ys moves =
    let popped = sum_by_popped (λ x. once_if (p x)) x xs ys moves in
    let before = counted_sum p xs in
    let after = counted_sum p ys in
    let one = added (p x) (how_many p ys) in
    omega (arith, popped, before, after, one)
