-- What is found of one maker's values, and what is left when one of them is taken out.
use Rattle.std.proofs.Common.{◌≡◌, ◌-◌, ℕ, Bool, true, false, List, [], ◌∷◌, length, get_or, Some, None, refl, ◌∙◌, ap, sym, arith, eqb-true}
use Rattle.std.specs.Prelude.{◌==◌, if◌then◌else◌, map, slice_get, IsSome}
use Rattle.std.specs.List.{list_any}
use Rattle.std.specs.Map.{lookup, keys_of}
use Rattle.std.specs.Option.{option_map, is_some}
use Rattle.std.specs.BTreeMap.{is_at}
use Rattle.std.specs.Ordering.{nat_cmp}
use Rattle.std.proofs.lemmas.Map.Keys.{any_passes_from_place}
use Rattle.std.proofs.lemmas.Map.Made.{is_some-lookup}
use Rattle.std.proofs.lemmas.Option.{none-some, slice_get-get_or, slice_get-map}
use Rattle.std.proofs.lemmas.Bool.Decides.{nat_tests}
use mathlib.Core.List.{map-map}
use Rattle.jg_lists.specs.declared.by_number.Numbered.{Numbered}
use Rattle.jg_lists.specs.ByNumber.{seen}
use Rattle.jg_lists.specs.ByMaker.{Name, same_name, named, table_in, IsThereOnce}
use Rattle.jg_lists.specs.ByThread.{at, IsOnce}
use Rattle.jg_lists.proofs.Tables.{lookup-named}

-- the number of a seat is found
pub number_found : {V : Type 0} (maker : ℕ) (tables : List (ℕ × List (ℕ × V))) (numbers : List (ℕ × V)) (seats : List (Numbered V)) (i : ℕ) (seat : Numbered V)
    → IsOnce tables
    → at maker tables ≡ Some numbers → map seen seats ≡ numbers → slice_get seats i ≡ Some seat
    → IsSome (lookup (same_name (maker, seat.number)) (named tables))
number_found {V} maker tables numbers seats i seat once has are is =
    let keys : List ℕ = map (λ s. s.number) seats in
    let test : ℕ → Bool = is_at (nat_cmp seat.number) in
    let here : slice_get keys i ≡ Some seat.number = slice_get-map (λ s. s.number) seats i ∙ ap (option_map (λ s. s.number)) is in
    let own : test seat.number ≡ true = grind (arith, nat_tests) in
    ap is_some (lookup-named (maker, seat.number) tables once ∙ ap (λ found. at seat.number (table_in found)) has)
    ∙ is_some-lookup test numbers
    ∙ ap (λ (es : List (ℕ × V)). list_any test (keys_of es)) (sym are)
    ∙ ap (list_any test) (map-map (λ (e : ℕ × V). e.0) seen seats)
    ∙ any_passes_from_place test keys i seat.number here own

-- a maker that has no table, or an empty one, has no number
pub none_found : {V : Type 0} (maker : ℕ) (tables : List (ℕ × List (ℕ × V))) → IsOnce tables → table_in (at maker tables) ≡ [] → (n : ℕ)
    → lookup (same_name (maker, n)) (named tables) ≡ None
none_found {V} maker tables once empty n = lookup-named (maker, n) tables once ∙ ap (λ (es : List (ℕ × V)). at n es) empty

pub no_seat : {V : Type 0} (seats : List (Numbered V)) → slice_get seats (length seats - 1) ≡ None → map seen seats ≡ []
no_seat [] none = refl
no_seat (s ∷ seats) none =
    let last : slice_get (s ∷ seats) (length (s ∷ seats) - 1) ≡ Some (get_or (s ∷ seats) (length (s ∷ seats) - 1) s) =
    slice_get-get_or (s ∷ seats) (length (s ∷ seats) - 1) s (omega arith) in
    absurd (none-some _ (sym none ∙ last))

-- ---- one after the other

-- what it has of other makers is as before, and no name is there twice that was there once
pub record Leaves {V : Type 0} (maker : ℕ) (old new : List (Name × V)) : Type 0 where
  pub others : (q : Name) → (maker == q.0) ≡ false → lookup (same_name q) new ≡ lookup (same_name q) old
  pub once : (q : Name) → IsThereOnce q old → IsThereOnce q new

pub leaves_more : {V : Type 0} (maker : ℕ) (old mid new : List (Name × V)) → Leaves maker old mid → Leaves maker mid new → Leaves maker old new
leaves_more maker old mid new first later = record {
  others = λ q other. later.others q other ∙ first.others q other;
  once = λ q one. later.once q (first.once q one);
}

-- nothing of the maker is found, and what is found of others is as before
abbrev pub Clears : {V : Type 0} → ℕ → List (Name × V) → List (Name × V) → Type 0
Clears maker old new = (q : Name) → lookup (same_name q) new ≡ (if maker == q.0 then None else lookup (same_name q) old)

pub cleared : {V : Type 0} (maker : ℕ) (old new : List (Name × V)) → Leaves maker old new → ((n : ℕ) → lookup (same_name (maker, n)) new ≡ None)
    → Clears maker old new
cleared {V} maker old new leaves none q = by (maker == q.0) refl
  where
    by : (b : Bool) → (maker == q.0) ≡ b → lookup (same_name q) new ≡ (if b then None else lookup (same_name q) old)
    by true is = ap (λ (m : ℕ). lookup (same_name (m, q.1)) new) (sym (eqb-true maker q.0 is)) ∙ none q.1
    by false is = leaves.others q is
