-- A name's value becomes another one.
use Rattle.std.proofs.Common.{◌≡◌, ◌∙◌, ℕ, Bool, true, false, List, Option, Some, None, refl, ap, sym, subst, arith, eqb-true}
use Rattle.std.specs.Prelude.{◌==◌, ◌&&◌, if◌then◌else◌, IsSome}
use Rattle.std.specs.Map.{lookup}
use Rattle.std.specs.Option.{option_map}
use Rattle.std.proofs.lemmas.Bool.Decides.{nat_tests}
use Rattle.jg_lists.specs.ByThread.{at, IsOnce}
use Rattle.jg_lists.specs.ByMaker.{Name, same_name, named, table_at, table_in}
use Rattle.jg_lists.specs.Lending.{WritesThrough}
use Rattle.jg_lists.proofs.Named.{equal_names}
use Rattle.jg_lists.proofs.Tables.{lookup-named}

-- the maker's table has the value for the number, each other number has what it had, and the other tables stay
record TableSets {V : Type 0} (name : Name) (v : Option V) (old new : List (ℕ × List (ℕ × V))) : Type 0 where
  found : (n : ℕ) → at n (table_at name.0 new) ≡ (if name.1 == n then v else at n (table_at name.0 old))
  others : (m : ℕ) → (name.0 == m) ≡ false → table_at m new ≡ table_at m old
  news : IsOnce new

own_set : {V : Type 0} (name q : Name) (v : Option V) (old new : List (ℕ × List (ℕ × V))) (b : Bool) → (name.0 == q.0) ≡ b → TableSets name v old new
    → at q.1 (table_at q.0 new) ≡ (if b && (name.1 == q.1) then v else at q.1 (table_at q.0 old))
own_set {V} name q v old new true is sets =
    let P : ℕ → Type 0 = λ m. at q.1 (table_at m new) ≡ (if name.1 == q.1 then v else at q.1 (table_at m old)) in
    subst P (eqb-true name.0 q.0 is) (sets.found q.1)
own_set {V} name q v old new false is sets = ap (at q.1) (sets.others q.0 is)

kept_table : {V : Type 0} (m : ℕ) (olds : List (ℕ × List (ℕ × V))) (now : List (ℕ × V)) (b : Bool) → b ≡ false
    → table_in (if b then Some now else at m olds) ≡ table_at m olds
kept_table m olds now true is = cc
kept_table m olds now false is = refl

table_sets : {V : Type 0} (name : Name) (v : Option V) (olds news : List (ℕ × List (ℕ × V))) (was now : List (ℕ × V)) → at name.0 olds ≡ Some was
    → WritesThrough name.0 olds now news
    → ((n : ℕ) → at n now ≡ (if name.1 == n then v else at n was)) → TableSets name v olds news
table_sets {V} name v olds news was now is through set =
    let some : IsSome (at name.0 olds) = rw is refl in
    let own : (name.0 == name.0) ≡ true = grind (arith, nat_tests) in
    let there : at name.0 news ≡ Some now = through.values some name.0 ∙ ap (λ b. if b then Some now else at name.0 olds) own in
    record {
      found = λ n. ap (λ found. at n (table_in found)) there ∙ set n ∙ ap (λ found. if name.1 == n then v else at n (table_in found)) (sym is);
      others = λ m other. ap table_in (through.values some m) ∙ kept_table m olds now (name.0 == m) other;
      news = through.once;
    }

pub replaced : {V : Type 0} (name : Name) (v : Option V) (olds news : List (ℕ × List (ℕ × V))) (was now : List (ℕ × V)) → at name.0 olds ≡ Some was
    → WritesThrough name.0 olds now news → IsOnce olds
    → ((n : ℕ) → at n now ≡ (if name.1 == n then v else at n was)) → (q : Name)
    → lookup (same_name q) (named news) ≡ (if same_name name q then v else lookup (same_name q) (named olds))
replaced name v olds news was now is through once set q =
    let sets = table_sets name v olds news was now is through set in
    lookup-named q news sets.news
    ∙ own_set name q v olds news (name.0 == q.0) refl sets
    ∙ ap (λ found. if same_name name q then v else found) (sym (lookup-named q olds once))

-- what has no value is changed nowhere
pub none_changed : {V : Type 0} (name q : Name) (f : V → V) (es : List (Name × V)) → lookup (same_name name) es ≡ None
    → lookup (same_name q) es ≡ (if same_name name q then option_map f (lookup (same_name name) es) else lookup (same_name q) es)
none_changed {V} name q f es none = by (same_name name q) refl
  where
    by : (b : Bool) → same_name name q ≡ b → lookup (same_name q) es ≡ (if b then option_map f (lookup (same_name name) es) else lookup (same_name q) es)
    by true is = ap (λ n. lookup (same_name n) es) (sym (equal_names name q is)) ∙ none ∙ ap (option_map f) (sym none)
    by false is = refl
