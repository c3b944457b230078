-- What a call leaves of the numbers in the rows.
use Rattle.std.proofs.Common.{◌≡◌, ℕ, ◌<◌, Bool, true, false, cond, List, [], ◌∷◌, ◌++◌, Option, None, ◌∙◌, ap, sym, subst}
use Rattle.std.specs.Prelude.{map, All}
use Rattle.std.specs.List.{AllByRecursion}
use Rattle.std.specs.Map.{lookup}
use Rattle.std.specs.Option.{IsSome}
use Rattle.std.proofs.lemmas.List.Elements.{recursion_from_All, All-from_recursion}
use Rattle.jg_words.specs.declared.object.ObjId.{ObjId}
use Rattle.jg_lists.specs.ByMaker.{Name, same_name, Adds}
use Rattle.jg_table_globals.specs.declared.target.Target.{Target}
use Rattle.jg_table_globals.specs.Rows.{Rows, Strong, Weak, IsAbove}
use Rattle.jg_table_globals.specs.Seen.{strong_seen, weak_seen}
use Rattle.jg_table_globals.specs.Clearing.{EachCleared}
use Rattle.jg_lists.proofs.Named.{names_kept, all_keys, all_rows}

all_added : {X Y : Type 0} (f : X → Y) (Q : Y → Type 0) (front back : List X) (x : X) → Q (f x) → AllByRecursion Q (map f (front ++ back))
    → AllByRecursion Q (map f (front ++ x ∷ back))
all_added f Q [] back x own all = (own, all)
all_added f Q (y ∷ front) back x own all = (all.0, all_added f Q front back x own all.1)

-- what holds of each row holds where an entry is added of which it holds
rows_added : {V R : Type 0} (seen : Name × V → R) (Q : R → Type 0) (q : Name) (v : V) (rows : List R) (es news : List (Name × V)) → rows ≡ map seen es
    → Adds q v es news → Q (seen (q, v)) → All Q rows
    → All Q (map seen news)
rows_added {V} {R} seen Q q v rows es news is adds own all =
    let was : AllByRecursion Q (map seen (adds.front ++ adds.back)) =
    subst (λ (l : List R). AllByRecursion Q l) (is ∙ ap (map seen) adds.was) (recursion_from_All _ _ all) in
    subst (λ (l : List (Name × V)). All Q (map seen l)) (sym adds.now) (All-from_recursion _ _ (all_added seen Q adds.front adds.back (q, v) own was))

pub strong_number : (rows : Rows) (q : Name) (o : ObjId) (es news : List (Name × ObjId)) (k i : ℕ) → rows.strong ≡ map strong_seen es → Adds q o es news
    → IsAbove k i rows → (k ≡ q.0 → q.1 < i)
    → IsAbove k i (record { strong = map strong_seen news; weak = rows.weak })
strong_number rows q o es news k i seen adds above below = record {
  strong = rows_added strong_seen (λ row. row.maker ≡ k → row.n < i) q o rows.strong es news seen adds (λ is. below (sym is)) above.strong;
  weak = above.weak;
}

pub weak_number : (rows : Rows) (q : Name) (t : Target) (es news : List (Name × Target)) (k i : ℕ) → rows.weak ≡ map weak_seen es → Adds q t es news
    → IsAbove k i rows → (k ≡ q.0 → q.1 < i)
    → IsAbove k i (record { strong = rows.strong; weak = map weak_seen news })
weak_number rows q t es news k i seen adds above below = record {
  strong = above.strong;
  weak = rows_added weak_seen (λ row. row.maker ≡ k → row.n < i) q t rows.weak es news seen adds (λ is. below (sym is)) above.weak;
}

pub strong_kept : (rows : Rows) (es news : List (Name × ObjId)) (k i : ℕ) → rows.strong ≡ map strong_seen es
    → ((q : Name) → IsSome (lookup (same_name q) news) → IsSome (lookup (same_name q) es))
    → IsAbove k i rows → IsAbove k i (record { strong = map strong_seen news; weak = rows.weak })
strong_kept rows es news k i seen known above =
    let P : Name → Type 0 = λ m. m.0 ≡ k → m.1 < i in
    let Q : Strong → Type 0 = λ row. row.maker ≡ k → row.n < i in
    let L : List Strong → Type 0 = λ l. All Q l in
    record {
      strong = all_rows strong_seen P Q (λ e below. below) news
          (names_kept P es news known (all_keys strong_seen P Q (λ e below. below) es (subst L seen above.strong)));
      weak = above.weak;
    }

pub weak_kept : (rows : Rows) (es news : List (Name × Target)) (k i : ℕ) → rows.weak ≡ map weak_seen es
    → ((q : Name) → IsSome (lookup (same_name q) news) → IsSome (lookup (same_name q) es))
    → IsAbove k i rows → IsAbove k i (record { strong = rows.strong; weak = map weak_seen news })
weak_kept rows es news k i seen known above =
    let P : Name → Type 0 = λ m. m.0 ≡ k → m.1 < i in
    let Q : Weak → Type 0 = λ row. row.maker ≡ k → row.n < i in
    let L : List Weak → Type 0 = λ l. All Q l in
    record {
      strong = above.strong;
      weak = all_rows weak_seen P Q (λ e below. below) news
          (names_kept P es news known (all_keys weak_seen P Q (λ e below. below) es (subst L seen above.weak)));
    }

-- what is found once a name is dropped was found before
pub still_found : {V : Type 0} (b : Bool) (was now : Option V) → now ≡ cond b None was → IsSome now → IsSome was
still_found true was now is found = cc
still_found false was now is found = subst IsSome is found

each_cleared : (test : ObjId → Bool → Type 0) (olds news : List (Name × Target)) (k i : ℕ) → EachCleared test olds news
    → AllByRecursion (λ row. row.maker ≡ k → row.n < i) (map weak_seen olds)
    → AllByRecursion (λ row. row.maker ≡ k → row.n < i) (map weak_seen news)
each_cleared test [] [] k i cleared above = tt
each_cleared test [] (new ∷ news) k i cleared above = cc
each_cleared test (row ∷ olds) [] k i cleared above = absurd cleared
each_cleared test (row ∷ olds) (new ∷ news) k i cleared above =
    let P : Name → Type 0 = λ m. m.0 ≡ k → m.1 < i in
    (subst P (sym cleared.0.0) above.0, each_cleared test olds news k i cleared.1 above.1)

pub cleared_kept : (test : ObjId → Bool → Type 0) (rows : Rows) (olds news : List (Name × Target)) (k i : ℕ) → rows.weak ≡ map weak_seen olds
    → EachCleared test olds news → IsAbove k i rows
    → IsAbove k i (record { strong = rows.strong; weak = map weak_seen news })
cleared_kept test rows olds news k i seen cleared above =
    let P : List Weak → Type 0 = λ l. AllByRecursion (λ row. row.maker ≡ k → row.n < i) l in
    record {
      strong = above.strong;
      weak = All-from_recursion _ _ (each_cleared test olds news k i cleared (subst P seen (recursion_from_All _ _ above.weak)));
    }
