-- What the tables of all makers have by name.
use Rattle.std.proofs.Common.{◌≡◌, ℕ, ◌≤◌, ◌+◌, Bool, true, false, List, [], ◌∷◌, ◌++◌, length, Option, Some, None, refl, ◌∙◌, ap, sym, subst, arith, eqb-true}
use Rattle.std.specs.Prelude.{◌==◌, ◌&&◌, if◌then◌else◌, filter, IsPermutation, IsSome, IfSome}
use Rattle.std.specs.Map.{lookup, keys_of, set_value}
use Rattle.std.specs.Option.{option_map}
use Rattle.std.specs.BTreeMap.{is_at}
use Rattle.std.specs.Ordering.{nat_cmp, eq_by_cmp}
use Rattle.std.specs.Cmp.{nat_cmp_total, eq_by_cmp_equiv}
use Rattle.std.proofs.lemmas.Bool.Decides.{nat_tests}
use Rattle.std.proofs.lemmas.List.{append_assoc, append-nil, map-append}
use Rattle.std.proofs.lemmas.List.Elements.{filter-append}
use Rattle.std.proofs.lemmas.List.Sorted.{IsPermutation-trans, IsPermutation-append_left, IsPermutation-append_right, IsPermutation-middle}
use Rattle.std.proofs.lemmas.Option.{IfSome_then}
use Rattle.std.proofs.lemmas.Map.{lookup-none}
use Rattle.std.proofs.lemmas.Map.Steps.{set_value_same}
use Rattle.std.proofs.lemmas.Map.Entries.{none_past_head}
use Rattle.std.proofs.lemmas.Map.Keys.{IsDistinct-tail, IsDistinct-from_apart}
use Rattle.jg_lists.specs.Acts.{how_many}
use Rattle.jg_lists.specs.ByThread.{at, IsOnce}
use Rattle.jg_lists.specs.Lending.{WritesThrough}
use Rattle.jg_lists.proofs.Acts.{at_key, one_if, counted_law}
use Rattle.jg_lists.proofs.Lists.{first, map-IsPermutation}
use Rattle.jg_lists.specs.ByMaker.{Name, same_name, entries, named, table_in, table_at, Adds, Drops, IsThereOnce}

-- ---- one table

own_name : (q : Name) (k : ℕ) → same_name q (q.0, k) ≡ (k == q.1)
own_name q k = grind (arith, nat_tests)

other_name : (q : Name) (m k : ℕ) → (m == q.0) ≡ false → same_name q (m, k) ≡ false
other_name q m k other = grind (arith, nat_tests, other)

found_in : {V : Type 0} (q : Name) (es : List (ℕ × V)) → lookup (same_name q) (entries q.0 es) ≡ at q.1 es
found_in q [] = refl
found_in q (e ∷ es) = rw (own_name q e.0, at_key q.1 e.0) (ap (λ found. if e.0 == q.1 then Some e.1 else found) (found_in q es))

none_of_other : {V : Type 0} (q : Name) (m : ℕ) (es : List (ℕ × V)) → (m == q.0) ≡ false → filter (λ e. same_name q e.0) (entries m es) ≡ []
none_of_other q m [] other = refl
none_of_other q m (e ∷ es) other = rw (other_name q m e.0 other) (none_of_other q m es other)

counted_in : {V : Type 0} (q : Name) (es : List (ℕ × V)) → length (filter (λ e. same_name q e.0) (entries q.0 es)) ≡ how_many (λ e. e.0 == q.1) es
counted_in q [] = refl
counted_in q (e ∷ es) = rw (own_name q e.0) (by (e.0 == q.1) (counted_in q es))
  where
    by : (b : Bool) → length (filter (λ e. same_name q e.0) (entries q.0 es)) ≡ how_many (λ e. e.0 == q.1) es
        → length (if b then ((q.0, e.0), e.1) ∷ filter (λ e. same_name q e.0) (entries q.0 es) else filter (λ e. same_name q e.0) (entries q.0 es))
        ≡ (if b then how_many (λ e. e.0 == q.1) es + 1 else how_many (λ e. e.0 == q.1) es)
    by true same = omega (arith, same)
    by false same = same

at_most_one : {V : Type 0} (found : Option V) → one_if found ≤ 1
at_most_one None = omega arith
at_most_one (Some v) = omega arith

once_in : {V : Type 0} (q : Name) (es : List (ℕ × V)) → IsOnce es → IsThereOnce q (entries q.0 es)
once_in q es once = omega (arith, counted_in q es, counted_law q.1 es once, at_most_one (at q.1 es))

-- ---- all tables

head_entries : {V : Type 0} (q : Name) (table : ℕ × List (ℕ × V)) (tables : List (ℕ × List (ℕ × V))) (b : Bool) → (table.0 == q.0) ≡ b → IsOnce (table ∷ tables)
    → filter (λ e. same_name q e.0) (named tables) ≡ filter (λ e. same_name q e.0) (entries q.0 (table_at q.0 tables))
    → filter (λ e. same_name q e.0) (entries table.0 table.1) ++ filter (λ e. same_name q e.0) (named tables)
    ≡ filter (λ e. same_name q e.0) (entries q.0 (table_in (if b then Some table.1 else at q.0 tables)))
head_entries q table tables true is once later =
    let key : is_at (nat_cmp q.0) table.0 ≡ true = at_key q.0 table.0 ∙ is in
    let none : at q.0 tables ≡ None = lookup-none (is_at (nat_cmp q.0)) tables (none_past_head (eq_by_cmp_equiv nat_cmp_total) q.0 table tables once key) in
    let empty = later ∙ ap (λ found. filter (λ e. same_name q e.0) (entries q.0 (table_in found))) none in
    rw (empty, append-nil (filter (λ e. same_name q e.0) (entries table.0 table.1)))
    (ap (λ m. filter (λ e. same_name q e.0) (entries m table.1)) (eqb-true table.0 q.0 is))
head_entries q table tables false is once later = rw (none_of_other q table.0 table.1 is) later

-- the entries of a name are those in its maker's table
pub filter-named : {V : Type 0} (q : Name) (tables : List (ℕ × List (ℕ × V))) → IsOnce tables
    → filter (λ e. same_name q e.0) (named tables) ≡ filter (λ e. same_name q e.0) (entries q.0 (table_at q.0 tables))
filter-named q [] once = refl
filter-named q (table ∷ tables) once =
    rw (filter-append, at_key q.0 table.0)
    (head_entries q table tables (table.0 == q.0) refl once (filter-named q tables (IsDistinct-tail (eq_by_cmp nat_cmp) table.0 (keys_of tables) once)))

lookup-first : {V : Type 0} (q : Name) (es : List (Name × V)) → lookup (same_name q) es ≡ option_map (λ e. e.1) (first (filter (λ e. same_name q e.0) es))
lookup-first q [] = refl
lookup-first q (e ∷ es) = by (same_name q e.0) (lookup-first q es)
  where
    by : (b : Bool) → lookup (same_name q) es ≡ option_map (λ e. e.1) (first (filter (λ e. same_name q e.0) es))
        → (if b then Some e.1 else lookup (same_name q) es)
        ≡ option_map (λ e. e.1) (first (if b then e ∷ filter (λ e. same_name q e.0) es else filter (λ e. same_name q e.0) es))
    by true later = refl
    by false later = later

-- a name is found where its maker's table has its number
pub lookup-named : {V : Type 0} (q : Name) (tables : List (ℕ × List (ℕ × V))) → IsOnce tables
    → lookup (same_name q) (named tables) ≡ at q.1 (table_at q.0 tables)
lookup-named {V} q tables once =
    lookup-first q (named tables)
    ∙ ap (λ (es : List (Name × V)). option_map (λ e. e.1) (first es)) (filter-named q tables once)
    ∙ sym (lookup-first q (entries q.0 (table_at q.0 tables)))
    ∙ found_in q (table_at q.0 tables)

pub named-append : {V : Type 0} (xs ys : List (ℕ × List (ℕ × V))) → named (xs ++ ys) ≡ named xs ++ named ys
named-append [] ys = refl
named-append (x ∷ xs) ys = ap (λ es. entries x.0 x.1 ++ es) (named-append xs ys) ∙ sym (append_assoc (entries x.0 x.1) (named xs) (named ys))

-- an empty table adds no entry
pub opened : {V : Type 0} (maker : ℕ) (tables news : List (ℕ × List (ℕ × V))) (table : List (ℕ × V)) → news ≡ tables ++ (maker, table) ∷ [] → table ≡ []
    → named news ≡ named tables
opened maker tables news table is empty =
    ap named (is ∙ ap (λ es. tables ++ (maker, es) ∷ []) empty) ∙ named-append tables ((maker, []) ∷ []) ∙ append-nil (named tables)

-- what was written back with the entries that it had changes none
pub written : {V : Type 0} (tables news : List (ℕ × List (ℕ × V))) (maker : ℕ) (was now : List (ℕ × V)) → at maker tables ≡ Some was
    → news ≡ set_value (is_at (nat_cmp maker)) tables now → now ≡ was
    → named news ≡ named tables
written tables news maker was now is set same =
    ap named (set ∙ ap (set_value (is_at (nat_cmp maker)) tables) same ∙ set_value_same (is_at (nat_cmp maker)) tables was is)

-- ---- an entry more

one_table : {V : Type 0} (q : Name) (v : V) (maker : ℕ) (es was : List (ℕ × V)) (rest : List (Name × V)) → es ≡ was → maker ≡ q.0
    → entries maker (was ++ (q.1, v) ∷ []) ++ rest ≡ entries maker es ++ (q, v) ∷ rest
one_table {V} q v maker es was rest same own =
    let more : entries maker (was ++ (q.1, v) ∷ []) ≡ entries maker was ++ ((maker, q.1), v) ∷ [] =
    map-append (λ (e : ℕ × V). ((maker, e.0), e.1)) was ((q.1, v) ∷ []) in
    let apart : (entries maker was ++ ((maker, q.1), v) ∷ []) ++ rest ≡ entries maker was ++ ((maker, q.1), v) ∷ rest =
    append_assoc (entries maker was) (((maker, q.1), v) ∷ []) rest in
    rw (more, apart, own, same) refl

added_here : {V : Type 0} (q : Name) (v : V) (table : ℕ × List (ℕ × V)) (tables : List (ℕ × List (ℕ × V))) (was : List (ℕ × V)) (mine : Bool)
    → is_at (nat_cmp q.0) table.0 ≡ mine
    → (if mine then Some table.1 else at q.0 tables) ≡ Some was
    → (at q.0 tables ≡ Some was → Adds q v (named tables) (named (set_value (is_at (nat_cmp q.0)) tables (was ++ (q.1, v) ∷ []))))
    → Adds q v (named (table ∷ tables))
    (named (if mine then (table.0, was ++ (q.1, v) ∷ []) ∷ tables else table ∷ set_value (is_at (nat_cmp q.0)) tables (was ++ (q.1, v) ∷ [])))
added_here {V} q v table tables was true own is later =
    let same : table.1 ≡ was = cc in
    let maker : table.0 ≡ q.0 = grind (arith, nat_tests, own) in
    record {
      front = entries table.0 table.1;
      back = named tables;
      was = refl;
      now = one_table q v table.0 table.1 was (named tables) same maker;
    }
added_here q v table tables was false own is later =
    let more = later is in
    record {
      front = entries table.0 table.1 ++ more.front;
      back = more.back;
      was = ap (λ es. entries table.0 table.1 ++ es) more.was ∙ sym (append_assoc (entries table.0 table.1) more.front more.back);
      now = ap (λ es. entries table.0 table.1 ++ es) more.now ∙ sym (append_assoc (entries table.0 table.1) more.front ((q, v) ∷ more.back));
    }

-- the maker's table with one entry more
added : {V : Type 0} (q : Name) (v : V) (tables : List (ℕ × List (ℕ × V))) (was : List (ℕ × V)) → at q.0 tables ≡ Some was
    → Adds q v (named tables) (named (set_value (is_at (nat_cmp q.0)) tables (was ++ (q.1, v) ∷ [])))
added q v [] was is = cc
added q v (table ∷ tables) was is = added_here q v table tables was (is_at (nat_cmp q.0) table.0) refl is (λ later. added q v tables was later)

pub added_through : {V : Type 0} (q : Name) (v : V) (tables news : List (ℕ × List (ℕ × V))) (was now : List (ℕ × V)) → at q.0 tables ≡ Some was
    → news ≡ set_value (is_at (nat_cmp q.0)) tables now
    → now ≡ was ++ (q.1, v) ∷ [] → Adds q v (named tables) (named news)
added_through {V} q v tables news was now is set more =
    subst (λ (l : List (ℕ × List (ℕ × V))). Adds q v (named tables) (named l)) (sym (set ∙ ap (set_value (is_at (nat_cmp q.0)) tables) more))
    (added q v tables was is)

-- ---- an entry less

-- the maker's table has the number no more, each other number has what it had, and the other tables stay
pub record TableDrops {V : Type 0} (gone : Name) (old new : List (ℕ × List (ℕ × V))) : Type 0 where
  pub found : (n : ℕ) → at n (table_at gone.0 new) ≡ (if gone.1 == n then None else at n (table_at gone.0 old))
  pub once : IsOnce (table_at gone.0 new)
  pub others : (m : ℕ) → (gone.0 == m) ≡ false → table_at m new ≡ table_at m old
  pub olds : IsOnce old
  pub news : IsOnce new

own_dropped : {V : Type 0} (gone q : Name) (old new : List (ℕ × List (ℕ × V))) (b : Bool) → (gone.0 == q.0) ≡ b → TableDrops gone old new
    → at q.1 (table_at q.0 new) ≡ (if b && (gone.1 == q.1) then None else at q.1 (table_at q.0 old))
own_dropped {V} gone q old new true is drops =
    let P : ℕ → Type 0 = λ m. at q.1 (table_at m new) ≡ (if gone.1 == q.1 then None else at q.1 (table_at m old)) in
    subst P (eqb-true gone.0 q.0 is) (drops.found q.1)
own_dropped {V} gone q old new false is drops = ap (at q.1) (drops.others q.0 is)

pub dropped : {V : Type 0} (gone : Name) (old new : List (ℕ × List (ℕ × V))) → TableDrops gone old new → Drops gone (named old) (named new)
dropped gone old new drops q =
    lookup-named q new drops.news
    ∙ own_dropped gone q old new (gone.0 == q.0) refl drops
    ∙ ap (λ found. if same_name gone q then None else found) (sym (lookup-named q old drops.olds))

one_left : {V : Type 0} (gone q : Name) (old new : List (ℕ × List (ℕ × V))) (b : Bool) → (gone.0 == q.0) ≡ b → TableDrops gone old new
    → IsThereOnce q (named old) → IsThereOnce q (entries q.0 (table_at q.0 new))
one_left {V} gone q old new true is drops was =
    let P : ℕ → Type 0 = λ m. IsOnce (table_at m new) in
    once_in q (table_at q.0 new) (subst P (eqb-true gone.0 q.0 is) drops.once)
one_left {V} gone q old new false is drops was =
    let P : List (ℕ × V) → Type 0 = λ es. IsThereOnce q (entries q.0 es) in
    subst P (sym (drops.others q.0 is)) (subst (λ (es : List (Name × V)). length es ≤ 1) (filter-named q old drops.olds) was)

pub once_left : {V : Type 0} (gone q : Name) (old new : List (ℕ × List (ℕ × V))) → TableDrops gone old new → IsThereOnce q (named old)
    → IsThereOnce q (named new)
once_left {V} gone q old new drops was =
    subst (λ (es : List (Name × V)). length es ≤ 1) (sym (filter-named q new drops.news)) (one_left gone q old new (gone.0 == q.0) refl drops was)

written_table : {V : Type 0} (m maker : ℕ) (olds : List (ℕ × List (ℕ × V))) (now : List (ℕ × V)) (b : Bool) → b ≡ false
    → table_in (if b then Some now else at m olds) ≡ table_at m olds
written_table m maker olds now true is = cc
written_table m maker olds now false is = refl

-- where the maker's table is changed through a reference to it
pub drops_through : {V : Type 0} (gone : Name) (olds news : List (ℕ × List (ℕ × V))) (was now : List (ℕ × V)) → at gone.0 olds ≡ Some was
    → WritesThrough gone.0 olds now news → IsOnce olds
    → ((n : ℕ) → at n now ≡ (if gone.1 == n then None else at n was)) → IsOnce now → TableDrops gone olds news
drops_through {V} gone olds news was now is through once removed once_now =
    let some : IsSome (at gone.0 olds) = rw is refl in
    let own : (gone.0 == gone.0) ≡ true = grind (arith, nat_tests) in
    let there : at gone.0 news ≡ Some now = through.values some gone.0 ∙ ap (λ b. if b then Some now else at gone.0 olds) own in
    record {
      found = λ n. ap (λ found. at n (table_in found)) there ∙ removed n ∙ ap (λ found. if gone.1 == n then None else at n (table_in found)) (sym is);
      once = subst (λ (found : Option (List (ℕ × V))). IsOnce (table_in found)) (sym there) once_now;
      others = λ m other. ap table_in (through.values some m) ∙ written_table m gone.0 olds now (gone.0 == m) other;
      olds = once;
      news = through.once;
    }

none_either_way : {V : Type 0} (b : Bool) → None ≡ if◌then◌else◌ {A = Option V} b None None
none_either_way true = refl
none_either_way false = refl

none_twice : (V : Type 0) → IsOnce {V = V} []
none_twice V = IsDistinct-from_apart (eq_by_cmp nat_cmp) [] (λ i j d before within. absurd (omega (arith, within)))

-- where the maker has no table
pub drops_none : {V : Type 0} (gone : Name) (olds news : List (ℕ × List (ℕ × V))) → at gone.0 olds ≡ None → news ≡ olds → IsOnce olds
    → TableDrops gone olds news
drops_none {V} gone olds news none same once =
    subst (λ (l : List (ℕ × List (ℕ × V))). TableDrops gone olds l) (sym same) (record {
      found = λ n. ap (λ found. at n (table_in found)) none ∙ none_either_way (gone.1 == n)
          ∙ ap (λ found. if gone.1 == n then None else at n (table_in found)) (sym none);
      once = subst (λ (found : Option (List (ℕ × V))). IsOnce (table_in found)) (sym none) (none_twice V);
      others = λ m other. refl;
      olds = once;
      news = once;
    })

-- ---- an entry taken out

taken_here : {V : Type 0} (q : Name) (v : V) (table : ℕ × List (ℕ × V)) (tables : List (ℕ × List (ℕ × V))) (was now : List (ℕ × V)) (mine : Bool)
    → is_at (nat_cmp q.0) table.0 ≡ mine
    → (if mine then Some table.1 else at q.0 tables) ≡ Some was → IsPermutation was ((q.1, v) ∷ now)
    → (at q.0 tables ≡ Some was → IsPermutation (named tables) ((q, v) ∷ named (set_value (is_at (nat_cmp q.0)) tables now)))
    → IsPermutation (named (table ∷ tables)) ((q, v) ∷ named (if mine then (table.0, now) ∷ tables else table ∷ set_value (is_at (nat_cmp q.0)) tables now))
taken_here {V} q v table tables was now true own is taken later =
    let same : table.1 ≡ was = cc in
    let maker : table.0 ≡ q.0 = grind (arith, nat_tests, own) in
    let moved : IsPermutation (entries q.0 was) ((q, v) ∷ entries q.0 now) = map-IsPermutation (λ (e : ℕ × V). ((q.0, e.0), e.1)) was ((q.1, v) ∷ now) taken in
    rw (same, maker) (IsPermutation-append_left (named tables) (entries q.0 was) ((q, v) ∷ entries q.0 now) moved)
taken_here {V} q v table tables was now false own is taken later =
    let rest : List (Name × V) = named (set_value (is_at (nat_cmp q.0)) tables now) in
    IsPermutation-trans (entries table.0 table.1 ++ named tables) (entries table.0 table.1 ++ (q, v) ∷ rest) ((q, v) ∷ (entries table.0 table.1 ++ rest))
    (IsPermutation-append_right (entries table.0 table.1) (named tables) ((q, v) ∷ rest) (later is))
    (IsPermutation-middle (entries table.0 table.1) (q, v) rest)

-- the maker's table with one entry less
taken : {V : Type 0} (q : Name) (v : V) (tables : List (ℕ × List (ℕ × V))) (was now : List (ℕ × V)) → at q.0 tables ≡ Some was
    → IsPermutation was ((q.1, v) ∷ now)
    → IsPermutation (named tables) ((q, v) ∷ named (set_value (is_at (nat_cmp q.0)) tables now))
taken q v [] was now is moved = cc
taken q v (table ∷ tables) was now is moved =
    taken_here q v table tables was now (is_at (nat_cmp q.0) table.0) refl is moved (λ later. taken q v tables was now later moved)

pub taken_through : {V : Type 0} (q : Name) (found : Option V) (tables news : List (ℕ × List (ℕ × V))) (was now : List (ℕ × V))
    → at q.0 tables ≡ Some was → news ≡ set_value (is_at (nat_cmp q.0)) tables now
    → IfSome found (λ v. IsPermutation was ((q.1, v) ∷ now)) → IfSome found (λ v. IsPermutation (named tables) ((q, v) ∷ named news))
taken_through {V} q found tables news was now is set moved =
    IfSome_then found moved
    (λ v one. subst (λ (l : List (ℕ × List (ℕ × V))). IsPermutation (named tables) ((q, v) ∷ named l)) (sym set) (taken q v tables was now is one))
