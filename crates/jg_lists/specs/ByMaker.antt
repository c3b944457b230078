-- Values by maker and number, in a table for each maker.
use Rattle.std.specs.Prelude.{◌≡◌, ℕ, ◌≤◌, Bool, ◌==◌, ◌&&◌, if◌then◌else◌, List, [], ◌∷◌, ◌++◌, length, map, filter, Option, Some, None}
use Rattle.std.specs.Map.{lookup}
use Rattle.jg_lists.specs.ByThread.{at}

-- a maker's number, and the number that it gave
abbrev pub Name : Type 0
Name = ℕ × ℕ

abbrev pub same_name : Name → Name → Bool
same_name a b = (a.0 == b.0) && (a.1 == b.1)

-- one maker's entries, by name
abbrev pub entries : {V : Type 0} → ℕ → List (ℕ × V) → List (Name × V)
entries maker es = map (λ e. ((maker, e.0), e.1)) es

-- the entries of all makers, one maker's after the other's
abbrev pub named : {V : Type 0} → List (ℕ × List (ℕ × V)) → List (Name × V)
named [] = []
named (table ∷ tables) = entries table.0 table.1 ++ named tables

-- the entries of that maker's table, which are none where it has no table
abbrev pub table_in : {V : Type 0} → Option (List (ℕ × V)) → List (ℕ × V)
table_in None = []
table_in (Some table) = table

abbrev pub table_at : {V : Type 0} → ℕ → List (ℕ × List (ℕ × V)) → List (ℕ × V)
table_at maker tables = table_in (at maker tables)

-- the entry is there now, and the others stay, in their order
pub record Adds {V : Type 0} (q : Name) (v : V) (old new : List (Name × V)) : Type 0 where
  pub front : List (Name × V)
  pub back : List (Name × V)
  pub was : old ≡ front ++ back
  pub now : new ≡ front ++ (q, v) ∷ back

-- each name but that one is found as before
abbrev pub Drops : {V : Type 0} → Name → List (Name × V) → List (Name × V) → Type 0
Drops gone old new = (q : Name)
    → lookup (same_name q) new ≡ (if same_name gone q then None else lookup (same_name q) old)

-- no two entries have the name
abbrev pub IsThereOnce : {V : Type 0} → Name → List (Name × V) → Type 0
IsThereOnce q es = length (filter (λ e. same_name q e.0) es) ≤ 1
