-- When rows stand for a list of events.
use Rattle.std.specs.Prelude.{◌≡◌, ℕ, Bool, ◌==◌, List, [], ◌∷◌, filter, Option, Some, None}
use Rattle.std.specs.List.{list_any}
use Rattle.jg_words.specs.declared.object.ObjId.{ObjId}
use Rattle.jg_table_globals.specs.declared.target.Target.{Target}
use Rattle.jg_table_globals.specs.declared.target.Target.TheVariants.{Object}
use Rattle.jg_table_globals.specs.History.{Event, strong, weak_target}
use Rattle.jg_table_globals.specs.Rows.{Rows, Strong, Weak, is_strong, is_weak}

-- the row of a global reference, where it is in being
abbrev pub strong_rows : ℕ → ℕ → Option ℕ → List Strong
strong_rows maker n None = []
strong_rows maker n (Some o) = record { maker = maker; n = n; object = o } ∷ []

-- the row of a weak reference, where it is in being
abbrev pub weak_rows : ℕ → ℕ → Option Target → List Weak
weak_rows maker n None = []
weak_rows maker n (Some t) = record { maker = maker; n = n; target = t } ∷ []

-- the rows are those of the references in being, each once, in any order
pub record Stands (rows : Rows) (e : List Event) : Type 0 where
  pub strong : (maker n : ℕ) → filter (is_strong maker n) rows.strong ≡ strong_rows maker n (strong e maker n)
  pub weak : (maker n : ℕ) → filter (is_weak maker n) rows.weak ≡ weak_rows maker n (weak_target e maker n)

-- of the objects that a live weak reference names, the list has exactly those at which the test answers true
abbrev pub IsListOf : (ObjId → Bool → Type 0) → List Event → List ℕ → Type 0
IsListOf test e objects =
    (maker n o : ℕ) (answer : Bool) → weak_target e maker n ≡ Some (Object (record { 0 = o }))
    → test (record { 0 = o }) answer → answer ≡ list_any (λ p. p == o) objects
