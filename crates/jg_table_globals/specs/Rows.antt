-- The rows that the table keeps.
use Rattle.std.specs.Prelude.{◌≡◌, ℕ, ◌<◌, Bool, ◌==◌, ◌&&◌, List, All}
use Rattle.jg_words.specs.declared.reference.Ref.{Ref}
use Rattle.jg_words.specs.declared.reference.Ref.TheVariants.{To}
use Rattle.jg_words.specs.declared.reference.Kind.TheVariants.{Global}
use Rattle.jg_words.specs.declared.reference.Kind.TheVariants as kind
use Rattle.jg_table_globals.specs.declared.target.Target.{Target}

-- a global reference in being: number n of its maker, with its object
pub record Strong : Type 0 where
  pub maker : ℕ
  pub n : ℕ
  pub object : ℕ

-- a weak global reference in being, with what it names
pub record Weak : Type 0 where
  pub maker : ℕ
  pub n : ℕ
  pub target : Target

pub record Rows : Type 0 where
  pub strong : List Strong
  pub weak : List Weak

abbrev pub is_strong : ℕ → ℕ → Strong → Bool
is_strong maker n row = (row.maker == maker) && (row.n == n)

abbrev pub is_weak : ℕ → ℕ → Weak → Bool
is_weak maker n row = (row.maker == maker) && (row.n == n)

-- the reference as native code holds it
abbrev pub strong_ref : Strong → Ref
strong_ref row = To Global (record { 0 = row.maker }) row.n

abbrev pub weak_ref : Weak → Ref
weak_ref row = To kind.Weak (record { 0 = row.maker }) row.n

-- the number is above each number of that maker in the rows, of both kinds
pub record IsAbove (maker n : ℕ) (rows : Rows) : Type 0 where
  pub strong : All (λ row. row.maker ≡ maker → row.n < n) rows.strong
  pub weak : All (λ row. row.maker ≡ maker → row.n < n) rows.weak

-- no number was added
abbrev pub KeepsNumbers : Rows → Rows → Type 0
KeepsNumbers old new = (k i : ℕ) → IsAbove k i old → IsAbove k i new

-- no number but this one of that maker was added
abbrev pub AddsNumber : ℕ → ℕ → Rows → Rows → Type 0
AddsNumber maker n old new = (k i : ℕ) → IsAbove k i old → (k ≡ maker → n < i) → IsAbove k i new
