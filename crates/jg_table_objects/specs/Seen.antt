-- What the code keeps, and how it changes.
use Rattle.std.specs.Prelude.{ℕ, ◌≡◌, ◌<◌, ◌≤◌, ◌^◌, Bool, true, if◌then◌else◌, List, Option, Some, None}
use Rattle.std.specs.Option.{option_map}
use Rattle.jg_lists.specs.ByThread.{at}
use Rattle.jg_table_objects.specs.declared.kept.Kept.{Kept}

-- what is kept is of objects that were made and are no class objects
pub record Within (classes count : ℕ) (there : List (ℕ × Kept)) : Type 0 where
  pub below : (o : ℕ) → o < classes → at o there ≡ None
  pub above : (o : ℕ) → count ≤ o → at o there ≡ None
  pub counted : classes ≤ count
  pub few : count ≤ 2 ^ 63

-- what is kept of each object that passes the test was changed, and of each other one it stays
abbrev pub Changes : (ℕ → Bool) → (Option Kept → Option Kept) → List (ℕ × Kept) → List (ℕ × Kept) → Type 0
Changes test change old new = (q : ℕ) → at q new ≡ (if test q then change (at q old) else at q old)

-- with that mark or none, if the object is there
abbrev pub with_mark : Option Bool → Option Kept → Option Kept
with_mark mark None = None
with_mark mark (Some kept) = Some (record kept { mark = mark })

-- with its mark set, if it has one
abbrev pub with_set : Option Kept → Option Kept
with_set None = None
with_set (Some kept) = Some (record kept { mark = option_map (λ mark. true) kept.mark })

-- nothing is kept any more
abbrev pub forgotten : Option Kept → Option Kept
forgotten kept = None
