-- What contracts see of the store.
use Rattle.std.specs.Prelude.{ℕ, ◌≡◌, Bool, List, Option, Some, None}
use Rattle.std.specs.Option.{option_map}
use Rattle.jg_lists.specs.ByThread.{at, IsOnce}
use Rattle.jg_table_objects.specs.declared.kept.Kept.{Kept}

-- how many class objects there are, how many objects there ever were, and what is kept of each object that is there and
-- is no class object, by its number; the order of these means nothing
pub record Rows : Type 0 where
  pub classes : ℕ
  pub count : ℕ
  pub there : List (ℕ × Kept)

abbrev pub class_and_length : Kept → ℕ × ℕ
class_and_length kept = (kept.class, kept.length)

-- the object's class and length, if something is kept of it
abbrev pub told_in : Rows → ℕ → Option (ℕ × ℕ)
told_in rows o = option_map class_and_length (at o rows.there)

abbrev mark_kept : Option Kept → Option Bool
mark_kept None = None
mark_kept (Some kept) = kept.mark

-- the object's mark, if it has one
abbrev pub mark_in : Rows → ℕ → Option Bool
mark_in rows o = mark_kept (at o rows.there)

-- these tell of the same, whatever marks there are
pub record IsButMarks (old new : Rows) : Type 0 where
  pub classes : new.classes ≡ old.classes
  pub count : new.count ≡ old.count
  pub told : (o : ℕ) → told_in new o ≡ told_in old o
  pub once : IsOnce old.there → IsOnce new.there
