-- What the core's helpers say of a list of objects that go. No public contract stands on this.
use Rattle.std.specs.Prelude.{ℕ, ◌+◌, ◌==◌, if◌then◌else◌, Bool, true, false, not, List, [], ◌∷◌, Option, Some, None}
use Rattle.std.specs.Option.{option_map}
use Rattle.jg_words.specs.declared.object.ObjId.{ObjId}
use Rattle.jg_rules.specs.Parts.{Parts}
use Rattle.jg_core.specs.declared.fact.Fact.TheVariants.{Gone}
use Rattle.jg_core.specs.Facts.{on}

-- there is a mark, and it isn't set
abbrev pub is_unset : Option Bool → Bool
is_unset None = false
is_unset (Some mark) = not mark

-- there is a mark, and it is set
abbrev pub is_set : Option Bool → Bool
is_set None = false
is_set (Some mark) = mark

-- the marks with that one set
abbrev pub with_set : (ℕ → Option Bool) → ℕ → ℕ → Option Bool
with_set marks o q = if o == q then Some true else marks q

-- the place of the first object that has no mark or a set one, where each before it is marked
abbrev pub first_unfit : (ℕ → Option Bool) → List ObjId → Option ℕ
first_unfit marks [] = None
first_unfit marks (o ∷ objects) =
    if is_unset (marks o.0) then option_map (λ n. n + 1) (first_unfit (with_set marks o.0) objects) else Some 0

-- the parts with these gone, the first of the list first
abbrev pub gone_on : List ObjId → Parts → Parts
gone_on [] p = p
gone_on (o ∷ objects) p = gone_on objects (on (Gone o) p)
