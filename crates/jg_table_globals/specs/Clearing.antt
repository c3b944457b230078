-- What clearing by a test does to the entries that the code keeps.
use Rattle.std.specs.Prelude.{◌≡◌, Bool, if◌then◌else◌, List, [], ◌∷◌}
use Rattle.jg_words.specs.declared.object.ObjId.{ObjId}
use Rattle.jg_lists.specs.ByMaker.{Name}
use Rattle.jg_table_globals.specs.declared.target.Target.{Target}
use Rattle.jg_table_globals.specs.declared.target.Target.TheVariants.{Object, Cleared}

-- an object at which the test answers true is cleared, another stays, and what is cleared stays so
abbrev pub IsCleared : (ObjId → Bool → Type 0) → Target → Target → Type 0
IsCleared test Cleared now = now ≡ Cleared
IsCleared test (Object o) now = (answer : Bool) × (test o answer × (now ≡ (if answer then Cleared else Object o)))

-- each entry keeps its key, and its value is changed by the relation
abbrev pub EachChanged : {K V : Type 0} → (V → V → Type 0) → List (K × V) → List (K × V) → Type 0
EachChanged change [] news = news ≡ []
EachChanged change (e ∷ es) [] = ⊥
EachChanged change (e ∷ es) (new ∷ news) = ((new.0 ≡ e.0) × change e.1 new.1) × EachChanged change es news

-- each target is cleared by the test
abbrev pub EachCleared : (ObjId → Bool → Type 0) → List (Name × Target) → List (Name × Target) → Type 0
EachCleared test olds news = EachChanged (IsCleared test) olds news
