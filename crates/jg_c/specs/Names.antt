-- Classes and native methods by what a setup calls them.
use Rattle.std.specs.Prelude.{ℕ, ℤ, pos, true, ◌≡◌, ◌⊎◌, List, Option, Some, None, if◌then◌else◌, nat_eq}
use Rattle.jg_words.specs.Name.{IsName}
use Rattle.jg_policy.specs.Classes.{class_named, native_named}
use Rattle.jg_policy.specs.Stated.{StatedSetup}
use Rattle.jg_judge.specs.declared.kinds.OwnKind.{OwnKind}
use Rattle.jg_judge.specs.declared.kinds.OwnKind.TheVariants.{Object, Throwable, Class, ClassOfArrays, Floats, Doubles}
use Rattle.jg_judge.specs.Kinds.{is_kind, own_class}
use Rattle.jg_rows.specs.declared.row.ObjectKind.TheVariants.{ObjectArray}
use Rattle.jg_rules.specs.Names.{class_of}
use Rattle.jg_rules.specs.Parts.{Parts}
use Rattle.jg_c.specs.Errors as errors

-- the number that is found, if one is
abbrev pub found : Option ℕ → ℤ
found None = errors.no_name
found (Some n) = pos n

-- the number of the class of this name; bytes that are no name name none
abbrev pub IsClassNamed : StatedSetup → List ℕ → ℤ → Type 0
IsClassNamed s name n = (IsName name × n ≡ found (class_named s name)) ⊎ (¬ IsName name × n ≡ errors.no_name)

-- the number, from 1, of the class's native method of this name and type
abbrev pub IsNativeNamed : StatedSetup → ℕ → List ℕ → List ℕ → ℤ → Type 0
IsNativeNamed s class name signature n =
    (IsName name × IsName signature × n ≡ found (native_named s class name signature))
    ⊎ ((¬ IsName name ⊎ ¬ IsName signature) × n ≡ errors.no_name)

-- the kind of objects whose class the setup doesn't state
abbrev pub own_kind : ℕ → Option OwnKind
own_kind n =
    if nat_eq n 0 then Some Object
    else if nat_eq n 1 then Some Throwable
    else if nat_eq n 2 then Some Class
    else if nat_eq n 3 then Some ClassOfArrays
    else if nat_eq n 4 then Some Floats
    else if nat_eq n 5 then Some Doubles
    else None

-- the number of their class
abbrev pub class_of_own : StatedSetup → Option OwnKind → ℤ
class_of_own s None = errors.bad_value
class_of_own s (Some kind) = pos (own_class s kind)

-- the number of the class of objects of this kind: of 6, which is arrays of objects, that of [Ljava/lang/Object;, which
-- each setup has
abbrev pub class_of_kind : StatedSetup → ℕ → ℤ
class_of_kind s n = if nat_eq n 6 then pos 3 else class_of_own s (own_kind n)

-- each object of the class of this number is one that functions on arrays of objects take
abbrev pub IsOfObjectArrays : StatedSetup → ℤ → Type 0
IsOfObjectArrays s n = (p : Parts) (o : ℕ) → pos (class_of s p o) ≡ n → is_kind s p ObjectArray o ≡ true
