-- The classes that every setup has.
use Rattle.std.specs.Prelude.{ℕ, List, [], ◌∷◌, codes}

-- The classes 0 to 14, in the order of their numbers. 10 to 14 are those of the exceptions that calls throw.
unfoldable pub base_names : List (List ℕ)
base_names =
    codes "java/lang/Object"
    ∷ codes "java/lang/Class"
    ∷ codes "java/lang/String"
    ∷ codes "[Ljava/lang/Object;"
    ∷ codes "[Z"
    ∷ codes "[B"
    ∷ codes "[C"
    ∷ codes "[S"
    ∷ codes "[I"
    ∷ codes "[J"
    ∷ codes "java/lang/ArrayIndexOutOfBoundsException"
    ∷ codes "java/lang/StringIndexOutOfBoundsException"
    ∷ codes "java/lang/NoClassDefFoundError"
    ∷ codes "java/lang/NoSuchFieldError"
    ∷ codes "java/lang/NoSuchMethodError"
    ∷ []
