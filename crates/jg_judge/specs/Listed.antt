-- The operands of a call, as a list.
use Rattle.std.specs.Prelude.{List, [], ◌∷◌}
use Rattle.jg_judge.specs.declared.argument.Argument.{Argument}
use Rattle.jg_judge.specs.declared.operands.Arguments.{Arguments}
use Rattle.jg_judge.specs.declared.operands.Arguments.TheVariants.{Empty, One, Two, Three}

abbrev pub listed : Arguments → List Argument
listed Empty = []
listed (One first) = first ∷ []
listed (Two first second) = first ∷ second ∷ []
listed (Three first second third) = first ∷ second ∷ third ∷ []
