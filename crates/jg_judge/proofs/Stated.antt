-- The number of a class that the setup states is taken as it is.
use Rattle.std.proofs.Common.{◌≡◌, ◌<◌, ℕ, List, Option, Some, None, refl}
use Rattle.std.proofs.lemmas.Bool.{lt-ltb}
use Rattle.jg_policy.specs.Stated.{StatedSetup, class_count}
use Rattle.jg_policy.specs.Classes.{class_named}
use Rattle.jg_policy.proofs.NameLaws.{class_below}
use Rattle.jg_judge.specs.Broken.{stated}

stated_by : (s : StatedSetup) (found : Option ℕ) → ((c : ℕ) → found ≡ Some c → c < class_count s) → stated s found ≡ found
stated_by s None below = refl
stated_by s (Some c) below = rw (lt-ltb c (class_count s) (below c refl)) refl

pub stated_named : (s : StatedSetup) (name : List ℕ) → stated s (class_named s name) ≡ class_named s name
stated_named s name = stated_by s (class_named s name) (class_below s name)
