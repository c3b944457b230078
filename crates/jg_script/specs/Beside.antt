-- What follows a guard, where there is something beside it.
use Rattle.std.specs.Prelude.{List, Option, Some, None}
use Rattle.jg_words.specs.Entry.{Entry}
use Rattle.jg_policy.specs.Stated.{StatedSetup}

abbrev pub FollowsIf : {B : Type 0} → (B → B → StatedSetup → List Entry → Type 0) → Option B → Option B → StatedSetup
    → List Entry → Type 0
FollowsIf follows (Some first) (Some beside) s h = follows first beside s h
FollowsIf follows None None s h = Unit {0}
FollowsIf follows first beside s h = ⊥
