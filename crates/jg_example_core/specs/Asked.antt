-- What the machine's contracts say.
use Rattle.std.specs.Prelude.{ℕ, ◌≡◌, ◌↔◌, true, List, [], ◌∷◌, Option, None, Some, Result, Ok, Err, slice_get}
use Rattle.std.specs.Option.{unwrap_or}
use Rattle.jg_words.specs.declared.thread.EnvId.{EnvId}
use Rattle.jg_words.specs.declared.object.ObjId.{ObjId}
use Rattle.jg_words.specs.declared.reference.Kind.TheVariants.{Local}
use Rattle.jg_core.specs.declared.fact.Fact.{Fact}
use Rattle.jg_core.specs.declared.fact.Fact.TheVariants.{Hand, Meet}
use Rattle.jg_core.specs.declared.fact.Checked.TheVariants.{Length}
use Rattle.jg_core.specs.declared.asking.Answer.{Answer}
use Rattle.jg_core.specs.declared.asking.Answer.TheVariants.{Passed, Denied}
use Rattle.jg_core.specs.declared.kernel.Untold.{Untold}
use Rattle.jg_core.specs.declared.kernel.Untold.TheVariants.{Impossible}
use Rattle.jg_core.specs.Facts.{is_so, parts_of}
use Rattle.jg_core.specs.Asking.{asked}
use Rattle.jg_core.specs.Kernel.{CoreState, CoreStands}
use Rattle.jg_judge.specs.declared.argument.Argument.{Argument}
use Rattle.jg_judge.specs.declared.judge.Broken.{Broken}
use Rattle.jg_example_core.specs.declared.Array.{Array}
use Rattle.jg_example_core.specs.declared.TheConstants.{INTS, NOTHING, THREAD, UNBOUNDED}

-- the array behind a handle
abbrev pub array_at : List Array → ℕ → Array
array_at arrays handle = unwrap_or (slice_get arrays handle) NOTHING

-- what is broken, if anything, by what the core answers
abbrev pub found_by : Answer → Result (Option Broken) Untold
found_by (Passed ticket) = Ok None
found_by (Denied rule operand ticket) = Ok (Some (record { rule = rule; operand = operand }))
found_by answer = Err Impossible

-- thread 1 is told that its call of the function with this operand breaks a rule exactly where it does, by all that the
-- core was told
abbrev pub IsAsked : {A : Type 0} → CoreState → EnvId → ℕ → Argument → Result (Result A Broken) Untold → Type 0
IsAsked core env function x answer = (w : List Fact) (found : Broken) → CoreStands core w
    → (answer ≡ Ok (Err found))
    ↔ (found_by (asked UNBOUNDED core.setup (parts_of w) THREAD (Some env) function (x ∷ [])) ≡ Ok (Some found))

-- whatever the core stood for, it stands for that with the array met, and a local reference to it handed to thread 1
abbrev pub IsTold : CoreState → CoreState → Array → Type 0
IsTold old new array = (w : List Fact) → CoreStands old w
    → CoreStands new (Hand THREAD Local array.object ∷ Meet INTS array.length ∷ w)

-- the object is there by all that the core was told, and so long
abbrev pub IsKnown : CoreState → ObjId → ℕ → Type 0
IsKnown core object length = (w : List Fact) → CoreStands core w
    → is_so core.setup (parts_of w) (Length object length) ≡ true
