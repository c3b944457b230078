-- What is to be told where the machine makes a denied call all the same, as a machine does that nobody keeps from it.
use Rattle.std.specs.Prelude.{List, Option, Some, None}
use Rattle.jg_words.specs.declared.thread.Tid.{Tid}
use Rattle.jg_words.specs.declared.thread.EnvId.{EnvId}
use Rattle.jg_words.specs.declared.reference.Ref.{Ref}
use Rattle.jg_words.specs.declared.rule.Rule.{Rule}
use Rattle.jg_words.specs.declared.rule.Rule.TheVariants.{WrongThread, Detached, ForeignLocal, DeadReference, WrongRefKind, NotOwner}
use Rattle.jg_rows.specs.declared.row.Effect.{Effect}
use Rattle.jg_rows.specs.declared.row.Effect.TheVariants.{GivesBack, Pops, Detaches}
use Rattle.jg_judge.specs.declared.argument.Argument.{Argument}
use Rattle.jg_judge.specs.Asked.{first_reference, first_buffer, first_number}
use Rattle.jg_core.specs.declared.fact.Fact.TheVariants.{Pop}
use Rattle.jg_core.specs.declared.expected.Expected.{Expected}
use Rattle.jg_core.specs.declared.expected.Expected.TheVariants.{Undone, Lent, Nothing, Thrown, IfEnded}
use Rattle.jg_core.specs.Expected.{back}
use Rattle.jg_core.specs.Implied.{losing}

-- whose doing it is: after rule 1 the machine does it in the session of the environment
abbrev pub doer : Rule → Tid → Option EnvId → Tid
doer WrongThread t (Some env) = env.tid
doer rule t env = t

-- as of a passed call; but to an operand that names no object, as null does, nothing was done
abbrev pub as_passed : Expected → Expected
as_passed Undone = Thrown
as_passed (Lent family None via) = Thrown
as_passed expected = expected

-- what the function's rule leaves of it
abbrev pub by_rule : Rule → Expected → Ref → Expected
-- it took the reference for one of its own: whether it ended that one, the machine alone says
by_rule ForeignLocal passed r = IfEnded (losing r)
by_rule WrongRefKind passed r = IfEnded (losing r)
-- for what it took a reference that names nothing, nobody knows
by_rule DeadReference passed r = Nothing
-- it doesn't give back what the thread doesn't own, and throws
by_rule NotOwner passed r = Thrown
by_rule rule passed r = as_passed passed

-- by what the function does
abbrev pub by_effect : Rule → Effect → Tid → Expected → List Argument → Expected
-- whether it took the memory, and whether there was a frame to pop, the machine alone says
by_effect rule GivesBack t passed xs = IfEnded (back (first_number xs) (first_buffer xs))
by_effect rule Pops t passed xs = IfEnded (Some (Pop t None))
-- the thread's end tells it
by_effect rule Detaches t passed xs = Nothing
by_effect rule effect t passed xs = by_rule rule passed (first_reference xs)

-- of a thread that has no session nothing can be told
abbrev pub denied_as : Rule → Effect → Tid → Expected → List Argument → Expected
denied_as Detached effect t passed xs = Nothing
denied_as rule effect t passed xs = by_effect rule effect t passed xs
