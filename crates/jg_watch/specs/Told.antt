-- What a record told a core before a line, and what an event of the line is answered then.
use Rattle.std.specs.Prelude.{◌≡◌, ℕ, pos, List, [], ◌∷◌, Bool, true, Option, Some, None, slice_get}
use Rattle.std.specs.Option.{is_none}
use Rattle.jg_words.specs.declared.object.ObjId.{ObjId}
use Rattle.jg_policy.specs.Stated.{StatedSetup}
use Rattle.jg_judge.specs.declared.argument.Argument.{Argument}
use Rattle.jg_judge.specs.declared.argument.Bounds.{Bounds}
use Rattle.jg_core.specs.declared.asking.Answer.{Answer}
use Rattle.jg_core.specs.declared.asking.Answer.TheVariants as answer
use Rattle.jg_core.specs.declared.fact.Fact.{Fact}
use Rattle.jg_core.specs.declared.says.Given.{Given}
use Rattle.jg_core.specs.declared.says.Given.TheVariants as given
use Rattle.jg_core.specs.Asking.{asked}
use Rattle.jg_core.specs.Facts.{all_gone, can_be, first_held, parts_of}
use Rattle.jg_core.specs.Implied.{given_by}
use Rattle.jg_core.specs.Kernel.{CoreState, CoreStands}
use Rattle.jg_record.specs.declared.event.Event.{Event}
use Rattle.jg_record.specs.declared.event.Event.TheVariants as event
use Rattle.jg_record.specs.declared.reply.Reply.{Reply}
use Rattle.jg_record.specs.declared.reply.Reply.TheVariants.{Passed, Denied, Environment, Reference, Buffer, Object, Nothing}

-- the facts that were told, the newest first, and the bounds by which questions are judged
pub record Told : Type 0 where
  pub facts : List Fact
  pub bounds : Bounds

-- where no bounds were told, each is the greatest number of 32 bits
abbrev pub nothing_told : Told
nothing_told = record {
  facts = [];
  bounds = record { capacity = pos 2147483647; length = pos 2147483647; items = pos 2147483647 };
}

-- what contracts see of what watches: its core, the bounds by which it judges questions, how many questions passed and
-- were denied by each rule, and how many were denied
pub record Watching : Type 0 where
  pub core : CoreState
  pub bounds : Bounds
  pub tally : List ℕ
  pub denied : ℕ

-- it stands for what was told
pub record Stands (x : Watching) (told : Told) : Type 0 where
  pub core : CoreStands x.core told.facts
  pub bounds : x.bounds ≡ told.bounds

-- the fact can be, and so can all that are gone, one after the other
abbrev pub can_be_told : StatedSetup → Told → Event → List ObjId → Bool
can_be_told s told (event.Question t env function) gone = true
can_be_told s told (event.Fact fact) gone = can_be s (parts_of told.facts) fact
can_be_told s told event.Gone gone = is_none (first_held s (parts_of told.facts) gone)
can_be_told s told (event.Bounds bounds) gone = true

-- what was told once the event was
abbrev pub after : Event → List ObjId → Told → Told
after (event.Question t env function) gone told = told
after (event.Fact fact) gone told = record told { facts = fact ∷ told.facts }
after event.Gone gone told = record told { facts = all_gone gone told.facts }
after (event.Bounds bounds) gone told = record told { bounds = bounds }

-- what a question is answered; none that a line spells is of no function or has a misfit (`SpeltIsJudged` of Laws)
abbrev pub reply_of : Answer → Reply
reply_of (answer.Passed ticket) = Passed
reply_of (answer.Denied rule operand ticket) = Denied rule
reply_of answer.NoFunction = Nothing
reply_of answer.Misfit = Nothing

abbrev pub given_reply : Given → Reply
given_reply given.Nothing = Nothing
given_reply (given.Reference r) = Reference r
given_reply (given.Buffer b) = Buffer b
given_reply (given.Environment e) = Environment e
given_reply (given.Object o) = Object o

-- the name of what a fact hands out
abbrev pub named : StatedSetup → List Fact → Fact → Reply
named s w fact = given_reply (given_by s (parts_of w) fact)

-- what an event is answered
abbrev pub replied : StatedSetup → Told → Event → List Argument → Reply
replied s told (event.Question t env function) xs =
    reply_of (asked told.bounds s (parts_of told.facts) t env function xs)
replied s told (event.Fact fact) xs = named s told.facts fact
replied s told event.Gone xs = Nothing
replied s told (event.Bounds bounds) xs = Nothing

-- the operand that breaks the rule, where one does
abbrev pub operand_of : Answer → List Argument → Option Argument
operand_of (answer.Denied rule (Some place) ticket) xs = slice_get xs place
operand_of x xs = None

-- that of a denied question
abbrev pub operand_denied : StatedSetup → Told → Event → List Argument → Option Argument
operand_denied s told (event.Question t env function) xs =
    operand_of (asked told.bounds s (parts_of told.facts) t env function xs) xs
operand_denied s told e xs = None
