-- What is so of every line of a record.
use Rattle.std.specs.Prelude.{◌≡◌, ◌⊎◌, ℕ, List, Option}
use Rattle.jg_words.specs.declared.object.ObjId.{ObjId}
use Rattle.jg_words.specs.declared.rule.Rule.{Rule}
use Rattle.jg_words.specs.declared.thread.EnvId.{EnvId}
use Rattle.jg_words.specs.declared.thread.Tid.{Tid}
use Rattle.jg_policy.specs.Stated.{StatedSetup}
use Rattle.jg_judge.specs.declared.argument.Argument.{Argument}
use Rattle.jg_record.specs.declared.event.Event.TheVariants.{Question}
use Rattle.jg_record.specs.declared.reply.Reply.TheVariants.{Denied, Passed}
use Rattle.jg_record.specs.Events.{SpellsEvent}
use Rattle.jg_watch.specs.Told.{Told, replied}

-- a question that a text spells passes or is denied, whatever was told before
-- (proofs/Suiting.antt)
abbrev pub SpeltIsJudged : Type 0
SpeltIsJudged = (s : StatedSetup) (told : Told) (text : List ℕ) (t : Tid) (env : Option EnvId) (function : ℕ)
    (xs : List Argument) (gone : List ObjId) → SpellsEvent s text (Question t env function) xs gone
    → (replied s told (Question t env function) xs ≡ Passed)
    ⊎ ((rule : Rule) × (replied s told (Question t env function) xs ≡ Denied rule))
