-- What a core answers, as it stands behind a line's ` = `.
use Rattle.std.specs.Prelude.{ℕ, List, [], codes}
use Rattle.jg_words.specs.declared.entry.Outcome.TheVariants as outcome
use Rattle.jg_text.specs.Words.{env_id_text, ref_text, buf_text}
use Rattle.jg_text.specs.Journal.{outcome_text}
use Rattle.jg_record.specs.declared.reply.Reply.{Reply}
use Rattle.jg_record.specs.declared.reply.Reply.TheVariants.{Passed, Denied, Environment, Reference, Buffer, Object, Nothing}
use Rattle.jg_record.specs.Words.{object_text}

-- a denial is written as in a journal
abbrev pub reply_text : Reply → List ℕ
reply_text Passed = codes "passed"
reply_text (Denied rule) = outcome_text (outcome.Denied rule)
reply_text (Environment e) = env_id_text e
reply_text (Reference r) = ref_text r
reply_text (Buffer b) = buf_text b
reply_text (Object o) = object_text o
reply_text Nothing = []
