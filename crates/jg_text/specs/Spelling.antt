-- The line of a call.
use Rattle.std.specs.Prelude.{◌≡◌, ℕ, List, ◌∷◌, Option}
use Rattle.std.specs.List.{join_with_byte}
use Rattle.jg_words.specs.declared.thread.Tid.{Tid}
use Rattle.jg_words.specs.declared.thread.EnvId.{EnvId}
use Rattle.jg_words.specs.Fun.{name_of}
use Rattle.jg_words.specs.declared.call.Call.{Call}
use Rattle.jg_words.specs.Call.{fun_of}
use Rattle.jg_text.specs.Words.{tid_text, env_text, FitsTid, FitsEnv}
use Rattle.jg_text.specs.Operands.{operand_texts, FitsCall}

abbrev pub line_fields : Tid → Option EnvId → Call → List (List ℕ)
line_fields t e c = tid_text t ∷ env_text e ∷ name_of (fun_of c) ∷ operand_texts c

-- the line: its fields with single spaces between
unfoldable pub spelling : Tid → Option EnvId → Call → List ℕ
spelling t e c = join_with_byte 32 (line_fields t e c)

-- the line spells this thread, environment and call
pub record Spells (line : List ℕ) (t : Tid) (e : Option EnvId) (c : Call) : Type 0 where
  pub tid : FitsTid t
  pub env : FitsEnv e
  pub call : FitsCall c
  pub text : line ≡ spelling t e c
