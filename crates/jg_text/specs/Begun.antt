-- A text that goes on after its call.
use Rattle.std.specs.Prelude.{◌≡◌, ℕ, List, ◌++◌, codes, Option}
use Rattle.jg_words.specs.declared.thread.Tid.{Tid}
use Rattle.jg_words.specs.declared.thread.EnvId.{EnvId}
use Rattle.jg_words.specs.declared.call.Call.{Call}
use Rattle.jg_text.specs.Words.{FitsTid, FitsEnv}
use Rattle.jg_text.specs.Operands.{FitsCall}
use Rattle.jg_text.specs.Spelling.{spelling}

-- the text begins with this call and ` = `, whatever follows
pub record BeginsWith (text : List ℕ) (t : Tid) (e : Option EnvId) (c : Call) : Type 0 where
  pub tid : FitsTid t
  pub env : FitsEnv e
  pub call : FitsCall c
  pub begins : (more : List ℕ) × (text ≡ spelling t e c ++ (codes " = " ++ more))

-- it begins with some call and ` = `
abbrev pub BeginsCall : List ℕ → Type 0
BeginsCall text = (t : Tid) × (e : Option EnvId) × (c : Call) × BeginsWith text t e c
