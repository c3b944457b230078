-- What can be wrong with a line, each fault for itself, and which of them is named.
use Rattle.std.specs.Prelude.{◌≡◌, ◌≢◌, ◌==◌, ℕ, ◌<◌, List, length, drop, slice_get, Option, Some, All}
use Rattle.std.specs.List.{slice_split}
use Rattle.std.specs.Int.{IsInRange}
use Rattle.jg_words.specs.declared.thread.Tid.{Tid}
use Rattle.jg_words.specs.declared.thread.EnvId.{EnvId}
use Rattle.jg_words.specs.declared.fun.Fun.{Fun}
use Rattle.jg_words.specs.Fun.{name_of}
use Rattle.jg_text.specs.declared.fault.ScriptFault.{ScriptFault}
use Rattle.jg_text.specs.declared.fault.ScriptFault.TheVariants.{NoThread, NoEnv, UnknownFunction, BadOperand, WrongCount, LineTooLong, NotAscii, NoMemory, TooManyThreads}
use Rattle.jg_text.specs.Words.{tid_text, env_text, FitsTid, FitsEnv, SpellOperands}
use Rattle.jg_text.specs.Operands.{operand_kinds}

-- a line is split at each single space
abbrev pub fields : List ℕ → List (List ℕ)
fields line = slice_split (λ b. b == 32) line

abbrev pub HasFault : ScriptFault → List ℕ → Type 0
-- more than 65,536 bytes
HasFault LineTooLong line = 65536 < length line
-- some byte outside 0x20 to 0x7E
HasFault NotAscii line = ¬ All (λ b. IsInRange 32 126 b) line
-- the first field spells no thread
HasFault NoThread line = (t : Tid) → FitsTid t → slice_get (fields line) 0 ≢ Some (tid_text t)
-- there is no second field, or it spells no environment and isn't `-`
HasFault NoEnv line = (e : Option EnvId) → FitsEnv e → slice_get (fields line) 1 ≢ Some (env_text e)
-- there is no third field, or it is no function's name
HasFault UnknownFunction line = (f : Fun) → slice_get (fields line) 2 ≢ Some (name_of f)
-- the fields after it are more or fewer than the function's operands
HasFault WrongCount line = (f : Fun) → slice_get (fields line) 2 ≡ Some (name_of f)
    → length (drop 3 (fields line)) ≢ length (operand_kinds f)
-- one of them spells no operand of the kind that stands there
HasFault BadOperand line = (f : Fun) → slice_get (fields line) 2 ≡ Some (name_of f)
    → ¬ SpellOperands (operand_kinds f) (drop 3 (fields line))
HasFault NoMemory line = ⊥
HasFault TooManyThreads line = ⊥

-- the order in which faults are named
abbrev pub rank : ScriptFault → ℕ
rank LineTooLong = 0
rank NotAscii = 1
rank NoThread = 2
rank NoEnv = 3
rank UnknownFunction = 4
rank WrongCount = 5
rank BadOperand = 6
rank NoMemory = 7
rank TooManyThreads = 8

-- the line has the fault, and none that is named before it
pub record IsFirstFault (line : List ℕ) (f : ScriptFault) : Type 0 where
  pub fault : HasFault f line
  pub first : (g : ScriptFault) → rank g < rank f → ¬ HasFault g line

-- the fault is the line's first; want of memory says nothing of the line
abbrev pub NamesFirstFault : List ℕ → ScriptFault → Type 0
NamesFirstFault line f = f ≢ NoMemory → IsFirstFault line f
