-- The scripts of several threads, which stand in one file, a line for each call.
use Rattle.std.specs.Prelude.{◌≡◌, ◌≢◌, ◌<◌, ◌≤◌, ◌+◌, ◌==◌, ℕ, List, [], ◌∷◌, ◌++◌, length, map, vec_len, All, AllPairs, Option, Result, Ok, Err, ◌⊎◌, if◌then◌else◌}
use Rattle.std.specs.List.{AllByRecursion}
use Rattle.std.specs.Io.KnownBytes.{IsAtEnd}
use Rattle.jg_words.specs.declared.thread.Tid.{Tid}
use Rattle.jg_words.specs.declared.thread.EnvId.{EnvId}
use Rattle.jg_words.specs.declared.call.Call.{Call}
use Rattle.jg_text.specs.declared.fault.ScriptFault.{ScriptFault}
use Rattle.jg_text.specs.declared.fault.ScriptFault.TheVariants.{LineTooLong, TooManyThreads}
use Rattle.jg_text.specs.Spelling.{Spells, spelling}
use Rattle.jg_text.specs.Words.{FitsTid, FitsEnv}
use Rattle.jg_text.specs.Operands.{FitsCall}
use Rattle.jg_text.specs.Faults.{IsFirstFault}
use Rattle.jg_script.specs.Checked.{IsWellFormed}
use Rattle.jg_lines.specs.TextLines.{HoldsLines, BeginsWith, AreFollowedBy, ReadsOneMore}
use Rattle.jg_script.specs.declared.run_fault.RunFault.{RunFault}
use Rattle.jg_script.specs.declared.run_fault.RunFault.TheVariants.{Script, Limit, NoMemory, Read, Write}
use Rattle.jg_script.specs.declared.scripts.Line.{Line}
use Rattle.jg_script.specs.declared.scripts.Lines.{Lines}

-- a line of the file: the thread that it is of, the environment that is handed in, and the call
pub record CallLine : Type 0 where
  pub tid : Tid
  pub env : Option EnvId
  pub call : Call

-- how it is spelt, without its line feed
abbrev pub text_of : CallLine → List ℕ
text_of x = spelling x.tid x.env x.call

-- the text of such lines, the first one first
abbrev pub file_text : List CallLine → List ℕ
file_text [] = []
file_text (x ∷ later) = (text_of x ++ 10 ∷ []) ++ file_text later

-- each is such as a line can spell
abbrev pub AreSpelt : List CallLine → Type 0
AreSpelt file = AllByRecursion (λ x. FitsTid x.tid × FitsEnv x.env × FitsCall x.call) file

-- the thread's lines among them, in their order
abbrev pub lines_by : ℕ → List CallLine → List Line
lines_by t [] = []
lines_by t (x ∷ later) =
    if x.tid.0 == t then record { env = x.env; call = x.call } ∷ lines_by t later else lines_by t later

-- the script of the thread, which is empty where it has none
abbrev pub script_of : ℕ → List Lines → List Line
script_of t [] = []
script_of t (script ∷ later) = if script.tid.0 == t then script.calls.items else script_of t later

-- each script's thread is below those of all later ones
abbrev pub Ascend : List Lines → Type 0
Ascend scripts = AllPairs (λ (one later : Lines). one.tid.0 < later.tid.0) scripts

-- they are the scripts of the file's threads: each thread's script is its lines in the file's order, none is empty, and
-- the threads ascend
pub record AreScriptsOf (file : List CallLine) (scripts : List Lines) : Type 0 where
  pub lines : (t : ℕ) → script_of t scripts ≡ lines_by t file
  pub some : All (λ script. 0 < vec_len script.calls) scripts
  pub ascend : Ascend scripts

-- a file that may go on: of 1,000,000 lines at most, of 64 threads at most
pub record IsFile (file : List CallLine) (scripts : List Lines) : Type 0 where
  pub spelt : AreSpelt file
  pub by_thread : AreScriptsOf file scripts
  pub few_lines : length file ≤ 1000000
  pub few_threads : length scripts ≤ 64

-- the line that comes next is refused: it has this fault before all others; or it is a call of a 65th thread, and not
-- past the last line that a file may have
abbrev pub IsRefused : List CallLine → List Lines → ScriptFault → List ℕ → Type 0
IsRefused file scripts fault next = IsFirstFault next fault
    ⊎ ((fault ≡ TooManyThreads) × (length scripts ≡ 64) × (length file < 1000000)
    × ((x : CallLine) × Spells next x.tid x.env x.call × (script_of x.tid.0 scripts ≡ [])))

-- what reading a file of scripts that ended with this result did
abbrev pub ReadsScripts : Option (List ℕ) → Option (List ℕ) → Result (List Lines) RunFault → Type 0
-- all was read, and these are its threads' scripts
ReadsScripts input input' (Ok scripts) = (file : List CallLine) × IsFile file scripts
    × HoldsLines input (map text_of file) × IsAtEnd input'
-- the first line that is refused, and why
ReadsScripts input input' (Err (Script line fault)) = (file : List CallLine) × ((scripts : List Lines)
    × IsFile file scripts × AreFollowedBy input (map text_of file) (IsRefused file scripts fault))
    × (line ≡ length file + 1) × ReadsOneMore input input' (file_text file)
-- the line after the last that a file may have, which is well formed
ReadsScripts input input' (Err (Limit line)) = (file : List CallLine) × ((scripts : List Lines) × IsFile file scripts)
    × AreFollowedBy input (map text_of file) IsWellFormed × (length file ≡ 1000000) × (line ≡ 1000001)
    × ReadsOneMore input input' (file_text file)
-- the lines before this one are such, and no more than it was read
ReadsScripts input input' (Err (NoMemory line)) = (file : List CallLine) × ((scripts : List Lines)
    × IsFile file scripts) × BeginsWith input (map text_of file) × (line ≡ length file + 1)
    × ReadsOneMore input input' (file_text file)
ReadsScripts input input' (Err (Read line)) = (file : List CallLine) × ((scripts : List Lines) × IsFile file scripts)
    × BeginsWith input (map text_of file) × (line ≡ length file + 1) × ReadsOneMore input input' (file_text file)
ReadsScripts input input' (Err (Write line)) = ⊥

-- where reading ended at a line that is refused and isn't too long, the room for a line `text` holds just that line
abbrev pub HoldsRefused : Option (List ℕ) → List ℕ → Result (List Lines) RunFault → Type 0
HoldsRefused input text (Ok scripts) = Unit {0}
HoldsRefused input text (Err (Script line fault)) = fault ≢ LineTooLong → (file : List CallLine)
    × ((scripts : List Lines) × IsFile file scripts × AreFollowedBy input (map text_of file) (λ next. next ≡ text)
    × IsRefused file scripts fault text) × (line ≡ length file + 1)
HoldsRefused input text (Err (Limit line)) = Unit {0}
HoldsRefused input text (Err (NoMemory line)) = Unit {0}
HoldsRefused input text (Err (Read line)) = Unit {0}
HoldsRefused input text (Err (Write line)) = Unit {0}
