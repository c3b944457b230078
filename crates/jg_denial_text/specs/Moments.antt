-- When a condition turned, as it is told.
use Rattle.std.specs.Prelude.{ℕ, List, ◌∷◌, ◌++◌, codes}
use Rattle.std.specs.Fmt.{decimal}
use Rattle.jg_words.specs.Call.{fun_of}
use Rattle.jg_words.specs.Fun.{name_of}
use Rattle.jg_words.specs.Entry.{Entry}
use Rattle.jg_text.specs.Words.{tid_text}
use Rattle.jg_breaches.specs.declared.condition.Condition.{Condition}
use Rattle.jg_breaches.specs.declared.condition.Condition.TheVariants.{IsAttached, IsPresent, HasPending, Names, NamesObject, IsOpen, Owns, IsOwned, HasFrame, InNative, IsLinked}

-- what it is called where the condition comes to hold
abbrev pub begun_text : Condition → List ℕ
begun_text (IsAttached t) = codes "attached"
begun_text (IsPresent env) = codes "attached"
begun_text (HasPending t) = codes "raised"
begun_text (Names t r) = codes "made"
begun_text (NamesObject t r) = codes "made"
begun_text (IsOpen b) = codes "lent"
begun_text (Owns t o) = codes "entered"
begun_text (IsOwned o) = codes "entered"
begun_text (HasFrame t) = codes "pushed"
begun_text (InNative t) = codes "entered"
begun_text (IsLinked class native) = codes "linked"

-- and where it comes to hold no more
abbrev pub ended_text : Condition → List ℕ
ended_text (IsAttached t) = codes "detached"
ended_text (IsPresent env) = codes "detached"
ended_text (HasPending t) = codes "cleared"
ended_text (Names t r) = codes "ended"
ended_text (NamesObject t r) = codes "cleared"
ended_text (IsOpen b) = codes "released"
ended_text (Owns t o) = codes "exited"
ended_text (IsOwned o) = codes "exited"
ended_text (HasFrame t) = codes "popped"
ended_text (InNative t) = codes "left"
ended_text (IsLinked class native) = codes "unlinked"

-- an entry, by its line, its thread and its function
abbrev pub moment_text : ℕ → Entry → List ℕ
moment_text line x = codes " at line " ++ decimal line ++ codes " by " ++ tid_text x.tid ++ 32 ∷ name_of (fun_of x.call)
