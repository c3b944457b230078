-- How a record ends.
use Rattle.std.specs.Prelude.{◌≡◌, ◌<◌, ◌≤◌, ◌+◌, ◌^◌, ◌++◌, ◌⊎◌, ℕ, Bool, true, false, List, [], ◌∷◌, length, take, Option, Result, Ok, Err}
use Rattle.std.specs.Io.KnownBytes.{Appends, Consumes, IsAtEnd, Keeps}
use Rattle.jg_policy.specs.Stated.{StatedSetup}
use Rattle.jg_core.specs.Facts.{made_in}
use Rattle.jg_lines.specs.Devices.{IsOneLine, TakesFront}
use Rattle.jg_record.specs.declared.fault.RecordFault.{RecordFault}
use Rattle.jg_record.specs.declared.fault.RecordFault.TheVariants.{LineTooLong}
use Rattle.jg_record.specs.declared.reply.Reply.{Reply}
use Rattle.jg_record.specs.Faults.{IsFirstFault}
use Rattle.jg_record.specs.Parts.{AreParts}
use Rattle.jg_advice.specs.Told.{AdviceLogState}
use Rattle.jg_watch.specs.declared.ending.Ended.{Ended}
use Rattle.jg_watch.specs.declared.ending.Ended.TheVariants.{All, CutOff, Differs, Impossible}
use Rattle.jg_watch.specs.declared.ending.Stop.{Stop}
use Rattle.jg_watch.specs.declared.ending.Stop.TheVariants.{Faulty, Limit, NoMemory, Read, Write}
use Rattle.jg_watch.specs.declared.watch.Shown.{Shown}
use Rattle.jg_watch.specs.Told.{Stands, Told, Watching, can_be_told}
use Rattle.jg_watch.specs.Lines.{Agrees, Answered, AreAnswered, IsAnswered, IsReplied, IsTally, Said, Says, denials_in, is_comment, text_of, written_of}
use Rattle.jg_watch.specs.Explained.{AreExplained, Explaining}
use Rattle.jg_watch.specs.Logged.{LogStandsIf, moments_of}

-- the line can't be: its event is of a fact that can't be after what was told
abbrev pub CannotBe : StatedSetup → Told → List ℕ → Type 0
CannotBe s told line = (x : Said) × Says s line x × (can_be_told s told x.says x.gone ≡ false)

-- it can, and tells another answer than the core's
abbrev pub IsDifferent : StatedSetup → Told → List ℕ → Type 0
IsDifferent s told line =
    (x : Said) × (reply : Reply) × Says s line x × IsReplied s told x reply × (¬ Agrees x.answer reply)

-- its event has this fault before all others
abbrev pub IsFaulty : StatedSetup → List ℕ → RecordFault → Type 0
IsFaulty s line fault = (is_comment line ≡ false)
    × ((event : List ℕ) × (answer note : Option (List ℕ)) × AreParts line event answer note
    × IsFirstFault s event fault)

-- why line number n isn't answered, which was read, and what was written of it
abbrev pub StopsAt : StatedSetup → Shown → Told → List ℕ → Option (List ℕ) → Option (List ℕ) → ℕ
    → Result Ended Stop → Type 0
StopsAt s shown told line bytes bytes' n (Ok (Differs number)) =
    IsDifferent s told line × Keeps bytes bytes' × (number ≡ n)
StopsAt s shown told line bytes bytes' n (Ok (Impossible number)) =
    CannotBe s told line × Keeps bytes bytes' × (number ≡ n)
StopsAt s shown told line bytes bytes' n (Err (Faulty number fault)) =
    IsFaulty s line fault × Keeps bytes bytes' × (number ≡ n)
StopsAt s shown told line bytes bytes' n (Err (Limit number)) =
    (made_in told.facts ≡ 2 ^ 60) × Keeps bytes bytes' × (number ≡ n)
StopsAt s shown told line bytes bytes' n (Err (NoMemory number)) = Keeps bytes bytes' × (number ≡ n)
StopsAt s shown told line bytes bytes' n (Err (Write number)) =
    ((l : Answered) × (told' : Told) × (l.line ≡ line) × IsAnswered s shown told l told'
    × ((k : ℕ) × (k < length l.out) × Appends bytes bytes' (take k l.out))) × (number ≡ n)
StopsAt s shown told line bytes bytes' n result = ⊥

-- how it ends in the place of line number n; `line` is what was read of a last line or of one that is too long
abbrev pub EndsBefore : Option (List ℕ) → Option (List ℕ) → List ℕ → Option (List ℕ) → Option (List ℕ) → ℕ
    → Result Ended Stop → Type 0
-- nothing is left
EndsBefore input input' line bytes bytes' n (Ok (All lines)) =
    Consumes input input' [] × IsAtEnd input' × Keeps bytes bytes' × (lines + 1 ≡ n)
-- a line is left that has no line feed
EndsBefore input input' line bytes bytes' n (Ok (CutOff number)) =
    IsOneLine line × (0 < length line) × Consumes input input' line × IsAtEnd input' × Keeps bytes bytes'
    × (number ≡ n)
EndsBefore input input' line bytes bytes' n (Err (Faulty number LineTooLong)) =
    IsOneLine line × (65536 < length line) × Consumes input input' line × Keeps bytes bytes' × (number ≡ n)
-- no greater number than n can be counted
EndsBefore input input' line bytes bytes' n (Err (Limit number)) =
    (2 ^ 64 ≤ n + 1) × Consumes input input' [] × Keeps bytes bytes' × (number ≡ n)
EndsBefore input input' line bytes bytes' n (Err (NoMemory number)) =
    TakesFront input input' × Keeps bytes bytes' × (number ≡ n)
EndsBefore input input' line bytes bytes' n (Err (Read number)) =
    TakesFront input input' × Keeps bytes bytes' × (number ≡ n)
EndsBefore input input' line bytes bytes' n result = ⊥

-- how it ends at line number n, or before it
abbrev pub EndsAt : StatedSetup → Shown → Told → Option (List ℕ) → Option (List ℕ) → List ℕ → Option (List ℕ)
    → Option (List ℕ) → ℕ → Result Ended Stop → Type 0
EndsAt s shown told input input' line bytes bytes' n result =
    (IsOneLine line × Consumes input input' (line ++ 10 ∷ []) × StopsAt s shown told line bytes bytes' n result)
    ⊎ EndsBefore input input' line bytes bytes' n result

-- what watched a record to its end stands for what was told
abbrev pub IsWhole : Watching → Told → Result Ended Stop → Type 0
IsWhole new told (Ok (All lines)) = Stands new told
IsWhole new told (Ok (CutOff line)) = Stands new told
IsWhole new told result = Unit {0}

-- these lines were read first and answered, what is written of them was written, their replies were counted, the first
-- denied questions explained, what happened by them advised on, and then it ended so
pub record Watches (s : StatedSetup) (shown : Shown) (input input' : Option (List ℕ)) (line : List ℕ)
    (bytes bytes' : Option (List ℕ)) (new : Watching) (explaining : Explaining) (log : Option AdviceLogState)
    (result : Result Ended Stop) : Type 0 where
  pub lines : List Answered
  pub told : Told
  pub answered : AreAnswered s shown lines told
  pub rest : Option (List ℕ)
  pub read : Consumes input rest (text_of lines)
  pub before : Option (List ℕ)
  pub written : Appends bytes before (written_of lines)
  pub counted : IsTally lines new.tally
  pub denied : new.denied ≡ denials_in lines
  pub explained : AreExplained lines explaining
  pub advised : LogStandsIf log (moments_of lines)
  pub stands : IsWhole new told result
  pub ends : EndsAt s shown told rest input' line before bytes' (length lines + 1) result

-- the reader failed where the answer is `Read`, and nowhere else
abbrev pub ReaderFails : {N : Type 0} → Bool → Bool → Result N Stop → Type 0
ReaderFails old new (Err (Read line)) = new ≡ true
ReaderFails old new result = new ≡ old

-- the writer failed where the answer is `Write`, and nowhere else
abbrev pub WriterFails : {N : Type 0} → Bool → Bool → Result N Stop → Type 0
WriterFails old new (Err (Write line)) = new ≡ true
WriterFails old new result = new ≡ old

-- the number of the line that it ended at, or of the last one
abbrev pub ended_line : Ended → ℕ
ended_line (All lines) = lines
ended_line (CutOff line) = line
ended_line (Differs line) = line
ended_line (Impossible line) = line

abbrev pub stop_line : Stop → ℕ
stop_line (Faulty line fault) = line
stop_line (Limit line) = line
stop_line (NoMemory line) = line
stop_line (Read line) = line
stop_line (Write line) = line
