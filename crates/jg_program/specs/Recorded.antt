-- How the program ends with a record, and what it says of that.
use Rattle.std.specs.Prelude.{◌≡◌, ◌⊎◌, ◌++◌, ◌||◌, ℕ, Bool, true, false, if◌then◌else◌, List, [], ◌∷◌, codes, Option, Some, None, Result, Ok, Err}
use Rattle.std.specs.Fmt.{decimal}
use Rattle.std.specs.Io.KnownBytes.{Appends, Keeps}
use Rattle.jg_words.specs.declared.buffer.BufId.{BufId}
use Rattle.jg_words.specs.declared.reference.Ref.{Ref}
use Rattle.jg_policy.specs.Stated.{StatedSetup}
use Rattle.jg_table_monitors.specs.declared.owned_monitor.OwnedMonitor.{OwnedMonitor}
use Rattle.jg_leaks.specs.Left.{AreLeft}
use Rattle.jg_core.specs.Facts.{parts_of}
use Rattle.jg_record.specs.Parts.{AreParts}
use Rattle.jg_advice.specs.Moments.{Moment}
use Rattle.jg_advice.specs.Told.{AdviceLogState, LogStands, Tells as Advises}
use Rattle.jg_script.specs.Leaks.{leaks_text}
use Rattle.jg_watch.specs.declared.ending.Ended.{Ended}
use Rattle.jg_watch.specs.declared.ending.Ended.TheVariants.{All, CutOff, Differs, Impossible}
use Rattle.jg_watch.specs.declared.ending.Stop.{Stop}
use Rattle.jg_watch.specs.declared.ending.Stop.TheVariants.{Write}
use Rattle.jg_watch.specs.declared.watch.Shown.{Shown}
use Rattle.jg_watch.specs.Logged.{advising_of}
use Rattle.jg_watch.specs.Ends.{Watches}
use Rattle.jg_watch.specs.Explained.{Explaining}
use Rattle.jg_watch.specs.Lines.{any_denied}
use Rattle.jg_watch.specs.Told.{Stands, Told, Watching}
use Rattle.jg_program.specs.declared.reporting.Reporting.{Reporting}
use Rattle.jg_program.specs.declared.stop.ProgramEnd.{ProgramEnd}
use Rattle.jg_program.specs.declared.stop.ProgramStop.{ProgramStop}
use Rattle.jg_program.specs.declared.stop.ProgramStop.TheVariants.{Leaks, Record, Summary}
use Rattle.jg_program.specs.declared.stop.Status.{Status}
use Rattle.jg_program.specs.declared.stop.Status.TheVariants as status
use Rattle.jg_program.specs.Advising.{advice_asked, is_advised}
use Rattle.jg_program.specs.Reported.{TellsNothing, is_explained, said_text}
use Rattle.jg_program.specs.Summary.{record_summary}
use Rattle.jg_program.specs.Verdicts.{difference_text}

-- what is written behind the answers, where the record ended at this line
abbrev pub IsEndText : Ended → List ℕ → List ℕ → Type 0
IsEndText (All lines) line text = text ≡ []
IsEndText (CutOff number) line text = text ≡ []
IsEndText (Differs number) line text = text ≡ difference_text number
IsEndText (Impossible number) line text = (event : List ℕ) × (answer note : Option (List ℕ))
    × AreParts line event answer note
    × (text ≡ codes "impossible at line " ++ decimal number ++ codes ": " ++ event ++ 10 ∷ [])

-- ---- how the lines were answered

-- how the lines of a record were answered, and what that did to the bytes of the reader and of the writer
abbrev pub AnswersRecord : StatedSetup → Shown → Option (List ℕ) → Option (List ℕ) → List ℕ → Option (List ℕ)
    → Option (List ℕ) → Watching → Explaining → Option AdviceLogState → Result Ended ProgramStop → Type 0
-- the record ended so, and that was written behind its answers
AnswersRecord s shown input input' line bytes bytes' new explained log (Ok ended) =
    (before : Option (List ℕ)) × (text : List ℕ)
    × Watches s shown input input' line bytes before new explained log (Ok ended) × IsEndText ended line text
    × Appends before bytes' text
-- it was stopped so; or what is to be written couldn't be written or handed on
AnswersRecord s shown input input' line bytes bytes' new explained log (Err stop) =
    (fault : Stop) × (stop ≡ Record fault)
    × (((before : Option (List ℕ)) × Watches s shown input input' line bytes before new explained log (Err fault)
    × Keeps before bytes') ⊎ ((number : ℕ) × (fault ≡ Write number)))

-- ---- what is said on standard error

-- where the record is cut off
abbrev pub end_said : Ended → List ℕ
end_said (CutOff number) = codes "line " ++ decimal number ++ codes ": cut off\n"
end_said ended = []

-- what is left behind by all that was told
abbrev pub SaysLeft : Bool → Watching → List ℕ → Type 0
SaysLeft false new said = said ≡ []
SaysLeft true new said = (refs : List Ref) × (lent : List BufId) × (owned : List OwnedMonitor)
    × ((told : Told) → Stands new told → AreLeft (parts_of told.facts) refs lent owned)
    × (said ≡ leaks_text refs lent owned)

-- that is listed, where it is asked for, of a record that was answered to its end
abbrev pub lists_left : Bool → Ended → Bool
lists_left leaks (All lines) = leaks
lists_left leaks (CutOff line) = leaks
lists_left leaks ended = false

-- the summary, where it is asked for
abbrev pub summary_if : Bool → Watching → List ℕ
summary_if false new = []
summary_if true new = record_summary new

-- ---- advice

-- the advice on what happened by the lines; none without a log
abbrev pub IsAdvice : Option AdviceLogState → List ℕ → Type 0
IsAdvice None text = text ≡ []
IsAdvice (Some x) text = (h : List Moment) → LogStands x h → Advises x.adviser.most x.noting.all h text

-- the explanations, with the advice that is asked for behind them; None where memory ran out for one of them
abbrev pub IsSaid : Reporting → Option (List ℕ) → Option AdviceLogState → Option (List ℕ) → Type 0
IsSaid r explained log None = Unit {0}
IsSaid r explained log (Some said) = (advising_of log ≡ advice_asked r) × ((explanations advice : List ℕ)
    × (explained ≡ Some explanations) × IsAdvice log advice × (said ≡ explanations ++ advice))

-- ---- how the program ends

-- a line that differs or can't be is told by the status, and where that is asked for, a denied question
abbrev pub end_status : Bool → List ℕ → Ended → Status
end_status strict tally (Differs number) = status.Differs
end_status strict tally (Impossible number) = status.Differs
end_status true tally ended = if any_denied tally then status.Denied else status.Done
end_status false tally ended = status.Done

abbrev pub status_ended : Bool → List ℕ → Result Ended ProgramStop → Result Status ProgramStop
status_ended strict tally (Ok ended) = Ok (end_status strict tally ended)
status_ended strict tally (Err stop) = Err stop

-- the program ends so after a record, of which this was explained and advised: first it is said that the record is cut
-- off, if it is, then come the explanations and the advice, then what is left behind, and last the summary
abbrev pub EndsWith : Reporting → Watching → Option (List ℕ) → Result Ended ProgramStop → ProgramEnd → Type 0
EndsWith r new (Some explained) (Ok ended) ending =
    ((ending.ended ≡ Ok (end_status r.strict new.tally ended))
    × ((left : List ℕ) × SaysLeft (lists_left r.leaks ended) new left
    × (said_text ending.said ≡ end_said ended ++ explained ++ left ++ summary_if r.summary new)))
    -- memory ran out for what is left behind
    ⊎ ((ending.ended ≡ Err Leaks) × (r.leaks ≡ true) × (said_text ending.said ≡ end_said ended ++ explained))
    -- or for the summary
    ⊎ ((ending.ended ≡ Err Summary) × (r.summary ≡ true)
    × ((left : List ℕ) × SaysLeft (lists_left r.leaks ended) new left
    × (said_text ending.said ≡ end_said ended ++ explained ++ left)))
-- what stopped it is told all the same
EndsWith r new (Some explained) (Err stop) ending = (ending.ended ≡ Err stop)
    × ((said_text ending.said ≡ explained ++ summary_if r.summary new)
    ⊎ ((r.summary ≡ true) × (said_text ending.said ≡ explained ++ codes "summary: no memory\n")))
-- memory ran out for what is explained or advised
EndsWith r new None result ending =
    (is_explained r || is_advised r ≡ true) × TellsNothing (status_ended r.strict new.tally result) ending

-- how the answering of a record under this setup ended
abbrev pub EndsRecord : Reporting → StatedSetup → Shown → Option (List ℕ) → Option (List ℕ) → Option (List ℕ)
    → Option (List ℕ) → ProgramEnd → Type 0
EndsRecord r s shown input input' bytes bytes' ending =
    (line : List ℕ) × (new : Watching) × (explained : Explaining) × (log : Option AdviceLogState)
    × (said : Option (List ℕ)) × (result : Result Ended ProgramStop)
    × AnswersRecord s shown input input' line bytes bytes' new explained log result
    × (explained.most ≡ r.explain) × IsSaid r explained.text log said × EndsWith r new said result ending
