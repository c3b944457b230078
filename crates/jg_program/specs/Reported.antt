-- What is told beside the journal: the status, explanations, and what is left behind.
use Rattle.std.specs.Prelude.{ℕ, ◌≡◌, ◌⊎◌, ◌||◌, nat_lt, Bool, true, false, if◌then◌else◌, List, [], ◌++◌, codes, string_bytes, Result, Ok, Err}
use Rattle.std.specs.Fmt.{decimal}
use Rattle.std.specs.List.{list_any}
use Rattle.std.specs.Option.{is_some}
use Rattle.jg_words.specs.declared.buffer.BufId.{BufId}
use Rattle.jg_words.specs.declared.reference.Ref.{Ref}
use Rattle.jg_words.specs.Entry.{Entry, rule_in}
use Rattle.jg_policy.specs.Stated.{StatedSetup}
use Rattle.jg_table_monitors.specs.declared.owned_monitor.OwnedMonitor.{OwnedMonitor}
use Rattle.jg_rules.specs.Effects.{parts}
use Rattle.jg_leaks.specs.Left.{AreLeft}
use Rattle.jg_explain.specs.Left.{all_left_text}
use Rattle.jg_explain.specs.Texts.{explanations_text}
use Rattle.jg_script.specs.Leaks.{leaks_text}
use Rattle.jg_program.specs.declared.reporting.Reporting.{Reporting}
use Rattle.jg_program.specs.declared.stop.ProgramEnd.{ProgramEnd}
use Rattle.jg_program.specs.declared.stop.Said.{Said}
use Rattle.jg_program.specs.declared.stop.Said.TheVariants.{Text, Short, NoMemory, CutOff}
use Rattle.jg_program.specs.declared.stop.Status.{Status}
use Rattle.jg_program.specs.declared.stop.Status.TheVariants.{Done, Denied}
use Rattle.jg_program.specs.declared.stop.ProgramStop.{ProgramStop}
use Rattle.jg_program.specs.Advising.{SaysAdvice, is_advised}
use Rattle.jg_program.specs.Summary.{IsSummary}
use Rattle.jg_program.specs.declared.stop.ProgramStop.TheVariants.{Leaks, Summary, Explain}

abbrev pub said_text : Said → List ℕ
said_text (Text text) = string_bytes text
said_text (Short text) = string_bytes text ++ codes "summary: no memory\n"
said_text NoMemory = codes "explain: no memory\n"
said_text (CutOff line text) = codes "line " ++ decimal line ++ codes ": cut off\n" ++ string_bytes text

-- some call was denied
abbrev pub any_denied : List Entry → Bool
any_denied h = list_any (λ x. is_some (rule_in x.outcome)) h

-- the status of work that is done, where a denied call is to be told by it
abbrev pub strict_status : Bool → List Entry → Status → Status
strict_status true h Done = if any_denied h then Denied else Done
strict_status strict h status = status

-- with explanations each line of what is left goes on with the entry since which it is there
abbrev pub left_text : Bool → StatedSetup → List Entry → List Ref → List BufId → List OwnedMonitor → List ℕ
left_text false s h refs lent owned = leaks_text refs lent owned
left_text true s h refs lent owned = all_left_text s h refs lent owned

-- the text of what a history leaves behind, where it is asked for
abbrev pub SaysLeaks : Bool → Bool → StatedSetup → List Entry → List ℕ → Type 0
SaysLeaks false explained s h said = said ≡ []
SaysLeaks true explained s h said = (refs : List Ref) × (lent : List BufId) × (owned : List OwnedMonitor)
    × AreLeft (parts s h) refs lent owned × (said ≡ left_text explained s h refs lent owned)

-- explanations are asked for
abbrev pub is_explained : Reporting → Bool
is_explained r = nat_lt 0 r.explain

-- what is told of how the work was done or stopped: nothing without explanations, and else such a text
abbrev pub IsToldIf : Bool → (List ℕ → Type 0) → List ℕ → Type 0
IsToldIf false IsSuch about = about ≡ []
IsToldIf true IsSuch about = IsSuch about

-- the summary of a history, where it is asked for
abbrev pub SaysSummary : Bool → StatedSetup → List Entry → List ℕ → Type 0
SaysSummary false s h said = said ≡ []
SaysSummary true s h said = IsSummary s h said

-- the program ends so after a history, where this was said so far and only the summary is left to say
abbrev pub EndsSummed : List ℕ → Reporting → StatedSetup → List Entry → Status → ProgramEnd → Type 0
EndsSummed so_far r s h status ending =
    ((ending.ended ≡ Ok (strict_status r.strict h status)) × ((summary : List ℕ) × SaysSummary r.summary s h summary
    × (said_text ending.said ≡ so_far ++ summary)))
    ⊎ ((ending.ended ≡ Err Summary) × (r.summary ≡ true) × (said_text ending.said ≡ so_far))

-- the explanations of a history's first denials, with the advice on it behind them
abbrev pub Explains : Reporting → StatedSetup → List Entry → List ℕ → Type 0
Explains r s h explained = (advised : List ℕ) × SaysAdvice r s h advised
    × (explained ≡ explanations_text s h r.explain ++ advised)

-- the program ends so after a history: first this is told, then the first denials are explained and the advice is told,
-- then it is said what is left behind, and last comes the summary
abbrev pub Tells : List ℕ → List ℕ → Reporting → StatedSetup → List Entry → Result Status ProgramStop → ProgramEnd
    → Type 0
Tells about explained r s h (Ok status) ending =
    ((ending.ended ≡ Ok (strict_status r.strict h status))
    × ((left : List ℕ) × SaysLeaks r.leaks (is_explained r) s h left
    × ((summary : List ℕ) × SaysSummary r.summary s h summary
    × (said_text ending.said ≡ about ++ explained ++ left ++ summary))))
    -- memory ran out for what is left behind
    ⊎ ((ending.ended ≡ Err Leaks) × (r.leaks ≡ true)
    × (said_text ending.said ≡ about ++ explained))
    -- or for the summary
    ⊎ ((ending.ended ≡ Err Summary) × (r.summary ≡ true)
    × ((left : List ℕ) × SaysLeaks r.leaks (is_explained r) s h left
    × (said_text ending.said ≡ about ++ explained ++ left)))
-- what stopped it is told all the same
Tells about explained r s h (Err stop) ending = (ending.ended ≡ Err stop)
    × (((summary : List ℕ) × SaysSummary r.summary s h summary
    × (said_text ending.said ≡ about ++ explained ++ summary))
    ⊎ ((r.summary ≡ true) × (said_text ending.said
    ≡ about ++ explained ++ codes "summary: no memory\n")))

-- memory ran out for what is explained or advised
abbrev pub TellsNothing : Result Status ProgramStop → ProgramEnd → Type 0
TellsNothing (Ok status) ending = (ending.ended ≡ Err Explain) × (said_text ending.said ≡ [])
TellsNothing (Err stop) ending = (ending.ended ≡ Err stop) × (ending.said ≡ NoMemory)

-- How the program ends after a history, where its work was done or stopped so, and such a text is to be told of that.
abbrev pub Reports : (List ℕ → Type 0) → Reporting → StatedSetup → List Entry → Result Status ProgramStop → ProgramEnd
    → Type 0
Reports IsSuch r s h result ending =
    ((about explained : List ℕ) × IsToldIf (is_explained r) IsSuch about × Explains r s h explained
    × Tells about explained r s h result ending)
    ⊎ ((is_explained r || is_advised r ≡ true) × TellsNothing result ending)

-- the program ends by this: with explanations such a text is told of it, unless memory ran out for that, and else
-- nothing
abbrev pub EndsTelling : Bool → (List ℕ → Type 0) → ProgramStop → ProgramEnd → Type 0
EndsTelling explained IsSuch stop ending =
    ((about : List ℕ) × IsToldIf explained IsSuch about × (ending.ended ≡ Err stop) × (said_text ending.said ≡ about))
    ⊎ ((explained ≡ true) × TellsNothing (Err stop) ending)

-- the program ends by this, and there is nothing more to say
abbrev pub EndsQuietly : ProgramStop → ProgramEnd → Type 0
EndsQuietly stop ending = (ending.ended ≡ Err stop) × (said_text ending.said ≡ [])
