-- The summary of a history, and of a record.
use Rattle.std.specs.Prelude.{ℕ, ◌≡◌, ◌+◌, ◌-◌, ◌==◌, if◌then◌else◌, List, [], ◌∷◌, ◌++◌, codes, flat_map, length, slice_index_or}
use Rattle.std.specs.Fmt.{decimal}
use Rattle.jg_words.specs.declared.rule.Rule.{Rule}
use Rattle.jg_words.specs.declared.rule.Rule.TheVariants.{WrongThread, Detached, InCritical, Pending, ForeignLocal, DeadReference, WrongRefKind, NullReference, WrongType, BadField, BadBuffer, BadArgument, Pinned, NotOwner, BadFrame, NoNativeAccess, NotLinked}
use Rattle.jg_words.specs.Entry.{Entry}
use Rattle.jg_words.specs.Rule.{name_of, number_of}
use Rattle.jg_policy.specs.Stated.{StatedSetup}
use Rattle.jg_guard.specs.declared.peaks.Peaks.{Peaks}
use Rattle.jg_guard.specs.Peaks.{ArePeaks}
use Rattle.jg_guard.specs.Tally.{denied_in, passed_in}
use Rattle.jg_watch.specs.Told.{Watching}

-- in the order of their numbers
abbrev pub all_rules : List Rule
all_rules = WrongThread ∷ Detached ∷ InCritical ∷ Pending ∷ ForeignLocal ∷ DeadReference ∷ WrongRefKind ∷ NullReference
    ∷ WrongType ∷ BadField ∷ BadBuffer ∷ BadArgument ∷ Pinned ∷ NotOwner ∷ BadFrame ∷ NoNativeAccess ∷ NotLinked ∷ []

-- `calls 9, passed 7, denied 2`
abbrev pub counts_line : ℕ → ℕ → ℕ → List ℕ
counts_line calls passed denied = codes "calls " ++ decimal calls ++ codes ", passed " ++ decimal passed
    ++ codes ", denied " ++ decimal denied ++ 10 ∷ []

-- `deny 6 DeadReference 2`, where the rule denied so many
abbrev pub deny_line : Rule → ℕ → List ℕ
deny_line rule denied = if denied == 0 then []
    else codes "deny " ++ decimal (number_of rule) ++ 32 ∷ name_of rule ++ 32 ∷ decimal denied ++ 10 ∷ []

abbrev pub calls_line : List Entry → List ℕ
calls_line h = counts_line (length h) (passed_in h) (length h - passed_in h)

abbrev pub rule_line : List Entry → Rule → List ℕ
rule_line h rule = deny_line rule (denied_in rule h)

-- `most at once: references 3, objects 2, buffers 0`
abbrev pub peaks_line : Peaks → List ℕ
peaks_line peaks = codes "most at once: references " ++ decimal peaks.references ++ codes ", objects "
    ++ decimal peaks.objects ++ codes ", buffers " ++ decimal peaks.buffers ++ 10 ∷ []

abbrev pub summary_text : List Entry → Peaks → List ℕ
summary_text h peaks = calls_line h ++ flat_map (rule_line h) all_rules ++ peaks_line peaks

abbrev pub IsSummary : StatedSetup → List Entry → List ℕ → Type 0
IsSummary s h said = (peaks : Peaks) × ArePeaks s h peaks × (said ≡ summary_text h peaks)

abbrev pub AddsSummary : StatedSetup → List Entry → List ℕ → List ℕ → Type 0
AddsSummary s h old new = (said : List ℕ) × IsSummary s h said × (new ≡ old ++ said)

-- ---- of a record

-- how many of its questions passed
abbrev pub passed_of : Watching → ℕ
passed_of w = slice_index_or w.tally 0 0

abbrev pub questions_line : Watching → List ℕ
questions_line w = counts_line (passed_of w + w.denied) (passed_of w) w.denied

abbrev pub watched_line : Watching → Rule → List ℕ
watched_line w rule = deny_line rule (slice_index_or w.tally (number_of rule) 0)

-- the questions of a record; a watch counts nothing else
abbrev pub record_summary : Watching → List ℕ
record_summary w = questions_line w ++ flat_map (watched_line w) all_rules
