-- What is told of a denial, as text: its line, of which operand, in which way the call broke the rule, since when, what
-- the rule says, and what helps.
use Rattle.std.specs.Prelude.{ℕ, ◌≡◌, ◌+◌, Bool, true, false, List, [], ◌∷◌, ◌++◌, codes, flat_map, reverse, slice_get, take, Option, Some, None, String, string_bytes}
use Rattle.std.specs.declared.alloc.Global.{Global}
use Rattle.jg_words.specs.declared.rule.Rule.{Rule}
use Rattle.jg_words.specs.Entry.{Entry}
use Rattle.jg_policy.specs.Stated.{StatedSetup}
use Rattle.jg_text.specs.Words.{buf_text}
use Rattle.jg_breaches.specs.declared.breach.Breach.{Breach}
use Rattle.jg_breaches.specs.declared.breach.Breach.TheVariants.{InRegion, PinnedReference}
use Rattle.jg_breaches.specs.declared.condition.Condition.{Condition}
use Rattle.jg_breaches.specs.declared.condition.Condition.TheVariants.{IsOpen}
use Rattle.jg_denial_text.specs.Breaches.{breach_text, subject_text}
use Rattle.jg_denial_text.specs.Moments.{begun_text, ended_text, moment_text}
use Rattle.jg_denial_text.specs.Sentences.{denial_text, rule_text}
use Rattle.jg_explain.specs.declared.watching.Watch.{Watch}
use Rattle.jg_explain.specs.Explained.{Cause, causes, all_known}

-- the entry at that place
abbrev pub moment_of : ℕ → Option Entry → List ℕ
moment_of place None = []
moment_of place (Some x) = moment_text (place + 1) x

abbrev pub moment_at : List Entry → ℕ → List ℕ
moment_at journal place = moment_of place (slice_get (reverse journal) place)

abbrev pub begun_at : List Entry → Condition → ℕ → List ℕ
begun_at journal c place = begun_text c ++ moment_at journal place

abbrev pub ended_at : List Entry → Condition → ℕ → List ℕ
ended_at journal c place = ended_text c ++ moment_at journal place

abbrev pub begun_before : List Entry → Condition → Option ℕ → List ℕ
begun_before journal c None = []
begun_before journal c (Some place) = begun_at journal c place ++ codes "; "

abbrev pub never_text : Condition → List ℕ
never_text c = codes "never " ++ begun_text c

-- of critical buffers there may be several, so each is named
abbrev pub buffer_lead : Condition → List ℕ
buffer_lead (IsOpen b) = buf_text b ++ 32 ∷ []
buffer_lead c = []

abbrev pub lead_text : Breach → Condition → List ℕ
lead_text InRegion c = buffer_lead c
lead_text (PinnedReference r) c = buffer_lead c
lead_text breach c = []

abbrev pub in_line : List ℕ → List ℕ → List ℕ
in_line lead text = codes "  " ++ lead ++ text ++ 10 ∷ []

-- since when it is as it is: nothing is told of what has ever held
abbrev pub since_text : List Entry → List ℕ → Condition → Bool → Option ℕ → Option ℕ → List ℕ
since_text journal lead c true None earlier = []
since_text journal lead c true (Some place) earlier = in_line lead (begun_at journal c place)
since_text journal lead c false None earlier = in_line lead (never_text c)
since_text journal lead c false (Some place) earlier =
    in_line lead (begun_before journal c earlier ++ ended_at journal c place)

abbrev pub watch_text : List Entry → Breach → Watch → List ℕ
watch_text journal breach w =
    since_text journal (lead_text breach w.condition) w.condition w.holds w.turns.latest w.turns.earlier

abbrev pub found_text : StatedSetup → Breach → Entry → List ℕ
found_text s breach x = subject_text breach ++ codes ": " ++ breach_text s x.tid x.call breach ++ 10 ∷ []

abbrev pub told_text : StatedSetup → List Entry → ℕ → Rule → Breach → List Watch → Option Entry → List ℕ
told_text s journal place rule breach watches None = []
told_text s journal place rule breach watches (Some x) =
    denial_text (place + 1) rule ++ found_text s breach x ++ flat_map (watch_text journal breach) watches
    ++ rule_text rule

-- of the entry at that place
abbrev pub explanation_text : StatedSetup → List Entry → ℕ → Rule → Breach → List Watch → List ℕ
explanation_text s journal place rule breach watches =
    told_text s journal place rule breach watches (slice_get (reverse journal) place)

abbrev pub cause_text : StatedSetup → List Entry → Cause → List ℕ
cause_text s journal c = explanation_text s journal c.place c.rule c.breach (all_known s journal c)

-- the explanations of the first n denials
abbrev pub explanations_text : StatedSetup → List Entry → ℕ → List ℕ
explanations_text s journal n = flat_map (cause_text s journal) (take n (causes s journal))

-- the explanation of the newest denial, whose cause is the last; none where no call was denied
abbrev pub IsNewestTold : StatedSetup → List Entry → Option (String Global) → Type 0
IsNewestTold s journal None = causes s journal ≡ []
IsNewestTold s journal (Some text) = (older : List Cause) × (c : Cause) × (causes s journal ≡ older ++ c ∷ [])
    × (string_bytes text ≡ cause_text s journal c)
