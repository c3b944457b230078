-- Advice as C holds it. jg.h names the kinds.
use Rattle.std.specs.Prelude.{ℕ, ℤ, ◌≡◌, List, Option, Some, None, if◌then◌else◌, nat_eq}
use Rattle.jg_advice.specs.declared.advice.Advice.{Advice}
use Rattle.jg_advice.specs.declared.advice.Kind.{Kind}
use Rattle.jg_advice.specs.declared.advice.Kind.TheVariants.{Unchecked, WritesLost, CommittedAndKept, LongRegion, MonitorAtDetachment, DescriptorForName, Growing}
use Rattle.jg_advice.specs.declared.advice.Source.{Source}
use Rattle.jg_c.specs.declared.advice.JgAdvice.{JgAdvice}
use Rattle.jg_c.specs.declared.advice.JgSpot.{JgSpot}
use Rattle.jg_c.specs.Errors as errors
use Rattle.jg_c.specs.Lines.{Writes}

-- ---- kinds

abbrev pub kind_number : Kind → ℕ
kind_number Unchecked = 1
kind_number WritesLost = 2
kind_number CommittedAndKept = 3
kind_number LongRegion = 4
kind_number MonitorAtDetachment = 5
kind_number DescriptorForName = 6
kind_number Growing = 7

-- the kind of this number
abbrev pub kind_of : ℕ → Option Kind
kind_of n =
    if nat_eq n 1 then Some Unchecked
    else if nat_eq n 2 then Some WritesLost
    else if nat_eq n 3 then Some CommittedAndKept
    else if nat_eq n 4 then Some LongRegion
    else if nat_eq n 5 then Some MonitorAtDetachment
    else if nat_eq n 6 then Some DescriptorForName
    else if nat_eq n 7 then Some Growing
    else None

-- what is told of the kind is written, or there is none and nothing is
abbrev pub TellsKind : (Kind → List ℕ) → Option Kind → List ℕ → List ℕ → ℤ → Type 0
TellsKind text None old new n = (n ≡ errors.bad_value) × (new ≡ old)
TellsKind text (Some kind) old new n = Writes (text kind) old new n

-- ---- advice

-- no thread, and no function
abbrev pub nobody : ℕ
nobody = 4294967295

abbrev pub function_number : Option ℕ → ℕ
function_number None = nobody
function_number (Some f) = f

-- at the end there is no place
abbrev pub place_number : Option ℕ → ℕ
place_number None = 0
place_number (Some place) = place

abbrev pub is_at_end : Option ℕ → ℕ
is_at_end None = 1
is_at_end (Some place) = 0

abbrev pub spot : ℕ → ℕ → Option ℕ → JgSpot
spot place thread function = record { place = place; thread = thread; function = function_number function }

-- the earlier call, or nobody's
abbrev pub source_spot : Option Source → JgSpot
source_spot None = spot 0 nobody None
source_spot (Some call) = spot call.line call.tid.0 call.function

abbrev pub of_advice : Advice → JgAdvice
of_advice a = record {
  kind = kind_number a.kind;
  at_end = is_at_end a.line;
  told = spot (place_number a.line) a.tid.0 a.function;
  source = source_spot a.source;
}
