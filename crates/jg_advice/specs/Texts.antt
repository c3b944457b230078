-- Advice in words.
use Rattle.std.specs.Prelude.{ℕ, List, [], ◌∷◌, ◌++◌, codes, Option, Some, None}
use Rattle.std.specs.Fmt.{decimal}
use Rattle.jg_text.specs.Words.{tid_text}
use Rattle.jg_rows.specs.ByName.{name_at}
use Rattle.jg_advice.specs.declared.advice.Advice.{Advice}
use Rattle.jg_advice.specs.declared.advice.Source.{Source}
use Rattle.jg_advice.specs.declared.advice.Kind.{Kind}
use Rattle.jg_advice.specs.declared.advice.Kind.TheVariants.{Unchecked, WritesLost, CommittedAndKept, LongRegion, MonitorAtDetachment, DescriptorForName, Growing}

abbrev pub kind_text : Kind → List ℕ
kind_text Unchecked = codes "unchecked"
kind_text WritesLost = codes "writes lost"
kind_text CommittedAndKept = codes "committed and kept"
kind_text LongRegion = codes "long region"
kind_text MonitorAtDetachment = codes "monitor at detachment"
kind_text DescriptorForName = codes "descriptor for a name"
kind_text Growing = codes "growing"

-- what is amiss
abbrev pub sentence_of : Kind → List ℕ
sentence_of Unchecked = codes "nobody asked whether the call before it threw"
sentence_of WritesLost = codes "JNI_ABORT throws away what was written to the copy"
sentence_of CommittedAndKept = codes "a buffer was released by JNI_COMMIT alone"
sentence_of LongRegion = codes "a critical region was long, or the collector ran in it"
sentence_of MonitorAtDetachment = codes "a thread's session ended while it owned a monitor"
sentence_of DescriptorForName = codes "a class is named as java/lang/String"
sentence_of Growing = codes "a frame holds more than ten times the local references that it has room for"

-- what the earlier call did
abbrev pub verb_of : Kind → List ℕ
verb_of Unchecked = codes "called"
verb_of WritesLost = codes "written"
verb_of CommittedAndKept = codes "committed"
verb_of LongRegion = codes "begun"
verb_of MonitorAtDetachment = codes "entered"
verb_of DescriptorForName = codes "called"
verb_of Growing = codes "made"

-- what is to be done
abbrev pub help_of : Kind → List ℕ
help_of Unchecked = codes "ask by ExceptionCheck or ExceptionOccurred before the next call"
help_of WritesLost = codes "release it with mode 0, or write elsewhere"
help_of CommittedAndKept = codes "release it once more, with mode 0 or JNI_ABORT"
help_of LongRegion = codes "do less in the region, or copy by GetArrayRegion"
help_of MonitorAtDetachment = codes "exit the monitor before the thread is detached"
help_of DescriptorForName = codes "leave out L and ;, and write / for each dot"
help_of Growing = codes "delete each local reference after its use, or push and pop a frame"

-- the line at which it is told
abbrev pub place_text : Option ℕ → List ℕ
place_text None = codes "end"
place_text (Some n) = codes "line " ++ decimal n

-- a space and the function, where there is one
abbrev pub function_text : Option ℕ → List ℕ
function_text None = []
function_text (Some f) = 32 ∷ name_at f

-- the function that it is about
abbrev pub of_text : Option ℕ → List ℕ
of_text None = []
of_text (Some f) = codes " of " ++ name_at f

-- by whom the earlier call was made
abbrev pub caller_text : Source → List ℕ
caller_text call = codes " by " ++ (tid_text call.tid ++ (function_text call.function ++ 10 ∷ []))

-- the line of the earlier call
abbrev pub source_text : Kind → Option Source → List ℕ
source_text kind None = []
source_text kind (Some call) =
    codes "  " ++ (verb_of kind ++ (codes " at line " ++ (decimal call.line ++ caller_text call)))

-- what is told first of it
abbrev pub head_text : Kind → Option ℕ → List ℕ
head_text kind function = codes "advice " ++ (kind_text kind ++ of_text function)

abbrev pub help_text : Kind → List ℕ
help_text kind = codes "  help: " ++ (help_of kind ++ 10 ∷ [])

-- the line that says what is amiss
abbrev pub sentence_text : Advice → List ℕ
sentence_text a =
    place_text a.line ++ (codes ": " ++ (head_text a.kind a.function ++ (codes ": " ++ (sentence_of a.kind ++ 10 ∷ []))))

abbrev pub advice_text : Advice → List ℕ
advice_text a = sentence_text a ++ (source_text a.kind a.source ++ help_text a.kind)
