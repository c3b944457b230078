-- What is legal and likely wrong: which advice is given at a moment, by the moments before it.
use Rattle.std.specs.Prelude.{ℕ, ◌≡◌, ◌-◌, ◌==◌, ◌&&◌, ◌||◌, Bool, false, if◌then◌else◌, List, [], ◌++◌, length, map, slice_get, Option, Some, None, option_to_list}
use Rattle.std.specs.List.{list_any}
use Rattle.std.specs.Map.{lookup}
use Rattle.std.specs.Option.{option_map}
use Rattle.jg_words.specs.declared.thread.Tid.{Tid}
use Rattle.jg_words.specs.declared.reference.Kind.TheVariants.{Local}
use Rattle.jg_lists.specs.ByThread.{at, IsOnce}
use Rattle.jg_lists.specs.ByMaker.{Name, same_name, IsThereOnce}
use Rattle.jg_table_locals.specs.History as locals
use Rattle.jg_table_locals.specs.Room.{outgrown}
use Rattle.jg_table_buffers.specs.History.{in_critical}
use Rattle.jg_rows.specs.Columns.{Columns}
use Rattle.jg_rows.specs.Table.{functions}
use Rattle.jg_rules.specs.Parts.{Parts}
use Rattle.jg_judge.specs.declared.argument.Argument.{Argument}
use Rattle.jg_core.specs.declared.fact.Fact.{Fact}
use Rattle.jg_core.specs.declared.fact.Fact.TheVariants.{Hand, Leave, Pop, End}
use Rattle.jg_advice.specs.declared.advice.Advice.{Advice}
use Rattle.jg_advice.specs.declared.advice.Source.{Source}
use Rattle.jg_advice.specs.declared.advice.Kind.{Kind}
use Rattle.jg_advice.specs.declared.advice.Kind.TheVariants.{Unchecked, WritesLost, CommittedAndKept, LongRegion, MonitorAtDetachment, DescriptorForName, Growing}
use Rattle.jg_advice.specs.declared.doing.Doing.{Doing}
use Rattle.jg_advice.specs.declared.functions.Release.{Release}
use Rattle.jg_advice.specs.declared.regions.Region.{Region}
use Rattle.jg_advice.specs.Moments.{What, Called, Told, Went, Moment}
use Rattle.jg_advice.specs.Functions.{find_class, meets, wants_none}
use Rattle.jg_advice.specs.Doing.{cause, doing_now}
use Rattle.jg_advice.specs.Buffers.{committed, is_abort, name_of, released_by, written}
use Rattle.jg_advice.specs.Monitors.{entered}
use Rattle.jg_advice.specs.Regions.{bordered, calls_in, collections_in, is_long, region}

-- ---- of a call, on line n, where the events are p

-- 1, unchecked: the function of this row may not be called with an exception pending, and nobody asked about one that
-- may have been thrown
abbrev pub unchecked : ℕ → Tid → ℕ → Option Columns → Doing → Option Advice
unchecked n t f row doing =
    if meets wants_none row
    then option_map (λ call. record { kind = Unchecked; tid = t; line = Some n; function = Some f; source = Some call })
    doing.owed
    else None

-- 2, writes lost: a copy is released by JNI_ABORT that was written to by that call
abbrev pub lost : ℕ → Tid → ℕ → (Name → Option Source) → Option Release → Option Advice
lost n t f writes None = None
lost n t f writes (Some r) =
    if is_abort r.mode
    then option_map (λ call. record { kind = WritesLost; tid = t; line = Some n; function = Some f; source = Some call })
    (writes (name_of r.buffer))
    else None

abbrev pub is_byte : ℕ → Option ℕ → Bool
is_byte byte None = false
is_byte byte (Some other) = other == byte

-- it begins with `L` and ends with `;`, or has a dot (chapter 4, `FindClass`; chapter 3, "Type Signatures")
abbrev pub is_descriptor : List ℕ → Bool
is_descriptor name =
    (is_byte 76 (slice_get name 0) && is_byte 59 (slice_get name (length name - 1)))
    || list_any (λ byte. byte == 46) name

-- 6, a descriptor for a name: FindClass of one
abbrev pub misnamed : ℕ → Tid → ℕ → List ℕ → Option Advice
misnamed n t f name =
    if f == find_class && is_descriptor name
    then Some (record { kind = DescriptorForName; tid = t; line = Some n; function = Some f; source = None }) else None

abbrev pub on_call : ℕ → Tid → ℕ → List Argument → List ℕ → Parts → List Moment → List Advice
on_call n t f xs name p h =
    option_to_list (unchecked n t f (slice_get functions f) (doing_now t.0 p h))
    ++ (option_to_list (lost n t f (λ q. written q h) (released_by (slice_get functions f) xs))
    ++ option_to_list (misnamed n t f name))

-- ---- of a fact

-- the call made it so, and t's session ends with it: 3, committed and kept, by a release; 5, a monitor at detachment,
-- by its entry
abbrev pub at_end : Kind → ℕ → Tid → ℕ × Source → Advice
at_end kind n t found = record {
  kind = kind;
  tid = t;
  line = Some n;
  function = found.1.function;
  source = Some found.1;
}

abbrev pub long_of : ℕ → ℕ → Tid → ℕ → ℕ → Option Region → Option Advice
long_of most n t calls collections None = None
long_of most n t calls collections (Some r) =
    if is_long most calls collections r
    then Some (record { kind = LongRegion; tid = t; line = Some n; function = r.source.function; source = Some r.source })
    else None

-- 4, a long region: it was t's, and t is in none any more, where the events are p
abbrev pub long : ℕ → ℕ → Parts → (ℕ → Option Region) → ℕ → ℕ → Option Tid → Option Advice
long most n p regions calls collections None = None
long most n p regions calls collections (Some t) =
    if in_critical p.buffers t.0 then None else long_of most n t calls collections (regions t.0)

-- the thread that the fact hands a local reference
abbrev pub handed : Fact → Option Tid
handed (Hand t Local o) = Some t
handed (Leave t (Some o)) = Some t
handed (Pop t (Some o)) = Some t
handed fact = None

-- 7, growing: its frame then holds more than ten times what it has room for
abbrev pub grown : ℕ → Parts → (Tid → Source) → Option Tid → Option Advice
grown n p cause_of None = None
grown n p cause_of (Some t) =
    if outgrown (locals.acts_of t.0 p.locals)
    then Some (record {
      kind = Growing;
      tid = t;
      line = Some n;
      function = (cause_of t).function;
      source = Some (cause_of t);
    })
    else None

-- the thread whose session the fact ends
abbrev pub ended : Fact → Option Tid
ended (End t) = Some t
ended fact = None

-- what is found of that thread, each once, in any order
abbrev pub AreEnded : (Name → Option Source) → Option Tid → List (ℕ × Source) → Type 0
AreEnded find None found = found ≡ []
AreEnded find (Some t) found = IsOnce found × ((k : ℕ) → at k found ≡ find (t.0, k))

abbrev pub ending : Kind → ℕ → Option Tid → List (ℕ × Source) → List Advice
ending kind n None found = []
ending kind n (Some t) found = map (at_end kind n t) found

abbrev pub IsOnFact : ℕ → Moment → List Moment → Fact → List Advice → Type 0
IsOnFact most m h fact advices = (buffers monitors : List (ℕ × Source))
    × AreEnded (λ q. committed q h) (ended fact) buffers × AreEnded (λ q. entered q h) (ended fact) monitors
    × (advices ≡ ending CommittedAndKept m.line (ended fact) buffers
    ++ (option_to_list (long most m.line m.parts (λ t. region t h) (calls_in h) (collections_in h)
    (bordered fact))
    ++ (ending MonitorAtDetachment m.line (ended fact) monitors
    ++ option_to_list (grown m.line m.parts (λ t. cause t m h) (handed fact)))))

-- ---- in all

-- this is told at the moment, of regions that are longer than so many calls
abbrev pub is_advised_of : ℕ → Moment → List Moment → What → List Advice → Type 0
is_advised_of most m h (Called s t f xs name) advices = advices ≡ on_call m.line t f xs name m.parts h
is_advised_of most m h (Told fact) advices = IsOnFact most m h fact advices
is_advised_of most m h (Went objects) advices = advices ≡ []

abbrev pub IsAdvised : ℕ → Moment → List Moment → List Advice → Type 0
IsAdvised most m h advices = is_advised_of most m h m.what advices

-- and this at the end: of buffers that are still committed and kept
abbrev pub left : Name × Source → Advice
left found = record {
  kind = CommittedAndKept;
  tid = record { 0 = found.0.0 };
  line = None;
  function = found.1.function;
  source = Some found.1;
}

abbrev pub AreLeft : List Moment → List Advice → Type 0
AreLeft h advices = (found : List (Name × Source)) × ((q : Name) → IsThereOnce q found)
    × ((q : Name) → lookup (same_name q) found ≡ committed q h) × (advices ≡ map left found)
