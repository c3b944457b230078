-- How worked rows are written: lines, each a call and what becomes of it, in the order in which the calls are made.
use Rattle.std.specs.Prelude.{◌≡◌, ℕ, true, false, List, [], map, reverse, Option, Some, None}
use Rattle.jg_words.specs.declared.thread.EnvId.{EnvId}
use Rattle.jg_words.specs.declared.reference.Ref.{Ref}
use Rattle.jg_words.specs.declared.reference.Ref.TheVariants.{To}
use Rattle.jg_words.specs.declared.reference.Kind.TheVariants.{Local, Global, Weak}
use Rattle.jg_words.specs.declared.object.ObjId.{ObjId}
use Rattle.jg_words.specs.declared.object.FieldId.{FieldId}
use Rattle.jg_words.specs.declared.buffer.BufId.{BufId}
use Rattle.jg_words.specs.declared.rule.Rule.{Rule}
use Rattle.jg_words.specs.declared.value.Value.{Value}
use Rattle.jg_words.specs.declared.value.Value.TheVariants.{Ok as Done, Reference, Throw as Threw}
use Rattle.jg_words.specs.declared.value.Thrown.{Thrown}
use Rattle.jg_words.specs.Entry.{Entry}
use Rattle.jg_words.specs.declared.entry.Outcome.{Outcome}
use Rattle.jg_words.specs.declared.entry.Outcome.TheVariants.{Passed, Denied}
use Rattle.jg_words.specs.declared.call.Call.{Call}
use Rattle.jg_policy.specs.declared.mode.Mode.TheVariants.{Deny}
use Rattle.jg_policy.specs.Stated.{StatedSetup}
use Rattle.jg_rules.specs.Legal.{Asked, replay}
use Rattle.jg_text.specs.Journal.{journal_text}

-- the setup that denies native access and states nothing else
abbrev pub closed : StatedSetup
closed = record { mode = Deny; grants = []; classes = [] }

-- what becomes of a call: its outcome, and the object that it hands out a reference for or makes pending
pub record Became : Type 0 where
  pub outcome : Outcome
  pub object : Option ObjId

-- a call, and what becomes of it
pub record Line : Type 0 where
  pub asked : Asked
  pub expected : Became

-- `T1 E1.1 call = ..`: the thread, the environment or `bare`, the call and what becomes of it
abbrev pub line : ℕ → Option EnvId → Call → Became → Line
line t e call expected = record { asked = record { tid = record { 0 = t }; env = e; call = call }; expected = expected }

-- what became of an entry's call
abbrev pub became_of : Entry → Became
became_of x = record { outcome = x.outcome; object = x.object }

-- the calls of these lines, made one after the other, come out as the lines say
abbrev pub ComesOut : StatedSetup → List Line → Type 0
ComesOut setup lines =
    reverse (map became_of (replay setup (map (λ l. l.asked) lines))) ≡ map (λ l. l.expected) lines

-- the journal of these calls is this text
abbrev pub HasText : StatedSetup → List Line → List ℕ → Type 0
HasText setup lines text = journal_text (replay setup (map (λ l. l.asked) lines)) ≡ text

-- `E1.2`: the environment of the thread's second session
abbrev pub environment : ℕ → ℕ → EnvId
environment t n = record { tid = record { 0 = t }; session = n }

-- no environment is handed in
abbrev pub bare : Option EnvId
bare = None

-- this one is handed in
abbrev pub env : ℕ → ℕ → Option EnvId
env t n = Some (environment t n)

-- `L1.2`, `G1.2` and `W1.2`: the second reference that thread 1 was handed out, if it is of this kind
abbrev pub local : ℕ → ℕ → Ref
local t n = To Local (record { 0 = t }) n

abbrev pub global : ℕ → ℕ → Ref
global t n = To Global (record { 0 = t }) n

abbrev pub weak : ℕ → ℕ → Ref
weak t n = To Weak (record { 0 = t }) n

-- `B1.2`: the second buffer that thread 1 was lent
abbrev pub buffer : ℕ → ℕ → BufId
buffer t n = record { maker = record { 0 = t }; n = n }

-- `F15.1`: the first field of class 15
abbrev pub field : ℕ → ℕ → FieldId
field class n = record { class = class; field = n }

-- passed with this value and no warning, and no object is handed out
abbrev pub gives : Value → Became
gives value = record { outcome = Passed (record { value = value; warned = false; noticed = false }); object = None }

-- passed with this value and a warning, and no object is handed out
abbrev pub warns : Value → Became
warns value = record { outcome = Passed (record { value = value; warned = true; noticed = false }); object = None }

-- passed with this reference and no warning or notice; it names the object of this number, where the first object that
-- is made comes after the class objects: with no class but the base classes it is number 15
abbrev pub hands_out : Ref → ℕ → Became
hands_out r n = record {
  outcome = Passed (record { value = Reference r; warned = false; noticed = false });
  object = Some (record { 0 = n });
}

-- the same, where the frame then holds more local references than it has room for
abbrev pub notices : Ref → ℕ → Became
notices r n = record {
  outcome = Passed (record { value = Reference r; warned = false; noticed = true });
  object = Some (record { 0 = n });
}

-- passed; the object of this number is pending
abbrev pub raises : ℕ → Became
raises n = record {
  outcome = Passed (record { value = Done; warned = false; noticed = false });
  object = Some (record { 0 = n });
}

-- an exception of this class was thrown; it is the object of this number
abbrev pub throws : Thrown → ℕ → Became
throws kind n = record {
  outcome = Passed (record { value = Threw kind; warned = false; noticed = false });
  object = Some (record { 0 = n });
}

-- denied by this rule
abbrev pub denies : Rule → Became
denies rule = record { outcome = Denied rule; object = None }
