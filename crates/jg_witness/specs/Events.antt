-- What happened at the boundary between native code and a virtual machine, and what the machine's words mean. A word is
-- a handle: a number that means nothing but by what was told of it. A list of events has the newest first.
use Rattle.std.specs.Prelude.{ℕ, ◌<◌, ◌==◌, if◌then◌else◌, List, [], ◌∷◌, Option, Some, None}
use Rattle.jg_words.specs.declared.object.ObjId.{ObjId}
use Rattle.jg_words.specs.declared.reference.Ref.{Ref}
use Rattle.jg_words.specs.declared.reference.Ref.TheVariants.{Null, To}
use Rattle.jg_rules.specs.Parts.{Parts}
use Rattle.jg_rules.specs.Names.{next_ref}
use Rattle.jg_core.specs.declared.fact.Fact.{Fact}
use Rattle.jg_core.specs.declared.fact.Fact.TheVariants.{Lost, Gone}
use Rattle.jg_core.specs.Facts.{is_in_being, parts_of}

-- the machine says that something is so; it handed out the word for the reference of this name; or the reference that
-- the word was handed out for ended, and no call told it
pub data Event : Type 0 where
  Told : (fact : Fact) → Event
  Handed : (word : ℕ) → (name : Ref) → Event
  Lapsed : (word : ℕ) → Event

-- the newest name that the word was handed out for
abbrev pub newest : ℕ → List Event → Option Ref
newest word [] = None
newest word (Told x ∷ e) = newest word e
newest word (Handed u name ∷ e) = if u == word then Some name else newest word e
newest word (Lapsed u ∷ e) = newest word e

-- the name, where its reference is in being
abbrev pub if_in_being : Parts → Option Ref → Option Ref
if_in_being p None = None
if_in_being p (Some name) = if is_in_being p name then Some name else None

-- the facts, and that the reference of the name ended, if there is one
abbrev pub lost_after : Option Ref → List Fact → List Fact
lost_after None w = w
lost_after (Some name) w = Lost name ∷ w

-- the facts that the events are. The machine hands out a word anew once the reference is no more that it was handed out
-- for (JNI Specification, chapter 2, "Global and Local References"): so that one ended, if it was in being
abbrev pub facts_of : List Event → List Fact
facts_of [] = []
facts_of (Told x ∷ e) = x ∷ facts_of e
facts_of (Handed word name ∷ e) = lost_after (if_in_being (parts_of (facts_of e)) (newest word e)) (facts_of e)
facts_of (Lapsed word ∷ e) = lost_after (if_in_being (parts_of (facts_of e)) (newest word e)) (facts_of e)

-- what the word means: the newest name that it was handed out for, where that is in being still. Nobody looks for what
-- a frame, a native method, a thread or a deletion ended: the facts say it
abbrev pub meaning : ℕ → List Event → Option Ref
meaning word e = if_in_being (parts_of (facts_of e)) (newest word e)

-- the name's number is one that its maker was given
abbrev pub IsCounted : Parts → Ref → Type 0
IsCounted p Null = ⊥
IsCounted p (To kind maker n) = n < next_ref p maker.0

-- each word was handed out for a name that the core had given
abbrev pub AreNamed : List Event → Type 0
AreNamed [] = Unit {0}
AreNamed (Told x ∷ e) = AreNamed e
AreNamed (Handed word name ∷ e) = IsCounted (parts_of (facts_of e)) name × AreNamed e
AreNamed (Lapsed word ∷ e) = AreNamed e

-- the events with these objects told to be gone, the first of the list first
abbrev pub told_gone : List ObjId → List Event → List Event
told_gone [] e = e
told_gone (o ∷ objects) e = told_gone objects (Told (Gone o) ∷ e)
