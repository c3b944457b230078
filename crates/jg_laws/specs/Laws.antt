-- The laws of legal histories.
use Rattle.std.specs.Prelude.{ℕ, ◌≡◌, ◌<◌, ◌≤◌, ◌⊎◌, Bool, true, false, List, ◌∷◌, ◌++◌, length, Some, None}
use Rattle.jg_words.specs.declared.thread.Tid.{Tid}
use Rattle.jg_words.specs.declared.reference.Kind.{Kind}
use Rattle.jg_words.specs.declared.reference.Ref.{Ref}
use Rattle.jg_words.specs.declared.reference.Ref.TheVariants.{To}
use Rattle.jg_words.specs.declared.entry.Reply.{Reply}
use Rattle.jg_words.specs.declared.entry.Outcome.TheVariants.{Passed}
use Rattle.jg_words.specs.Entry.{Entry}
use Rattle.jg_words.specs.declared.call.Call.{Call}
use Rattle.jg_words.specs.declared.call.Call.TheVariants.{Vm}
use Rattle.jg_words.specs.declared.call.vm.VmCall.TheVariants.{NativeEnter}
use Rattle.jg_policy.specs.Stated.{StatedSetup, class_count}
use Rattle.jg_policy.specs.Classes.{class_at, class_named, fields_in}
use Rattle.jg_table_threads.specs.History as threads
use Rattle.jg_table_locals.specs.History as locals
use Rattle.jg_table_heap.specs.History as heap
use Rattle.jg_table_heap.specs.Making.{Making, Plain, Text, Filled, Opaque}
use Rattle.jg_table_heap.specs.Making.{class_in, units_in, length_in, IsPrimitiveArray}
use Rattle.jg_words.specs.Classes.{array_class}
use Rattle.jg_words.specs.declared.object.ItemType.TheVariants.{Of, Float, Double}
use Rattle.jg_table_heap.specs.Spelling.{spelt}
use Rattle.jg_table_buffers.specs.History as buffers
use Rattle.jg_table_buffers.specs.Laws.{CriticalBuffer}
use Rattle.jg_table_buffers.specs.declared.family.Family.{Family}
use Rattle.jg_table_buffers.specs.declared.family.Family.TheVariants.{Elements, Chars, UtfChars, ArrayCritical, StringCritical}
use Rattle.jg_table_monitors.specs.History as monitors
use Rattle.jg_rules.specs.Parts.{Parts}
use Rattle.jg_rules.specs.Names.{object_named, next_ref, class_of, length_of, native_meant}
use Rattle.jg_policy.specs.declared.access.Operation.TheVariants.{Link}
use Rattle.jg_rules.specs.NativeUse.{refuses}
use Rattle.jg_rules.specs.Rules.{is_linked}
use Rattle.jg_rules.specs.Effects.{parts}
use Rattle.jg_rules.specs.Legal.{Legal, Asked, history_of}
use Rattle.jg_laws.specs.Histories.{passed_only, reference_of, WasHandedOut, IsHistoryOf}
use Rattle.jg_laws.specs.Touching.{NamesObject, Touches}

-- (proofs/Fresh.antt)
abbrev pub ReferencesCounted : Type 0
ReferencesCounted = (s : StatedSetup) (h : List Entry) (kind : Kind) (maker : Tid) (n : ℕ) → Legal s h
    → WasHandedOut (To kind maker n) h → n < next_ref (parts s h) maker.0

-- (proofs/Fresh.antt)
abbrev pub NoReferenceTwice : Type 0
NoReferenceTwice = (s : StatedSetup) (later : List Entry) (x : Entry) (before : List Entry) (r : Ref)
    → Legal s (later ++ x ∷ before) → reference_of x.outcome ≡ Some r → ¬ WasHandedOut r before

-- from the oldest part on: named an object, then none, then still none
-- (proofs/Fresh.antt)
abbrev pub NoReferenceRevived : Type 0
NoReferenceRevived = (s : StatedSetup) (newest later first : List Entry) (t o : ℕ) (r : Ref)
    → Legal s (newest ++ (later ++ first))
    → object_named (parts s first) t r ≡ Some o → object_named (parts s (later ++ first)) t r ≡ None
    → object_named (parts s (newest ++ (later ++ first))) t r ≡ None

-- (proofs/WithoutDenied.antt)
abbrev pub DeniedEntriesDoNothing : Type 0
DeniedEntriesDoNothing = (s : StatedSetup) (h : List Entry) → Legal s h → Legal s (passed_only h)

-- (proofs/Replays.antt)
abbrev pub OneHistoryForTheCalls : Type 0
OneHistoryForTheCalls = (s : StatedSetup) (calls : List Asked) → IsHistoryOf s calls (history_of s calls)

-- in the thread's acts, as the tables of threads and of locals are told them
pub record Agree (of_threads : List threads.Act) (of_locals : List locals.Act) : Type 0 where
  pub session : threads.attached of_threads ≡ locals.has_session of_locals
  pub depth : threads.depth of_threads ≡ locals.depth of_locals

-- and in how many native methods it entered and left in its session, and outside of one in none
pub record AgreeInNatives (of_threads : List threads.Act) (of_locals : List locals.Act) : Type 0 where
  pub session : threads.attached of_threads ≡ locals.has_session of_locals
  pub enters : threads.how_many threads.is_enter (threads.since of_threads)
      ≡ threads.how_many locals.is_enter (locals.session of_locals)
  pub leaves : threads.how_many threads.is_leave (threads.since of_threads)
      ≡ threads.how_many locals.is_leave (locals.session of_locals)
  pub none_entered : threads.attached of_threads ≡ false
      → threads.how_many threads.is_enter (threads.since of_threads) ≡ 0
  pub none_left : threads.attached of_threads ≡ false
      → threads.how_many threads.is_leave (threads.since of_threads) ≡ 0

-- (proofs/Kept.antt)
abbrev pub DepthsAgree : Type 0
DepthsAgree = (s : StatedSetup) (h : List Entry) (t : ℕ) → Legal s h
    → Agree (threads.acts_of t (parts s h).threads) (locals.acts_of t (parts s h).locals)

-- a plain object is made with as many fields as the setup states for its class, and no array is of such a class; no
-- call makes an object of which the class and the length alone are known
abbrev pub IsStatedMaking : StatedSetup → Making → Type 0
IsStatedMaking s (Plain class fields) = length fields ≡ length (fields_in (class_at s class))
IsStatedMaking s (Text units) = Unit {0}
IsStatedMaking s (Filled class n item) = class ≤ 9
IsStatedMaking s (Opaque class n) = ⊥

abbrev pub MakesStated : StatedSetup → heap.Event → Type 0
MakesStated s (heap.Made m) = IsStatedMaking s m
MakesStated s (heap.Wrote o j v) = Unit {0}
MakesStated s (heap.Collected roots) = Unit {0}
MakesStated s (heap.Went o) = Unit {0}

-- an object of a class of the setup has the fields that the setup states for the class
-- (proofs/Natives.antt)
abbrev pub FieldsAreStated : Type 0
FieldsAreStated = (s : StatedSetup) (h : List Entry) (o : ℕ) → Legal s h → 10 ≤ class_of s (parts s h) o
    → length_of s (parts s h) o ≡ length (fields_in (class_at s (class_of s (parts s h) o)))

-- each object is of a class that the setup states
-- (proofs/HandedHere.antt)
abbrev pub ClassesAreStated : Type 0
ClassesAreStated = (s : StatedSetup) (h : List Entry) (o : ℕ) → Legal s h → class_of s (parts s h) o < class_count s

-- a native method that was entered was linked then, and its class was not refused native access
-- (proofs/Natives.antt)
abbrev pub EnteredWasLinked : Type 0
EnteredWasLinked = (s : StatedSetup) (later : List Entry) (x : Entry) (before : List Entry)
    (class method signature : List ℕ) (reply : Reply) → Legal s (later ++ x ∷ before)
    → x.call ≡ Vm (NativeEnter class method signature) → x.outcome ≡ Passed reply
    → (is_linked (parts s before) (class_named s class) (native_meant s (class_named s class) method signature) ≡ true)
    × (refuses s Link (class_named s class) ≡ false)

-- two owners of a monitor are one
-- (proofs/Owners.antt)
abbrev pub OneOwner : Type 0
OneOwner = (s : StatedSetup) (h : List Entry) (t u o : ℕ) → Legal s h
    → 0 < monitors.count (parts s h).monitors t o → 0 < monitors.count (parts s h).monitors u o → t ≡ u

-- an object that is gone
abbrev pub is_gone : StatedSetup → List Entry → ℕ → Bool
is_gone s h o = heap.gone_at (class_count s) (parts s h).heap o

-- what went stays gone
-- (proofs/HandedHere.antt)
abbrev pub StaysGone : Type 0
StaysGone = (s : StatedSetup) (later before : List Entry) (o : ℕ) → Legal s (later ++ before)
    → is_gone s before o ≡ true → is_gone s (later ++ before) o ≡ true

-- what a live reference names isn't gone
-- (proofs/HandedHere.antt)
abbrev pub LiveIsNotGone : Type 0
LiveIsNotGone = (s : StatedSetup) (h : List Entry) (t o : ℕ) (r : Ref) → Legal s h
    → object_named (parts s h) t r ≡ Some o → is_gone s h o ≡ false

-- an object that was made so has an item for each of so many of a buffer
abbrev pub FitsMaking : Family → Making → ℕ → Type 0
FitsMaking (Elements (Of element)) m n = (class_in m ≡ array_class element) × (n ≡ length_in m)
FitsMaking (Elements Float) m n = ⊥
FitsMaking (Elements Double) m n = ⊥
FitsMaking Chars m n = (class_in m ≡ 2) × (n ≡ length (units_in m))
FitsMaking UtfChars m n = (class_in m ≡ 2) × (n ≡ length (spelt (units_in m)))
FitsMaking ArrayCritical m n = IsPrimitiveArray (class_in m) × (n ≡ length_in m)
FitsMaking StringCritical m n = (class_in m ≡ 2) × (n ≡ length (units_in m))

-- the buffer's object was made, is of the family's type, and is as long as the buffer
abbrev pub FitsObject : ℕ → List heap.Event → buffers.Buffer → Type 0
FitsObject k e b = (b.object < heap.count_of k e) × FitsMaking b.family (heap.making_at k e b.object) b.length

-- an open buffer has as many items as its object, which is of the family's type
-- (proofs/Lending.antt)
abbrev pub BuffersFit : Type 0
BuffersFit = (s : StatedSetup) (h : List Entry) (maker n : ℕ) (b : buffers.Buffer) → Legal s h
    → buffers.opened (parts s h).buffers maker n ≡ Some b → FitsObject (class_count s) (parts s h).heap b

-- the reference through which an open critical buffer was made names the buffer's object for its maker
-- (proofs/Pinning.antt)
abbrev pub PinsAreLive : Type 0
PinsAreLive = (s : StatedSetup) (h : List Entry) (maker n : ℕ) (b : buffers.Buffer) → Legal s h
    → buffers.opened (parts s h).buffers maker n ≡ Some b → buffers.is_critical b.family ≡ true
    → object_named (parts s h) b.maker b.via ≡ Some b.object

-- t has an open critical buffer of the object, made through a reference that names the object for t
abbrev pub HasPin : Parts → ℕ → ℕ → Type 0
HasPin p t o = CriticalBuffer p.buffers (λ b. (b.maker ≡ t) × (b.object ≡ o) × (object_named p t b.via ≡ Some o))

-- a live reference gives t's call the object: an operand of it, or the one behind an open critical buffer of t's own
abbrev pub Reaches : Parts → ℕ → Call → ℕ → Type 0
Reaches p t call o = NamesObject p t call o ⊎ HasPin p t o

-- what an entry touches, it reaches by a live reference
-- (proofs/Touching.antt)
abbrev pub TouchesLive : Type 0
TouchesLive = (s : StatedSetup) (later : List Entry) (x : Entry) (before : List Entry) (o : ℕ)
    → Legal s (later ++ x ∷ before) → Touches s before x o → Reaches (parts s before) x.tid.0 x.call o

-- what an entry touches isn't gone
-- (proofs/Touching.antt)
abbrev pub TouchesNothingGone : Type 0
TouchesNothingGone = (s : StatedSetup) (later : List Entry) (x : Entry) (before : List Entry) (o : ℕ)
    → Legal s (later ++ x ∷ before) → Touches s before x o → is_gone s before o ≡ false
