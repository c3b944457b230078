-- Global and weak global references, told by looking back. A list of events has the newest first.
use Rattle.std.specs.Prelude.{◌≡◌, ℕ, Bool, false, ◌==◌, ◌&&◌, if◌then◌else◌, List, [], ◌∷◌, Option, Some, None}
use Rattle.std.specs.List.{list_any}
use Rattle.jg_words.specs.declared.reference.Ref.{Ref}
use Rattle.jg_words.specs.declared.reference.Ref.TheVariants.{Null, To}
use Rattle.jg_words.specs.declared.reference.Kind.TheVariants.{Local, Global, Weak}
use Rattle.jg_table_globals.specs.declared.target.Target.{Target}
use Rattle.jg_table_globals.specs.declared.target.Target.TheVariants.{Object, Cleared}

-- what happens to global references (strong ones) and to weak global references: one is made, number n of its maker,
-- for an object; one is deleted; an object is collected, which clears the weak references to it
pub data Event : Type 0 where
  MakeStrong : (maker : ℕ) → (n : ℕ) → (object : ℕ) → Event
  MakeWeak : (maker : ℕ) → (n : ℕ) → (object : ℕ) → Event
  DeleteStrong : (maker : ℕ) → (n : ℕ) → Event
  DeleteWeak : (maker : ℕ) → (n : ℕ) → Event
  Clear : (object : ℕ) → Event

-- the pair is that maker and that number
abbrev pub is_same : ℕ → ℕ → ℕ → ℕ → Bool
is_same maker n k i = (k == maker) && (i == n)

-- the object of a global reference that was made and not deleted since (JNI chapter 4, "Global References")
abbrev pub strong : List Event → ℕ → ℕ → Option ℕ
strong [] maker n = None
strong (MakeStrong k i o ∷ e) maker n = if is_same maker n k i then Some o else strong e maker n
strong (DeleteStrong k i ∷ e) maker n = if is_same maker n k i then None else strong e maker n
strong (ev ∷ e) maker n = strong e maker n

-- the object that a weak reference was made for, where it is in being: made and not deleted since (JNI chapter 4, "Weak
-- Global References")
abbrev pub weak : List Event → ℕ → ℕ → Option ℕ
weak [] maker n = None
weak (MakeWeak k i o ∷ e) maker n = if is_same maker n k i then Some o else weak e maker n
weak (DeleteWeak k i ∷ e) maker n = if is_same maker n k i then None else weak e maker n
weak (ev ∷ e) maker n = weak e maker n

-- the event makes that weak reference
abbrev makes_weak : ℕ → ℕ → Event → Bool
makes_weak maker n (MakeWeak k i o) = is_same maker n k i
makes_weak maker n ev = false

-- what came after the latest making of that weak reference
abbrev pub after_making : ℕ → ℕ → List Event → List Event
after_making maker n [] = []
after_making maker n (ev ∷ e) = if makes_weak maker n ev then [] else ev ∷ after_making maker n e

-- the event clears the weak references to that object
abbrev pub clears : ℕ → Event → Bool
clears o (Clear p) = p == o
clears o ev = false

-- a weak reference in being is cleared where its object was collected later than its making; else it is live and names
-- its object
abbrev pub unless_cleared : List Event → Option ℕ → Option Target
unless_cleared later None = None
unless_cleared later (Some o) = Some (if list_any (clears o) later then Cleared else Object (record { 0 = o }))

-- what a weak reference in being names
abbrev pub weak_target : List Event → ℕ → ℕ → Option Target
weak_target e maker n = unless_cleared (after_making maker n e) (weak e maker n)

-- what a global reference names is its object
abbrev pub strong_target : Option ℕ → Option Target
strong_target None = None
strong_target (Some o) = Some (Object (record { 0 = o }))

-- what a reference in being names, of those that aren't local: nothing for null and for local ones
abbrev pub target_of : List Event → Ref → Option Target
target_of e Null = None
target_of e (To Local maker n) = None
target_of e (To Global maker n) = strong_target (strong e maker.0 n)
target_of e (To Weak maker n) = weak_target e maker.0 n

-- the events of a deletion of the reference: none for null and for local ones
abbrev pub deletion : Ref → List Event
deletion Null = []
deletion (To Local maker n) = []
deletion (To Global maker n) = DeleteStrong maker.0 n ∷ []
deletion (To Weak maker n) = DeleteWeak maker.0 n ∷ []

abbrev pub is_now : ℕ → Option ℕ → Bool
is_now o None = false
is_now o (Some p) = p == o

-- the event made a global reference that still names the object
abbrev pub made_and_held : List Event → ℕ → Event → Bool
made_and_held e o (MakeStrong k i p) = is_now o (strong e k i)
made_and_held e o ev = false

-- a global reference of the object was made and not deleted; weak references hold nothing
abbrev pub holds_object : List Event → ℕ → Bool
holds_object e o = list_any (made_and_held e o) e

-- the reference is a global one in being that names the object
abbrev pub Holds : List Event → ℕ → Ref → Type 0
Holds e o Null = ⊥
Holds e o (To Local maker n) = ⊥
Holds e o (To Global maker n) = strong e maker.0 n ≡ Some o
Holds e o (To Weak maker n) = ⊥
