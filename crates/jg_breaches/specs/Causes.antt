-- What the rule asks of the journal that comes and goes, where a call breaks it.
use Rattle.std.specs.Prelude.{List, ◌∷◌, map, Option, Some, None}
use Rattle.std.specs.Option.{option_to_list}
use Rattle.jg_words.specs.declared.object.ObjId.{ObjId}
use Rattle.jg_words.specs.declared.thread.Tid.{Tid}
use Rattle.jg_words.specs.declared.reference.Ref.{Ref}
use Rattle.jg_words.specs.declared.reference.Ref.TheVariants.{Null, To}
use Rattle.jg_table_buffers.specs.Ordered.{pins_of, pins_through}
use Rattle.jg_rules.specs.Parts.{Parts}
use Rattle.jg_breaches.specs.declared.breach.Breach.{Breach}
use Rattle.jg_breaches.specs.declared.breach.Breach.TheVariants.{OnlyForMachine, NotForMachine, EnvOfAnother, NoEnv, NotPresent, InRegion, ExceptionPending, ForeignLocal, DeadReference, OtherKind, NoObject, OtherType, NoField, FieldOfOtherType, FieldOfOtherClass, NotOpen, LentOtherwise, OfOtherObject, OfOtherThread, OfString, OutOfRange, ItemOutOfRange, TooLong, NotModifiedUtf8, NoClass, NoItem, PinnedReference, NotOwner, NoFrame, NotInNative, StillInNative, AccessRefused, NoNative, NotLinked, Unbroken}
use Rattle.jg_breaches.specs.declared.condition.Condition.{Condition}
use Rattle.jg_breaches.specs.declared.condition.Condition.TheVariants as condition

-- that a local lives for the thread that it was handed to; null was handed to none
abbrev pub lives_for_maker : Ref → Option Condition
lives_for_maker Null = None
lives_for_maker (To kind maker n) = Some (condition.Names maker (To kind maker n))

-- that a reference names an object, which null never does
abbrev pub names_object : Tid → Ref → Option Condition
names_object t Null = None
names_object t (To kind maker n) = Some (condition.NamesObject t (To kind maker n))

-- that the owner owns the monitor, or, where it is free, that some thread does
abbrev pub ownership : ObjId → Option Tid → Condition
ownership o None = condition.IsOwned o
ownership o (Some u) = condition.Owns u o

-- the one question of the rule that t's call breaks, where it has one that comes and goes: the numbers of threads, an
-- argument's bounds, a class's methods and what modules are granted stay as they are
abbrev pub condition_of : Tid → Breach → Option Condition
condition_of t OnlyForMachine = None
condition_of t NotForMachine = None
condition_of t (EnvOfAnother env) = Some (condition.IsPresent env)
condition_of t NoEnv = Some (condition.IsAttached t)
condition_of t (NotPresent env) = Some (condition.IsPresent env)
condition_of t InRegion = None
condition_of t (ExceptionPending class) = Some (condition.HasPending t)
condition_of t (ForeignLocal r) = lives_for_maker r
condition_of t (DeadReference r) = Some (condition.Names t r)
condition_of t (OtherKind r) = Some (condition.Names t r)
condition_of t (NoObject r) = names_object t r
condition_of t (OtherType r wanted class) = Some (condition.Names t r)
condition_of t (NoField r f) = Some (condition.Names t r)
condition_of t (FieldOfOtherType r f wanted) = Some (condition.Names t r)
condition_of t (FieldOfOtherClass r f class) = Some (condition.Names t r)
condition_of t (NotOpen b) = Some (condition.IsOpen b)
condition_of t (LentOtherwise b family) = Some (condition.IsOpen b)
condition_of t (OfOtherObject b r class) = Some (condition.IsOpen b)
condition_of t (OfOtherThread b) = Some (condition.IsOpen b)
condition_of t (OfString b) = Some (condition.IsOpen b)
condition_of t (OutOfRange argument value least most) = None
condition_of t (ItemOutOfRange place value least most) = None
condition_of t (TooLong n) = None
condition_of t NotModifiedUtf8 = None
condition_of t NoClass = None
condition_of t (NoItem b index n) = Some (condition.IsOpen b)
condition_of t (PinnedReference r) = None
condition_of t (NotOwner r o class owner) = Some (ownership o owner)
condition_of t NoFrame = Some (condition.HasFrame t)
condition_of t NotInNative = Some (condition.InNative t)
condition_of t StillInNative = Some (condition.InNative t)
condition_of t (AccessRefused class operation) = None
condition_of t (NoNative class) = None
condition_of t (NotLinked class native) = Some (condition.IsLinked class native)
condition_of t Unbroken = None

-- all of them: a critical region, and a reference that is pinned, have one for each critical buffer that is open, by
-- the thread that was lent it and by number
abbrev pub conditions : Parts → Tid → Breach → List Condition
conditions p t InRegion = map condition.IsOpen (pins_of p.buffers t.0)
conditions p t (PinnedReference r) = map condition.IsOpen (pins_through p.buffers r)
conditions p t b = option_to_list (condition_of t b)
