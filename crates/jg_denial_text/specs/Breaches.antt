-- In which way a call breaks a rule, as it is told.
use Rattle.std.specs.Prelude.{ℕ, ℤ, List, [], ◌++◌, codes, Option, Some, None}
use Rattle.std.specs.Fmt.{decimal, signed_decimal}
use Rattle.jg_words.specs.Call.{fun_of}
use Rattle.jg_words.specs.Fun.{name_of}
use Rattle.jg_words.specs.declared.buffer.BufId.{BufId}
use Rattle.jg_words.specs.declared.thread.Tid.{Tid}
use Rattle.jg_words.specs.declared.thread.EnvId.{EnvId}
use Rattle.jg_words.specs.declared.object.FieldId.{FieldId}
use Rattle.jg_words.specs.declared.object.Primitive.{Primitive}
use Rattle.jg_words.specs.declared.reference.Kind.{Kind}
use Rattle.jg_words.specs.declared.reference.Kind.TheVariants.{Local, Global, Weak}
use Rattle.jg_words.specs.declared.reference.Ref.{Ref}
use Rattle.jg_words.specs.declared.reference.Ref.TheVariants.{Null, To}
use Rattle.jg_words.specs.declared.call.Call.{Call}
use Rattle.jg_words.specs.declared.call.Call.TheVariants.{Vm}
use Rattle.jg_words.specs.declared.call.vm.VmCall.{VmCall}
use Rattle.jg_words.specs.declared.call.vm.VmCall.TheVariants.{NativeEnter, LoadLibrary}
use Rattle.jg_table_buffers.specs.declared.family.Family.{Family}
use Rattle.jg_policy.specs.Stated.{StatedSetup}
use Rattle.jg_policy.specs.Classes.{field_type}
use Rattle.jg_policy.specs.declared.access.Operation.{Operation}
use Rattle.jg_rules.specs.declared.operand.ObjectType.{ObjectType}
use Rattle.jg_text.specs.Words.{tid_text, env_id_text, ref_text, buf_text, field_text}
use Rattle.jg_breaches.specs.declared.breach.Argument.{Argument}
use Rattle.jg_breaches.specs.declared.breach.Argument.TheVariants.{Capacity, Length, Mode, Value}
use Rattle.jg_breaches.specs.declared.breach.Breach.{Breach}
use Rattle.jg_breaches.specs.declared.breach.Breach.TheVariants.{OnlyForMachine, NotForMachine, EnvOfAnother, NoEnv, NotPresent, InRegion, ExceptionPending, ForeignLocal, DeadReference, OtherKind, NoObject, OtherType, NoField, FieldOfOtherType, FieldOfOtherClass, NotOpen, LentOtherwise, OfOtherObject, OfOtherThread, OfString, OutOfRange, ItemOutOfRange, TooLong, NotModifiedUtf8, NoClass, NoItem, PinnedReference, NotOwner, NoFrame, NotInNative, StillInNative, AccessRefused, NoNative, NotLinked, Unbroken}
use Rattle.jg_denial_text.specs.Words.{quoted, quoted_if, class_text, module_text, type_text, wanted_text, lender_name, use_text}

-- ---- of what the rule speaks

abbrev pub of_ref : Ref → List ℕ
of_ref r = codes " of " ++ ref_text r

abbrev pub of_buffer : BufId → List ℕ
of_buffer b = codes " of " ++ buf_text b

abbrev pub of_env : EnvId → List ℕ
of_env env = codes " of " ++ env_id_text env

abbrev pub subject_text : Breach → List ℕ
subject_text OnlyForMachine = []
subject_text NotForMachine = []
subject_text (EnvOfAnother env) = of_env env
subject_text NoEnv = []
subject_text (NotPresent env) = of_env env
subject_text InRegion = []
subject_text (ExceptionPending class) = []
subject_text (ForeignLocal r) = of_ref r
subject_text (DeadReference r) = of_ref r
subject_text (OtherKind r) = of_ref r
subject_text (NoObject r) = of_ref r
subject_text (OtherType r wanted class) = of_ref r
subject_text (NoField r f) = of_ref r
subject_text (FieldOfOtherType r f wanted) = of_ref r
subject_text (FieldOfOtherClass r f class) = of_ref r
subject_text (NotOpen b) = of_buffer b
subject_text (LentOtherwise b family) = of_buffer b
subject_text (OfOtherObject b r class) = of_buffer b
subject_text (OfOtherThread b) = of_buffer b
subject_text (OfString b) = of_buffer b
subject_text (OutOfRange argument value least most) = []
subject_text (ItemOutOfRange place value least most) = []
subject_text (TooLong n) = []
subject_text NotModifiedUtf8 = []
subject_text NoClass = []
subject_text (NoItem b index n) = of_buffer b
subject_text (PinnedReference r) = of_ref r
subject_text (NotOwner r o class owner) = of_ref r
subject_text NoFrame = []
subject_text NotInNative = []
subject_text StillInNative = []
subject_text (AccessRefused class operation) = []
subject_text (NoNative class) = []
subject_text (NotLinked class native) = []
subject_text Unbroken = []

-- ---- what is so

abbrev pub fun_text : Call → List ℕ
fun_text call = name_of (fun_of call)

abbrev pub kind_text : Kind → List ℕ
kind_text Local = codes "local"
kind_text Global = codes "global"
kind_text Weak = codes "weak global"

-- a reference by its kind and the thread that it was handed to
abbrev pub kind_of_text : Ref → List ℕ
kind_of_text Null = codes "null"
kind_of_text (To kind maker n) = codes "a " ++ kind_text kind ++ codes " reference"

abbrev pub foreign_text : Tid → Ref → List ℕ
foreign_text t Null = []
foreign_text t (To kind maker n) =
    ref_text (To kind maker n) ++ codes " was handed to " ++ tid_text maker ++ codes ", not to " ++ tid_text t

abbrev pub no_object_text : Tid → Ref → List ℕ
no_object_text t Null = codes "null was handed in"
no_object_text t (To kind maker n) = ref_text (To kind maker n) ++ codes " names no object for " ++ tid_text t

abbrev pub argument_text : Argument → List ℕ
argument_text Capacity = codes "capacity "
argument_text Length = codes "length "
argument_text Mode = codes "mode "
argument_text Value = codes "value "

abbrev pub range_text : ℤ → ℤ → ℤ → List ℕ
range_text value least most =
    signed_decimal value ++ codes " is not from " ++ signed_decimal least ++ codes " to " ++ signed_decimal most

abbrev pub owner_text : Option Tid → List ℕ
owner_text None = codes "nobody"
owner_text (Some u) = tid_text u

abbrev pub vm_class_text : VmCall → List ℕ
vm_class_text (NativeEnter class method signature) = quoted class
vm_class_text (LoadLibrary class library) = quoted class
vm_class_text call = []

abbrev pub class_named_text : Call → List ℕ
class_named_text (Vm call) = vm_class_text call
class_named_text call = []

abbrev pub vm_native_text : VmCall → List ℕ
vm_native_text (NativeEnter class method signature) = quoted method ++ codes " of type " ++ quoted signature
vm_native_text call = []

abbrev pub native_text : Call → List ℕ
native_text (Vm call) = vm_native_text call
native_text call = []

abbrev pub env_of_another_text : Tid → EnvId → List ℕ
env_of_another_text t env =
    env_id_text env ++ codes " is an environment of " ++ tid_text env.tid ++ codes ", not of " ++ tid_text t

abbrev pub not_present_text : EnvId → List ℕ
not_present_text env = env_id_text env ++ codes " is not the present environment of " ++ tid_text env.tid

abbrev pub pending_text : StatedSetup → Tid → ℕ → List ℕ
pending_text s t class = tid_text t ++ codes " has an exception of " ++ class_text s class ++ codes " pending"

abbrev pub dead_text : Tid → Ref → List ℕ
dead_text t r = ref_text r ++ codes " names nothing for " ++ tid_text t

abbrev pub other_kind_text : Call → Ref → List ℕ
other_kind_text call r =
    ref_text r ++ codes " is " ++ kind_of_text r ++ codes ", which " ++ fun_text call ++ codes " does not delete"

abbrev pub other_type_text : StatedSetup → Ref → ObjectType → ℕ → List ℕ
other_type_text s r wanted class =
    ref_text r ++ codes " names an object of " ++ class_text s class ++ codes ", and " ++ type_text wanted
    ++ codes " is wanted"

abbrev pub no_field_text : FieldId → List ℕ
no_field_text f = field_text f ++ codes " is no field of the setup"

abbrev pub field_of_type_text : StatedSetup → Call → FieldId → Option Primitive → List ℕ
field_of_type_text s call f wanted =
    field_text f ++ codes " is of type " ++ quoted_if (field_type s f.class f.field) ++ codes ", and " ++ fun_text call
    ++ codes " takes one of " ++ wanted_text wanted

abbrev pub field_of_class_text : StatedSetup → Ref → FieldId → ℕ → List ℕ
field_of_class_text s r f class =
    field_text f ++ codes " is a field of " ++ class_text s f.class ++ codes ", and " ++ ref_text r
    ++ codes " names an object of " ++ class_text s class

abbrev pub lent_otherwise_text : Call → BufId → Family → List ℕ
lent_otherwise_text call b family =
    buf_text b ++ codes " was lent by " ++ lender_name family ++ codes ", which " ++ fun_text call
    ++ codes " does not end"

abbrev pub other_object_text : StatedSetup → BufId → Ref → ℕ → List ℕ
other_object_text s b r class =
    buf_text b ++ codes " is of another object than " ++ ref_text r ++ codes " names, of " ++ class_text s class

abbrev pub other_thread_text : Tid → BufId → List ℕ
other_thread_text t b =
    buf_text b ++ codes " is a critical buffer of " ++ tid_text b.maker ++ codes ", not of " ++ tid_text t

abbrev pub item_text : ℕ → ℤ → ℤ → ℤ → List ℕ
item_text place value least most = codes "item " ++ decimal place ++ codes ", " ++ range_text value least most

abbrev pub too_long_text : ℤ → List ℕ
too_long_text n = codes "a region of " ++ signed_decimal n ++ codes " items is longer than 1000"

abbrev pub no_class_text : Call → List ℕ
no_class_text call = codes "the setup has no class " ++ class_named_text call

abbrev pub no_item_text : BufId → ℤ → ℕ → List ℕ
no_item_text b index n =
    buf_text b ++ codes " has " ++ decimal n ++ codes " items, and none at " ++ signed_decimal index

abbrev pub not_owner_text : StatedSetup → ℕ → Option Tid → List ℕ
not_owner_text s class owner = owner_text owner ++ codes " owns the monitor of an object of " ++ class_text s class

abbrev pub refused_text : StatedSetup → ℕ → Operation → List ℕ
refused_text s class operation =
    codes "module " ++ module_text s class ++ codes " of " ++ class_text s class ++ codes " is not granted "
    ++ use_text operation ++ codes ", and illegal native access is denied"

abbrev pub no_native_text : StatedSetup → Call → ℕ → List ℕ
no_native_text s call class = class_text s class ++ codes " has no native method " ++ native_text call

abbrev pub not_linked_text : StatedSetup → Call → ℕ → List ℕ
not_linked_text s call class = native_text call ++ codes " of " ++ class_text s class ++ codes " is not linked"

abbrev pub breach_text : StatedSetup → Tid → Call → Breach → List ℕ
breach_text s t call OnlyForMachine = fun_text call ++ codes " is the virtual machine's own, which is T0"
breach_text s t call NotForMachine = fun_text call ++ codes " is no call of the virtual machine, which is T0"
breach_text s t call (EnvOfAnother env) = env_of_another_text t env
breach_text s t call NoEnv = codes "no environment was handed in"
breach_text s t call (NotPresent env) = not_present_text env
breach_text s t call InRegion = tid_text t ++ codes " is in a critical region"
breach_text s t call (ExceptionPending class) = pending_text s t class
breach_text s t call (ForeignLocal r) = foreign_text t r
breach_text s t call (DeadReference r) = dead_text t r
breach_text s t call (OtherKind r) = other_kind_text call r
breach_text s t call (NoObject r) = no_object_text t r
breach_text s t call (OtherType r wanted class) = other_type_text s r wanted class
breach_text s t call (NoField r f) = no_field_text f
breach_text s t call (FieldOfOtherType r f wanted) = field_of_type_text s call f wanted
breach_text s t call (FieldOfOtherClass r f class) = field_of_class_text s r f class
breach_text s t call (NotOpen b) = buf_text b ++ codes " is not open"
breach_text s t call (LentOtherwise b family) = lent_otherwise_text call b family
breach_text s t call (OfOtherObject b r class) = other_object_text s b r class
breach_text s t call (OfOtherThread b) = other_thread_text t b
breach_text s t call (OfString b) = buf_text b ++ codes " is a string's, which may not be written"
breach_text s t call (OutOfRange argument value least most) = argument_text argument ++ range_text value least most
breach_text s t call (ItemOutOfRange place value least most) = item_text place value least most
breach_text s t call (TooLong n) = too_long_text n
breach_text s t call NotModifiedUtf8 = codes "the bytes are no modified UTF-8"
breach_text s t call NoClass = no_class_text call
breach_text s t call (NoItem b index n) = no_item_text b index n
breach_text s t call (PinnedReference r) = ref_text r ++ codes " has a critical buffer open"
breach_text s t call (NotOwner r o class owner) = not_owner_text s class owner
breach_text s t call NoFrame = tid_text t ++ codes " has no frame to pop"
breach_text s t call NotInNative = tid_text t ++ codes " is in no native method"
breach_text s t call StillInNative = tid_text t ++ codes " is in a native method"
breach_text s t call (AccessRefused class operation) = refused_text s class operation
breach_text s t call (NoNative class) = no_native_text s call class
breach_text s t call (NotLinked class native) = not_linked_text s call class
breach_text s t call Unbroken = []
