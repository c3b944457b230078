-- All functions, in the order of the JNI Specification: those of chapter 4 by its sections, those of the invocation
-- interface (chapter 5), and this guard's own.
use Prim.Native.String.{String}
use Rattle.std.specs.Prelude.{Bool, true, false, List, [], ◌∷◌, ◌++◌, map, codes}
use Rattle.jg_words.specs.declared.object.Primitive.TheVariants.{Boolean, Byte, Char, Short, Int, Long}
use Rattle.jg_words.specs.declared.object.ItemType.{ItemType}
use Rattle.jg_words.specs.declared.object.ItemType.TheVariants.{Of, Float, Double}
use Rattle.jg_words.specs.declared.reference.Kind.TheVariants.{Local, Global, Weak}
use Rattle.jg_table_buffers.specs.declared.family.Family.TheVariants.{Elements, Chars, UtfChars, ArrayCritical, StringCritical}
use Rattle.jg_rows.specs.declared.row.Section.{Section}
use Rattle.jg_rows.specs.declared.row.Section.TheVariants.{VersionInformation, ClassOperations, ModuleOperations, ThreadOperations, Exceptions, GlobalAndLocalReferences, WeakGlobalReferences, ObjectOperations, AccessingFieldsOfObjects, CallingInstanceMethods, AccessingStaticFields, CallingStaticMethods, StringOperations, ArrayOperations, RegisteringNativeMethods, MonitorOperations, NioSupport, ReflectionSupport, JavaVmInterface, InvocationApiFunctions, Own as OwnFunctions}
use Rattle.jg_rows.specs.declared.row.Since.{Since}
use Rattle.jg_rows.specs.declared.row.Since.TheVariants.{V1_1, V1_2, V1_4, V1_6, V9, V21, V24, Own}
use Rattle.jg_rows.specs.declared.row.ObjectKind.TheVariants.{AnyObject, ClassObject, PlainClass, InstanceClass, ThrowableObject, StringObject, AnyArray, PrimitiveArray, ArrayOf, ObjectArray}
use Rattle.jg_rows.specs.declared.row.ValueType.{ValueType}
use Rattle.jg_rows.specs.declared.row.ValueType.TheVariants.{Item as ItemOf, Object, Void}
use Rattle.jg_rows.specs.declared.row.Member.TheVariants.{Instance, Static}
use Rattle.jg_rows.specs.declared.row.Takes.{Takes}
use Rattle.jg_rows.specs.declared.row.Takes.TheVariants.{Reference, Nullable, Unjudged, Buffer, Readable, Writable, Number, Capacity, Length, Count, Mode, Place, Item, Value, Field, AnyField, Method, Constructor, AnyMethod, ClassName, NativeName, Name, Items, Utf8, Arguments}
use Rattle.jg_rows.specs.declared.row.Passes.{Passes}
use Rattle.jg_rows.specs.declared.row.Passes.TheVariants.{Usual, Pending, Critical, Both}
use Rattle.jg_rows.specs.declared.row.Throws.{Throws}
use Rattle.jg_rows.specs.declared.row.Throws.TheVariants.{Never, Null, Negative, Untold}
use Rattle.jg_rows.specs.declared.row.Runs.{Runs}
use Rattle.jg_rows.specs.declared.row.Runs.TheVariants.{Quiet, Java}
use Rattle.jg_rows.specs.declared.row.Effect.{Effect}
use Rattle.jg_rows.specs.declared.row.Effect.TheVariants.{Nothing, Hands, Ends, Lends, GivesBack, Pushes, Pops, Ensures, Raises, Calms, Owns, Frees, Attaches, Detaches, Enters, Leaves, Loads, Links, Unlinks, Collects}
use Rattle.jg_rows.specs.Columns.{Columns}

-- ---- types

abbrev boolean : ItemType
boolean = Of Boolean

abbrev byte : ItemType
byte = Of Byte

abbrev char : ItemType
char = Of Char

abbrev short : ItemType
short = Of Short

abbrev int : ItemType
int = Of Int

abbrev long : ItemType
long = Of Long

abbrev float : ItemType
float = Float

abbrev double : ItemType
double = Double

-- by their letters (JNI Specification, chapter 3, "Type Signatures"); L is any class
abbrev Z : ValueType
Z = ItemOf boolean

abbrev B : ValueType
B = ItemOf byte

abbrev C : ValueType
C = ItemOf char

abbrev S : ValueType
S = ItemOf short

abbrev I : ValueType
I = ItemOf int

abbrev J : ValueType
J = ItemOf long

abbrev F : ValueType
F = ItemOf float

abbrev D : ValueType
D = ItemOf double

abbrev L : ValueType
L = Object

abbrev V : ValueType
V = Void

-- ---- operands that are references

abbrev object : Takes
object = Reference AnyObject

abbrev class : Takes
class = Reference ClassObject

abbrev plain_class : Takes
plain_class = Reference PlainClass

abbrev instance_class : Takes
instance_class = Reference InstanceClass

abbrev throwable : Takes
throwable = Reference ThrowableObject

abbrev string : Takes
string = Reference StringObject

abbrev array : Takes
array = Reference AnyArray

abbrev primitive_array : Takes
primitive_array = Reference PrimitiveArray

abbrev object_array : Takes
object_array = Reference ObjectArray

abbrev array_of : ItemType → Takes
array_of item = Reference (ArrayOf item)

-- ---- rows

-- the name, since which version the function is there, its operands, when it may be called, how it tells what it
-- threw, whether Java code may run in it, and what it does
abbrev row : String → Since → List Takes → Passes → Throws → Runs → Effect → Section → Bool → Columns
row name since takes passes throws runs effect section takes_env = record {
  section = section;
  name = codes name;
  since = since;
  takes = takes;
  takes_env = takes_env;
  passes = passes;
  throws = throws;
  runs = runs;
  effect = effect;
}

-- a function that calls a method, with its arguments one by one (`...`), as an array (A) and as a va_list (V)
abbrev calls : String → List Takes → Throws → Effect → List (Section → Bool → Columns)
calls name takes throws effect =
    map (λ form section takes_env.
    record (row name V1_1 (takes ++ Arguments ∷ []) Usual throws Java effect section takes_env) {
      name = codes name ++ form;
    })
    ([] ∷ codes "A" ∷ codes "V" ∷ [])

-- a function that gives a copied array of such items back
abbrev released : String → ItemType → Section → Bool → Columns
released name item = row name V1_1 (array_of item ∷ Buffer (Elements item) ∷ Mode ∷ []) Pending Never Quiet GivesBack

-- the functions of a section, and whether they take an environment
abbrev under : Section → Bool → List (Section → Bool → Columns) → List Columns
under section takes_env rows = map (λ row. row section takes_env) rows

abbrev pub first : List Columns
first =
    under VersionInformation true (
    row "GetVersion" V1_1 [] Usual Never Quiet Nothing ∷ [])
    ++ under ClassOperations true (
    row "DefineClass" V1_1 (Name ∷ Nullable ∷ Items byte ∷ []) Usual Null Java (Hands Local)
    ∷ row "FindClass" V1_1 (Name ∷ []) Usual Null Java (Hands Local)
    ∷ row "GetSuperclass" V1_1 (class ∷ []) Usual Never Quiet (Hands Local)
    ∷ row "IsAssignableFrom" V1_1 (class ∷ class ∷ []) Usual Never Quiet Nothing ∷ [])
    ++ under ModuleOperations true (
    row "GetModule" V9 (class ∷ []) Usual Never Quiet (Hands Local) ∷ [])
    ++ under ThreadOperations true (
    row "IsVirtualThread" V21 (Nullable ∷ []) Usual Never Quiet Nothing ∷ [])
    ++ under Exceptions true (
    row "Throw" V1_1 (throwable ∷ []) Usual Negative Quiet Raises
    ∷ row "ThrowNew" V1_1 (instance_class ∷ Name ∷ []) Usual Negative Java Nothing
    ∷ row "ExceptionOccurred" V1_1 [] Pending Never Quiet (Hands Local)
    ∷ row "ExceptionDescribe" V1_1 [] Pending Never Java Calms
    ∷ row "ExceptionClear" V1_1 [] Pending Never Quiet Calms
    ∷ row "FatalError" V1_1 (Name ∷ []) Pending Never Quiet Nothing
    ∷ row "ExceptionCheck" V1_2 [] Pending Never Quiet Nothing ∷ [])
    ++ under GlobalAndLocalReferences true (
    row "NewGlobalRef" V1_1 (Nullable ∷ []) Usual Never Quiet (Hands Global)
    ∷ row "DeleteGlobalRef" V1_1 (Nullable ∷ []) Pending Never Quiet (Ends Global)
    ∷ row "DeleteLocalRef" V1_1 (Nullable ∷ []) Pending Never Quiet (Ends Local)
    ∷ row "EnsureLocalCapacity" V1_2 (Capacity ∷ []) Usual Negative Quiet Ensures
    ∷ row "PushLocalFrame" V1_2 (Capacity ∷ []) Pending Negative Quiet Pushes
    ∷ row "PopLocalFrame" V1_2 (Nullable ∷ []) Pending Never Quiet Pops
    ∷ row "NewLocalRef" V1_2 (Nullable ∷ []) Usual Never Quiet (Hands Local) ∷ [])
    ++ under WeakGlobalReferences true (
    row "NewWeakGlobalRef" V1_2 (Nullable ∷ []) Usual Null Quiet (Hands Weak)
    ∷ row "DeleteWeakGlobalRef" V1_2 (Nullable ∷ []) Pending Never Quiet (Ends Weak) ∷ [])
    ++ under ObjectOperations true (
    (row "AllocObject" V1_1 (plain_class ∷ []) Usual Null Java (Hands Local) ∷ [])
    ++ calls "NewObject" (instance_class ∷ Constructor ∷ []) Null (Hands Local)
    ++ (row "GetObjectClass" V1_1 (object ∷ []) Usual Never Quiet (Hands Local)
    ∷ row "GetObjectRefType" V1_6 (Unjudged ∷ []) Usual Never Quiet Nothing
    ∷ row "IsInstanceOf" V1_1 (Nullable ∷ class ∷ []) Usual Never Quiet Nothing
    ∷ row "IsSameObject" V1_1 (Nullable ∷ Nullable ∷ []) Usual Never Quiet Nothing ∷ []))

abbrev pub fields : List Columns
fields =
    under AccessingFieldsOfObjects true (
    row "GetFieldID" V1_1 (class ∷ Name ∷ Name ∷ []) Usual Null Java Nothing
    ∷ row "GetObjectField" V1_1 (object ∷ Field Instance L ∷ []) Usual Never Quiet (Hands Local)
    ∷ row "GetBooleanField" V1_1 (object ∷ Field Instance Z ∷ []) Usual Never Quiet Nothing
    ∷ row "GetByteField" V1_1 (object ∷ Field Instance B ∷ []) Usual Never Quiet Nothing
    ∷ row "GetCharField" V1_1 (object ∷ Field Instance C ∷ []) Usual Never Quiet Nothing
    ∷ row "GetShortField" V1_1 (object ∷ Field Instance S ∷ []) Usual Never Quiet Nothing
    ∷ row "GetIntField" V1_1 (object ∷ Field Instance I ∷ []) Usual Never Quiet Nothing
    ∷ row "GetLongField" V1_1 (object ∷ Field Instance J ∷ []) Usual Never Quiet Nothing
    ∷ row "GetFloatField" V1_1 (object ∷ Field Instance F ∷ []) Usual Never Quiet Nothing
    ∷ row "GetDoubleField" V1_1 (object ∷ Field Instance D ∷ []) Usual Never Quiet Nothing
    ∷ row "SetObjectField" V1_1 (object ∷ Field Instance L ∷ Nullable ∷ []) Usual Never Quiet Nothing
    ∷ row "SetBooleanField" V1_1 (object ∷ Field Instance Z ∷ Value boolean ∷ []) Usual Never Quiet Nothing
    ∷ row "SetByteField" V1_1 (object ∷ Field Instance B ∷ Value byte ∷ []) Usual Never Quiet Nothing
    ∷ row "SetCharField" V1_1 (object ∷ Field Instance C ∷ Value char ∷ []) Usual Never Quiet Nothing
    ∷ row "SetShortField" V1_1 (object ∷ Field Instance S ∷ Value short ∷ []) Usual Never Quiet Nothing
    ∷ row "SetIntField" V1_1 (object ∷ Field Instance I ∷ Value int ∷ []) Usual Never Quiet Nothing
    ∷ row "SetLongField" V1_1 (object ∷ Field Instance J ∷ Value long ∷ []) Usual Never Quiet Nothing
    ∷ row "SetFloatField" V1_1 (object ∷ Field Instance F ∷ Value float ∷ []) Usual Never Quiet Nothing
    ∷ row "SetDoubleField" V1_1 (object ∷ Field Instance D ∷ Value double ∷ []) Usual Never Quiet Nothing ∷ [])

abbrev pub virtual_calls : List Columns
virtual_calls =
    under CallingInstanceMethods true (
    (row "GetMethodID" V1_1 (class ∷ Name ∷ Name ∷ []) Usual Null Java Nothing ∷ [])
    ++ calls "CallVoidMethod" (object ∷ Method Instance V ∷ []) Untold Nothing
    ++ calls "CallObjectMethod" (object ∷ Method Instance L ∷ []) Untold (Hands Local)
    ++ calls "CallBooleanMethod" (object ∷ Method Instance Z ∷ []) Untold Nothing
    ++ calls "CallByteMethod" (object ∷ Method Instance B ∷ []) Untold Nothing
    ++ calls "CallCharMethod" (object ∷ Method Instance C ∷ []) Untold Nothing
    ++ calls "CallShortMethod" (object ∷ Method Instance S ∷ []) Untold Nothing
    ++ calls "CallIntMethod" (object ∷ Method Instance I ∷ []) Untold Nothing
    ++ calls "CallLongMethod" (object ∷ Method Instance J ∷ []) Untold Nothing
    ++ calls "CallFloatMethod" (object ∷ Method Instance F ∷ []) Untold Nothing
    ++ calls "CallDoubleMethod" (object ∷ Method Instance D ∷ []) Untold Nothing)

abbrev pub nonvirtual_calls : List Columns
nonvirtual_calls =
    under CallingInstanceMethods true (
    calls "CallNonvirtualVoidMethod" (object ∷ class ∷ Method Instance V ∷ []) Untold Nothing
    ++ calls "CallNonvirtualObjectMethod" (object ∷ class ∷ Method Instance L ∷ []) Untold (Hands Local)
    ++ calls "CallNonvirtualBooleanMethod" (object ∷ class ∷ Method Instance Z ∷ []) Untold Nothing
    ++ calls "CallNonvirtualByteMethod" (object ∷ class ∷ Method Instance B ∷ []) Untold Nothing
    ++ calls "CallNonvirtualCharMethod" (object ∷ class ∷ Method Instance C ∷ []) Untold Nothing
    ++ calls "CallNonvirtualShortMethod" (object ∷ class ∷ Method Instance S ∷ []) Untold Nothing
    ++ calls "CallNonvirtualIntMethod" (object ∷ class ∷ Method Instance I ∷ []) Untold Nothing
    ++ calls "CallNonvirtualLongMethod" (object ∷ class ∷ Method Instance J ∷ []) Untold Nothing
    ++ calls "CallNonvirtualFloatMethod" (object ∷ class ∷ Method Instance F ∷ []) Untold Nothing
    ++ calls "CallNonvirtualDoubleMethod" (object ∷ class ∷ Method Instance D ∷ []) Untold Nothing)

abbrev pub static_fields : List Columns
static_fields =
    under AccessingStaticFields true (
    row "GetStaticFieldID" V1_1 (class ∷ Name ∷ Name ∷ []) Usual Null Java Nothing
    ∷ row "GetStaticObjectField" V1_1 (class ∷ Field Static L ∷ []) Usual Never Quiet (Hands Local)
    ∷ row "GetStaticBooleanField" V1_1 (class ∷ Field Static Z ∷ []) Usual Never Quiet Nothing
    ∷ row "GetStaticByteField" V1_1 (class ∷ Field Static B ∷ []) Usual Never Quiet Nothing
    ∷ row "GetStaticCharField" V1_1 (class ∷ Field Static C ∷ []) Usual Never Quiet Nothing
    ∷ row "GetStaticShortField" V1_1 (class ∷ Field Static S ∷ []) Usual Never Quiet Nothing
    ∷ row "GetStaticIntField" V1_1 (class ∷ Field Static I ∷ []) Usual Never Quiet Nothing
    ∷ row "GetStaticLongField" V1_1 (class ∷ Field Static J ∷ []) Usual Never Quiet Nothing
    ∷ row "GetStaticFloatField" V1_1 (class ∷ Field Static F ∷ []) Usual Never Quiet Nothing
    ∷ row "GetStaticDoubleField" V1_1 (class ∷ Field Static D ∷ []) Usual Never Quiet Nothing
    ∷ row "SetStaticObjectField" V1_1 (class ∷ Field Static L ∷ Nullable ∷ []) Usual Never Quiet Nothing
    ∷ row "SetStaticBooleanField" V1_1 (class ∷ Field Static Z ∷ Value boolean ∷ []) Usual Never Quiet Nothing
    ∷ row "SetStaticByteField" V1_1 (class ∷ Field Static B ∷ Value byte ∷ []) Usual Never Quiet Nothing
    ∷ row "SetStaticCharField" V1_1 (class ∷ Field Static C ∷ Value char ∷ []) Usual Never Quiet Nothing
    ∷ row "SetStaticShortField" V1_1 (class ∷ Field Static S ∷ Value short ∷ []) Usual Never Quiet Nothing
    ∷ row "SetStaticIntField" V1_1 (class ∷ Field Static I ∷ Value int ∷ []) Usual Never Quiet Nothing
    ∷ row "SetStaticLongField" V1_1 (class ∷ Field Static J ∷ Value long ∷ []) Usual Never Quiet Nothing
    ∷ row "SetStaticFloatField" V1_1 (class ∷ Field Static F ∷ Value float ∷ []) Usual Never Quiet Nothing
    ∷ row "SetStaticDoubleField" V1_1 (class ∷ Field Static D ∷ Value double ∷ []) Usual Never Quiet Nothing ∷ [])

abbrev pub static_calls : List Columns
static_calls =
    under CallingStaticMethods true (
    (row "GetStaticMethodID" V1_1 (class ∷ Name ∷ Name ∷ []) Usual Null Java Nothing ∷ [])
    ++ calls "CallStaticVoidMethod" (class ∷ Method Static V ∷ []) Untold Nothing
    ++ calls "CallStaticObjectMethod" (class ∷ Method Static L ∷ []) Untold (Hands Local)
    ++ calls "CallStaticBooleanMethod" (class ∷ Method Static Z ∷ []) Untold Nothing
    ++ calls "CallStaticByteMethod" (class ∷ Method Static B ∷ []) Untold Nothing
    ++ calls "CallStaticCharMethod" (class ∷ Method Static C ∷ []) Untold Nothing
    ++ calls "CallStaticShortMethod" (class ∷ Method Static S ∷ []) Untold Nothing
    ++ calls "CallStaticIntMethod" (class ∷ Method Static I ∷ []) Untold Nothing
    ++ calls "CallStaticLongMethod" (class ∷ Method Static J ∷ []) Untold Nothing
    ++ calls "CallStaticFloatMethod" (class ∷ Method Static F ∷ []) Untold Nothing
    ++ calls "CallStaticDoubleMethod" (class ∷ Method Static D ∷ []) Untold Nothing)

abbrev pub strings : List Columns
strings =
    under StringOperations true (
    row "NewString" V1_1 (Items char ∷ []) Usual Null Quiet (Hands Local)
    ∷ row "GetStringLength" V1_1 (string ∷ []) Usual Never Quiet Nothing
    ∷ row "GetStringChars" V1_1 (string ∷ []) Usual Never Quiet (Lends Chars)
    ∷ row "ReleaseStringChars" V1_1 (string ∷ Buffer Chars ∷ []) Pending Never Quiet GivesBack
    ∷ row "NewStringUTF" V1_1 (Utf8 ∷ []) Usual Null Quiet (Hands Local)
    ∷ row "GetStringUTFLength" V1_1 (string ∷ []) Usual Never Quiet Nothing
    ∷ row "GetStringUTFLengthAsLong" V24 (string ∷ []) Usual Never Quiet Nothing
    ∷ row "GetStringUTFChars" V1_1 (string ∷ []) Usual Never Quiet (Lends UtfChars)
    ∷ row "ReleaseStringUTFChars" V1_1 (string ∷ Buffer UtfChars ∷ []) Pending Never Quiet GivesBack
    ∷ row "GetStringRegion" V1_2 (string ∷ Number ∷ Count ∷ []) Usual Untold Quiet Nothing
    ∷ row "GetStringUTFRegion" V1_2 (string ∷ Number ∷ Count ∷ []) Usual Untold Quiet Nothing
    ∷ row "GetStringCritical" V1_2 (string ∷ []) Critical Never Quiet (Lends StringCritical)
    ∷ row "ReleaseStringCritical" V1_2 (string ∷ Buffer StringCritical ∷ []) Both Never Quiet GivesBack ∷ [])

abbrev pub arrays : List Columns
arrays =
    under ArrayOperations true (
    row "GetArrayLength" V1_1 (array ∷ []) Usual Never Quiet Nothing
    ∷ row "NewObjectArray" V1_1 (Length ∷ class ∷ Nullable ∷ []) Usual Null Quiet (Hands Local)
    ∷ row "GetObjectArrayElement" V1_1 (object_array ∷ Number ∷ []) Usual Untold Quiet (Hands Local)
    ∷ row "SetObjectArrayElement" V1_1 (object_array ∷ Number ∷ Nullable ∷ []) Usual Untold Quiet Nothing
    ∷ row "NewBooleanArray" V1_1 (Length ∷ []) Usual Null Quiet (Hands Local)
    ∷ row "NewByteArray" V1_1 (Length ∷ []) Usual Null Quiet (Hands Local)
    ∷ row "NewCharArray" V1_1 (Length ∷ []) Usual Null Quiet (Hands Local)
    ∷ row "NewShortArray" V1_1 (Length ∷ []) Usual Null Quiet (Hands Local)
    ∷ row "NewIntArray" V1_1 (Length ∷ []) Usual Null Quiet (Hands Local)
    ∷ row "NewLongArray" V1_1 (Length ∷ []) Usual Null Quiet (Hands Local)
    ∷ row "NewFloatArray" V1_1 (Length ∷ []) Usual Null Quiet (Hands Local)
    ∷ row "NewDoubleArray" V1_1 (Length ∷ []) Usual Null Quiet (Hands Local)
    ∷ row "GetBooleanArrayElements" V1_1 (array_of boolean ∷ []) Usual Never Quiet (Lends (Elements boolean))
    ∷ row "GetByteArrayElements" V1_1 (array_of byte ∷ []) Usual Never Quiet (Lends (Elements byte))
    ∷ row "GetCharArrayElements" V1_1 (array_of char ∷ []) Usual Never Quiet (Lends (Elements char))
    ∷ row "GetShortArrayElements" V1_1 (array_of short ∷ []) Usual Never Quiet (Lends (Elements short))
    ∷ row "GetIntArrayElements" V1_1 (array_of int ∷ []) Usual Never Quiet (Lends (Elements int))
    ∷ row "GetLongArrayElements" V1_1 (array_of long ∷ []) Usual Never Quiet (Lends (Elements long))
    ∷ row "GetFloatArrayElements" V1_1 (array_of float ∷ []) Usual Never Quiet (Lends (Elements float))
    ∷ row "GetDoubleArrayElements" V1_1 (array_of double ∷ []) Usual Never Quiet (Lends (Elements double))
    ∷ released "ReleaseBooleanArrayElements" boolean
    ∷ released "ReleaseByteArrayElements" byte
    ∷ released "ReleaseCharArrayElements" char
    ∷ released "ReleaseShortArrayElements" short
    ∷ released "ReleaseIntArrayElements" int
    ∷ released "ReleaseLongArrayElements" long
    ∷ released "ReleaseFloatArrayElements" float
    ∷ released "ReleaseDoubleArrayElements" double
    ∷ row "GetBooleanArrayRegion" V1_1 (array_of boolean ∷ Number ∷ Count ∷ []) Usual Untold Quiet Nothing
    ∷ row "GetByteArrayRegion" V1_1 (array_of byte ∷ Number ∷ Count ∷ []) Usual Untold Quiet Nothing
    ∷ row "GetCharArrayRegion" V1_1 (array_of char ∷ Number ∷ Count ∷ []) Usual Untold Quiet Nothing
    ∷ row "GetShortArrayRegion" V1_1 (array_of short ∷ Number ∷ Count ∷ []) Usual Untold Quiet Nothing
    ∷ row "GetIntArrayRegion" V1_1 (array_of int ∷ Number ∷ Count ∷ []) Usual Untold Quiet Nothing
    ∷ row "GetLongArrayRegion" V1_1 (array_of long ∷ Number ∷ Count ∷ []) Usual Untold Quiet Nothing
    ∷ row "GetFloatArrayRegion" V1_1 (array_of float ∷ Number ∷ Count ∷ []) Usual Untold Quiet Nothing
    ∷ row "GetDoubleArrayRegion" V1_1 (array_of double ∷ Number ∷ Count ∷ []) Usual Untold Quiet Nothing
    ∷ row "SetBooleanArrayRegion" V1_1 (array_of boolean ∷ Number ∷ Items boolean ∷ []) Usual Untold Quiet Nothing
    ∷ row "SetByteArrayRegion" V1_1 (array_of byte ∷ Number ∷ Items byte ∷ []) Usual Untold Quiet Nothing
    ∷ row "SetCharArrayRegion" V1_1 (array_of char ∷ Number ∷ Items char ∷ []) Usual Untold Quiet Nothing
    ∷ row "SetShortArrayRegion" V1_1 (array_of short ∷ Number ∷ Items short ∷ []) Usual Untold Quiet Nothing
    ∷ row "SetIntArrayRegion" V1_1 (array_of int ∷ Number ∷ Items int ∷ []) Usual Untold Quiet Nothing
    ∷ row "SetLongArrayRegion" V1_1 (array_of long ∷ Number ∷ Items long ∷ []) Usual Untold Quiet Nothing
    ∷ row "SetFloatArrayRegion" V1_1 (array_of float ∷ Number ∷ Items float ∷ []) Usual Untold Quiet Nothing
    ∷ row "SetDoubleArrayRegion" V1_1 (array_of double ∷ Number ∷ Items double ∷ []) Usual Untold Quiet Nothing
    ∷ row "GetPrimitiveArrayCritical" V1_2 (primitive_array ∷ []) Critical Never Quiet (Lends ArrayCritical)
    ∷ row "ReleasePrimitiveArrayCritical" V1_2 (primitive_array ∷ Buffer ArrayCritical ∷ Mode ∷ [])
    Both Never Quiet GivesBack ∷ [])

abbrev pub last : List Columns
last =
    under RegisteringNativeMethods true (
    row "RegisterNatives" V1_1 (class ∷ NativeName ∷ []) Usual Negative Quiet Links
    ∷ row "UnregisterNatives" V1_1 (class ∷ []) Usual Never Quiet Unlinks ∷ [])
    ++ under MonitorOperations true (
    row "MonitorEnter" V1_1 (object ∷ []) Usual Never Java Owns
    ∷ row "MonitorExit" V1_1 (object ∷ []) Pending Negative Quiet Frees ∷ [])
    ++ under NioSupport true (
    row "NewDirectByteBuffer" V1_4 (Number ∷ []) Usual Null Java (Hands Local)
    ∷ row "GetDirectBufferAddress" V1_4 (object ∷ []) Usual Never Quiet Nothing
    ∷ row "GetDirectBufferCapacity" V1_4 (object ∷ []) Usual Never Quiet Nothing ∷ [])
    ++ under ReflectionSupport true (
    row "FromReflectedMethod" V1_2 (object ∷ []) Usual Never Java Nothing
    ∷ row "FromReflectedField" V1_2 (object ∷ []) Usual Never Java Nothing
    ∷ row "ToReflectedMethod" V1_2 (class ∷ AnyMethod ∷ Number ∷ []) Usual Null Java (Hands Local)
    ∷ row "ToReflectedField" V1_2 (class ∷ AnyField ∷ Number ∷ []) Usual Null Java (Hands Local) ∷ [])
    ++ under JavaVmInterface true (
    row "GetJavaVM" V1_1 [] Usual Never Quiet Nothing ∷ [])
    ++ under InvocationApiFunctions false (
    row "DestroyJavaVM" V1_1 [] Pending Never Java Nothing
    ∷ row "AttachCurrentThread" V1_1 [] Pending Never Java Attaches
    ∷ row "AttachCurrentThreadAsDaemon" V1_4 [] Pending Never Java Attaches
    ∷ row "DetachCurrentThread" V1_1 [] Pending Never Java Detaches
    ∷ row "GetEnv" V1_2 [] Pending Never Quiet Nothing ∷ [])
    ++ under OwnFunctions true (
    row "NativeEnter" Own (ClassName ∷ NativeName ∷ []) Usual Never Quiet Enters
    ∷ row "NativeLeave" Own (Nullable ∷ []) Pending Never Quiet Leaves
    ∷ row "LoadLibrary" Own (ClassName ∷ Name ∷ []) Usual Untold Java Loads ∷ [])
    ++ under OwnFunctions false (
    row "Collect" Own [] Usual Never Quiet Collects
    ∷ row "BufferRead" Own (Readable ∷ Place ∷ []) Both Never Quiet Nothing
    ∷ row "BufferWrite" Own (Writable ∷ Place ∷ Item ∷ []) Both Never Quiet Nothing ∷ [])

abbrev pub functions : List Columns
functions =
    first ++ (fields ++ (virtual_calls ++ (nonvirtual_calls ++ (static_fields
    ++ (static_calls ++ (strings ++ (arrays ++ (last))))))))
