-- The name of each function finds it.
use Rattle.std.proofs.Common.{◌≡◌, Some, refl}
use Rattle.jg_words.specs.declared.object.Primitive.TheVariants.{Boolean}
use Rattle.jg_words.specs.declared.fun.Fun.{Fun}
use Rattle.jg_words.specs.declared.fun.Fun.TheVariants.{Vm, Refs, Frames, Exceptions, Objects, Strings, Arrays, Monitors, Buffers}
use Rattle.jg_words.specs.declared.fun.vm.VmFun.TheVariants.{AttachCurrentThread}
use Rattle.jg_words.specs.declared.fun.refs.RefsFun.TheVariants.{NewLocalRef}
use Rattle.jg_words.specs.declared.fun.frames.FramesFun.TheVariants.{PushLocalFrame}
use Rattle.jg_words.specs.declared.fun.exceptions.ExceptionsFun.TheVariants.{Throw}
use Rattle.jg_words.specs.declared.fun.objects.ObjectsFun.TheVariants.{FindClass, GetField, SetField}
use Rattle.jg_words.specs.declared.fun.strings.StringsFun.TheVariants.{NewString}
use Rattle.jg_words.specs.declared.fun.arrays.ArraysFun.TheVariants.{NewArray, GetArrayRegion, SetArrayRegion}
use Rattle.jg_words.specs.declared.fun.monitors.MonitorsFun.TheVariants.{MonitorEnter}
use Rattle.jg_words.specs.declared.fun.buffers.BuffersFun.TheVariants.{GetArrayElements, ReleaseArrayElements}
use Rattle.jg_words.specs.Fun.{name_of, named}

pub named-name_of : (fun : Fun) → named (name_of fun) ≡ Some fun
named-name_of (Vm AttachCurrentThread) = refl
named-name_of (Refs NewLocalRef) = refl
named-name_of (Frames PushLocalFrame) = refl
named-name_of (Exceptions Throw) = refl
named-name_of (Objects FindClass) = refl
named-name_of (Objects (GetField Boolean)) = refl
named-name_of (Objects (SetField Boolean)) = refl
named-name_of (Strings NewString) = refl
named-name_of (Arrays (NewArray Boolean)) = refl
named-name_of (Arrays (GetArrayRegion Boolean)) = refl
named-name_of (Arrays (SetArrayRegion Boolean)) = refl
named-name_of (Monitors MonitorEnter) = refl
named-name_of (Buffers (GetArrayElements Boolean)) = refl
named-name_of (Buffers (ReleaseArrayElements Boolean)) = refl
named-name_of fun = refl
