-- Native access (JEP 472): the class that a call asks for it with, and what the setup says of its module.
use Rattle.std.specs.Prelude.{ℕ, ◌&&◌, Bool, true, false, not, Option, Some, None, option_and_then}
use Rattle.jg_words.specs.declared.call.Call.{Call}
use Rattle.jg_words.specs.declared.call.Call.TheVariants.{Vm, Refs, Frames, Exceptions, Objects, Strings, Arrays, Monitors, Buffers}
use Rattle.jg_words.specs.declared.call.vm.VmCall.{VmCall}
use Rattle.jg_words.specs.declared.call.vm.VmCall.TheVariants.{AttachCurrentThread, DetachCurrentThread, GetEnv, NativeEnter, NativeLeave, LoadLibrary, RegisterNatives, UnregisterNatives, Collect}
use Rattle.jg_policy.specs.declared.access.Access.{Access}
use Rattle.jg_policy.specs.declared.access.Access.TheVariants.{Allowed, AllowedWithWarning, Refused}
use Rattle.jg_policy.specs.declared.access.Operation.{Operation}
use Rattle.jg_policy.specs.declared.access.Operation.TheVariants.{Load, Register, Link}
use Rattle.jg_policy.specs.Stated.{StatedSetup}
use Rattle.jg_policy.specs.NativeAccess.{access_of}
use Rattle.jg_policy.specs.Classes.{class_named, module_of}
use Rattle.jg_policy.specs.Links.{warned}
use Rattle.jg_rules.specs.Parts.{Parts}
use Rattle.jg_rules.specs.Names.{class_meant}

-- the class whose module decides
abbrev pub vm_class : StatedSetup → Parts → ℕ → VmCall → Option ℕ
vm_class s p t AttachCurrentThread = None
vm_class s p t DetachCurrentThread = None
vm_class s p t GetEnv = None
vm_class s p t (NativeEnter class method signature) = class_named s class
vm_class s p t (NativeLeave kept) = None
vm_class s p t (LoadLibrary class library) = class_named s class
vm_class s p t (RegisterNatives class method signature) = class_meant s p t class
vm_class s p t (UnregisterNatives class) = None
vm_class s p t Collect = None

abbrev pub native_class : StatedSetup → Parts → ℕ → Call → Option ℕ
native_class s p t (Vm call) = vm_class s p t call
native_class s p t (Refs call) = None
native_class s p t (Frames call) = None
native_class s p t (Exceptions call) = None
native_class s p t (Objects call) = None
native_class s p t (Strings call) = None
native_class s p t (Arrays call) = None
native_class s p t (Monitors call) = None
native_class s p t (Buffers call) = None

-- which use of native code the call is, where it names a class
abbrev pub vm_use : VmCall → Operation
vm_use AttachCurrentThread = Link
vm_use DetachCurrentThread = Link
vm_use GetEnv = Link
vm_use (NativeEnter class method signature) = Link
vm_use (NativeLeave kept) = Link
vm_use (LoadLibrary class library) = Load
vm_use (RegisterNatives class method signature) = Register
vm_use (UnregisterNatives class) = Link
vm_use Collect = Link

abbrev pub native_use : Call → Operation
native_use (Vm call) = vm_use call
native_use (Refs call) = Link
native_use (Frames call) = Link
native_use (Exceptions call) = Link
native_use (Objects call) = Link
native_use (Strings call) = Link
native_use (Arrays call) = Link
native_use (Monitors call) = Link
native_use (Buffers call) = Link

-- the number of the class's module
abbrev pub home_of : StatedSetup → Option ℕ → Option ℕ
home_of s class = option_and_then (module_of s) class

abbrev pub is_refused : Access → Bool
is_refused Allowed = false
is_refused AllowedWithWarning = false
is_refused Refused = true

-- the use is refused to the class
abbrev pub refuses : StatedSetup → Operation → Option ℕ → Bool
refuses s operation None = false
refuses s operation (Some class) = is_refused (access_of s class operation)

abbrev pub is_warning : Access → Bool
is_warning Allowed = false
is_warning AllowedWithWarning = true
is_warning Refused = false

abbrev pub unwarned : Parts → Option ℕ → Bool
unwarned p None = false
unwarned p (Some home) = not (warned p.links home)

-- the first use of a module whose access comes with a warning
abbrev pub warns : StatedSetup → Parts → Operation → Option ℕ → Bool
warns s p operation None = false
warns s p operation (Some class) = is_warning (access_of s class operation) && unwarned p (module_of s class)
