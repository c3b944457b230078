-- Statements of laws.
use Rattle.std.specs.Prelude.{◌≡◌, ℕ, ◌<◌, List, ◌∷◌, ◌++◌, ◌≢◌, Some, IsSome, All, Contains, IsTrue, ◌↔◌}
use Rattle.toml.specs.Parse.{parse_document}
use Rattle.jg_policy.specs.declared.fault.SetupFault.{SetupFault}
use Rattle.jg_policy.specs.Faults.{IsFirstFault}
use Rattle.jg_policy.specs.Findings.{text_faults_of, States}
use Rattle.jg_policy.specs.Stated.{StatedSetup, class_count}
use Rattle.jg_policy.specs.Classes.{module_name_of, module_of, class_named, class_name_of, field_named, field_at, native_named, native_at}
use Rattle.jg_policy.specs.Links.{Event, Linked, UnlinkedAll, Warned, linked, warned}

-- some event links the method, and no later one unlinks its class
abbrev pub IsLinked : List Event → ℕ → ℕ → Type 0
IsLinked e class native =
    (later : List Event) × (before : List Event) × (e ≡ later ++ Linked class native ∷ before)
    × All (λ ev. ev ≢ UnlinkedAll class) later

-- (proofs/LinkLaws.antt)
abbrev pub LinkedMeans : Type 0
LinkedMeans = (e : List Event) (class native : ℕ) → IsTrue (linked e class native) ↔ IsLinked e class native

-- (proofs/LinkLaws.antt)
abbrev pub WarnedMeans : Type 0
WarnedMeans = (e : List Event) (home : ℕ) → IsTrue (warned e home) ↔ Contains e (Warned home)

-- classes, and nothing else, have modules (proofs/ModuleLaws.antt)
abbrev pub OnlyClassesHaveModules : Type 0
OnlyClassesHaveModules =
    (setup : StatedSetup) (class : ℕ) → IsSome (module_of setup class) ↔ (class < class_count setup)

-- equal module numbers exactly where the names of the modules are equal (proofs/ModuleLaws.antt)
abbrev pub ModuleNumbersTellNames : Type 0
ModuleNumbersTellNames =
    (setup : StatedSetup) (c d : ℕ) → (module_of setup c ≡ module_of setup d)
    ↔ (module_name_of setup c ≡ module_name_of setup d)

-- a name's number is that of a class with this name (proofs/NameLaws.antt)
abbrev pub ClassHasItsName : Type 0
ClassHasItsName =
    (setup : StatedSetup) (name : List ℕ) (class : ℕ) → class_named setup name ≡ Some class
    → class_name_of setup class ≡ Some name

-- and two names with the same number are equal (proofs/NameLaws.antt)
abbrev pub ClassNumbersTellNames : Type 0
ClassNumbersTellNames =
    (setup : StatedSetup) (name other : List ℕ) (class : ℕ) → class_named setup name ≡ Some class
    → class_named setup other ≡ Some class → name ≡ other

-- the same of the fields of a class, by name and type (proofs/NameLaws.antt)
abbrev pub FieldHasItsName : Type 0
FieldHasItsName =
    (setup : StatedSetup) (class field : ℕ) (name signature : List ℕ)
    → field_named setup class name signature ≡ Some field
    → field_at setup class field ≡ Some (record { name = name; signature = signature })

-- (proofs/NameLaws.antt)
abbrev pub FieldNumbersTellNames : Type 0
FieldNumbersTellNames =
    (setup : StatedSetup) (class field : ℕ) (name other signature second : List ℕ)
    → field_named setup class name signature ≡ Some field → field_named setup class other second ≡ Some field
    → (name ≡ other) × (signature ≡ second)

-- and of its native methods (proofs/NameLaws.antt)
abbrev pub NativeHasItsName : Type 0
NativeHasItsName =
    (setup : StatedSetup) (class native : ℕ) (name signature : List ℕ)
    → native_named setup class name signature ≡ Some native
    → native_at setup class native ≡ Some (record { name = name; signature = signature })

-- (proofs/NameLaws.antt)
abbrev pub NativeNumbersTellNames : Type 0
NativeNumbersTellNames =
    (setup : StatedSetup) (class native : ℕ) (name other signature second : List ℕ)
    → native_named setup class name signature ≡ Some native → native_named setup class other second ≡ Some native
    → (name ≡ other) × (signature ≡ second)

-- a text states at most one setup (proofs/Texts.antt)
abbrev pub StatesOneSetup : Type 0
StatesOneSetup = (text : List ℕ) (s t : StatedSetup) → States text s → States text t → s ≡ t

-- and has no first fault where it states one (proofs/Texts.antt)
abbrev pub StatingHasNoFault : Type 0
StatingHasNoFault =
    (text : List ℕ) (s : StatedSetup) (fault : SetupFault) → States text s
    → ¬ IsFirstFault (text_faults_of (parse_document text)) fault
