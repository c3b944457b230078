-- What the text states that stands for no setup.
use Rattle.std.proofs.Common.{◌≡◌, ◌≢◌, ◌∙◌, ◌⊎◌, inl, inr, ℕ, Bool, List, [], nat_eq, Some, Result, Ok, Err, IfOk, IfErr, codes, pos, refl, sym, ap, subst}
use Rattle.std.proofs.lemmas.Bool.{false≢true}
use Rattle.std.proofs.lemmas.Option.{same_Some}
use Rattle.toml.specs.Data.{Members, no_members, member, integer, string}
use Rattle.toml.specs.Parse.{parse_document}
use Rattle.toml.proofs.OnLiterals.{toml_on_literals}
use Rattle.jg_policy.specs.declared.fault.SetupFault.{SetupFault}
use Rattle.jg_policy.specs.declared.fault.SetupFault.TheVariants.{NotToml, BadVersion, UnknownKey, Missing, BadType, BadMode, BadName, Duplicate, TooMany, NoMemory}
use Rattle.jg_policy.specs.BaseClasses.{base_names}
use Rattle.jg_policy.specs.Stated.{StatedSetup, setup_stated}
use Rattle.jg_policy.specs.Faults.{IsFirstFault, rank}
use Rattle.jg_policy.specs.Findings.{tree_faults, text_faults_of}
use Rattle.jg_policy.proofs.Texts.{nothing_first}
use Rattle.jg_program.specs.StatedBy.{base_setup}

-- the text
abbrev closed_text : List ℕ
closed_text = codes "version = 1\nillegal_native_access = \"deny\"\n"

abbrev closed_tree : Members
closed_tree = member (codes "illegal_native_access") (string (codes "deny")) (member (codes "version") (integer (pos 1)) no_members)

parsed : parse_document closed_text ≡ Some closed_tree
unfolding toml_on_literals
parsed = refl

pub closed_states : (r : Result StatedSetup SetupFault)
    → IfOk r (λ setup. (tree : Members) × (parse_document closed_text ≡ Some tree) × (tree_faults tree ≡ []) × (setup ≡ setup_stated tree))
    → IfOk r (λ setup. setup ≡ base_setup)
closed_states (Ok setup) (tree, is, clean, stated) = stated ∙ ap setup_stated (same_Some _ _ (sym is ∙ parsed))
closed_states (Err fault) told = tt

faultless : text_faults_of (Some closed_tree) ≡ []
unfolding base_names
faultless = refl

is_memory : SetupFault → Bool
is_memory fault = nat_eq (rank fault) 9

-- a fault is the want of memory, or another one
pub memory_or_not : (fault : SetupFault) → (fault ≡ NoMemory) ⊎ (fault ≢ NoMemory)
unfolding is_memory
memory_or_not NoMemory = inl refl
memory_or_not NotToml = inr (λ e. false≢true (ap is_memory e))
memory_or_not BadVersion = inr (λ e. false≢true (ap is_memory e))
memory_or_not UnknownKey = inr (λ e. false≢true (ap is_memory e))
memory_or_not Missing = inr (λ e. false≢true (ap is_memory e))
memory_or_not BadType = inr (λ e. false≢true (ap is_memory e))
memory_or_not BadMode = inr (λ e. false≢true (ap is_memory e))
memory_or_not BadName = inr (λ e. false≢true (ap is_memory e))
memory_or_not Duplicate = inr (λ e. false≢true (ap is_memory e))
memory_or_not TooMany = inr (λ e. false≢true (ap is_memory e))

-- where there is no fault to be found, only the want of memory is left
none_but_memory : (fault : SetupFault) → (fault ≡ NoMemory) ⊎ (fault ≢ NoMemory) → (fault ≢ NoMemory → IsFirstFault [] fault) → fault ≡ NoMemory
none_but_memory fault (inl memory) found = memory
none_but_memory fault (inr other) found = absurd (nothing_first fault (found other))

pub closed_is_faultless : (r : Result StatedSetup SetupFault)
    → IfErr r (λ fault. fault ≢ NoMemory → IsFirstFault (text_faults_of (parse_document closed_text)) fault)
    → IfErr r (λ fault. fault ≡ NoMemory)
closed_is_faultless (Ok setup) found = tt
closed_is_faultless (Err fault) found =
    none_but_memory fault (memory_or_not fault)
    (subst (λ (faults : List SetupFault). fault ≢ NoMemory → IsFirstFault faults fault) (ap text_faults_of parsed ∙ faultless) found)
