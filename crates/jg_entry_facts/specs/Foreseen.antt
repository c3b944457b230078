-- What is read before a call, so that its facts can be told after it. A list of facts has the newest first.
use Rattle.std.specs.Prelude.{ℕ, ◌≡◌, List, [], ◌∷◌, ◌++◌, Option, option_to_list}
use Rattle.std.specs.Option.{option_map}
use Rattle.jg_words.specs.declared.thread.Tid.{Tid}
use Rattle.jg_words.specs.declared.object.ObjId.{ObjId}
use Rattle.jg_words.specs.declared.call.Call.{Call}
use Rattle.jg_words.specs.declared.call.Call.TheVariants.{Vm}
use Rattle.jg_words.specs.declared.call.vm.VmCall.{VmCall}
use Rattle.jg_words.specs.declared.call.vm.VmCall.TheVariants.{Collect}
use Rattle.jg_policy.specs.Stated.{StatedSetup}
use Rattle.jg_rules.specs.Parts.{Parts}
use Rattle.jg_rules.specs.NativeUse.{native_class, home_of}
use Rattle.jg_rules.specs.Holding.{going}
use Rattle.jg_core.specs.declared.fact.Fact.{Fact}
use Rattle.jg_core.specs.declared.fact.Fact.TheVariants.{Leave, Pop}
use Rattle.jg_entry_facts_laws.specs.Entries.{own_facts, pending_facts, gone_facts}
use Rattle.jg_entry_facts.specs.declared.own.Own.{Own}
use Rattle.jg_entry_facts.specs.declared.own.Own.TheVariants.{AtMost, Leaves, Pops, Collects}
use Rattle.jg_entry_facts.specs.declared.foreseen.Foreseen.{Foreseen}

-- the facts that the call of t is of its own, where these objects go, and the frame below is handed a reference to what
-- is kept
abbrev pub own_told : Own → List ℕ → Tid → Option ObjId → List Fact
own_told (AtMost fact) gone t kept = option_to_list fact
own_told (Leaves pending) gone t kept = pending_facts t (option_map (λ o. o.0) pending) ++ Leave t kept ∷ []
own_told Pops gone t kept = Pop t kept ∷ []
own_told Collects gone t kept = gone_facts gone

-- where the call is a collection, these objects go
abbrev pub vm_lets_go : StatedSetup → Parts → VmCall → List ℕ → Type 0
vm_lets_go s p Collect gone = gone ≡ going s p
vm_lets_go s p call gone = Unit {0}

abbrev pub LetsGo : StatedSetup → Parts → Call → List ℕ → Type 0
LetsGo s p (Vm call) gone = vm_lets_go s p call gone
LetsGo s p call gone = Unit {0}

-- the call is these facts of its own
abbrev pub DoesOwn : StatedSetup → Parts → Tid → Call → Own → Type 0
DoesOwn s p t call own = (gone : List ℕ) (kept : Option ObjId) → LetsGo s p call gone
    → own_told own gone t kept ≡ own_facts s p t kept call

-- what was read at p tells the facts of t's call: those of its own, and the module that a warning would name
pub record Foresees {A : Type 0} (s : StatedSetup) (p : Parts) (t : Tid) (call : Call) (seen : Foreseen A)
    : Type 0 where
  pub own : (kept : Option ObjId) → own_told seen.own seen.gone.items t kept ≡ own_facts s p t kept call
  pub home : seen.home ≡ home_of s (native_class s p t.0 call)
