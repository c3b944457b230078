use Rattle.std.proofs.Common.{◌≡◌, take}
use Rattle.toml.specs.View.{items_view}
use Rattle.jg_policy.specs.Faults.{first_of}
use Rattle.jg_policy.specs.Findings.{each_of, grant_faults}
use Rattle.jg_policy.proofs.first_fault.grants.grants_fault.Given as goal

abbrev pub invariant-loop-value : goal.invariant-loop-value
invariant-loop-value l = l.first ≡ first_of (each_of grant_faults (items_view (take l.value-index l.values)))
