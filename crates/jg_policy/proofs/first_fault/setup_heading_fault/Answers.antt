use Rattle.std.proofs.Common.{◌≡◌, ◌∙◌, ◌++◌, not, codes, ap}
use Rattle.std.proofs.Math.Bool.{not-not}
use Rattle.toml.specs.Data.{get_member}
use Rattle.toml.specs.View.{table_view}
use Rattle.jg_policy.specs.declared.fault.SetupFault.TheVariants.{UnknownKey}
use Rattle.jg_policy.specs.Faults.{first_of}
use Rattle.jg_policy.specs.Findings.{fault_if, has_unknown_setup_key, required, version_faults, mode_faults}
use Rattle.jg_policy.proofs.Firsts.{joined}
use Rattle.jg_policy.proofs.first_fault.setup_heading_fault.Goals as goal

pub returns : goal.returns
returns c =
    let ms = table_view c.args.table.now in
    let unknown : c.unknown_fault-unknown.result ≡ first_of (fault_if (has_unknown_setup_key ms) UnknownKey) =
    c.unknown_fault-unknown.ensures ∙ ap (λ b. first_of (fault_if b UnknownKey)) (ap not c.has_setup_keys.ensures ∙ not-not (has_unknown_setup_key ms)) in
    joined (fault_if (has_unknown_setup_key ms) UnknownKey)
    (required version_faults (get_member (codes "version") ms) ++ required mode_faults (get_member (codes "illegal_native_access") ms)) unknown
    (joined (required version_faults (get_member (codes "version") ms))
    (required mode_faults (get_member (codes "illegal_native_access") ms)) c.required_version-version.ensures c.required_mode-mode.ensures c.earlier.ensures)
    c.earlier-2.ensures
