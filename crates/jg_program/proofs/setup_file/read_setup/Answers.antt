use Rattle.std.proofs.Common.{subst, sym, List, ℕ, ◌≢◌}
use Rattle.toml.specs.Parse.{parse_document}
use Rattle.jg_policy.specs.declared.fault.SetupFault.TheVariants.{NoMemory}
use Rattle.jg_policy.specs.Faults.{IsFirstFault}
use Rattle.jg_policy.specs.Findings.{text_faults_of}
use Rattle.jg_program.specs.StatedBy.{Gives}
use Rattle.jg_program.proofs.Reading.{faulted}
use Rattle.jg_program.proofs.Refusals.{refused_for}
use Rattle.jg_program.proofs.setup_file.read_setup.Goals as goal

pub returns-clause-refused : goal.returns-clause-refused
returns-clause-refused g c =
    let known = g.F.Read.remaining c.args.file.now in
    let fault = c.in-Err-read.fault in
    let first = subst (λ (bytes : List ℕ). fault ≢ NoMemory → IsFirstFault (text_faults_of (parse_document bytes)) fault) c.as_str.ensures.value
    c.in-Err-read.ensures.refused in
    let gives = subst (λ (bytes : List ℕ). Gives known bytes) (sym c.as_bytes.ensures.value) c.in-Ok.ensures.bytes in
    let refused = faulted _ _ _ fault c.in-Ok.ensures.bytes c.in-Ok.ensures.told c.in-Ok.ensures.short first in
    refused_for c.args.explained known c.args.told c.as_bytes.result.now fault c.end_faulty.result refused gives c.end_faulty.ensures
