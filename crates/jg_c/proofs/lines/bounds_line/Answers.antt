use Rattle.std.proofs.Common.{rules, ◌≡◌, ◌≢◌, [], subst, to_z, of_z, w64}
use Rattle.jg_record.specs.declared.event.Event.TheVariants.{Bounds as BoundsOf}
use Rattle.jg_c.specs.Cores.{CoreHeld}
use Rattle.jg_c.specs.Errors as errors
use Rattle.jg_c.specs.Lines.{IsLine}
use Rattle.jg_c.proofs.lines.bounds_line.Goals as goal

pub returns-clause-is : goal.returns-clause-is
returns-clause-is c =
    let plain : to_z w64 (of_z w64 c.write_bounds.result) ≡ c.write_bounds.result = search rules in
    rw plain (subst (λ (a : CoreHeld). c.write_bounds.result ≢ errors.no_memory
    → IsLine a.core.setup (record { 0 = 0 }) (BoundsOf a.bounds) [] [] c.args.line.now c.write_bounds.new.line c.write_bounds.result)
    c.asked.view_is (rw c.setup-setup.ensures at c.write_bounds.ensures.is))
