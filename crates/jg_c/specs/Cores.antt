-- What contracts see of a core that a handle holds.
use Rattle.jg_judge.specs.declared.argument.Bounds.{Bounds}
use Rattle.jg_core.specs.Kernel.{CoreState}

-- the core, and the bounds by which it judges
pub record CoreHeld : Type 0 where
  pub core : CoreState
  pub bounds : Bounds
