-- What contracts see of a witness that a handle holds.
use Rattle.std.specs.Prelude.{◌≡◌}
use Rattle.jg_judge.specs.declared.argument.Bounds.{Bounds}
use Rattle.jg_witness.specs.Standing.{WitnessState}
use Rattle.jg_c.specs.Cores.{CoreHeld}

-- the witness, and the bounds by which it judges
pub record WitnessHeld : Type 0 where
  pub witness : WitnessState
  pub bounds : Bounds

-- its core, with them
abbrev pub core_in : WitnessHeld → CoreHeld
core_in a = record { core = a.witness.core; bounds = a.bounds }

-- it judges by what it judged by
pub record JudgesAsBefore (old new : WitnessHeld) : Type 0 where
  pub bounds : new.bounds ≡ old.bounds
  pub setup : new.witness.core.setup ≡ old.witness.core.setup
