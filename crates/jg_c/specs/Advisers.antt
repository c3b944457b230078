-- What contracts see of an adviser that a handle holds.
use Rattle.std.specs.Prelude.{Bool, List}
use Rattle.jg_advice.specs.declared.advice.Advice.{Advice}
use Rattle.jg_advice.specs.Standing.{AdviserState}

-- the adviser, and what it advised that nobody took yet, the oldest first
pub record NotedHeld : Type 0 where
  pub adviser : AdviserState
  pub waiting : List Advice

-- that, and whether memory ran out for it
pub record AdviserHeld : Type 0 where
  pub noted : NotedHeld
  pub lost : Bool
