-- What contracts see of readers and writers.
use Rattle.std.specs.Prelude.{ℕ, Bool, List}

-- the device itself, and whether it has failed
pub record Seen (D : Type 0) : Type 0 where
  pub device : D
  pub failed : Bool

-- a device that passes so many more calls, of at most so many bytes each: all bytes that it holds,
-- and those that weren't read
pub record Passing : Type 0 where
  pub bytes : List ℕ
  pub unread : List ℕ
  pub passes : ℕ
  pub most : ℕ
