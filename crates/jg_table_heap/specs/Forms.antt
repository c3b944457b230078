-- The three forms of a spelling: of one byte, of two and of three.
use Rattle.std.specs.Prelude.{ℕ, ◌≡◌, ◌+◌, ◌*◌, ◌<◌, ◌≤◌, ◌^◌, ◌⊎◌, Option, Some}

-- one byte: 1 to 127
pub record One (u : ℕ) (x : Option ℕ) : Type 0 where
  pub above : 0 < u
  pub below : u < 128
  pub first : x ≡ Some u

-- two bytes: 0, and 128 to 2,047
pub record Two (u : ℕ) (x y : Option ℕ) : Type 0 where
  pub high : ℕ
  pub low : ℕ
  pub small : low < 64
  pub is : u ≡ high * 64 + low
  pub below : u < 2048
  pub other : (u ≡ 0) ⊎ (128 ≤ u)
  pub first : x ≡ Some (192 + high)
  pub second : y ≡ Some (128 + low)

-- three bytes: 2,048 to 65,535
pub record Three (u : ℕ) (x y z : Option ℕ) : Type 0 where
  pub high : ℕ
  pub middle : ℕ
  pub low : ℕ
  pub small : low < 64
  pub small_middle : middle < 64
  pub is : u ≡ high * 4096 + middle * 64 + low
  pub above : 2048 ≤ u
  pub below : u < 2 ^ 16
  pub first : x ≡ Some (224 + high)
  pub second : y ≡ Some (128 + middle)
  pub third : z ≡ Some (128 + low)
