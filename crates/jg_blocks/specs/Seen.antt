-- What contracts see of the blocks that the code keeps.
use Rattle.std.specs.Prelude.{◌≡◌, ℕ, ◌-◌, ◌*◌, ◌≤◌, ◌<◌, ◌^◌, min, List, [], ◌∷◌, ◌++◌, length, map, vec_capacity, refl}
use Rattle.std.specs.List.{AllByRecursion}
use Rattle.std.specs.Coded.{Coded, code_by, coded×, coded_list, coded_ℕ}
use Rattle.std.specs.declared.vec.Vec.{Vec}

-- the items, and for how many more there is room
pub record Kept (T : Type 0) : Type 0 where
  pub items : List T
  pub spare : ℕ

abbrev pub kept_code : {T : Type 0} → Coded T → Coded (Kept T)
kept_code {T} code =
    code_by (List T × ℕ) (coded× (coded_list code) coded_ℕ)
    (λ k. (k.items, k.spare)) (λ p. record { items = p.0; spare = p.1 }) (λ _. refl)

-- the items of the blocks, one block after the other
abbrev pub items_of : {T : Type 0} → List (List T) → List T
items_of [] = []
items_of (block ∷ blocks) = block ++ items_of blocks

-- how many more items the blocks take
abbrev pub room_of : {T : Type 0} → List T → ℕ → ℕ
room_of blocks count = length blocks * 1024 - count

-- the blocks hold this many items: each is full before the next one is begun
abbrev pub AreFilled : {T : Type 0} → List (List T) → ℕ → Type 0
AreFilled [] count = count ≡ 0
AreFilled (block ∷ blocks) count = (length block ≡ min count 1024) × AreFilled blocks (count - 1024)

-- the blocks that the code keeps, with this many items: each has its 1,024 places, and all can be counted
pub record AreBlocks {T A : Type 0} (blocks : List (Vec T A)) (count : ℕ) : Type 0 where
  pub filled : AreFilled (map (λ b. b.items) blocks) count
  pub placed : AllByRecursion (λ b. 1024 ≤ vec_capacity b) blocks
  pub countable : length blocks * 1024 < 2 ^ 64
