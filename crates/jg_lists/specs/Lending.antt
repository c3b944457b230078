-- What values by number end as, where a `&mut` to one of them is returned.
use Rattle.std.specs.Prelude.{ℕ, ◌≡◌, ◌==◌, if◌then◌else◌, List, Option, Some, IsSome}
use Rattle.std.specs.Map.{set_value}
use Rattle.std.specs.BTreeMap.{is_at}
use Rattle.std.specs.Ordering.{nat_cmp}
use Rattle.std.specs.Borrow.{Lends, LendsSo, Fml, RattleType, MutBor}
use Rattle.std.specs.declared.alloc.Allocator.{Ghosts}
use Rattle.jg_lists.specs.ByThread.{at, IsOnce}
use Rattle.jg_lists.specs.contracts.by_number.ByNumber.{the_row}
use Rattle.jg_lists.specs.contracts.by_place.ByPlace.{the_row as place_row}
use Rattle.jg_lists.specs.contracts.by_thread.ByThread.{the_row as thread_row}
use Rattle.jg_lists.specs.contracts.by_maker.ByMaker.{the_row as maker_row}

-- the number, if it has a value, has w in its place, and each other one has what it had
pub record WritesThrough {V : Type 0} (t : ℕ) (old : List (ℕ × V)) (w : V) (new : List (ℕ × V)) : Type 0 where
  pub entries : new ≡ set_value (is_at (nat_cmp t)) old w
  pub values : IsSome (at t old) → (q : ℕ) → at q new ≡ (if t == q then Some w else at q old)
  pub once : IsOnce new

module _ (V A : RattleType) (alloc : Ghosts A.Denot) (s : MutBor (List (ℕ × V.Denot))) (t : ℕ) where
  -- once the borrow r ends, the number has the last value written through r
  abbrev pub lends_value : MutBor V.Denot → Fml
  lends_value r = Lends (the_row V A alloc) V s r (set_value (is_at (nat_cmp t)) s.now)

  -- the same where r is a reference, and at `None` all is as it was
  abbrev pub lends_get : Option (MutBor V.Denot) → Fml
  lends_get r = LendsSo (the_row V A alloc) V s r (λ new w. WritesThrough t s.now w new) (λ new. new ≡ s.now)

  -- the same of a table by place
  abbrev pub lends_value_by_place : MutBor V.Denot → Fml
  lends_value_by_place r = Lends (place_row V A alloc) V s r (set_value (is_at (nat_cmp t)) s.now)

  abbrev pub lends_get_by_place : Option (MutBor V.Denot) → Fml
  lends_get_by_place r = LendsSo (place_row V A alloc) V s r (λ new w. WritesThrough t s.now w new) (λ new. new ≡ s.now)

  -- the same of a thread's value
  abbrev pub lends_get_by_thread : Option (MutBor V.Denot) → Fml
  lends_get_by_thread r =
      LendsSo (thread_row V A alloc) V s r (λ new w. WritesThrough t s.now w new) (λ new. new ≡ s.now)

-- the same of a maker's table
abbrev pub lends_get_by_maker : (V A : RattleType) (alloc : Ghosts A.Denot)
    (s : MutBor (List (ℕ × List (ℕ × V.Denot)))) (t : ℕ) → Option (MutBor (List (ℕ × V.Denot))) → Fml
lends_get_by_maker V A alloc s t r =
    LendsSo (maker_row V A alloc) (the_row V A alloc) s r (λ new w. WritesThrough t s.now w new) (λ new. new ≡ s.now)
