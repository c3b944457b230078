-- A ticket that is marked as told states what it stated before.
use Rattle.std.proofs.Common.{◌≡◌, ◌+◌, ◌-◌, ◌<◌, ℕ, true, false, not, nat_lt, arith, le-ltb, lt-ltb, ap}
use Rattle.jg_c.specs.Tickets.{unmarked}

over : (n : ℕ) → nat_lt (n + 32) 32 ≡ false
over n = le-ltb (n + 32) 32 (omega (arith))

pub marked_is_told : (n : ℕ) → not (nat_lt (n + 32) 32) ≡ true
marked_is_told n = ap not (over n)

-- the mark is taken off
pub mark_comes_off : (n : ℕ) → n < 32 → unmarked (n + 32) ≡ unmarked n
mark_comes_off n untold =
    let less : n + 32 - 32 ≡ n = omega (arith) in
    rw (over n) rw (lt-ltb n 32 untold) less
