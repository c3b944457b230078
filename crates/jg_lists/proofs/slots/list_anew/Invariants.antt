use Rattle.std.proofs.Common.{◌≡◌, ℕ, ◌<◌, ◌≤◌, ◌+◌, length, get_or}
use Rattle.std.specs.Prelude.{map}
use Rattle.jg_lists.specs.ByNumber.{number_of}
use Rattle.jg_lists.specs.Searches.{home, Reaches, filled}
use Rattle.jg_lists.proofs.slots.list_anew.Given as goal

-- the numbers of the seats so far are found
abbrev pub invariant-loop-seat : goal.invariant-loop-seat
invariant-loop-seat g l = record {
  found : (i : ℕ) → i < l.seat → i < length (map number_of l.seats.items)
      → Reaches l.slots.items (home (length l.slots.items) (get_or (map number_of l.seats.items) i 0)) (i + 1);
  counted : filled l.slots.items ≤ l.seat;
  many : length l.slots.items ≡ length l.initial.slots.items;
}
