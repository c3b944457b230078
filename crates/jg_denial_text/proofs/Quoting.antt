-- An input that is told whole.
use Rattle.std.proofs.Common.{rules, arith, ◌≡◌, ◌≤◌, ℕ, List, length, flat_map, nat_lt, false, append-nil}
use Rattle.std.proofs.lemmas.List.{take_all}
use Rattle.jg_denial_text.specs.Words.{quoted, escaped}

pub quoted_whole : (bytes : List ℕ) → length bytes ≤ 60 → quoted bytes ≡ flat_map escaped bytes
quoted_whole bytes short =
    let none : nat_lt 60 (length bytes) ≡ false = search (rules, arith) in
    rw (none, take_all 60 bytes short) (append-nil (flat_map escaped bytes))
