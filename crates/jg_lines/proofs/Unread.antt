-- What a read of a device over memory takes from its bytes.
use Rattle.std.proofs.Common.{◌≡◌, ℕ, ◌≤◌, ◌+◌, List, ◌++◌, length, take, drop, ◌∙◌, ap, sym, arith}
use Rattle.std.proofs.lemmas.List.{take-append-drop, drop-drop, take_at, length-take-le, length-drop}

-- what was given is what stood in front of the rest
pub gives_front : (bytes buf given : List ℕ) (read n : ℕ) → given ≡ take n (drop read bytes) → read + n ≤ length bytes
    → drop read bytes ≡ take n (given ++ drop n buf) ++ drop (read + n) bytes
gives_front bytes buf given read n is within =
    let left = length-drop read bytes in
    let long : length given ≡ n = ap length is ∙ length-take-le n (drop read bytes) (omega (arith, left, within)) in
    sym (ap (λ front. front ++ drop (read + n) bytes) (take_at given (drop n buf) n long ∙ is)
    ∙ (ap (λ rest. take n (drop read bytes) ++ rest) (sym (drop-drop n read bytes))
    ∙ take-append-drop n (drop read bytes)))
