-- A line is cut behind its call.
use Rattle.std.proofs.Common.{◌≡◌, ◌+◌, ℕ, List, ◌++◌, length, drop, codes, ◌∙◌, ap}
use Rattle.std.proofs.Math.Seq.{drop-append-add}

-- what stands behind a front and ` = `
pub behind : (line front more back : List ℕ) → line ≡ front ++ (codes " = " ++ more) → back ≡ drop (length front + 3) line → back ≡ more
behind line front more back is cut = cut ∙ ap (λ (bs : List ℕ). drop (length front + 3) bs) is ∙ drop-append-add front (codes " = " ++ more) 3
