-- A buffered reader that has taken nothing yet.
use Rattle.std.proofs.Common.{◌≡◌, ◌==◌, ℕ, List, [], Option, Some, None, if◌then◌else◌, refl, ap, ◌∙◌}
use Rattle.std.specs.Io.KnownBytes.{prepend_known}
use Rattle.std.specs.Io.Buffered.{reader_buffer, reader_capacity, reader_inner, reader_remaining}
use Rattle.std.specs.declared.io.buffered.BufReader.{BufReader}

nothing_before : (known : Option (List ℕ)) → prepend_known [] known ≡ known
nothing_before None = refl
nothing_before (Some bytes) = refl

-- has all of its file left
pub from_start : {F A : Type 0} (remaining : F → Option (List ℕ)) (r : BufReader F A) (file : F) → reader_capacity r ≡ 65536 → reader_buffer r ≡ []
    → reader_inner r ≡ file
    → reader_remaining remaining r ≡ remaining file
from_start remaining r file capacity empty inner =
    ap (λ (n : ℕ). if n == 0 then None else prepend_known (reader_buffer r) (remaining (reader_inner r))) capacity
    ∙ (ap (λ (bytes : List ℕ). prepend_known bytes (remaining (reader_inner r))) empty ∙ (nothing_before (remaining (reader_inner r)) ∙ ap remaining inner))
