-- A name is text.
use Rattle.std.proofs.Common.{ℕ, ◌<◌, ◌≤◌, List, arith}
use Rattle.std.specs.Str.{IsUtf8}
use Rattle.std.proofs.lemmas.List.Elements.{All-weaker}
use Rattle.std.proofs.lemmas.Str.{IsUtf8-from_ascii}
use Rattle.std.proofs.lemmas.Str.Ascii.{IsAscii-from_all}
use Rattle.jg_words.specs.Name.{IsName}

pub name_is_text : (bytes : List ℕ) → IsName bytes → IsUtf8 bytes
name_is_text bytes (long, short, printable) =
    IsUtf8-from_ascii bytes (IsAscii-from_all bytes (All-weaker (λ b. (33 ≤ b) × (b ≤ 126)) (λ b. b < 128) (λ b fits. omega (arith, fits.1)) bytes printable))
