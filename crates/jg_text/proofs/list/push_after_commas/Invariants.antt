use Rattle.std.proofs.Common.{◌≡◌, ◌++◌, length, string_bytes, All, FitsSigned, w64}
use Rattle.jg_text.specs.Pieces.{after_commas}
use Rattle.jg_text.proofs.list.push_after_commas.Given as goal

abbrev pub invariant-loop-rest : goal.invariant-loop-rest
invariant-loop-rest l = record {
  written : string_bytes l.out ++ after_commas l.rest ≡ string_bytes l.fn.out ++ after_commas l.items;
  fits : All (λ z. FitsSigned w64 z) l.rest → All (λ z. FitsSigned w64 z) l.items;
}

abbrev pub decreases-loop-rest : goal.decreases-loop-rest
decreases-loop-rest l = length l.rest
