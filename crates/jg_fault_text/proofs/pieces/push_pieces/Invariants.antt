use Rattle.std.proofs.Common.{◌≡◌, ◌++◌, flat_map, string_bytes, take}
use Rattle.jg_fault_text.specs.Lines.{piece_text}
use Rattle.jg_fault_text.proofs.pieces.push_pieces.Given as goal

-- the pieces so far are written
abbrev pub invariant-loop-piece : goal.invariant-loop-piece
invariant-loop-piece l = string_bytes l.out ≡ string_bytes l.initial.out ++ flat_map piece_text (take l.piece-index l.pieces)
