use Rattle.std.proofs.Common.{◌≡◌, ◌≤◌, ◌*◌, length, drop, All, FitsSigned, w64}
use Rattle.jg_text.specs.Pieces.{after_commas}
use Rattle.jg_text.proofs.list.write_items.Given as goal

abbrev pub invariant-loop-left : goal.invariant-loop-left
invariant-loop-left l = record {
  within : l.left ≤ length l.items;
  place : l.start ≤ 256;
  room : l.left * 21 ≤ l.start;
  written : drop l.start l.buffer ≡ after_commas (drop l.left l.items);
  fits : All (λ z. FitsSigned w64 z) (drop l.left l.items);
}

abbrev pub decreases-loop-left : goal.decreases-loop-left
decreases-loop-left l = l.left
