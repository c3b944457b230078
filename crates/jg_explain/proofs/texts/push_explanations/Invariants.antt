use Rattle.std.proofs.Common.{◌≡◌, ◌++◌, drop, flat_map, map, string_bytes, take, List}
use Rattle.jg_explain.specs.Explained.{Cause, all_known, denial_of}
use Rattle.jg_explain.specs.Texts.{cause_text}
use Rattle.jg_explain.proofs.texts.push_explanations.Given as goal

-- the denials so far are told, and the watches of the others are left
abbrev pub invariant-loop-i : goal.invariant-loop-i
invariant-loop-i g l =
    (told : List Cause) → l.denials ≡ map denial_of told → l.watches ≡ flat_map (all_known l.guard.setup l.guard.journal) told
    → (l.rest ≡ flat_map (all_known l.guard.setup l.guard.journal) (drop l.i told))
    × (string_bytes l.out ≡ string_bytes l.initial.out ++ flat_map (cause_text l.guard.setup l.guard.journal) (take l.i told))
