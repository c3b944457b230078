use Rattle.std.proofs.Common.{◌≡◌, ◌++◌, flat_map, string_bytes, take}
use Rattle.jg_explain.specs.Texts.{watch_text}
use Rattle.jg_explain.proofs.texts.push_watches.Given as goal

-- the watches so far are told
abbrev pub invariant-loop-watch : goal.invariant-loop-watch
invariant-loop-watch g l =
    string_bytes l.out ≡ string_bytes l.initial.out ++ flat_map (watch_text l.guard.journal l.breach) (take l.watch-index l.watches)
