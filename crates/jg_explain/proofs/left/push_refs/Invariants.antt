use Rattle.std.proofs.Common.{◌≡◌, ◌++◌, map, take}
use Rattle.jg_explain.specs.declared.left.Left.TheVariants.{Reference}
use Rattle.jg_explain.proofs.left.push_refs.Given as goal

-- the references so far are in the list
abbrev pub invariant-loop-reference : goal.invariant-loop-reference
invariant-loop-reference l = l.all.items ≡ l.initial.all.items ++ map Reference (take l.reference-index l.refs)
