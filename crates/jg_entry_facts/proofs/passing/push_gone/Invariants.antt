use Rattle.std.proofs.Common.{◌≡◌, ◌++◌, map, take}
use Rattle.jg_core.specs.declared.fact.Fact.TheVariants.{Gone}
use Rattle.jg_entry_facts.proofs.passing.push_gone.Given as goal

abbrev pub invariant-loop-object : goal.invariant-loop-object
invariant-loop-object l = l.out.items ≡ l.fn.out.items ++ map (λ o. Gone (record { 0 = o })) (take l.object-index l.gone)
