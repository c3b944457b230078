-- What a collection finds before it changes anything.
use Rattle.std.specs.Prelude.{◌≡◌}
use Rattle.jg_words.specs.declared.call.Call.{Call}
use Rattle.jg_words.specs.declared.call.Call.TheVariants.{Vm}
use Rattle.jg_words.specs.declared.call.vm.VmCall.TheVariants.{Collect}
use Rattle.jg_policy.specs.Stated.{StatedSetup, class_count}
use Rattle.jg_table_heap.specs.Rows.{Rows}
use Rattle.jg_table_heap.specs.Standing.{AreListed, MarksHeld}
use Rattle.jg_rules.specs.Parts.{Parts}
use Rattle.jg_rules.specs.Holding.{roots, going}
use Rattle.jg_guard.specs.declared.collect.Findings.{Findings}

-- the marks are those of what something holds, and the others in being are listed
pub record AreFound {A : Type 0} (setup : StatedSetup) (p : Parts) (findings : Findings A) : Type 0 where
  pub marks : MarksHeld (class_count setup) (roots setup p) p.heap findings.marks
  pub unheld : findings.unheld.items ≡ going setup p

-- a collection has found what is held; no other call has to
abbrev pub Finds : {A : Type 0} → StatedSetup → Parts → Call → Findings A → Type 0
Finds setup p (Vm Collect) findings = AreFound setup p findings
Finds setup p call findings = Unit {0}

-- what a collection found is listed as the store stands
abbrev pub IsReady : {A : Type 0} → Rows → Call → Findings A → Type 0
IsReady rows (Vm Collect) findings = AreListed rows findings.marks findings.unheld.items
IsReady rows call findings = Unit {0}
