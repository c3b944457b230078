use Rattle.std.proofs.Common.{ℕ, subst}
use Rattle.jg_words.specs.declared.call.Call.TheVariants.{Vm}
use Rattle.jg_words.specs.declared.call.vm.VmCall.TheVariants.{Collect}
use Rattle.jg_table_heap.specs.Standing.{MarksHeld}
use Rattle.jg_rules.specs.Holding.{roots}
use Rattle.jg_guard.specs.Findings.{Finds}
use Rattle.jg_guard.proofs.collect.find_held_for.Goals as goal

pub returns-in_ok-find_held-in-Collect-clause-found : goal.returns-in_ok-find_held-in-Collect-clause-found
returns-in_ok-find_held-in-Collect-clause-found g c = λ p stands.
    let held = c.find_held.new.findings in
    let found : Finds c.args.view.now.setup.now p (Vm Collect) held =
    record {
      marks = subst (λ (k : ℕ). MarksHeld k (roots c.args.view.now.setup.now p) p.heap held.marks) stands.heap.classes
          (c.in_ok-find_held-in-Collect.ensures.marks p stands);
      unheld = c.in_ok-find_held-in-Collect.ensures.unheld p stands;
    } in
    rw (c.in-Vm.is, c.in-Collect.is) found
