use Rattle.std.proofs.Common.{rules, ◌≡◌, ◌↔◌, sym, ap, ◌∙◌}
use Rattle.std.specs.Prelude.{IsTrue}
use Rattle.jg_shell.specs.Receipts.{Told}
use Rattle.jg_shell.proofs.Equal.{call_same}
use Rattle.jg_shell.proofs.Settled.{tid_same}
use Rattle.jg_shell.proofs.compare.is_entry_of.Goals as goal
use Rattle.jg_shell.proofs.compare.is_entry_of.Goals.{then-eq, else-eq, then-eq-2, else-eq-2}

-- the outcomes are compared last, where all else is equal
pub returns-then-eq-3 : goal.returns-then-eq-3
returns-then-eq-3 c =
    let x = c.args.entry.now in
    let r = c.args.receipt.now in
    elim c.if-eq-2.branch [
      | then-eq-2 w ↦ (
          let call = sym w.call.ensures ∙ (call_same w.call.result.now r.call).0 (sym w.eq-then-eq-2.ensures ∙ (sym w.value-is ∙ c.if-eq-3.true)) in
          elim c.if-eq.branch [
            | then-eq v ↦ (
                let tid = sym c.tid.ensures ∙ tid_same c.tid.result r.tid (sym c.eq.ensures ∙ v.if-eq.true) in
                let envs : IsTrue v.eq-then-eq.result ↔ (x.env ≡ r.env) = search rules in
                let env = envs.0 (sym v.value-is ∙ w.if-eq-2.true) in (
                  λ is. let outcome = c.ended_so.ensures.0 is in cc,
                  λ same. c.ended_so.ensures.1 (ap (λ (t : Told). t.outcome) same),
                ))
            | else-eq v ↦ absurd (cc (v.value-is, v.if-eq.false, w.if-eq-2.true))
          ])
      | else-eq-2 w ↦ absurd (cc (w.value-is, w.if-eq-2.false, c.if-eq-3.true))
    ]
