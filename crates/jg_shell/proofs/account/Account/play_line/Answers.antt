use Rattle.std.proofs.Common.{◌≡◌, ◌⊎◌, true, false, inl, inr, sym, arith, rules}
use Rattle.jg_shell.specs.Busy.{is_monitor_enter}
use Rattle.jg_shell.proofs.Turns.{IsTurn-more, IsGroup-last}
use Rattle.jg_shell.proofs.account.Account.play_line.Goals as goal
use Rattle.jg_shell.proofs.account.Account.play_line.Goals.{then-not-may_retry-via-then-not-may_retry, then-not-may_retry-via-else-not-may_retry+then-not-busy, then-not-may_retry-via-else-not-may_retry+else-not-busy+then-turn-turns}

pub returns-then-not-may_retry-clause-ok : goal.returns-then-not-may_retry-clause-ok
returns-then-not-may_retry-clause-ok g c =
    let ends : is_monitor_enter c.args.line.now.call ≡ true → (c.in_ok-busy.busy ≡ false) ⊎ (c.loop-busy.turn ≡ c.args.turns) =
    λ enter. elim c.then-not-may_retry.branch [
      | then-not-may_retry-via-then-not-may_retry w ↦ absurd (cc (enter, c.is_monitor_enter-may_retry.ensures, w.if-not-may_retry.true))
      | then-not-may_retry-via-else-not-may_retry+then-not-busy w ↦ inl (search rules)
      | then-not-may_retry-via-else-not-may_retry+else-not-busy+then-turn-turns w ↦ inr (search rules)
    ] in
    IsGroup-last _ _ _ _ _ _ c.in_ok-busy.busy c.loop-busy.invariant c.in_ok-busy.ensures.ok ends

pub loop-busy-preserved : goal.loop-busy-preserved
loop-busy-preserved g c =
    IsTurn-more c.loop-busy.turn c.args.turns c.args.line.now c.args.self.now c.loop-busy.self c.make.new.self c.in_ok-busy.busy
    c.loop-busy.invariant c.in_ok-busy.ensures.ok c.if-not-busy.false (sym c.if-not-may_retry.ensures) (omega (arith, c.loop-busy.invariant.left))
