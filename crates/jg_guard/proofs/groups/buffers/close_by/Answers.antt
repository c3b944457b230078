use Rattle.std.proofs.Common.{rules, ◌≡◌, false}
use Rattle.jg_rules.specs.Buffers.{is_commit}
use Rattle.jg_guard.proofs.groups.buffers.close_by.Goals as goal

pub returns-then-not-is_commit-clause-stands : goal.returns-then-not-is_commit-clause-stands
returns-then-not-is_commit-clause-stands g c = λ s p stands.
    let told : is_commit c.args.mode ≡ false = search rules in
    rw told (c.close.ensures.stands s p stands)
