use Rattle.std.specs.HashMap.{get_by}
use Rattle.std.specs.Str.{bytes_eq}
use Rattle.jg_policy.specs.Settling.{setup_view}
use Rattle.jg_policy.proofs.Settling.{IsSettling}
use Rattle.jg_policy.proofs.setup.settling.settle_classes.Given as goal

abbrev pub invariant-loop-class : goal.invariant-loop-class
invariant-loop-class l =
    IsSettling (setup_view l.mode l.grants l.classes.entries) l.settled.items (λ name. get_by (λ k. bytes_eq name k.now) l.numbers) l.class-iterator
