use Rattle.std.proofs.Common.{◌≡◌, length, List}
use Rattle.jg_advice.specs.Moments.{Moment}
use Rattle.jg_advice.specs.Standing.{Sees}
use Rattle.jg_advice.specs.Told.{LogStands}
use Rattle.jg_guard_advice.specs.Logged.{with_facts}
use Rattle.jg_rules.specs.Parts.{Parts}
use Rattle.jg_guard_advice.proofs.moments.tell_all.Given as goal

-- with those that are left all are told
abbrev pub invariant-loop-fact : goal.invariant-loop-fact
invariant-loop-fact g l = record {
  told : (h : List Moment) (p : Parts) → LogStands l.initial.log h → Sees l.initial.view p
      → (before : List Moment) × LogStands l.log before × (with_facts l.initial.line p l.rest before ≡ with_facts l.initial.line p l.initial.facts h);
  most : l.log.adviser.most ≡ l.initial.log.adviser.most;
  all : l.log.noting.all ≡ l.initial.log.noting.all;
}

abbrev pub decreases-loop-fact : goal.decreases-loop-fact
decreases-loop-fact g l = length l.rest
