use Rattle.std.proofs.Common.{◌≡◌, ◌≤◌, false, nat_lt}
use Rattle.std.specs.Prelude.{◌==◌, ◌&&◌, if◌then◌else◌}
use Rattle.std.specs.HashSet.{spare}
use Rattle.std.specs.List.{list_any}
use Rattle.jg_policy.specs.declared.links.Link.{Link}
use Rattle.jg_policy.specs.LinkKept.{same_link}
use Rattle.jg_policy.proofs.links.drop_class.Given as goal

-- the class's links below the number are gone, and the others stay
abbrev pub invariant-loop-native : goal.invariant-loop-native
invariant-loop-native g l = record {
  dropped : (q : Link) → list_any (same_link q) l.linked.keys
      ≡ (if l.class == q.class && nat_lt q.native l.native then false else list_any (same_link q) l.initial.linked.keys);
  room : spare l.initial.linked ≤ spare l.linked;
}
