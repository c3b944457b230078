use Rattle.std.proofs.Common.{◌≡◌, ℕ, List, take, false}
use Rattle.std.specs.BTreeSet.{contains}
use Rattle.std.specs.List.{list_any}
use Rattle.toml.specs.View.{items_view}
use Rattle.jg_policy.specs.Stated.{member_stated, each_item}
use Rattle.jg_policy.specs.Findings.{has_repeat, same_member}
use Rattle.jg_policy.proofs.Seen.{text, pair_order}
use Rattle.jg_policy.proofs.limits.repeats_one.Given as goal

abbrev pub invariant-loop-member : goal.invariant-loop-member
invariant-loop-member l =
    record {
      seen : (name signature : List ℕ) → contains pair_order l.seen (text name, text signature)
          ≡ list_any (same_member (record { name = name; signature = signature })) (each_item member_stated (items_view (take l.member-index l.members)));
      once : has_repeat same_member (each_item member_stated (items_view (take l.member-index l.members))) ≡ false;
    }
