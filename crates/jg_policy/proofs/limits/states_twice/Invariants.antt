use Rattle.std.proofs.Common.{◌≡◌, ℕ, List, take, false}
use Rattle.std.specs.BTreeSet.{contains}
use Rattle.std.specs.List.{list_any}
use Rattle.std.specs.Str.{bytes_eq}
use Rattle.toml.specs.View.{items_view}
use Rattle.jg_policy.specs.Stated.{class_stated, each_item}
use Rattle.jg_policy.specs.Findings.{states_twice}
use Rattle.jg_policy.proofs.Repeats.{names}
use Rattle.jg_policy.proofs.Seen.{text, text_order}
use Rattle.jg_policy.proofs.limits.states_twice.Given as goal

abbrev pub invariant-loop-class : goal.invariant-loop-class
invariant-loop-class l =
    record {
      seen : (name : List ℕ) → contains text_order l.seen (text name)
          ≡ list_any (bytes_eq name) (names (each_item class_stated (items_view (take l.class-index l.classes))));
      once : states_twice (each_item class_stated (items_view (take l.class-index l.classes))) ≡ false;
    }
