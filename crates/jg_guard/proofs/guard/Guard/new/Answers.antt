use Rattle.std.proofs.Common.{rules, ◌≡◌, [], refl}
use Rattle.jg_guard.proofs.Most.{none_at_first}
use Rattle.jg_guard.proofs.Tallies.{none_yet}
use Rattle.jg_guard.proofs.guard.Guard.new.Goals as goal

-- the empty journal is legal, and empty tables stand for it
pub invariant_of-result : goal.invariant_of-result
invariant_of-result g c = (
  record {
    legal = search rules;
    small = search rules;
    bounded = search rules;
    tables = record {
      threads = search rules;
      locals = search rules;
      globals = search rules;
      buffers = (let none : c.new-journal.result.items ≡ [] = search rules in rw none c.new-buffers.ensures.stands);
      monitors = search rules;
      heap = record { stands = search rules; classes = search rules };
      links = search rules;
    };
  },
  (let none : c.new-journal.result.items ≡ [] = search rules in rw none (none_at_first c.args.setup _ refl)),
  (let none : c.new-journal.result.items ≡ [] = search rules in rw none none_yet),
)
