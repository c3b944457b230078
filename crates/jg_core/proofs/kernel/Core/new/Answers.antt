use Rattle.std.proofs.Common.{rules, [], refl, arith}
use Rattle.jg_core.proofs.kernel.Core.new.Goals as goal

pub invariant_of-result : goal.invariant_of-result
invariant_of-result g c = record {
  told = [];
  stands = record {
    history = tt;
    counted = refl;
    tables = record {
      threads = search rules;
      locals = search rules;
      globals = search rules;
      buffers = search rules;
      monitors = search rules;
      heap = record { stands = search rules; classes = search rules };
      links = search rules;
    };
  };
  few = omega arith;
  unmarked = search rules;
}

pub returns-clause-stands : goal.returns-clause-stands
returns-clause-stands g c = record {
  history = tt;
  counted = refl;
  tables = record {
    threads = search rules;
    locals = search rules;
    globals = search rules;
    buffers = search rules;
    monitors = search rules;
    heap = record { stands = search rules; classes = search rules };
    links = search rules;
  };
}
