use Rattle.std.proofs.Common.{ℕ, ap}
use Rattle.std.specs.Option.{option_map, option_and_then}
use Rattle.jg_c.specs.Tickets.{expected_of}
use Rattle.jg_c.specs.Values.{thread_of}
use Rattle.jg_c.proofs.Marking.{marked_is_told, mark_comes_off}
use Rattle.jg_c.proofs.ticket.mark_told.Goals as goal

pub returns-then-ticket-lt-TOLD : goal.returns-then-ticket-lt-TOLD
returns-then-ticket-lt-TOLD c = (
  marked_is_told c.args.ticket.now.expected,
  ap (λ (n : ℕ). option_and_then (λ tid. option_map (λ e. record { tid = tid; expected = e }) (expected_of n c.args.ticket.now.fact))
      (thread_of c.args.ticket.now.thread))
      (mark_comes_off c.args.ticket.now.expected c.if-ticket-lt-TOLD.true),
)
