-- Tickets as C keeps them.
use Rattle.std.specs.Prelude.{ℕ, ◌-◌, ◌≡◌, Bool, true, not, Option, Some, None, if◌then◌else◌, nat_eq, nat_lt}
use Rattle.std.specs.Option.{option_map, option_and_then}
use Rattle.jg_table_buffers.specs.declared.family.Family.{Family}
use Rattle.jg_core.specs.declared.asking.Ticket.{Ticket}
use Rattle.jg_core.specs.declared.expected.Expected.{Expected}
use Rattle.jg_core.specs.declared.expected.Expected.TheVariants as expected
use Rattle.jg_c.specs.declared.fact.JgFact.{JgFact}
use Rattle.jg_c.specs.declared.ticket.JgTicket.{JgTicket}
use Rattle.jg_c.specs.Facts.{fact_of, family_of}
use Rattle.jg_c.specs.Values.{kind_of, object_of, reference_of, thread_of}

-- a buffer of this family is lent
abbrev pub lent : JgFact → Family → Option Expected
lent f family = option_and_then (λ o. option_map (λ via. expected.Lent family o via) (reference_of f.name)) (object_of f.object)

-- what comes of a call, by its number and what it is of
abbrev pub expected_of : ℕ → JgFact → Option Expected
expected_of n f =
    if nat_eq n 1 then Some (expected.Done None)
    else if nat_eq n 2 then option_map (λ fact. expected.Done (Some fact)) (fact_of f)
    else if nat_eq n 3 then Some expected.Undone
    else if nat_eq n 4 then Some (expected.Quiet None)
    else if nat_eq n 5 then option_map (λ fact. expected.Quiet (Some fact)) (fact_of f)
    else if nat_eq n 6 then Some (expected.Attached None)
    else if nat_eq n 7 then option_map (λ fact. expected.Attached (Some fact)) (fact_of f)
    else if nat_eq n 8 then option_map (λ kind. expected.Handed kind) (kind_of f.first)
    else if nat_eq n 9 then option_and_then (lent f) (family_of f.first)
    else if nat_eq n 10 then Some expected.Left
    else if nat_eq n 11 then Some expected.Popped
    else if nat_eq n 12 then Some expected.Never
    else if nat_eq n 13 then Some expected.Nothing
    else if nat_eq n 14 then Some expected.Thrown
    else if nat_eq n 15 then Some (expected.IfEnded None)
    else if nat_eq n 16 then option_map (λ fact. expected.IfEnded (Some fact)) (fact_of f)
    else None

-- by so much greater is the number of what comes of a call that was told already
abbrev pub told_mark : ℕ
told_mark = 32

-- what came of its call was told already
abbrev pub is_told : JgTicket → Bool
is_told t = not (nat_lt t.expected told_mark)

abbrev pub unmarked : ℕ → ℕ
unmarked n = if nat_lt n told_mark then n else n - told_mark

-- the ticket that the numbers state, if they state one, whether its call was told or not
abbrev pub ticket_of : JgTicket → Option Ticket
ticket_of t =
    option_and_then (λ tid. option_map (λ e. record { tid = tid; expected = e }) (expected_of (unmarked t.expected) t.fact))
    (thread_of t.thread)

-- the same, of a call that wasn't told yet
abbrev pub untold_ticket_of : JgTicket → Option Ticket
untold_ticket_of t = if is_told t then None else ticket_of t

-- the ticket states what it did, and is of a call that was told
abbrev pub IsMarked : JgTicket → JgTicket → Type 0
IsMarked old new = (is_told new ≡ true) × (ticket_of new ≡ ticket_of old)
