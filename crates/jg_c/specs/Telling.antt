-- What a core is told by numbers.
use Rattle.std.specs.Prelude.{ℕ, ℤ, pos, ◌≡◌, ◌⊎◌, Bool, true, false, List, Option, Some, None, map, slice_index_or}
use Rattle.jg_words.specs.declared.object.ObjId.{ObjId}
use Rattle.jg_core.specs.declared.fact.Fact.{Fact}
use Rattle.jg_core.specs.declared.asking.Ticket.{Ticket}
use Rattle.jg_core.specs.declared.expected.Expected.{Expected}
use Rattle.jg_core.specs.declared.expected.Expected.TheVariants.{Done, Quiet, Nothing, Thrown, IfEnded}
use Rattle.jg_core.specs.declared.kernel.Untold.{Untold}
use Rattle.jg_core.specs.declared.gone.Holder.{Holder}
use Rattle.jg_core.specs.declared.says.Given.{Given}
use Rattle.jg_core.specs.declared.says.Given.TheVariants.{Nothing as NothingGiven}
use Rattle.jg_core.specs.declared.says.Says.{Says}
use Rattle.jg_core.specs.declared.says.Says.TheVariants.{Threw}
use Rattle.jg_policy.specs.Stated.{StatedSetup}
use Rattle.jg_rows.specs.declared.row.ObjectKind.TheVariants.{ThrowableObject}
use Rattle.jg_judge.specs.Kinds.{is_kind}
use Rattle.jg_rules.specs.Parts.{Parts}
use Rattle.jg_core.specs.Asking.{Returned, RefusesReturn, given_for}
use Rattle.jg_core.specs.Expected.{told}
use Rattle.jg_core.specs.Facts.{first_held, parts_of}
use Rattle.jg_core.specs.Kernel.{CoreStands, Keeps, Refuses, Took, TookAll}
use Rattle.jg_c.specs.declared.value.JgValue.{JgValue}
use Rattle.jg_c.specs.Cores.{CoreHeld}
use Rattle.jg_c.specs.declared.fact.JgFact.{JgFact}
use Rattle.jg_c.specs.declared.held.JgHeld.{JgHeld}
use Rattle.jg_c.specs.Errors as errors
use Rattle.jg_c.specs.Facts.{fact_of, number_of_thread}
use Rattle.jg_c.specs.Given.{of_given}
use Rattle.jg_c.specs.Holders.{holder_of}
use Rattle.jg_core.specs.Implied.{given_by}

-- ---- a fact

-- the fact was taken, and that is the name of what it handed out
pub record TakesFact (old new : CoreHeld) (fact : Fact) (given : JgValue) : Type 0 where
  pub took : Took old.core new.core fact
  pub name : (w : List Fact) → CoreStands old.core w → given ≡ of_given (given_by old.core.setup (parts_of w) fact)

abbrev pub TellsFact : CoreHeld → CoreHeld → Fact → JgValue → ℤ → Type 0
TellsFact old new fact given n =
    ((n ≡ errors.done) × TakesFact old new fact given)
    ⊎ ((why : Untold) × (n ≡ errors.of_untold why) × Refuses old.core fact why)

-- numbers that state no fact are refused
abbrev pub Tells : CoreHeld → CoreHeld → Option Fact → JgValue → ℤ → Type 0
Tells old new None given n = n ≡ errors.bad_fact
Tells old new (Some fact) given n = TellsFact old new fact given n

-- ---- a call that returned

-- a machine may say so: what it threw can be thrown
abbrev pub can_say : StatedSetup → Parts → Says → Bool
can_say s p (Threw o) = is_kind s p ThrowableObject o.0
can_say s p says = true

abbrev pub CanSay : CoreHeld → Says → Bool → Type 0
CanSay a says b = (w : List Fact) → CoreStands a.core w → can_say a.core.setup (parts_of w) says ≡ b

-- what it implies was taken, or refused; or the machine can't say so
abbrev pub Returns : CoreHeld → CoreHeld → Ticket → Says → JgValue → ℤ → Type 0
Returns old new ticket says given n =
    ((n ≡ errors.done) × CanSay old says true
    × ((out : Given) × Returned old.core new.core ticket says out × (given ≡ of_given out)))
    ⊎ ((why : Untold) × (n ≡ errors.of_untold why) × RefusesReturn old.core ticket says why)
    ⊎ ((n ≡ errors.impossible) × CanSay old says false)

abbrev pub ReturnsBy : CoreHeld → CoreHeld → Ticket → Option Says → JgValue → ℤ → Type 0
ReturnsBy old new ticket None given n = n ≡ errors.bad_value
ReturnsBy old new ticket (Some says) given n = Returns old new ticket says given n

-- numbers that are no ticket, or say nothing, are refused
abbrev pub Did : CoreHeld → CoreHeld → Option Ticket → Option Says → JgValue → ℤ → Type 0
Did old new None says given n = n ≡ errors.bad_ticket
Did old new (Some ticket) says given n = ReturnsBy old new ticket says given n

-- the machine is to say by null whether something has ended
abbrev pub doubt_of : Expected → ℤ
doubt_of (IfEnded (Some fact)) = pos 1
doubt_of expected = pos 0

abbrev pub in_doubt : Option Ticket → ℤ
in_doubt None = errors.bad_ticket
in_doubt (Some ticket) = doubt_of ticket.expected

-- something may come of the call, where it threw nothing
abbrev pub tells_of : Expected → ℤ
tells_of (Done None) = pos 0
tells_of (Quiet None) = pos 0
tells_of Nothing = pos 0
tells_of Thrown = pos 0
tells_of (IfEnded None) = pos 0
tells_of expected = pos 1

abbrev pub tells : Option Ticket → ℤ
tells None = errors.bad_ticket
tells (Some ticket) = tells_of ticket.expected

abbrev pub is_throw : Says → Bool
is_throw (Threw o) = true
is_throw says = false

-- whatever a machine says of the call but that it threw, no fact comes of it, and nothing is handed out
abbrev pub TellsNothing : Ticket → Type 0
TellsNothing ticket = (s : StatedSetup) (p : Parts) (says : Says) (fact : Option Fact) → is_throw says ≡ false
    → told ticket.tid ticket.expected says ≡ Some fact → (fact ≡ None) × (given_for s p ticket fact ≡ NothingGiven)

-- ---- the fact of a call that returned

-- it is written, or there is none, or no machine says so
abbrev pub WritesTold : Option (Option Fact) → JgFact → JgFact → ℤ → Type 0
WritesTold None old new n = (n ≡ errors.impossible) × (new ≡ old)
WritesTold (Some None) old new n = (n ≡ errors.done) × (new ≡ old)
WritesTold (Some (Some fact)) old new n =
    (n ≡ pos 1) × (fact_of new ≡ Some fact) × (new.thread ≡ number_of_thread fact)

abbrev pub IsToldBy : Ticket → Option Says → JgFact → JgFact → ℤ → Type 0
IsToldBy ticket None old new n = (n ≡ errors.bad_value) × (new ≡ old)
IsToldBy ticket (Some says) old new n = WritesTold (told ticket.tid ticket.expected says) old new n

abbrev pub IsTold : Option Ticket → Option Says → JgFact → JgFact → ℤ → Type 0
IsTold None says old new n = (n ≡ errors.bad_ticket) × (new ≡ old)
IsTold (Some ticket) says old new n = IsToldBy ticket says old new n

-- ---- what is gone

abbrev pub objects_of : List ℕ → List ObjId
objects_of ns = map (λ n. record { 0 = n }) ns

-- all are gone, or the first that can't be is told
abbrev pub LetsGo : CoreHeld → CoreHeld → List ℕ → ℕ → ℤ → Type 0
LetsGo old new ns held n =
    ((n ≡ errors.done) × TookAll old.core new.core (objects_of ns)
    × ((w : List Fact) → CoreStands old.core w → first_held old.core.setup (parts_of w) (objects_of ns) ≡ None))
    ⊎ ((n ≡ errors.impossible)
    × ((w : List Fact) → CoreStands old.core w → first_held old.core.setup (parts_of w) (objects_of ns) ≡ Some held))

-- what keeps the object at that place is told
abbrev pub IsKept : CoreHeld → List ℕ → JgHeld → Type 0
IsKept old ns held = (by : Holder) × (holder_of held ≡ Some by)
    × ((w : List Fact) → CoreStands old.core w
    → Keeps old.core.setup (parts_of w) (slice_index_or (objects_of ns) held.place (record { 0 = 0 })).0 by)

-- all are gone, or the first that can't be is told, and what keeps it
abbrev pub LetsGoOrKeeps : CoreHeld → CoreHeld → List ℕ → JgHeld → ℤ → Type 0
LetsGoOrKeeps old new ns held n = LetsGo old new ns held.place n × (n ≡ errors.impossible → IsKept old ns held)
