-- What a machine says of a call that answered as the rules do; and that the ticket of the call's question, told so,
-- tells the facts that the call's entry is. Lists of facts have the newest first.
use Rattle.std.specs.Prelude.{ℕ, ◌≡◌, List, [], ◌∷◌, ◌++◌, Option, Some, None}
use Rattle.jg_words.specs.declared.thread.Tid.{Tid}
use Rattle.jg_words.specs.declared.object.ObjId.{ObjId}
use Rattle.jg_words.specs.declared.value.Value.{Value}
use Rattle.jg_words.specs.declared.value.Value.TheVariants.{Null as NullAnswer, Reference, Buffer as Lent, Busy, Throw}
use Rattle.jg_words.specs.declared.entry.Reply.{Reply}
use Rattle.jg_words.specs.Entry.{Entry}
use Rattle.jg_words.specs.declared.call.Call.{Call}
use Rattle.jg_words.specs.declared.call.Call.TheVariants.{Vm}
use Rattle.jg_words.specs.declared.call.vm.VmCall.TheVariants.{NativeEnter, NativeLeave, Collect}
use Rattle.jg_policy.specs.Stated.{StatedSetup}
use Rattle.jg_table_buffers.specs.History as buffers
use Rattle.jg_rules.specs.Parts.{Parts}
use Rattle.jg_rules.specs.Names.{pending}
use Rattle.jg_rules.specs.NativeUse.{native_class, home_of}
use Rattle.jg_rules.specs.Effects.{parts, is_effective, if_effective, warning, call_buffers, call_heap, value_heap}
use Rattle.jg_judge.specs.Written.{arguments_of, written_bounds}
use Rattle.jg_core.specs.declared.fact.Fact.{Fact}
use Rattle.jg_core.specs.declared.says.Says.{Says}
use Rattle.jg_core.specs.declared.says.Says.TheVariants.{Done, Null, Object, Items, Threw}
use Rattle.jg_core.specs.declared.asking.Ticket.{Ticket}
use Rattle.jg_core.specs.declared.asking.Answer.TheVariants.{Passed}
use Rattle.jg_core.specs.Asking.{asked}
use Rattle.jg_core.specs.Expected.{told}
use Rattle.jg_core.specs.Facts.{parts_of}
use Rattle.jg_core.specs.Implied.{told_on}
use Rattle.jg_entry_facts_laws.specs.Entries.{object_facts, link_facts, value_facts, pending_facts, facts_of}

-- ---- what the machine says of an entry

-- how many items the buffer has that is lent
abbrev pub items_lent : List buffers.Event → ℕ
items_lent (buffers.Opened b ∷ e) = b.length
items_lent e = 0

-- by what it answered, with n for the items that it lent. A machine's MonitorEnter returns once the thread has entered
-- (JNI Specification, chapter 4, MonitorEnter), so of one that found the monitor busy nothing is said; its entry is no
-- fact
abbrev pub said : ℕ → Value → Option ObjId → Option Says
said n NullAnswer o = Some Null
said n (Reference r) (Some o) = Some (Object o)
said n (Lent b) o = Some (Items n)
said n (Throw kind) (Some o) = Some (Threw o)
said n Busy o = None
said n value o = Some Done

-- nobody calls a collection, which lets objects go and is told by these. A native method that begins answers nothing
abbrev pub says_of : StatedSetup → Parts → Tid → Call → Value → Option ObjId → Option Says
says_of s p t (Vm Collect) value o = None
says_of s p t (Vm (NativeEnter class method signature)) value o = Some Done
says_of s p t call value o = said (items_lent (call_buffers s p t.0 call)) value o

-- ---- what is told by itself, before and behind what the ticket tells

-- first the objects that are made
abbrev pub made_facts : StatedSetup → Parts → Tid → Call → Value → List Fact
made_facts s p t call value =
    object_facts (value_heap value ++ if_effective (is_effective value) (call_heap s p t.0 call))

-- then that a native method that begins is handed its class; and that what was pending stays so where one has ended
abbrev pub call_follows : Parts → Tid → Call → Value → Option ObjId → List Fact
call_follows p t (Vm (NativeEnter class method signature)) value o = value_facts t value o
call_follows p t (Vm (NativeLeave r)) value o = pending_facts t (pending p t.0)
call_follows p t call value o = []

-- and at last a warning (JEP 472)
abbrev pub follows : StatedSetup → Parts → Tid → Call → Reply → Option ObjId → List Fact
follows s p t call reply o =
    link_facts (warning reply.warned (home_of s (native_class s p t.0 call))) ++ call_follows p t call reply.value o

-- ---- the law

-- after the facts of the history the call's question passes, with a ticket; told with what the machine says, the ticket
-- tells one fact or none. With that one the facts are those of the history and the entry
pub record TicketTells (s : StatedSetup) (h : List Entry) (x : Entry) (reply : Reply) (says : Says) (place : ℕ)
    : Type 0 where
  pub ticket : Ticket
  pub passed : asked written_bounds s (parts_of (facts_of s h)) x.tid x.env place
      (arguments_of s (parts_of (facts_of s h)) x.tid.0 x.call) ≡ Passed ticket
  pub fact : Option Fact
  pub is : told ticket.tid ticket.expected says ≡ Some fact
  pub facts : facts_of s (x ∷ h) ≡ follows s (parts s h) x.tid x.call reply x.object
      ++ told_on fact (made_facts s (parts s h) x.tid x.call reply.value ++ facts_of s h)
