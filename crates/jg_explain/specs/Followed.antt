-- What is seen of conditions in one run over a journal that asks them at some entries alone.
use Rattle.std.specs.Prelude.{ℕ, ◌≡◌, ◌+◌, ◌<◌, ◌==◌, Bool, true, false, List, All, length, IfSome, nat_lt}
use Rattle.jg_words.specs.declared.reference.Ref.{Ref}
use Rattle.jg_words.specs.declared.reference.Ref.TheVariants.{Null, To}
use Rattle.jg_words.specs.declared.call.Call.{Call}
use Rattle.jg_words.specs.declared.call.Call.TheVariants.{Vm, Monitors}
use Rattle.jg_words.specs.declared.call.vm.VmCall.{VmCall}
use Rattle.jg_words.specs.declared.call.vm.VmCall.TheVariants.{DetachCurrentThread, RegisterNatives, UnregisterNatives}
use Rattle.jg_words.specs.declared.entry.Outcome.{Outcome}
use Rattle.jg_words.specs.declared.entry.Outcome.TheVariants.{Passed, Denied}
use Rattle.jg_words.specs.Entry.{Entry}
use Rattle.jg_policy.specs.Stated.{StatedSetup}
use Rattle.jg_rules.specs.Parts.{Parts}
use Rattle.jg_rules.specs.Names.{next_ref, next_buffer}
use Rattle.jg_rules.specs.Effects.{parts}
use Rattle.jg_guard.specs.Guard.{State}
use Rattle.jg_breaches.specs.declared.condition.Condition.{Condition}
use Rattle.jg_breaches.specs.declared.condition.Condition.TheVariants.{IsAttached, IsPresent, HasPending, Names, NamesObject, IsOpen, Owns, IsOwned, HasFrame, InNative, IsLinked}
use Rattle.jg_explain.specs.declared.steady.Steady.{Steady}
use Rattle.jg_explain.specs.declared.traces.Seen.{Seen}
use Rattle.jg_explain.specs.declared.traces.Trace.{Trace}
use Rattle.jg_breaches.specs.Turns.{turned, same, still}
use Rattle.jg_explain.specs.Explained.{after, as_it_was, turns_before, was}

-- ---- conditions that come to hold once, and cease once

-- its maker was handed out the reference's number
abbrev pub given_ref : Parts → Ref → Bool
given_ref p Null = false
given_ref p (To kind maker n) = nat_lt n (next_ref p maker.0)

-- the number of what is asked for was given
abbrev pub given_in : Parts → Condition → Bool
given_in p (Names t r) = given_ref p r
given_in p (NamesObject t r) = given_ref p r
given_in p (IsOpen b) = nat_lt b.n (next_buffer p b.maker.0)
given_in p c = false

abbrev pub was_given : StatedSetup → Condition → List Entry → ℕ → Bool
was_given s c journal place = given_in (parts s (as_it_was place journal)) c

abbrev pub is_named : Ref → Bool
is_named Null = false
is_named (To kind maker n) = true

-- it comes to hold at one entry at most, where its number is given, and ceases at one at most
abbrev pub comes_once : Condition → Bool
comes_once (Names t r) = is_named r
comes_once (NamesObject t r) = is_named r
comes_once (IsOpen b) = true
comes_once c = false

-- what was found before the entry at that place is so
pub record IsSeen (s : StatedSetup) (journal : List Entry) (place : ℕ) (seen : Seen) : Type 0 where
  pub holds : seen.holds ≡ was s seen.condition journal place
  pub given : IfSome seen.given (λ given. given ≡ was_given s seen.condition journal place)

-- it held before the entry at that place or not, and holds after it or not
pub record Was (s : StatedSetup) (journal : List Entry) (c : Condition) (held holds : Bool) (place : ℕ) : Type 0 where
  pub within : place < length journal
  pub before : was s c journal place ≡ held
  pub after : was s c journal (place + 1) ≡ holds

-- the entry at that place gave its number to something else
pub record GaveOther (s : StatedSetup) (journal : List Entry) (c : Condition) (place : ℕ) : Type 0 where
  pub within : place < length journal
  pub before : was_given s c journal place ≡ false
  pub after : was_given s c journal (place + 1) ≡ true
  pub lacking : was s c journal (place + 1) ≡ false

-- what a trace says is so
pub record IsTraced (s : StatedSetup) (journal : List Entry) (trace : Trace) : Type 0 where
  pub once : comes_once trace.condition ≡ true
  pub made : IfSome trace.made (Was s journal trace.condition false true)
  pub ended : IfSome trace.ended (Was s journal trace.condition true false)
  pub other : IfSome trace.other (GaveOther s journal trace.condition)

-- ---- the others

-- the call may change which natives are linked
abbrev pub vm_links : VmCall → Bool
vm_links (RegisterNatives class method signature) = true
vm_links (UnregisterNatives class) = true
vm_links call = false

abbrev pub moves_links : Call → Bool
moves_links (Vm call) = vm_links call
moves_links call = false

abbrev pub vm_monitors : VmCall → Bool
vm_monitors DetachCurrentThread = true
vm_monitors call = false

-- the call may change who owns a monitor
abbrev pub moves_monitors : Call → Bool
moves_monitors (Vm call) = vm_monitors call
moves_monitors (Monitors call) = true
moves_monitors call = false

-- a call of the thread may turn it
abbrev pub may_turn : Condition → ℕ → Call → Bool
may_turn (IsAttached t) u call = t.0 == u
may_turn (IsPresent env) u call = env.tid.0 == u
may_turn (HasPending t) u call = t.0 == u
may_turn (HasFrame t) u call = t.0 == u
may_turn (InNative t) u call = t.0 == u
may_turn (Owns t o) u call = moves_monitors call
may_turn (IsOwned o) u call = moves_monitors call
may_turn (IsLinked class native) u call = moves_links call
may_turn c u call = true

-- what is known before the entry at that place is so
pub record IsSteady (s : StatedSetup) (journal : List Entry) (place : ℕ) (c : Steady) : Type 0 where
  pub holds : c.holds ≡ was s c.condition journal place
  pub turns : c.turns ≡ turns_before s c.condition journal place

abbrev pub turns_by : Outcome → Condition → ℕ → Call → Bool
turns_by (Passed reply) c t call = may_turn c t call
turns_by (Denied rule) c t call = false

-- the entry may have turned it: a denied call turns nothing
abbrev pub can_turn : Condition → Entry → Bool
can_turn c x = turns_by x.outcome c x.tid.0 x.call

-- what is known before any entry
abbrev pub begun_steady : StatedSetup → List Entry → Condition → Steady
begun_steady s h c = record { condition = c; holds = after s c h; turns = still }

abbrev pub asked_when : Bool → StatedSetup → List Entry → ℕ → Steady → Steady
asked_when true s h place c = record {
  condition = c.condition;
  holds = after s c.condition h;
  turns = turned (same c.holds (after s c.condition h)) place c.turns;
}
asked_when false s h place c = c

-- what is known after the entry at that place, the newest of h
abbrev pub asked_steady : StatedSetup → List Entry → Entry → ℕ → Steady → Steady
asked_steady s h x place c = asked_when (can_turn c.condition x) s h place c

-- what is known of all conditions, before the entry at that place, is so
pub record IsFollowed (whole : State) (place : ℕ) (traces : List Trace) (steady : List Steady) : Type 0 where
  pub seen : All (IsTraced whole.setup whole.journal) traces
  pub asked : All (IsSteady whole.setup whole.journal place) steady
