-- Facts as C holds them: which numbers state which. jg.h names the words.
use Rattle.std.specs.Prelude.{ℕ, Bool, Option, Some, None, if◌then◌else◌, nat_eq, nat_le, ◌&&◌, ◌||◌}
use Rattle.std.specs.Option.{option_map, option_and_then}
use Rattle.jg_words.specs.declared.object.ItemType.TheVariants.{Of, Float, Double}
use Rattle.jg_words.specs.declared.object.ObjId.{ObjId}
use Rattle.jg_words.specs.declared.object.Primitive.TheVariants.{Boolean, Byte, Char, Short, Int, Long}
use Rattle.jg_words.specs.declared.thread.Tid.{Tid}
use Rattle.jg_table_buffers.specs.declared.family.Family.{Family}
use Rattle.jg_table_buffers.specs.declared.family.Family.TheVariants.{Elements, Chars, UtfChars, ArrayCritical, StringCritical}
use Rattle.jg_core.specs.declared.fact.Checked.{Checked as CheckedFact}
use Rattle.jg_core.specs.declared.fact.Checked.TheVariants as checked
use Rattle.jg_core.specs.declared.fact.Fact.{Fact}
use Rattle.jg_core.specs.declared.fact.Fact.TheVariants.{Begin, End, Enter, Leave, Push, Pop, Ensure, Raise, Calm, Hand, Lost, Lend, Back, Own, Free, Meet, Gone, Link, Unlink, Warn, Checked}
use Rattle.jg_record.specs.Writing.{teller_of}
use Rattle.jg_c.specs.declared.fact.JgFact.{JgFact}
use Rattle.jg_c.specs.Values.{buffer_of, kind_of, object_of, reference_of, thread_of}

-- the family of buffers
abbrev pub family_of : ℕ → Option Family
family_of n =
    if nat_eq n 0 then Some (Elements (Of Boolean))
    else if nat_eq n 1 then Some (Elements (Of Byte))
    else if nat_eq n 2 then Some (Elements (Of Char))
    else if nat_eq n 3 then Some (Elements (Of Short))
    else if nat_eq n 4 then Some (Elements (Of Int))
    else if nat_eq n 5 then Some (Elements (Of Long))
    else if nat_eq n 6 then Some (Elements Float)
    else if nat_eq n 7 then Some (Elements Double)
    else if nat_eq n 8 then Some Chars
    else if nat_eq n 9 then Some UtfChars
    else if nat_eq n 10 then Some ArrayCritical
    else if nat_eq n 11 then Some StringCritical
    else None

-- the object that it speaks of, where it must speak of one
abbrev pub thing_of : JgFact → Option ObjId
thing_of f = option_and_then (λ o. o) (object_of f.object)

-- of a session, of a native method or of a frame
abbrev pub frame_fact : JgFact → Tid → Option Fact
frame_fact f t =
    if nat_eq f.word 1 then Some (Begin t)
    else if nat_eq f.word 2 then Some (End t)
    else if nat_eq f.word 3 then Some (Enter t)
    else if nat_eq f.word 4 then option_map (λ kept. Leave t kept) (object_of f.object)
    else if nat_eq f.word 5 then Some (Push t f.first)
    else if nat_eq f.word 6 then option_map (λ kept. Pop t kept) (object_of f.object)
    else if nat_eq f.word 7 then Some (Ensure t f.first)
    else None

-- of an exception or of a monitor
abbrev pub holding_fact : JgFact → Tid → Option Fact
holding_fact f t =
    if nat_eq f.word 8 then option_map (λ o. Raise t o) (thing_of f)
    else if nat_eq f.word 9 then Some (Calm t)
    else if nat_eq f.word 14 then option_map (λ o. Own t o) (thing_of f)
    else if nat_eq f.word 15 then option_map (λ o. Free t o) (thing_of f)
    else None

-- a buffer was lent, by this family, of this object
abbrev pub lent : JgFact → Tid → Family → ObjId → Option Fact
lent f t family o = option_map (λ via. Lend t family o via f.second) (reference_of f.name)

-- a reference was handed out
abbrev pub hand_fact : JgFact → Tid → Option Fact
hand_fact f t = option_and_then (λ kind. option_map (λ o. Hand t kind o) (thing_of f)) (kind_of f.first)

-- a reference ended
abbrev pub lost_fact : JgFact → Option Fact
lost_fact f = option_map (λ r. Lost r) (reference_of f.name)

-- of a reference or of a buffer
abbrev pub name_fact : JgFact → Tid → Option Fact
name_fact f t =
    if nat_eq f.word 10 then hand_fact f t
    else if nat_eq f.word 11 then lost_fact f
    else if nat_eq f.word 12
    then option_and_then (λ family. option_and_then (λ o. lent f t family o) (thing_of f)) (family_of f.first)
    else if nat_eq f.word 13 then option_map (λ b. Back b) (buffer_of f.name)
    else None

-- of an object, a class or a module
abbrev pub class_fact : JgFact → Option Fact
class_fact f =
    if nat_eq f.word 16 then Some (Meet f.first f.second)
    else if nat_eq f.word 17 then option_map (λ o. Gone o) (thing_of f)
    else if nat_eq f.word 18 then Some (Link f.first f.second)
    else if nat_eq f.word 19 then Some (Unlink f.first)
    else if nat_eq f.word 20 then Some (Warn f.first)
    else None

-- what is checked
abbrev pub checked_fact : JgFact → Tid → Option CheckedFact
checked_fact f t =
    if nat_eq f.word 21 then option_map (λ o. checked.Local t f.name.number o) (object_of f.object)
    else if nat_eq f.word 22 then option_map (λ o. checked.Pending t o) (object_of f.object)
    else if nat_eq f.word 23 then option_map (λ o. checked.Length o f.second) (thing_of f)
    else None

-- the number is one of those
abbrev pub within : ℕ → ℕ → ℕ → Bool
within low high n = nat_le low n && nat_le n high

-- the fact of a thread
abbrev pub fact_by : JgFact → Tid → Option Fact
fact_by f t =
    if within 1 7 f.word then frame_fact f t
    else if within 8 9 f.word || within 14 15 f.word then holding_fact f t
    else if within 10 13 f.word then name_fact f t
    else if within 16 20 f.word then class_fact f
    else option_map (λ c. Checked c) (checked_fact f t)

-- the fact that the numbers state, if they state one
abbrev pub fact_of : JgFact → Option Fact
fact_of f = option_and_then (fact_by f) (thread_of f.thread)

-- ---- the numbers of facts

-- those of a thread alone
abbrev pub of_thread : ℕ → ℕ → JgFact
of_thread word thread = record {
  word = word;
  thread = thread;
  name = record { kind = 0; detail = 0; number = 0 };
  object = record { kind = 1; detail = 0; number = 0 };
  first = 0;
  second = 0;
}

abbrev pub checked_as : CheckedFact → Fact
checked_as c = Checked c

-- the number of its thread; 0 where it is no thread's own
abbrev pub number_of_thread : Fact → ℕ
number_of_thread fact = (teller_of (record { 0 = 0 }) fact).0
