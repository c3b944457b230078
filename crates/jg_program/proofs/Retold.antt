-- What is written and said of a journal whose record is written.
use Rattle.std.proofs.Common.{◌≡◌, ◌∙◌, ℕ, Bool, List, [], Option, Result, Ok, Err, inl, inr, refl, subst, sym}
use Rattle.std.specs.Prelude.{IsOk}
use Rattle.std.specs.Io.KnownBytes.{Appends}
use Rattle.jg_words.specs.Entry.{Entry}
use Rattle.jg_policy.specs.Stated.{StatedSetup}
use Rattle.jg_journal_record.specs.declared.fault.RetellFault.{RetellFault}
use Rattle.jg_journal_record.specs.Retold.{RetellsJournal, Stops}
use Rattle.jg_script.specs.declared.replay.Replayed.{Replayed}
use Rattle.jg_script.specs.declared.replay.Verdict.{Verdict}
use Rattle.jg_script.specs.declared.replay.Verdict.TheVariants as verdict
use Rattle.jg_script.specs.Replayed.{verdict_of}
use Rattle.jg_script.specs.declared.run_fault.RunFault.{RunFault}
use Rattle.jg_script.specs.declared.run_fault.RunFault.TheVariants.{Script, Limit, NoMemory, Read, Write}
use Rattle.jg_program.specs.declared.stop.ProgramStop.{ProgramStop}
use Rattle.jg_program.specs.declared.stop.ProgramStop.TheVariants.{Run}
use Rattle.jg_program.specs.declared.stop.ProgramEnd.{ProgramEnd}
use Rattle.jg_program.specs.Ended.{IsHandedOn}
use Rattle.jg_program.specs.Reported.{said_text}
use Rattle.jg_program.specs.Retold.{EndsFacts, RetellsLines, SaysRead, TellsLines, fault_told, text_behind}
use Rattle.jg_program.specs.Verdicts.{difference_text, status_told}

-- the journal was read so, its record was written, and that was said of it
pub read_told : (s : StatedSetup) (limit : ℕ) (h : List Entry) (input input' bytes mid bytes' : Option (List ℕ)) (read : Result Replayed RunFault)
    (told : Result Replayed ProgramStop)
    → RetellsJournal input input' s limit bytes mid read → SaysRead read mid bytes' told → TellsLines input input' bytes bytes' s limit h told
read_told s limit h input input' bytes mid bytes' read (Ok replayed) retells said =
    (mid, subst (RetellsJournal input input' s limit bytes mid) said.0 retells, said.1)
read_told s limit h input input' bytes mid bytes' read (Err stop) retells (inl (fault, is, stop_is, same)) = (
  fault,
  stop_is,
  inl (subst (λ (b : Option (List ℕ)). RetellsJournal input input' s limit bytes b (Err fault)) (sym same)
      (subst (RetellsJournal input input' s limit bytes mid) is retells)),
)
read_told s limit h input input' bytes mid bytes' read (Err stop) retells (inr (replayed, line, is, differs, stop_is)) =
    (Write line, stop_is, inr (inr (replayed, line, mid, subst (RetellsJournal input input' s limit bytes mid) is retells, differs, refl)))

-- the lines of some entry weren't written
pub stops_told : (s own : StatedSetup) (limit : ℕ) (h : List Entry) (input input' bytes bytes' : Option (List ℕ)) (why : RetellFault) (fault : RunFault)
    → own ≡ s → (count : ℕ) × Stops own h count bytes bytes' why → fault ≡ fault_told why → TellsLines input input' bytes bytes' s limit h (Err (Run fault))
stops_told s own limit h input input' bytes bytes' why fault same (count, stops) is =
    (fault, refl, inr (inl (count, why, subst (λ (z : StatedSetup). Stops z h count bytes bytes' why) same stops, is)))

-- where it differs was written
pub differs_behind : (bytes bytes' : Option (List ℕ)) (v : Verdict) (line : ℕ) (told : Replayed) → v ≡ verdict.Differs line → v ≡ verdict_of told
    → Appends bytes bytes' (difference_text line) → Appends bytes bytes' (text_behind (verdict_of told))
differs_behind bytes bytes' v line told differs is appends = subst (λ (w : Verdict). Appends bytes bytes' (text_behind w)) (sym differs ∙ is) appends

-- no fault of a reading is one of the writer
fault_read : (s : StatedSetup) (limit : ℕ) (input input' bytes mid : Option (List ℕ)) (failed : Bool) (fault : RunFault)
    → RetellsJournal input input' s limit bytes mid (Err fault)
    → IsHandedOn {S = Replayed} (Unit {0}) failed (Err (Run fault))
fault_read s limit input input' bytes mid failed (Write line) (g, is, finds, writes) = absurd finds
fault_read s limit input input' bytes mid failed (Script line fault) retells = tt
fault_read s limit input input' bytes mid failed (Limit line) retells = tt
fault_read s limit input input' bytes mid failed (NoMemory line) retells = tt
fault_read s limit input input' bytes mid failed (Read line) retells = tt

pub read_on : (s : StatedSetup) (limit : ℕ) (input input' bytes mid bytes' : Option (List ℕ)) (failed : Bool) (read : Result Replayed RunFault)
    (told : Result Replayed ProgramStop)
    → RetellsJournal input input' s limit bytes mid read → SaysRead read mid bytes' told → (IsOk read → IsHandedOn (Unit {0}) failed told)
    → IsHandedOn (Unit {0}) failed told
read_on s limit input input' bytes mid bytes' failed read (Ok replayed) retells said ok = tt
read_on s limit input input' bytes mid bytes' failed read (Err stop) retells (inl (fault, is, stop_is, same)) ok =
    subst (λ (e : ProgramStop). IsHandedOn {S = Replayed} (Unit {0}) failed (Err e)) (sym stop_is)
    (fault_read s limit input input' bytes mid failed fault (subst (RetellsJournal input input' s limit bytes mid) is retells))
read_on s limit input input' bytes mid bytes' failed read (Err stop) retells (inr (replayed, line, is, differs, stop_is)) ok =
    ok (subst (λ (r : Result Replayed RunFault). IsOk r) (sym is) refl)

-- a journal was retold by a guard of this setup and limit
pub ends_facts : (setup own : StatedSetup) (limit most : ℕ) (input input' bytes bytes' : Option (List ℕ)) (h : List Entry)
    (result : Result Replayed ProgramStop) (ending : ProgramEnd)
    → own ≡ setup → most ≡ limit → RetellsLines input input' bytes bytes' own most h result → ending.ended ≡ status_told result → said_text ending.said ≡ []
    → EndsFacts setup input input' bytes bytes' limit ending
ends_facts setup own limit most input input' bytes bytes' h result ending same full retells ended said =
    inl (
      h,
      result,
      subst (λ (l : ℕ). RetellsLines input input' bytes bytes' setup l h result) full
          (subst (λ (s : StatedSetup). RetellsLines input input' bytes bytes' s most h result) same retells),
      ended,
      said,
    )
