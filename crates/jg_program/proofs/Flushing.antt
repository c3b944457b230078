-- What a check did stays so where the writer keeps its bytes.
use Rattle.std.proofs.Common.{◌≡◌, ◌∙◌, refl, ℕ, Bool, List, length, Option, Result, Ok, Err}
use Rattle.std.proofs.KnownBytes.{Appends-kept}
use Rattle.std.specs.Io.KnownBytes.{Keeps}
use Rattle.jg_words.specs.Entry.{Entry}
use Rattle.jg_script.specs.declared.run_fault.RunFault.{RunFault}
use Rattle.jg_script.specs.declared.run_fault.RunFault.TheVariants.{Script, Limit, NoMemory, Read, Write}
use Rattle.jg_script.specs.Checked.{Checks, WriterFails}
use Rattle.jg_program.specs.declared.stop.ProgramStop.TheVariants.{Run}
use Rattle.jg_program.specs.Ended.{IsHandedOn}

pub checks_kept : (input input' bytes mid bytes' : Option (List ℕ)) (limit : ℕ) (h : List Entry) (r : Result ℕ RunFault)
    → Checks input input' bytes mid limit h r → Keeps mid bytes'
    → Checks input input' bytes bytes' limit h r
checks_kept input input' bytes mid bytes' limit h (Ok n) (read, done, written, count, within) k = (read, done, Appends-kept _ _ _ _ written k, count, within)
checks_kept input input' bytes mid bytes' limit h (Err (Script line fault)) (read, one, written, count, within) k =
    (read, one, Appends-kept _ _ _ _ written k, count, within)
checks_kept input input' bytes mid bytes' limit h (Err (Limit line)) (read, one, written, count, full) k =
    (read, one, Appends-kept _ _ _ _ written k, count, full)
checks_kept input input' bytes mid bytes' limit h (Err (NoMemory line)) (read, (g, more, written, count)) k =
    (read, (g, more, Appends-kept _ _ _ _ written k, count))
checks_kept input input' bytes mid bytes' limit h (Err (Read line)) (read, written, count) k = (read, Appends-kept _ _ _ _ written k, count)
checks_kept input input' bytes mid bytes' limit h (Err (Write line)) (read, (e, g, is, (part, written, (n, short, front))), count) k =
    (read, (e, g, is, (part, written, (n, short, Appends-kept _ _ _ _ front k))), count)

-- the lines answered are the entries
pub counted : (input input' bytes bytes' : Option (List ℕ)) (limit : ℕ) (h : List Entry) (n : ℕ) → Checks input input' bytes bytes' limit h (Ok n)
    → Checks input input' bytes bytes' limit h (Ok (length h))
counted input input' bytes bytes' limit h n (read, done, written, count, within) = (read, done, written, refl, within)

-- a failed write was told before; else nothing is held back
pub handed_on : (S : Type 0) (holds_nothing : Type 0) (before after flushed : Bool) (fault : RunFault) → WriterFails {N = ℕ} before after (Err fault)
    → flushed ≡ after → holds_nothing
    → IsHandedOn {S = S} holds_nothing flushed (Err (Run fault))
handed_on S holds_nothing before after flushed (Write line) told same done = same ∙ told
handed_on S holds_nothing before after flushed (Script line fault) told same done = done
handed_on S holds_nothing before after flushed (Limit line) told same done = done
handed_on S holds_nothing before after flushed (NoMemory line) told same done = done
handed_on S holds_nothing before after flushed (Read line) told same done = done
