-- A refused setup file ends the program before the script is begun.
use Rattle.std.proofs.Common.{◌≡◌, ap, inl, inr, ℕ, Bool, true, false, List, Option, Err}
use Rattle.std.proofs.lemmas.Bool.{false≢true}
use Rattle.std.proofs.KnownBytes.{Keeps-refl}
use Rattle.jg_program.specs.declared.stop.ProgramStop.{ProgramStop}
use Rattle.jg_program.specs.declared.stop.ProgramStop.TheVariants.{Arguments, Setup, SetupRead, Run, Record, Leaks, Summary, Explain, Mismatch, Worker}
use Rattle.jg_program.specs.StatedBy.{IsRefused}
use Rattle.jg_program.specs.Ended.{IsHandedOn}
use Rattle.jg_program.specs.Migrated.{Migrates}

is_of_setup : ProgramStop → Bool
is_of_setup (Setup fault) = true
is_of_setup SetupRead = true
is_of_setup (Run fault) = false
is_of_setup (Arguments fault) = false
is_of_setup Leaks = false
is_of_setup Summary = false
is_of_setup Explain = false
is_of_setup (Mismatch thread place) = false
is_of_setup (Worker stop) = false
is_of_setup (Record stop) = false

refused_by_setup : (known : Option (List ℕ)) (told : ℕ) (stop : ProgramStop) → IsRefused known told stop → is_of_setup stop ≡ true
unfolding is_of_setup
refused_by_setup known told stop (bytes, gives, inl (inl read)) = ap is_of_setup read
refused_by_setup known told stop (bytes, gives, inl (inr (inl memory))) = ap is_of_setup memory
refused_by_setup known told stop (bytes, gives, inl (inr (inr (inl (long, by))))) = ap is_of_setup long
refused_by_setup known told stop (bytes, gives, inl (inr (inr (inr (no_text, low, short, not_utf8))))) = ap is_of_setup no_text
refused_by_setup known told stop (bytes, gives, inr (fault, is, low, short, first)) = ap is_of_setup is

pub migrates_refused : (known : Option (List ℕ)) (told : ℕ) (bytes : Option (List ℕ)) (stop : ProgramStop) → IsRefused known told stop
    → Migrates known told bytes bytes (Err stop)
unfolding is_of_setup
migrates_refused known told bytes (Setup fault) refused = (refused, Keeps-refl bytes)
migrates_refused known told bytes SetupRead refused = Keeps-refl bytes
migrates_refused known told bytes (Run fault) refused = absurd (false≢true (refused_by_setup known told (Run fault) refused))
migrates_refused known told bytes (Arguments fault) refused = absurd (false≢true (refused_by_setup known told (Arguments fault) refused))
migrates_refused known told bytes Leaks refused = absurd (false≢true (refused_by_setup known told Leaks refused))
migrates_refused known told bytes Summary refused = absurd (false≢true (refused_by_setup known told Summary refused))
migrates_refused known told bytes Explain refused = absurd (false≢true (refused_by_setup known told Explain refused))
migrates_refused known told bytes (Mismatch thread place) refused = absurd (false≢true (refused_by_setup known told (Mismatch thread place) refused))
migrates_refused known told bytes (Worker stop) refused = absurd (false≢true (refused_by_setup known told (Worker stop) refused))
migrates_refused known told bytes (Record stop) refused = absurd (false≢true (refused_by_setup known told (Record stop) refused))

-- nothing was written by then
pub refused_on : (S : Type 0) (holds_nothing : Type 0) (failed : Bool) (known : Option (List ℕ)) (told : ℕ) (stop : ProgramStop) → IsRefused known told stop
    → IsHandedOn {S = S} holds_nothing failed (Err stop)
unfolding is_of_setup
refused_on S holds_nothing failed known told (Setup fault) refused = tt
refused_on S holds_nothing failed known told SetupRead refused = tt
refused_on S holds_nothing failed known told (Run fault) refused = absurd (false≢true (refused_by_setup known told (Run fault) refused))
refused_on S holds_nothing failed known told (Arguments fault) refused = absurd (false≢true (refused_by_setup known told (Arguments fault) refused))
refused_on S holds_nothing failed known told Leaks refused = absurd (false≢true (refused_by_setup known told Leaks refused))
refused_on S holds_nothing failed known told Summary refused = absurd (false≢true (refused_by_setup known told Summary refused))
refused_on S holds_nothing failed known told Explain refused = absurd (false≢true (refused_by_setup known told Explain refused))
refused_on S holds_nothing failed known told (Mismatch thread place) refused = absurd (false≢true (refused_by_setup known told (Mismatch thread place) refused))
refused_on S holds_nothing failed known told (Worker stop) refused = absurd (false≢true (refused_by_setup known told (Worker stop) refused))
refused_on S holds_nothing failed known told (Record stop) refused = absurd (false≢true (refused_by_setup known told (Record stop) refused))
