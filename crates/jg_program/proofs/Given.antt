-- How a job ends under the setup that is given.
use Rattle.std.proofs.Common.{◌≡◌, inl, inr, ℕ, Bool, List, Option, Some, None, Result, refl, subst, sym}
use Rattle.std.specs.Prelude.{IfSome}
use Rattle.std.proofs.KnownBytes.{Keeps-refl}
use Rattle.jg_policy.specs.declared.fault.SetupFault.TheVariants.{NoMemory as NoRoom}
use Rattle.jg_policy.specs.Stated.{StatedSetup}
use Rattle.jg_program.specs.declared.program.Job.{Job}
use Rattle.jg_program.specs.declared.reporting.Reporting.{Reporting}
use Rattle.jg_program.specs.declared.stop.ProgramEnd.{ProgramEnd}
use Rattle.jg_program.specs.declared.stop.ProgramStop.{ProgramStop}
use Rattle.jg_program.specs.declared.stop.ProgramStop.TheVariants.{Setup}
use Rattle.jg_program.specs.declared.stop.Status.{Status}
use Rattle.jg_program.specs.Ended.{Ends, EndsClosed, EndsRefused, EndsUnder, IsHandedOn}
use Rattle.jg_program.specs.Reported.{EndsQuietly, is_explained}
use Rattle.jg_program.specs.StatedBy.{IsStated, base_setup}
use Rattle.jg_program.proofs.Refusals.{refusal_on}

-- this job was done under this setup
done_under : (job it : Job) (r : Reporting) (setup : StatedSetup) (input input' bytes bytes' : Option (List ℕ)) (limit : ℕ) (ending : ProgramEnd)
    → job ≡ it → Ends it r setup input input' bytes bytes' limit ending → Ends job r setup input input' bytes bytes' limit ending
done_under job it r setup input input' bytes bytes' limit ending is ends =
    subst (λ (j : Job). Ends j r setup input input' bytes bytes' limit ending) (sym is) ends

-- it is the closed one
pub done_closed : (job it : Job) (r : Reporting) (setup : StatedSetup) (input input' bytes bytes' : Option (List ℕ)) (limit : ℕ) (ending : ProgramEnd)
    → setup ≡ base_setup → job ≡ it → Ends it r setup input input' bytes bytes' limit ending → EndsClosed job r input input' bytes bytes' limit ending
done_closed job it r setup input input' bytes bytes' limit ending closed is ends =
    inl (subst (λ (s : StatedSetup). Ends job r s input input' bytes bytes' limit ending) closed
    (done_under job it r setup input input' bytes bytes' limit ending is ends))

-- it is that of the file
pub done_stated : {F : Type 0} (remaining : F → Option (List ℕ)) (given : Option (F × ℕ)) (job it : Job) (r : Reporting) (setup : StatedSetup)
    (input input' bytes bytes' : Option (List ℕ)) (limit : ℕ)
    (ending : ProgramEnd)
    → IfSome given (λ file. IsStated (remaining file.0) setup) → job ≡ it → Ends it r setup input input' bytes bytes' limit ending
    → IfSome given (λ file. EndsUnder job r (remaining file.0) file.1 input input' bytes bytes' limit ending)
done_stated remaining None job it r setup input input' bytes bytes' limit ending stated is ends = tt
done_stated remaining (Some file) job it r setup input input' bytes bytes' limit ending stated is ends =
    inl (setup, stated, done_under job it r setup input input' bytes bytes' limit ending is ends)

-- the file is refused
pub refused_under : {F : Type 0} (remaining : F → Option (List ℕ)) (given : Option (F × ℕ)) (job : Job) (r : Reporting) (input bytes : Option (List ℕ))
    (limit : ℕ) (ending : ProgramEnd)
    → IfSome given (λ file. EndsRefused (is_explained r) (remaining file.0) file.1 ending)
    → IfSome given (λ file. EndsUnder job r (remaining file.0) file.1 input input bytes bytes limit ending)
refused_under remaining None job r input bytes limit ending refused = tt
refused_under remaining (Some file) job r input bytes limit ending refused = inr (refused, Keeps-refl _, Keeps-refl _)

-- and nothing was written by then
pub unset_on : {F : Type 0} (remaining : F → Option (List ℕ)) (given : Option (F × ℕ)) (holds_nothing : Type 0) (failed explained : Bool) (ending : ProgramEnd)
    → (given ≡ None → EndsQuietly (Setup NoRoom) ending) → IfSome given (λ file. EndsRefused explained (remaining file.0) file.1 ending)
    → IsHandedOn {S = Status} holds_nothing failed ending.ended
unset_on remaining None holds_nothing failed explained ending memory refused =
    subst (λ (e : Result Status ProgramStop). IsHandedOn holds_nothing failed e) (sym (memory refl).0) tt
unset_on remaining (Some file) holds_nothing failed explained ending memory refused =
    refusal_on holds_nothing failed explained (remaining file.0) file.1 ending refused
