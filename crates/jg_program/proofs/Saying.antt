-- Where a journal or a record differs is written in three parts.
use Rattle.std.proofs.Common.{◌≡◌, subst, sym, refl, ℕ, Bool, true, List, [], ◌∷◌, Option, Result, Ok, Err, OnOk, IfOk, IfErr, codes}
use Rattle.std.proofs.KnownBytes.{Appends-trans, Appends-kept}
use Rattle.std.specs.Fmt.{decimal}
use Rattle.std.specs.Io.KnownBytes.{Appends, Keeps}
use Rattle.jg_policy.specs.Stated.{StatedSetup}
use Rattle.jg_policy.specs.Findings.{States}
use Rattle.jg_script.specs.declared.run_fault.RunFault.TheVariants.{Write}
use Rattle.jg_program.specs.declared.stop.Status.{Status}
use Rattle.jg_program.specs.declared.stop.Status.TheVariants.{Done}
use Rattle.jg_program.specs.declared.stop.ProgramStop.{ProgramStop}
use Rattle.jg_program.specs.declared.stop.ProgramStop.TheVariants.{Run}
use Rattle.jg_program.specs.StatedBy.{IsStated}
use Rattle.jg_program.specs.Verdicts.{difference_text}
use Rattle.jg_program.specs.Migrated.{Migrates}

pub difference_written : {E : Type 0} (a b c d : Option (List ℕ)) (line : ℕ) (r : Result (Unit {0}) E)
    → Appends a b (codes "differs at line ") → Appends b c (decimal line) → OnOk r (Appends c d (10 ∷ [])) → OnOk r (Appends a d (difference_text line))
difference_written a b c d line (Ok done) first number last = Appends-trans a c d _ _ (Appends-trans a b c _ _ first number) last
difference_written a b c d line (Err fault) first number last = tt

-- the text of the setup that a file states was said, or couldn't be
pub migrates_said : (known : Option (List ℕ)) (told : ℕ) (bytes mid bytes' : Option (List ℕ)) (setup : StatedSetup) (text : List ℕ) (failed : Bool)
    (said : Result Status ProgramStop)
    → IsStated known setup → States text setup → IfOk said (λ status. (status ≡ Done) × Appends bytes mid text)
    → IfErr said (λ stop. (stop ≡ Run (Write 1)) × (failed ≡ true))
    → Keeps mid bytes' → Migrates known told bytes bytes' said
migrates_said known told bytes mid bytes' setup text failed (Ok status) stated states done none kept =
    (done.0, setup, stated, (text, states, Appends-kept _ _ _ _ done.1 kept))
migrates_said known told bytes mid bytes' setup text failed (Err stop) stated states none not_said kept =
    subst (λ (s : ProgramStop). Migrates known told bytes bytes' (Err s)) (sym not_said.0) refl
