use Rattle.std.proofs.Common.{List, ℕ, Err, inl, inr, subst}
use Rattle.std.proofs.KnownBytes.{Keeps-refl}
use Rattle.jg_program.specs.declared.stop.ProgramStop.TheVariants.{Run}
use Rattle.jg_program.specs.About.{IsAboutScript}
use Rattle.jg_program.specs.Reported.{EndsTelling, is_explained}
use Rattle.jg_program.proofs.playing.play_file.Goals as goal

pub returns-in-Ok : goal.returns-in-Ok
returns-in-Ok g c = record { ends = (c.scripts_in.new.line.items, inl (c.in-Ok.scripts, c.in-Ok.ensures, c.play_scripts.ensures.plays)) }

pub returns-in-Err : goal.returns-in-Err
returns-in-Err g c =
    let fault = c.in-Err.fault in
    let told = subst (λ (line : List ℕ). EndsTelling (is_explained c.args.terms.reporting) (IsAboutScript line (Err (Run fault)))
    (Run fault) c.end_unread.result) c.deref.ensures.value
    c.end_unread.ensures in
    record { ends = (c.scripts_in.new.line.items, inr (fault, c.in-Err.ensures, told, Keeps-refl _)) }
