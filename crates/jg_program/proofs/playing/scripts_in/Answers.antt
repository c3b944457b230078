use Rattle.std.proofs.Common.{List, ℕ, Option, inl, subst}
use Rattle.std.specs.Io.Buffered.{reader_remaining}
use Rattle.jg_script.specs.ScriptFile.{HoldsRefused, ReadsScripts}
use Rattle.jg_program.proofs.FromStart.{from_start}
use Rattle.jg_program.proofs.playing.scripts_in.Goals as goal

pub returns : goal.returns
returns g c =
    let start = from_start g.F.Read.remaining c.in-Ok.reader c.args.file c.in-Ok.ensures.capacity c.in-Ok.ensures.empty c.in-Ok.ensures.inner in
    let rest = reader_remaining g.F.Read.remaining c.read_script_lines.new.reader.device in
    let result = c.read_script_lines.result in
    let line = c.read_script_lines.new.text.items in
    inl (
      rest,
      subst (λ (known : Option (List ℕ)). ReadsScripts known rest result) start (rw c.new.ensures.device at c.read_script_lines.ensures.reads),
      subst (λ (known : Option (List ℕ)). HoldsRefused known line result) start (rw c.new.ensures.device at c.read_script_lines.ensures.refused),
    )
