use Rattle.std.proofs.Common.{MutBor}
use Rattle.jg_program.proofs.Reading.{of_take}
use Rattle.jg_program.proofs.setup_file.read_bytes.Goals as goal

pub returns : goal.returns
returns g c =
    of_take (λ (r : MutBor g.row.F.Denot). g.F.Read.remaining r.now) c.take.result _ _ _ c.take.ensures.limit c.take.ensures.inner c.new-bytes.ensures.items
    c.in_ok-read_to_end.ensures.bytes
