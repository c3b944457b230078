use Rattle.jg_text.proofs.Plain.{line_plain}
use Rattle.jg_text.proofs.meanings.entry_is_one_line.Goals as goal

pub returns : goal.returns
returns c = λ x ht he hc ho. (let l = line_plain x ht he hc ho in (l.0, l.1, l.2.printable, l.2.short))
