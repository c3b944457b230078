use Rattle.std.proofs.lemmas.Option.{IfSome_then}
use Rattle.jg_guard_advice.proofs.advising.GuardAdviser.into_text.Goals as goal

pub returns : goal.returns
returns g c = IfSome_then c.into_text.result c.into_text.ensures (λ text tells s h logged. (logged.0, logged.1, tells logged.0 logged.2))
