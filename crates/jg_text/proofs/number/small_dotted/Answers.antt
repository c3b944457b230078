use Rattle.std.proofs.Common.{◌^◌, arith}
use Rattle.jg_text.proofs.Cuts.{no_dotted}
use Rattle.jg_text.proofs.number.small_dotted.Goals as goal

pub returns-in_default-clause-none : goal.returns-in_default-clause-none
returns-in_default-clause-none c =
    let read = c.in-Some.ensures in
    no_dotted c.args.text.now (2 ^ 32) (2 ^ 32) c.in-Some.a c.in-Some.b (omega arith) (omega arith) read.fits.0 read.fits.1 read.some
    (λ h. absurd (omega (arith, h.1)))

pub returns-in_default-2-clause-none : goal.returns-in_default-2-clause-none
returns-in_default-2-clause-none c =
    let read = c.in-Some.ensures in
    no_dotted c.args.text.now (2 ^ 32) (2 ^ 32) c.in-Some.a c.in-Some.b (omega arith) (omega arith) read.fits.0 read.fits.1 read.some
    (λ h. absurd (omega (arith, h.0)))
