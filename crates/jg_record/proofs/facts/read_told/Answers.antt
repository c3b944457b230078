use Rattle.std.proofs.Common.{refl}
use Rattle.jg_record.proofs.facts.read_told.Goals as goal

pub returns-in-None-clause-err : goal.returns-in-None-clause-err
returns-in-None-clause-err c = λ _. (
  refl,
  rw c.in-Bounds.is (λ e gone (a, fits_a, b, fits_b, i, fits_i, split, is). c.in-None.ensures.none a b i fits_a fits_b fits_i split),
)
