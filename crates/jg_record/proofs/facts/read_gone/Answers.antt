use Rattle.std.proofs.Common.{refl}
use Rattle.jg_record.proofs.Going.{no_object}
use Rattle.jg_record.proofs.facts.read_gone.Goals as goal

pub returns-in_default-read_object-clause-err : goal.returns-in_default-read_object-clause-err
returns-in_default-read_object-clause-err c = λ _. (
  refl,
  no_object _ c.loop-word.objects.items c.in-Some.word.now _ (rw c.in-Some.ensures at c.loop-word.invariant) c.in_default-read_object.ensures.none,
)
