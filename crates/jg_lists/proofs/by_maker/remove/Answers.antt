use Rattle.std.proofs.Common.{◌∷◌}
use Rattle.std.proofs.lemmas.List.Sorted.{IsPermutation-trans, IsPermutation-cons}
use Rattle.jg_lists.specs.ByMaker.{named}
use Rattle.jg_lists.proofs.by_maker.remove.Goals as goal

pub returns-clause-taken : goal.returns-clause-taken
returns-clause-taken g c =
    IsPermutation-trans (named c.args.tables.now) ((c.args.name, c.in-Some.value) ∷ named c.take.new.tables)
    ((c.args.name, c.in-Some.value) ∷ named c.close.new.self) c.in-Some.ensures.taken
    (IsPermutation-cons (c.args.name, c.in-Some.value) (named c.take.new.tables) (named c.close.new.self) c.close.ensures.same)
