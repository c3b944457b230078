use Rattle.std.proofs.Common.{◌∷◌, refl, arith}
use Rattle.std.proofs.lemmas.List.Sorted.{length_permutation}
use Rattle.jg_lists.specs.ByMaker.{named}
use Rattle.jg_lists.proofs.Taken.{Leaves, leaves_more, cleared}
use Rattle.jg_advice.proofs.tables.clear.Goals as goal

-- one is taken at a time
pub loop-value-smaller : goal.loop-value-smaller
loop-value-smaller g c =
    let taken = c.in-Some.ensures.taken in
    omega (arith, length_permutation (named c.loop-value.tables) (((c.args.maker, taken.0), c.in-Some._value) ∷ named c.take_any.new.tables) taken.1)

-- and none is left
pub returns-clause-found : goal.returns-clause-found
returns-clause-found g c =
    let left : Leaves c.args.maker (named c.args.tables.now) (named c.take_any.new.tables) =
    leaves_more c.args.maker (named c.args.tables.now) (named c.loop-value.tables) (named c.take_any.new.tables) c.loop-value.invariant
    (record { others = c.take_any.ensures.others; once = c.take_any.ensures.once }) in
    cleared c.args.maker (named c.args.tables.now) (named c.take_any.new.tables) left (c.in_default.ensures.none refl)
