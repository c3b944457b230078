-- How many entries there are, from one call to the next.
use Rattle.std.proofs.Common.{◌≡◌, ◌+◌, length, List, [], ◌∷◌, refl, ◌∙◌, ap, arith}
use Rattle.std.proofs.lemmas.List.{length-append}
use Rattle.jg_lists.specs.ByMaker.{Name, Adds}
use Rattle.jg_table_globals.specs.Clearing.{EachChanged}

-- one entry more
length-added : {V : Type 0} (q : Name) (v : V) (es news : List (Name × V)) → Adds q v es news → length news ≡ length es + 1
length-added q v es news adds =
    let before = ap length adds.was ∙ length-append adds.front adds.back in
    let after = ap length adds.now ∙ length-append adds.front ((q, v) ∷ adds.back) in
    omega (arith, before, after)

-- as many, where values are changed in place
pub length-changed : {K V : Type 0} (change : V → V → Type 0) (olds news : List (K × V)) → EachChanged change olds news → length news ≡ length olds
length-changed change [] [] changed = refl
length-changed change [] (new ∷ news) changed = cc
length-changed change (old ∷ olds) [] changed = absurd changed
length-changed change (old ∷ olds) (new ∷ news) changed =
    let later = length-changed change olds news changed.1 in
    omega (arith, later)
