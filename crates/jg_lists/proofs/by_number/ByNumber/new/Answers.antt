use Rattle.std.proofs.Common.{[], List, refl, sym, subst}
use Rattle.jg_lists.specs.declared.by_number.Numbered.{Numbered}
use Rattle.jg_lists.specs.ByThread.{IsOnce}
use Rattle.jg_lists.specs.ByNumber.{seen}
use Rattle.std.specs.Prelude.{map}
use Rattle.jg_lists.proofs.Numbers.{placed_none}
use Rattle.jg_lists.proofs.Seats.{once}
use Rattle.jg_lists.proofs.by_number.ByNumber.new.Goals as goal

pub returns-clause-once : goal.returns-clause-once
returns-clause-once g c =
    subst (λ (seats : List (Numbered g.row.V.Denot)). IsOnce (map seen seats)) (sym c.new-2.ensures.items)
    (once {V = g.row.V.Denot} [] [] [] (placed_none []) refl)
