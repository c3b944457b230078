use Rattle.std.proofs.Common.{◌≡◌, true, ℕ, List, ◌∙◌, ap, sym, subst}
use Rattle.std.specs.Option.{is_some}
use Rattle.jg_lists.specs.ByThread.{at, IsOnce}
use Rattle.jg_lists.specs.ByMaker.{named}
use Rattle.jg_lists.proofs.Values.{some_there}
use Rattle.jg_lists.proofs.Tables.{opened}
use Rattle.jg_lists.proofs.by_maker.ByMaker.open.Goals as goal

pub returns-then-contains-clause-table : goal.returns-then-contains-clause-table
returns-then-contains-clause-table g c =
    some_there (at c.args.maker c.args.self.now)
    (ap (λ (es : List (ℕ × List (ℕ × g.row.V.Denot))). is_some (at c.args.maker es)) (sym c.self.view_is) ∙ (sym c.contains.ensures.value ∙ c.if-contains.true))

pub returns-then-contains-clause-once : goal.returns-then-contains-clause-once
returns-then-contains-clause-once g c = subst (λ (es : List (ℕ × List (ℕ × g.row.V.Denot))). IsOnce es) c.self.view_is c.contains.ensures.once

-- an empty table adds no entry
pub returns-clause-same : goal.returns-clause-same
returns-clause-same g c =
    opened c.args.maker c.self.inside.tables c.add.new.self c.in-Ok.numbers c.in_ok-add.ensures.added c.in-Ok.ensures.empty
    ∙ ap (λ (es : List (ℕ × List (ℕ × g.row.V.Denot))). named es) c.self.view_is
