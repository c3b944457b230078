use Rattle.std.proofs.Common.{rules, ◌≡◌, [], None, Some, ◌++◌, ◌∙◌, ap, sym}
use Rattle.std.specs.Prelude.{map}
use Rattle.std.proofs.lemmas.List.{append-nil}
use Rattle.std.proofs.lemmas.Result.{on_ok_weaker}
use mathlib.Core.List.{map-map}
use Rattle.jg_lists.specs.ByThread.{at}
use Rattle.jg_lists.specs.ByMaker.{table_in}
use Rattle.jg_lists.specs.ByNumber.{seen}
use Rattle.jg_lists.proofs.Tables.{lookup-named}
use Rattle.jg_advice.specs.Advised.{at_end}
use Rattle.jg_advice.proofs.Steps.{none_once}
use Rattle.jg_advice.proofs.facts.push_at_end.Goals as goal

-- the thread has no table
pub returns-in-None : goal.returns-in-None
returns-in-None c =
    let none : at c.args.tid.0 c.args.table.now ≡ None = search rules in (
      [],
      (none_once, λ k. sym (lookup-named (c.args.tid.0, k) c.args.table.now c.get.ensures.once ∙ ap (λ found. at k (table_in found)) none)),
      sym (append-nil c.args.out.now.items),
    )

-- it has one
pub returns-in-Some : goal.returns-in-Some
returns-in-Some c =
    let is : at c.args.tid.0 c.args.table.now ≡ Some c.in-Some.numbers.now = search rules in
    on_ok_weaker c.push_seats.result (λ pushed. (
      c.in-Some.numbers.now,
      (
        c.seats.ensures.once,
        λ k. sym (lookup-named (c.args.tid.0, k) c.args.table.now c.get.ensures.once ∙ ap (λ found. at k (table_in found)) is),
      ),
      pushed ∙ ap (λ l. c.args.out.now.items ++ l)
          (sym (map-map (at_end c.args.kind c.args.line c.args.tid) seen c.seats.result.now)
          ∙ ap (map (at_end c.args.kind c.args.line c.args.tid)) c.seats.ensures.seats),
    )) c.push_seats.ensures
