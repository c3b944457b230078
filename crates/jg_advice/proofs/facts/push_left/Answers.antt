use Rattle.std.proofs.Common.{◌≡◌, ℕ, ◌∙◌, ◌++◌, List, ap, arith, subst}
use Rattle.std.specs.Prelude.{map}
use Rattle.std.proofs.lemmas.List.{take_all}
use Rattle.jg_lists.specs.ByNumber.{seen}
use Rattle.jg_lists.specs.declared.by_number.Numbered.{Numbered}
use Rattle.jg_lists.specs.ByMaker.{entries, named}
use Rattle.jg_advice.specs.declared.advice.Source.{Source}
use Rattle.jg_advice.specs.Advised.{left}
use Rattle.jg_advice.proofs.Lefts.{left_more}
use Rattle.jg_advice.proofs.facts.push_left.Goals as goal

pub loop-seat-preserved : goal.loop-seat-preserved
loop-seat-preserved c =
    left_more c.seats-seat-items.result.now c.loop-seat.seat-index c.seat-item.result
    c.args.out.now.items c.loop-seat.out.items c.push_left_of.new.out.items c.loop-seat-test.true
    c.loop-seat.invariant
    (subst (λ (seat : Numbered (List (ℕ × Source))). c.push_left_of.new.out.items ≡ c.loop-seat.out.items ++ map left (entries seat.number seat.value))
    c.seat-item.is
    c.in_ok-push_left_of.ensures)

pub returns : goal.returns
returns c =
    c.loop-seat.invariant
    ∙ ap (λ (tables : List (ℕ × List (ℕ × Source))). c.args.out.now.items ++ map left (named tables))
    (ap (map seen) (take_all c.loop-seat.seat-index c.seats-seat-items.result.now (omega (arith, c.loop-seat-test.false))) ∙ c.seats-seat-items.ensures.seats)
