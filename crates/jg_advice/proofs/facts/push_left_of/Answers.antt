use Rattle.std.proofs.Common.{ℕ, ◌++◌, ◌∙◌, ap, sym}
use Rattle.std.specs.Prelude.{map}
use Rattle.std.proofs.lemmas.Result.{on_ok_weaker}
use mathlib.Core.List.{map-map}
use Rattle.jg_lists.specs.ByNumber.{seen}
use Rattle.jg_advice.specs.declared.advice.Source.{Source}
use Rattle.jg_advice.specs.Advised.{left}
use Rattle.jg_advice.proofs.facts.push_left_of.Goals as goal

-- by the table, as its seats are seen
pub returns : goal.returns
returns c = on_ok_weaker c.push_left_seats.result (λ pushed. pushed
    ∙ ap (λ l. c.args.out.now.items ++ l)
    (sym (map-map (λ (e : ℕ × Source). left ((c.args.tid.0, e.0), e.1)) seen c.seats.result.now)
    ∙ ap (map (λ (e : ℕ × Source). left ((c.args.tid.0, e.0), e.1))) c.seats.ensures.seats
    ∙ sym (map-map left (λ (e : ℕ × Source). ((c.args.tid.0, e.0), e.1)) c.args.numbers.now))) c.push_left_seats.ensures
