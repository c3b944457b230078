use Rattle.std.proofs.Common.{◌≡◌, true, false, arith, ap, sym, ◌∙◌}
use Rattle.std.specs.Prelude.{nat_lt, ◌||◌}
use Rattle.std.specs.Option.{is_some}
use Rattle.std.proofs.lemmas.Bool.Decides.{nat_tests}
use Rattle.jg_lists.specs.ByThread.{at}
use Rattle.jg_table_objects.proofs.Steps.{there_found}
use Rattle.jg_table_objects.proofs.objects.Objects.is_there.Goals as goal

pub returns-then-object-self : goal.returns-then-object-self
returns-then-object-self g c = λ e stands.
    let class : nat_lt c.args.object.0 c.self.inside.class_count ≡ true = grind (arith, nat_tests, c.if-object-self.true) in
    class ∙ ap (λ b. b || is_some (at c.args.object.0 c.self.inside.there)) (sym class) ∙ there_found c.self.view_is e stands c.args.object.0

pub returns-else-object-self : goal.returns-else-object-self
returns-else-object-self g c = λ e stands.
    let other : nat_lt c.args.object.0 c.self.inside.class_count ≡ false = grind (arith, nat_tests, c.if-object-self.false) in
    c.contains.ensures.value ∙ ap (λ b. b || is_some (at c.args.object.0 c.self.inside.there)) (sym other) ∙ there_found c.self.view_is e stands c.args.object.0
