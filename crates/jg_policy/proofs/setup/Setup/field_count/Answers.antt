use Rattle.std.proofs.Common.{◌≡◌, ap, sym, length, Some, arith}
use Rattle.std.proofs.lemmas.List.{length-map}
use Rattle.jg_policy.specs.Stated.{StatedSetup}
use Rattle.jg_policy.specs.Classes.{class_at}
use Rattle.jg_policy.specs.Kept.{class_view}
use Rattle.jg_policy.proofs.Sizes.{few_members}
use Rattle.jg_policy.proofs.Reading.{class_found, class_absent}
use Rattle.jg_policy.proofs.setup.Setup.field_count.Goals as goal

pub overflow_cast-result : goal.overflow_cast-result
overflow_cast-result c =
    let few = (few_members c.self.inside.grants.items c.self.inside.classes.entries c.self.invariant.fit.sized _ (c.in-Some.field-0-0.now, c.in-Some.found.now)
    (sym c.in-Some.ensures.entry)).fields in
    omega (arith, few, ap length c.as_slice.ensures.keys)

pub returns-in-None-clause-count : goal.returns-in-None-clause-count
returns-in-None-clause-count c =
    rw (class_absent c.args.self.now c.self.inside.classes.entries (ap (λ (s : StatedSetup). s.classes) c.self.view_is) c.args.class
    c.if-class-lt-BASE_COUNT.false c.in-None.ensures.entry)

pub returns-in-Some-clause-count : goal.returns-in-Some-clause-count
returns-in-Some-clause-count c =
    let found : class_at c.args.self.now c.args.class ≡ Some (class_view (c.in-Some.field-0-0.now, c.in-Some.found.now)) =
    class_found c.args.self.now c.self.inside.classes.entries (ap (λ (s : StatedSetup). s.classes) c.self.view_is) c.args.class c.if-class-lt-BASE_COUNT.false (
      c.in-Some.field-0-0.now,
      c.in-Some.found.now,
    ) c.in-Some.ensures.entry in
    rw (found, length-map) (ap length c.as_slice.ensures.keys)

pub returns-in-Some-clause-within : goal.returns-in-Some-clause-within
returns-in-Some-clause-within c =
    let few = (few_members c.self.inside.grants.items c.self.inside.classes.entries c.self.invariant.fit.sized _ (c.in-Some.field-0-0.now, c.in-Some.found.now)
    (sym c.in-Some.ensures.entry)).fields in
    omega (arith, few, ap length c.as_slice.ensures.keys)
