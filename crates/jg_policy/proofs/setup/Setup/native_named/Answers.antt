use Rattle.std.proofs.Common.{◌≡◌, ◌∙◌, ap, sym, Some}
use Rattle.jg_policy.specs.Stated.{StatedSetup}
use Rattle.jg_policy.specs.Classes.{class_at}
use Rattle.jg_policy.specs.Kept.{class_view}
use Rattle.jg_policy.proofs.Sizes.{few_members}
use Rattle.jg_policy.proofs.Reading.{class_found, class_absent}
use Rattle.jg_policy.proofs.setup.Setup.native_named.Goals as goal

pub member_named-requires : goal.member_named-requires
member_named-requires c =
    rw c.as_slice.ensures.keys
    (few_members c.self.inside.grants.items c.self.inside.classes.entries c.self.invariant.fit.sized _ (c.in-Some.field-0-0.now, c.in-Some.found.now)
    (sym c.in-Some.ensures.entry)).natives

pub returns-in-None : goal.returns-in-None
returns-in-None c =
    rw (class_absent c.args.self.now c.self.inside.classes.entries (ap (λ (s : StatedSetup). s.classes) c.self.view_is) c.args.class
    c.if-class-lt-BASE_COUNT.false c.in-None.ensures.entry)

pub returns-in-Some : goal.returns-in-Some
returns-in-Some c =
    let found : class_at c.args.self.now c.args.class ≡ Some (class_view (c.in-Some.field-0-0.now, c.in-Some.found.now)) =
    class_found c.args.self.now c.self.inside.classes.entries (ap (λ (s : StatedSetup). s.classes) c.self.view_is) c.args.class c.if-class-lt-BASE_COUNT.false (
      c.in-Some.field-0-0.now,
      c.in-Some.found.now,
    ) c.in-Some.ensures.entry in
    c.member_named.ensures ∙ rw (c.as_str.ensures.bytes, c.as_str-in-Some.ensures.bytes, c.as_slice.ensures.keys, found)
