use Rattle.std.proofs.Common.{rules, ◌≡◌, ◌∙◌, Some, ap, string_bytes, sym}
use Rattle.jg_policy.specs.Stated.{StatedSetup}
use Rattle.jg_policy.proofs.Reading.{name_of_base, name_found, name_absent}
use Rattle.jg_policy.proofs.setup.Setup.class_name.Goals as goal

pub returns-then-class-lt-BASE_COUNT : goal.returns-then-class-lt-BASE_COUNT
returns-then-class-lt-BASE_COUNT c = c.base_name.ensures ∙ sym (name_of_base c.args.self.now c.args.class c.if-class-lt-BASE_COUNT.true)

pub returns-in-None : goal.returns-in-None
returns-in-None c =
    sym (name_absent c.args.self.now c.self.inside.classes.entries (ap (λ (s : StatedSetup). s.classes) c.self.view_is) c.args.class
    c.if-class-lt-BASE_COUNT.false c.in-None.ensures.entry)

pub returns-in-Some : goal.returns-in-Some
returns-in-Some c =
    let text : c.as_str.result.now ≡ string_bytes c.in-Some.name.now = search rules in
    ap Some text
    ∙ sym (name_found c.args.self.now c.self.inside.classes.entries (ap (λ (s : StatedSetup). s.classes) c.self.view_is) c.args.class
    c.if-class-lt-BASE_COUNT.false _ c.in-Some.ensures.entry)
