use Rattle.std.proofs.Common.{rules, ◌≡◌, ◌∙◌, Some, ap, string_bytes, sym}
use Rattle.jg_policy.specs.Stated.{StatedSetup}
use Rattle.jg_policy.proofs.Reading.{module_found, module_absent}
use Rattle.jg_policy.proofs.setup.Setup.module_name.Goals as goal

pub returns-in-None : goal.returns-in-None
returns-in-None c =
    sym (module_absent c.args.self.now c.self.inside.classes.entries (ap (λ (s : StatedSetup). s.classes) c.self.view_is) c.args.class
    c.if-class-lt-BASE_COUNT.false c.in-None.ensures.entry)

pub returns-in-Some : goal.returns-in-Some
returns-in-Some c =
    let text : c.as_str.result.now ≡ string_bytes c.in-Some.found.now.module_name = search rules in
    ap Some text
    ∙ sym (module_found c.args.self.now c.self.inside.classes.entries (ap (λ (s : StatedSetup). s.classes) c.self.view_is) c.args.class
    c.if-class-lt-BASE_COUNT.false _ c.in-Some.ensures.entry)
