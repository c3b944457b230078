use Rattle.std.proofs.Common.{◌≡◌, ◌∙◌, ◌+◌, ap, sym, position, None}
use Rattle.std.specs.Option.{option_map}
use Rattle.std.specs.Str.{bytes_eq}
use Rattle.jg_policy.specs.BaseClasses.{base_names}
use Rattle.jg_policy.specs.Stated.{StatedSetup}
use Rattle.jg_policy.proofs.Reading.{named_base, named_later}
use Rattle.jg_policy.proofs.setup.Setup.class_named.Goals as goal

pub returns-in-Some-clause-number : goal.returns-in-Some-clause-number
returns-in-Some-clause-number c =
    named_base c.args.self.now c.args.name.now c.in-Some.base
    (c.in-Some.ensures.number ∙ ap (λ text. position (bytes_eq text) base_names) c.as_str.ensures.bytes)

pub returns-in-None-clause-number : goal.returns-in-None-clause-number
returns-in-None-clause-number c =
    let none : None ≡ position (bytes_eq c.args.name.now) base_names =
    c.in_default.ensures.number ∙ ap (λ text. position (bytes_eq text) base_names) c.as_str.ensures.bytes in
    sym (named_later c.args.self.now c.args.name.now none c.self.inside.classes.entries (ap (λ (s : StatedSetup). s.classes) c.self.view_is)
    ∙ rw (← c.as_str-2.ensures.bytes) (ap (option_map (λ i. 15 + i)) (sym c.in-None.ensures.index)))

pub returns-in-Some-get_index_of-clause-number : goal.returns-in-Some-get_index_of-clause-number
returns-in-Some-get_index_of-clause-number c =
    let none : None ≡ position (bytes_eq c.args.name.now) base_names =
    c.in_default.ensures.number ∙ ap (λ text. position (bytes_eq text) base_names) c.as_str.ensures.bytes in
    sym (named_later c.args.self.now c.args.name.now none c.self.inside.classes.entries (ap (λ (s : StatedSetup). s.classes) c.self.view_is)
    ∙ rw (← c.as_str-2.ensures.bytes) (ap (option_map (λ i. 15 + i)) (sym c.in-Some-get_index_of.ensures.index)))
