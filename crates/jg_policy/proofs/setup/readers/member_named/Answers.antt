use Rattle.std.proofs.Common.{◌∙◌, ◌+◌, ap}
use Rattle.std.specs.Option.{option_map}
use Rattle.jg_policy.specs.Classes.{is_member}
use Rattle.jg_policy.specs.Kept.{member_view}
use Rattle.jg_policy.proofs.Places.{position-map}
use Rattle.jg_policy.proofs.setup.readers.member_named.Goals as goal

pub returns-in-None : goal.returns-in-None
returns-in-None c =
    ap (option_map (λ i. i + 1)) (c.in-None.ensures ∙ position-map c.args.members.now member_view (is_member c.args.name.now c.args.signature.now))

pub returns-in-Some : goal.returns-in-Some
returns-in-Some c =
    ap (option_map (λ i. i + 1)) (c.in-Some.ensures ∙ position-map c.args.members.now member_view (is_member c.args.name.now c.args.signature.now))
