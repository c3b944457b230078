use Rattle.std.proofs.Common.{◌≡◌, true, subst}
use Rattle.jg_policy.specs.Stated.{StatedSetup}
use Rattle.jg_core.specs.Facts.{is_so, parts_of}
use Rattle.jg_core.specs.declared.fact.Checked.TheVariants.{Length}
use Rattle.jg_example_core.specs.declared.Array.{Array}
use Rattle.jg_example_core.proofs.Machine.array_length.Goals as goal

pub returns-clause-answered : goal.returns-clause-answered
returns-clause-answered c = λ w h.
    let before : is_so c.args.self.now.core.setup (parts_of w) (Length c.array_at-length.result.object c.array_at-length.result.length) ≡ true =
    subst (λ (s : StatedSetup). is_so s (parts_of w) (Length c.array_at-length.result.object c.array_at-length.result.length) ≡ true)
    c.in_ok-tell.ensures.ok.setup (c.in_ok-tell.ensures.ok.stands w h).history.0 in
    subst (λ (array : Array). is_so c.args.self.now.core.setup (parts_of w) (Length array.object c.array_at-length.result.length) ≡ true)
    c.array_at-length.ensures before
