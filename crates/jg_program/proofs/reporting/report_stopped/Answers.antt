use Rattle.std.proofs.Common.{◌∙◌, ◌++◌, ℕ, List, ap, codes, inl, inr}
use Rattle.jg_program.proofs.reporting.report_stopped.Goals as goal

pub returns-in-Err : goal.returns-in-Err
returns-in-Err c =
    let told = c.in-Ok.ensures.told in
    inl (
      told.0,
      told.1,
      (
        c.ending_short.ensures.ended,
        inr (
          c.in-Err.ensures.asked,
          c.ending_short.ensures.said ∙ ap (λ (t : List ℕ). t ++ codes "summary: no memory\n") (c.in-Err.ensures.kept ∙ told.2),
        ),
      ),
    )
