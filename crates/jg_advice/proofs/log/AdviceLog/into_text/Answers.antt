use Rattle.std.proofs.Common.{◌++◌, List, Bool, ◌∙◌, ap, subst, sym}
use Rattle.std.specs.Prelude.{reverse}
use Rattle.std.proofs.lemmas.Option.{IfSome_then}
use Rattle.jg_advice.specs.declared.advice.Advice.{Advice}
use Rattle.jg_advice.specs.Noted.{IsNoted, Noting, told_text}
use Rattle.jg_advice.proofs.log.AdviceLog.into_text.Goals as goal

pub returns-in-Ok : goal.returns-in-Ok
returns-in-Ok c = IfSome_then c.into_text.result c.into_text.ensures (λ text whole h logs.
    let (advices, left, advised, are_left, noted) = c.in-Ok.ensures.noted h logs in
    let all : List Advice = reverse left ++ advices in
    record {
      advices = advices;
      at_end = left;
      advised = advised;
      left = are_left;
      is = whole all (subst (λ (x : Noting). IsNoted x all) (sym c.into_advices.ensures) noted)
          ∙ ap (λ (x : Noting). told_text x.all all) c.into_advices.ensures ∙ ap (λ (each : Bool). told_text each all) c.note_left.ensures.all;
    })
