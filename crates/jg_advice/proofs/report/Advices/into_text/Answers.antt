use Rattle.std.proofs.Common.{◌≡◌, List, sym, subst}
use Rattle.std.specs.Prelude.{IfSome, string_bytes}
use Rattle.std.proofs.lemmas.Option.{IfSome_then}
use Rattle.jg_advice.specs.declared.advice.Advice.{Advice}
use Rattle.jg_advice.specs.Noted.{Counts, IsNoted, Noting, told_text}
use Rattle.jg_advice.proofs.Reports.{told_whole}
use Rattle.jg_advice.proofs.report.Advices.into_text.Goals as goal

pub returns : goal.returns
returns c =
    let P : Noting → Type 0 = λ v. IfSome c.with_counts.result
    (λ text. (advices : List Advice) → IsNoted v advices → string_bytes text ≡ told_text v.all advices) in
    subst P c.self.view_is (IfSome_then c.with_counts.result c.with_counts.ensures (λ text found advices noted.
    told_whole _ advices found.0 (string_bytes text) found.1
    (λ counts. found.2 advices (subst (λ ns. Counts ns advices) (sym c.deref.ensures.value) counts)) noted))
