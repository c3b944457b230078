use Rattle.std.proofs.Common.{◌≡◌, ◌++◌, ◌∷◌, rules, ◌∙◌, ap, sym}
use Rattle.std.specs.Prelude.{string_bytes}
use Rattle.std.proofs.lemmas.List.{append_assoc}
use Rattle.jg_advice.specs.Noted.{counts_below, counts_of}
use Rattle.jg_advice.proofs.report.push_all_counts.Goals as goal

-- one kind more
pub loop-kind-preserved : goal.loop-kind-preserved
loop-kind-preserved c = λ advices counts.
    let below = counts_below advices c.in-Some.kind.now 244 in
    let rest : c.loop-kind.rest.now ≡ c.in-Some.kind.now ∷ c.in-Some.later.now = search rules in
    let pushed : string_bytes c.push_counts.new.out ≡ string_bytes c.loop-kind.out ++ below = c.in_ok-push_counts.ensures advices counts in
    ap (λ t. t ++ counts_of advices c.in-Some.later.now) pushed
    ∙ append_assoc (string_bytes c.loop-kind.out) below (counts_of advices c.in-Some.later.now)
    ∙ ap (λ kinds. string_bytes c.loop-kind.out ++ counts_of advices kinds) (sym rest)
    ∙ c.loop-kind.invariant advices counts
