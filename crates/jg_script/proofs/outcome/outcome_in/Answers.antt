use Rattle.std.proofs.Common.{◌≡◌, ◌+◌, ◌++◌, ℕ, List, length, drop, codes, Some, sym, ◌∙◌, ap, rules}
use Rattle.jg_text.specs.Spelling.{spelling}
use Rattle.jg_script.proofs.Outcomes.{behind}
use Rattle.jg_script.proofs.outcome.outcome_in.Goals as goal

pub returns-clause-some : goal.returns-clause-some
returns-clause-some c =
    let front = c.in-Some.front.now in
    let cut = c.in-Some.ensures.some in
    let back : c.split_at.result.1.now ≡ drop (length front + 3) c.args.line.now = search rules in
    (front, cut.1 ∙ ap (λ (bs : List ℕ). front ++ (codes " = " ++ bs)) (sym (behind c.args.line.now front cut.0 c.split_at.result.1.now cut.1 back)))

pub returns-clause-all : goal.returns-clause-all
returns-clause-all c = λ t e call outcome ht he hc is.
    let front = c.in-Some.front.now in
    let back : c.split_at.result.1.now ≡ drop (length front + 3) c.args.line.now = search rules in
    let found : Some front ≡ Some (spelling t e call) = c.in-Some.ensures.all t e call outcome ht he hc is in
    let same : front ≡ spelling t e call = cc in
    ap Some (behind c.args.line.now front outcome c.split_at.result.1.now (is ∙ ap (λ (bs : List ℕ). bs ++ (codes " = " ++ outcome)) (sym same)) back)
