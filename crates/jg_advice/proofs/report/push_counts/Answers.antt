use Rattle.std.proofs.Common.{◌≡◌, ◌++◌, ◌+◌, suc, rules, arith, ◌∙◌, ap}
use Rattle.std.specs.Prelude.{string_bytes}
use Rattle.std.proofs.lemmas.List.{append_assoc}
use Rattle.jg_advice.specs.Noted.{count_text, counts_below, function_at, given, key_of}
use Rattle.jg_advice.proofs.report.push_counts.Goals as goal

-- one function more
pub loop-function-preserved : goal.loop-function-preserved
loop-function-preserved c = λ advices counts.
    let f = c.loop-function.function in
    let more = count_text c.args.kind f (given (key_of c.args.kind (function_at f)) advices) in
    let pushed : string_bytes c.push_count_of.new.out ≡ string_bytes c.loop-function.out ++ more = search rules in
    let next : suc f ≡ f + 1 = omega arith in
    pushed ∙ ap (λ t. t ++ more) (c.loop-function.invariant advices counts)
    ∙ append_assoc (string_bytes c.args.out.now) (counts_below advices c.args.kind f) more
    ∙ ap (λ n. string_bytes c.args.out.now ++ counts_below advices c.args.kind n) next

-- all functions are counted
pub returns : goal.returns
returns c = λ advices counts.
    let end : c.loop-function.function ≡ 244 = omega (arith, c.loop-function-test.false, c.loop-function.auto.function-end) in
    c.loop-function.invariant advices counts
    ∙ ap (λ n. string_bytes c.args.out.now ++ counts_below advices c.args.kind n) end
