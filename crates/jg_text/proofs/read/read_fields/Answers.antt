use Rattle.std.proofs.Common.{◌≡◌, ◌∷◌, refl, sym, ◌∙◌}
use Rattle.jg_words.specs.Fun.{name_of}
use Rattle.jg_text.specs.Words.{tid_text, env_text}
use Rattle.jg_text.proofs.Faulty.{wrong_count, bad_operand}
use Rattle.std.specs.Option.{option_copied}
use Rattle.jg_text.specs.Faults.{fields}
use Rattle.jg_text.specs.Pieces.{rest_fields}
use Rattle.jg_text.proofs.Reading.{cut_rest, spelt_by_parts}
use Rattle.jg_text.proofs.read.read_fields.Goals as goal

pub returns-in-Ok-clause-spelt : goal.returns-in-Ok-clause-spelt
returns-in-Ok-clause-spelt c =
    let first = rw c.in-Some-rest.is at c.in-Some.ensures.some in
    let second = rw c.in-Some-rest-2.is at c.in-Some-first_env.ensures.some in
    let third = cut_rest (fields c.in-Some-rest-2.rest.now) c.cut.result.0.now c.cut.result.1 c.cut.ensures in
    let operands = c.in-Ok.ensures.spelt in
    record {
      tid = c.in-Some.ensures.fits;
      env = c.in-Some-first_env.ensures.fits;
      call = operands.fits;
      text = spelt_by_parts c.args.line.now c.in-Some.tid c.in-Some-first_env.env c.in-Some-of_bytes.fun c.in-Ok.call (tid_text c.in-Some.tid)
          (env_text c.in-Some-first_env.env)
          c.cut.result.0.now c.in-Some-rest.rest.now c.in-Some-rest-2.rest.now (option_copied c.cut.result.1) first second third refl refl
          c.in-Some-of_bytes.ensures.some operands.fun
          operands.texts_are;
    }

pub returns-in-Err-clause-fault : goal.returns-in-Err-clause-fault
returns-in-Err-clause-fault c = λ printable _.
    let first = rw c.in-Some-rest.is at c.in-Some.ensures.some in
    let second = rw c.in-Some-rest-2.is at c.in-Some-first_env.ensures.some in
    let third = cut_rest (fields c.in-Some-rest-2.rest.now) c.cut.result.0.now c.cut.result.1 c.cut.ensures in
    let rest = rest_fields (option_copied c.cut.result.1) in
    let split : fields c.args.line.now ≡ tid_text c.in-Some.tid ∷ env_text c.in-Some-first_env.env ∷ name_of c.in-Some-of_bytes.fun ∷ rest =
    cc (first, second, third, c.in-Some-of_bytes.ensures.some) in
    wrong_count c.args.line.now c.in-Some.tid c.in-Some-first_env.env c.in-Some-of_bytes.fun rest
    (record { short = c.requires; printable = printable; tid = c.in-Some.ensures.fits; env = c.in-Some-first_env.ensures.fits; split = split })
    (λ same. c.if-count_fields-arity.true (c.count_fields.ensures ∙ same ∙ sym c.arity.ensures))

pub returns-in-Err-2-clause-fault : goal.returns-in-Err-2-clause-fault
returns-in-Err-2-clause-fault c = λ printable ne.
    let first = rw c.in-Some-rest.is at c.in-Some.ensures.some in
    let second = rw c.in-Some-rest-2.is at c.in-Some-first_env.ensures.some in
    let third = cut_rest (fields c.in-Some-rest-2.rest.now) c.cut.result.0.now c.cut.result.1 c.cut.ensures in
    let rest = rest_fields (option_copied c.cut.result.1) in
    let split : fields c.args.line.now ≡ tid_text c.in-Some.tid ∷ env_text c.in-Some-first_env.env ∷ name_of c.in-Some-of_bytes.fun ∷ rest =
    cc (first, second, third, c.in-Some-of_bytes.ensures.some) in
    let bad = c.in-Err.ensures.fault ne in
    bad_operand c.args.line.now c.in-Some.tid c.in-Some-first_env.env c.in-Some-of_bytes.fun rest c.in-Err.field-0
    (record { short = c.requires; printable = printable; tid = c.in-Some.ensures.fits; env = c.in-Some-first_env.ensures.fits; split = split })
    (sym c.count_fields.ensures ∙ c.if-count_fields-arity.false ∙ c.arity.ensures) bad.0 bad.1
