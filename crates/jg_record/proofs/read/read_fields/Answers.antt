use Rattle.std.proofs.Common.{◌∷◌, sym, ◌∙◌, ap, List, ℕ}
use Rattle.std.specs.Option.{option_copied}
use Rattle.std.proofs.lemmas.Result.{IfErr-weaker}
use Rattle.jg_text.specs.Words.{tid_text}
use Rattle.jg_text.specs.Faults.{fields}
use Rattle.jg_text.specs.Pieces.{rest_fields}
use Rattle.jg_text.proofs.Reading.{cut_rest}
use Rattle.jg_record.specs.Events.{TellsOf}
use Rattle.jg_record.proofs.Reading.{question_named, words_named, words_spelt}
use Rattle.jg_record.proofs.read.read_fields.Goals as goal

pub returns-in-Some-first_env-clause-fault : goal.returns-in-Some-first_env-clause-fault
returns-in-Some-first_env-clause-fault c =
    let first = rw c.in-Some-rest.is at c.in-Some.ensures.some in
    let split = first ∙ ap (λ (fs : List (List ℕ)). tid_text c.in-Some.tid ∷ fs) c.in-Some-first_env.ensures.some in
    IfErr-weaker c.read_question.result _ _
    (question_named c.args.setup.now c.args.text.now (record { short = c.requires.short; printable = c.requires.printable }) c.in-Some.tid
    c.in-Some-first_env.env _ c.in-Some.ensures.fits c.in-Some-first_env.ensures.fits split) c.read_question.ensures.err

pub returns-in-Some-verb_named-clause-spelt : goal.returns-in-Some-verb_named-clause-spelt
returns-in-Some-verb_named-clause-spelt c =
    let first = rw c.in-Some-rest.is at c.in-Some.ensures.some in
    let second = cut_rest (fields c.in-Some-rest.rest.now) c.cut.result.0.now c.cut.result.1 c.cut.ensures in
    let told : TellsOf c.args.text.now c.in-Some.tid c.in-Some-verb_named.verb (rest_fields (option_copied c.cut.result.1)) = record {
      tid = c.in-Some.ensures.fits;
      word = c.cut.result.0.now;
      verb = sym c.verb_named.ensures ∙ c.in-Some-verb_named.is;
      split = first ∙ ap (λ (fs : List (List ℕ)). tid_text c.in-Some.tid ∷ fs) second;
    } in
    words_spelt c.args.setup.now c.args.text.now c.read_words.result c.in-Some.tid c.in-Some-verb_named.verb (rest_fields (option_copied c.cut.result.1)) _ _
    told c.read_words.ensures.ok

pub returns-in-Some-verb_named-clause-fault : goal.returns-in-Some-verb_named-clause-fault
returns-in-Some-verb_named-clause-fault c =
    let first = rw c.in-Some-rest.is at c.in-Some.ensures.some in
    let second = cut_rest (fields c.in-Some-rest.rest.now) c.cut.result.0.now c.cut.result.1 c.cut.ensures in
    let told : TellsOf c.args.text.now c.in-Some.tid c.in-Some-verb_named.verb (rest_fields (option_copied c.cut.result.1)) = record {
      tid = c.in-Some.ensures.fits;
      word = c.cut.result.0.now;
      verb = sym c.verb_named.ensures ∙ c.in-Some-verb_named.is;
      split = first ∙ ap (λ (fs : List (List ℕ)). tid_text c.in-Some.tid ∷ fs) second;
    } in
    IfErr-weaker c.read_words.result _ _
    (words_named c.args.setup.now c.args.text.now (record { short = c.requires.short; printable = c.requires.printable }) c.in-Some.tid
    c.in-Some-verb_named.verb (rest_fields (option_copied c.cut.result.1)) told) c.read_words.ensures.err
