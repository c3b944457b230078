use Rattle.std.proofs.Common.{sym, ◌∙◌, ap, refl}
use Rattle.std.specs.Prelude.{slice_get}
use Rattle.std.specs.Option.{option_copied, option_map}
use Rattle.jg_text.specs.Faults.{fields}
use Rattle.jg_text.specs.Pieces.{rest_fields}
use Rattle.jg_text.proofs.Reading.{cut_rest}
use Rattle.jg_rows.specs.Columns.{columns}
use Rattle.jg_rows.specs.Table.{functions}
use Rattle.jg_record.specs.Operands.{is_count}
use Rattle.jg_record.proofs.Reading.{has_row, no_row, question_fault}
use Rattle.jg_record.proofs.read.read_question.Goals as goal

pub returns-in_default-row_of-clause-err : goal.returns-in_default-row_of-clause-err
returns-in_default-row_of-clause-err c =
    let split = cut_rest (fields c.in-Some.rest.now) c.cut.result.0.now c.cut.result.1 c.cut.ensures in
    let none = ap (slice_get functions) (sym c.from.ensures) ∙ sym c.row_of.ensures ∙ ap (λ r. option_map columns (option_copied r)) c.in_default-row_of.is in
    rw c.in-Some.is (no_row _ _ c.cut.result.0.now c.in-Some-place_of.function split c.in-Some-place_of.ensures.one none)

pub returns-in-Ok-clause-ok : goal.returns-in-Ok-clause-ok
returns-in-Ok-clause-ok c =
    let split = cut_rest (fields c.in-Some.rest.now) c.cut.result.0.now c.cut.result.1 c.cut.ensures in
    let at = ap (slice_get functions) (sym c.from.ensures) ∙ sym c.row_of.ensures ∙ ap (λ r. option_map columns (option_copied r)) c.in-Some-row_of.is in
    rw c.in-Some.is (
      c.in-Some-place_of.function,
      columns c.in-Some-row_of.row.now,
      rest_fields (option_copied c.cut.result.1),
      has_row _ _ c.cut.result.0.now c.in-Some-place_of.function (columns c.in-Some-row_of.row.now) split c.in-Some-place_of.ensures.some
          c.in-Some-place_of.ensures.one at,
      refl,
      c.in-Ok.ensures.ok,
    )

pub returns-in-Err : goal.returns-in-Err
returns-in-Err c =
    let split = cut_rest (fields c.in-Some.rest.now) c.cut.result.0.now c.cut.result.1 c.cut.ensures in
    let at = ap (slice_get functions) (sym c.from.ensures) ∙ sym c.row_of.ensures ∙ ap (λ r. option_map columns (option_copied r)) c.in-Some-row_of.is in
    let count = ap (is_count c.in-Some-row_of.row.now.takes.now) (sym c.count_fields.ensures) ∙ sym c.is_count.ensures ∙ c.if-not-is_count.true in
    record {
      ok = tt;
      err = rw c.in-Some.is (
        c.in-Some-place_of.function,
        columns c.in-Some-row_of.row.now,
        rest_fields (option_copied c.cut.result.1),
        has_row _ _ c.cut.result.0.now c.in-Some-place_of.function (columns c.in-Some-row_of.row.now) split c.in-Some-place_of.ensures.some
            c.in-Some-place_of.ensures.one at,
        count,
      );
    }

pub returns-in-Err-2 : goal.returns-in-Err-2
returns-in-Err-2 c =
    let split = cut_rest (fields c.in-Some.rest.now) c.cut.result.0.now c.cut.result.1 c.cut.ensures in
    let at = ap (slice_get functions) (sym c.from.ensures) ∙ sym c.row_of.ensures ∙ ap (λ r. option_map columns (option_copied r)) c.in-Some-row_of.is in
    let count = ap (is_count c.in-Some-row_of.row.now.takes.now) (sym c.count_fields.ensures) ∙ sym c.is_count.ensures ∙ c.if-not-is_count.false in
    record {
      ok = tt;
      err = rw c.in-Some.is (question_fault _ c.in-Some-place_of.function (columns c.in-Some-row_of.row.now) (rest_fields (option_copied c.cut.result.1))
          c.in-Err.field-0
          (has_row _ _ c.cut.result.0.now c.in-Some-place_of.function (columns c.in-Some-row_of.row.now) split c.in-Some-place_of.ensures.some
          c.in-Some-place_of.ensures.one at) count c.in-Err.ensures.err);
    }
