use Rattle.std.proofs.Common.{◌∙◌, sym}
use Rattle.jg_rows.proofs.Rows.{at_first, at_fields, at_virtual_calls, at_nonvirtual_calls, at_static_fields, at_static_calls, at_strings, at_arrays, to_last}
use Rattle.jg_rows.proofs.table.row_of.Goals as goal

pub returns-then-place-lt31 : goal.returns-then-place-lt31
returns-then-place-lt31 c = c.first_at.ensures ∙ sym (at_first c.args.place c.if-place-lt31.true)

pub returns-then-place-lt50 : goal.returns-then-place-lt50
returns-then-place-lt50 c = c.fields_at.ensures ∙ sym (at_fields c.args.place c.if-place-lt31.false c.if-place-lt50.true)

pub returns-then-place-lt81 : goal.returns-then-place-lt81
returns-then-place-lt81 c = c.virtual_calls_at.ensures ∙ sym (at_virtual_calls c.args.place c.if-place-lt50.false c.if-place-lt81.true)

pub returns-then-place-lt111 : goal.returns-then-place-lt111
returns-then-place-lt111 c = c.nonvirtual_calls_at.ensures ∙ sym (at_nonvirtual_calls c.args.place c.if-place-lt81.false c.if-place-lt111.true)

pub returns-then-place-lt130 : goal.returns-then-place-lt130
returns-then-place-lt130 c = c.static_fields_at.ensures ∙ sym (at_static_fields c.args.place c.if-place-lt111.false c.if-place-lt130.true)

pub returns-then-place-lt161 : goal.returns-then-place-lt161
returns-then-place-lt161 c = c.static_calls_at.ensures ∙ sym (at_static_calls c.args.place c.if-place-lt130.false c.if-place-lt161.true)

pub returns-then-place-lt174 : goal.returns-then-place-lt174
returns-then-place-lt174 c = c.strings_at.ensures ∙ sym (at_strings c.args.place c.if-place-lt161.false c.if-place-lt174.true)

pub returns-then-place-lt220 : goal.returns-then-place-lt220
returns-then-place-lt220 c = c.arrays_at.ensures ∙ sym (at_arrays c.args.place c.if-place-lt174.false c.if-place-lt220.true)

pub returns : goal.returns
returns c = c.last_at.ensures ∙ sym (to_last c.args.place c.if-place-lt220.false)
