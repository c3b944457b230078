use Rattle.std.proofs.Common.{rules, ◌+◌, ◌∙◌, drop, sym, slice_index_or, arith}
use Rattle.std.specs.Option.{option_map}
use Rattle.std.proofs.lemmas.List.{at_drop_more, at_drop_all}
use Rattle.jg_words.specs.declared.object.ObjId.{ObjId}
use Rattle.jg_table_objects.specs.Rows.{mark_in}
use Rattle.jg_core.specs.Gone.{first_unfit}
use Rattle.jg_core.proofs.Going.{marked_more, unfit_later, unfit_now, unlisted_before}
use Rattle.jg_core.proofs.gone.first_unfit.Goals as goal

pub returns-then-not-pass-clause-first : goal.returns-then-not-pass-clause-first
returns-then-not-pass-clause-first g c =
    let m = mark_in c.loop-i.store in
    let i = c.loop-i.i in
    let objects = c.args.objects.now in
    let o : ObjId = slice_index_or objects i (record { 0 = 0 }) in
    sym (c.loop-i.invariant.first
    ∙ at_drop_more (λ l. option_map (λ n. n + i) (first_unfit m l)) objects i (record { 0 = 0 }) c.loop-i-test.true
    ∙ unfit_now i m o (drop (i + 1) objects) (sym c.if-not-pass.ensures.result))

pub returns-then-not-pass-clause-others : goal.returns-then-not-pass-clause-others
returns-then-not-pass-clause-others g c = λ q unlisted.
    c.if-not-pass.ensures.marks q ∙ c.loop-i.invariant.set q ∙ unlisted_before c.args.objects.now c.loop-i.i q _ _ unlisted

pub loop-i-preserved : goal.loop-i-preserved
loop-i-preserved g c =
    let m = mark_in c.loop-i.store in
    let i = c.loop-i.i in
    let objects = c.args.objects.now in
    let o : ObjId = slice_index_or objects i (record { 0 = 0 }) in
    record {
      first = c.loop-i.invariant.first
          ∙ at_drop_more (λ l. option_map (λ n. n + i) (first_unfit m l)) objects i (record { 0 = 0 }) c.loop-i-test.true
          ∙ unfit_later i m (mark_in c.pass.new.store) o (drop (i + 1) objects) (sym c.if-not-pass.ensures.result) c.if-not-pass.ensures.marks;
      set = λ q. marked_more objects i q m (mark_in c.pass.new.store) _ c.loop-i-test.true (c.loop-i.invariant.set q) (c.if-not-pass.ensures.marks q);
      same = search rules;
    }

pub returns-clause-first : goal.returns-clause-first
returns-clause-first g c =
    let m = mark_in c.loop-i.store in
    let i = c.loop-i.i in
    sym (c.loop-i.invariant.first ∙ at_drop_all (λ l. option_map (λ n. n + i) (first_unfit m l)) c.args.objects.now i (omega (arith, c.loop-i-test.false)))
