use Rattle.std.proofs.Common.{rules, arith, sym, ◌∙◌, ap, ◌-◌, length, drop, get_or, pos, FitsSigned, w64}
use Rattle.std.proofs.lemmas.Int.{to_z-of_z}
use Rattle.std.proofs.lemmas.List.{drop_all}
use Rattle.std.proofs.lemmas.List.Elements.{All-nil, All-same}
use Rattle.jg_text.specs.Pieces.{after_commas}
use Rattle.jg_text.proofs.Lists.{item_before, fit_before, written_before}
use Rattle.jg_text.proofs.list.write_items.Goals as goal

pub loop-left-init : goal.loop-left-init
loop-left-init c =
    let none = drop_all (length c.args.items.now) c.args.items.now (omega arith) in
    record {
      within = omega arith;
      place = omega arith;
      room = omega arith;
      written = drop_all 256 c.args.buffer.now (omega arith) ∙ sym (ap after_commas none);
      fits = All-same (λ z. FitsSigned w64 z) _ _ none (All-nil (λ z. FitsSigned w64 z));
    }

pub loop-left-preserved : goal.loop-left-preserved
loop-left-preserved c =
    let inv = c.loop-left.invariant in
    let items = c.args.items.now in
    let x = get_or items (c.loop-left.left - 1) (pos 0) in
    let fits : FitsSigned w64 x = search rules in
    let split = item_before items c.loop-left.left c.loop-left-test.true inv.within in
    record {
      within = omega arith;
      place = omega arith;
      room = omega arith;
      written = written_before _ _ _ (drop (c.loop-left.left - 1) items) (drop c.loop-left.left items) x split c.put_before-start.ensures.written
          (simp to_z-of_z at c.write_signed-item.ensures.written) inv.written;
      fits = fit_before _ _ x split fits inv.fits;
    }
