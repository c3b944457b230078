use Rattle.std.proofs.Common.{◌≡◌, ◌<◌, length, ◌∙◌, ◌-◌, arith, sym, subst, get_or, false, Bool, ℕ}
use Rattle.std.specs.List.{range_with_len}
use Rattle.jg_table_heap.specs.Kept.{LetsGo, marked_or_root}
use Rattle.jg_table_heap.proofs.Letting.{lets_start, lets_go, lets_stay, lets_row, trues_less, both_are}
use Rattle.jg_table_heap.proofs.collect.let_go_among.Goals.{then-is_let_go, else-is_let_go}
use Rattle.jg_table_heap.proofs.collect.let_go_among.Goals as goal

pub loop-object-init : goal.loop-object-init
loop-object-init g c = (
  lets_start (marked_or_root c.args.marks.now (g.R.Roots.is_root c.args.roots.now)) c.args.first c.args.there.now,
  omega arith,
  omega
      arith,
)

pub loop-object-preserved : goal.loop-object-preserved
loop-object-preserved g c =
    let held : ℕ → Bool = marked_or_root c.args.marks.now (g.R.Roots.is_root c.args.roots.now) in
    let object = c.loop-object.object in
    let cur = c.loop-object.there in
    let within : object < length cur = omega (arith, c.loop-object-test.true, c.requires.within, c.loop-object.auto.there) in
    elim c.if-is_let_go.branch [
      | then-is_let_go w ↦
          let both = both_are (get_or cur object false) (held object) (sym c.is_let_go.ensures ∙ w.if-is_let_go.true) in
          let less = trues_less cur object both.0 in
          rw (w.there-is, w.count-is) (
            lets_row held c.args.first object c.args.there.now _ (omega arith)
                (lets_go held (range_with_len c.args.first (object - c.args.first)) c.args.there.now cur object within
                c.loop-object.invariant.0 both.1),
            omega (arith, less, c.loop-object.invariant.1),
            omega (arith, c.loop-object.invariant.2),
          )
      | else-is_let_go w ↦
          rw (w.there-is, w.count-is) (
            lets_row held c.args.first object c.args.there.now cur (omega arith)
                (lets_stay held (range_with_len c.args.first (object - c.args.first)) c.args.there.now cur object
                c.loop-object.invariant.0 (sym c.is_let_go.ensures ∙ w.if-is_let_go.false)),
            c.loop-object.invariant.1,
            omega (arith, c.loop-object.invariant.2),
          )
    ]

pub returns-clause-there : goal.returns-clause-there
returns-clause-there g c =
    let held : ℕ → Bool = marked_or_root c.args.marks.now (g.R.Roots.is_root c.args.roots.now) in
    let last : c.loop-object.object ≡ c.args.end = omega (arith, c.loop-object-test.false) in
    subst (λ n. LetsGo held (range_with_len c.args.first (n - c.args.first)) c.args.there.now c.loop-object.there) last c.loop-object.invariant.0
