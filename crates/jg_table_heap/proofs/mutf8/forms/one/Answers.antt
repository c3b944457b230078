use Rattle.std.proofs.Common.{arith, ap, sym, ◌∙◌, Some, zero-add}
use Rattle.jg_table_heap.proofs.mutf8.forms.one.Goals as goal

pub returns-in_err-unit : goal.returns-in_err-unit
returns-in_err-unit c = rw c.from_residual.ensures (λ u w. let below = w.below in c.in_err-unit.ensures u (omega arith) (w.first ∙ ap Some (sym (zero-add u))))
