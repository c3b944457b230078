-- What a core's view shows to an adviser.
use Rattle.std.proofs.Common.{ℕ, List, sym, subst}
use Rattle.jg_table_heap.specs.History.{Event}
use Rattle.jg_rules.specs.declared.view.View.{View}
use Rattle.jg_rules.specs.Parts.{Parts}
use Rattle.jg_rules.specs.View.{ViewTells}
use Rattle.jg_core.specs.declared.fact.Fact.{Fact}
use Rattle.jg_core.specs.Facts.{parts_of}
use Rattle.jg_core.specs.Kernel.{CoreState, CoreStands}
use Rattle.jg_advice.specs.Standing.{Sees}
use Rattle.jg_c.specs.Advising.{Shows}

told_seen : {A S I : Type 0} (Tells : S → ℕ → List Event → Type 0) (view : View A S I) (p : Parts) → ViewTells Tells view p → Sees view p
told_seen Tells view p tells = record { locals = tells.locals; buffers = tells.buffers; monitors = tells.monitors }

-- it tells of the events that the core's tables stand for
pub tells_shown : {A S I : Type 0} (Tells : S → ℕ → List Event → Type 0) (view : View A S I) (core : CoreState)
    → ((facts : List Fact) → CoreStands core facts → ViewTells Tells view (parts_of facts))
    → (p : Parts) → Shows core p → ViewTells Tells view p
tells_shown Tells view core tells p (facts, stands, is) =
    subst (λ (q : Parts). ViewTells Tells view q) (sym is) (tells facts stands)

-- and shows of them what an adviser looks at
pub sees : {A S I : Type 0} (Tells : S → ℕ → List Event → Type 0) (view : View A S I) (core : CoreState)
    → ((facts : List Fact) → CoreStands core facts → ViewTells Tells view (parts_of facts))
    → (p : Parts) → Shows core p → Sees view p
sees Tells view core tells p shown = told_seen Tells view p (tells_shown Tells view core tells p shown)
