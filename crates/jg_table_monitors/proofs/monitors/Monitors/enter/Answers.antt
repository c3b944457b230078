use Rattle.std.proofs.Common.{sym, refl, ◌∙◌, ap, arith}
use Rattle.std.specs.Prelude.{map}
use Rattle.jg_lists.specs.ByThread.{at}
use Rattle.jg_table_monitors.specs.Rows.{count_in, owner_in}
use Rattle.jg_table_monitors.specs.Standing.{Stands}
use Rattle.jg_table_monitors.specs.Seen.{seen}
use Rattle.jg_table_monitors.proofs.Lookups.{reopened, row_law, row_answer, event_answer, kept_law, on_err}
use Rattle.jg_table_monitors.proofs.Steps.{free_is, raise_law, row_at, take_law}
use Rattle.jg_table_monitors.proofs.monitors.Monitors.enter.Goals as goal

pub raise_own-requires : goal.raise_own-requires
raise_own-requires g c =
    let entries = c.self.inside.owned in
    let kept = kept_law c.args.object.0 (at c.args.object.0 entries) in
    let row = ap count_in (row_law entries _ c.args.object.0 c.self.view_is) in
    omega (arith, kept, row, c.requires)

pub returns-in-Own-clause-row : goal.returns-in-Own-clause-row
returns-in-Own-clause-row g c = row_answer c.self.inside.owned _ c.args.tid.0 c.args.object.0 _ c.self.view_is c.in-Own.ensures.found

pub returns-in-Own-clause-stands : goal.returns-in-Own-clause-stands
returns-in-Own-clause-stands g c = λ e stands. event_answer c.self.inside.owned _ e c.args.tid.0 c.args.object.0 _ c.self.view_is stands c.in-Own.ensures.found

pub returns-in-Others-clause-row : goal.returns-in-Others-clause-row
returns-in-Others-clause-row g c = row_answer c.self.inside.owned _ c.args.tid.0 c.args.object.0 _ c.self.view_is c.in-Others.ensures.found

pub returns-in-Others-clause-stands : goal.returns-in-Others-clause-stands
returns-in-Others-clause-stands g c =
    λ e stands. event_answer c.self.inside.owned _ e c.args.tid.0 c.args.object.0 _ c.self.view_is stands c.in-Others.ensures.found

pub returns-in_ok-take-in-Free-clause-row : goal.returns-in_ok-take-in-Free-clause-row
returns-in_ok-take-in-Free-clause-row g c = row_answer c.self.inside.owned _ c.args.tid.0 c.args.object.0 _ c.self.view_is c.in-Free.ensures.found

pub returns-in_ok-take-in-Free-clause-stands : goal.returns-in_ok-take-in-Free-clause-stands
returns-in_ok-take-in-Free-clause-stands g c =
    λ e stands. event_answer c.self.inside.owned _ e c.args.tid.0 c.args.object.0 _ c.self.view_is stands c.in-Free.ensures.found

-- the owner's count is one more
pub returns-in-Own-clause-entered : goal.returns-in-Own-clause-entered
returns-in-Own-clause-entered g c = λ done e stands.
    let entries = c.self.inside.owned in
    let was : Stands (record { owned = map seen entries }) e = reopened _ _ e c.self.view_is stands in
    raise_law entries c.raise_own.new.map e c.args.tid.0 c.args.object.0 was (sym c.in-Own.ensures.found) c.in-Own.ensures.once c.in-Own.ensures.raised

-- the thread is the owner, once
pub returns-in_ok-take-in-Free-clause-entered : goal.returns-in_ok-take-in-Free-clause-entered
returns-in_ok-take-in-Free-clause-entered g c = λ done e stands.
    let entries = c.self.inside.owned in
    let was : Stands (record { owned = map seen entries }) e = reopened _ _ e c.self.view_is stands in
    take_law entries c.raise_own.new.map c.take.new.owned e c.args.tid.0 c.args.object.0 was (sym c.in-Free.ensures.found) (c.in-Free.ensures.free refl)
    c.in_ok-take-in-Free.ensures.once c.in_ok-take-in-Free.ensures.taken

-- only what nobody owned can fail
pub returns-in_err-take-in-Free-clause-free : goal.returns-in_err-take-in-Free-clause-free
returns-in_err-take-in-Free-clause-free g c =
    let entries = c.self.inside.owned in
    on_err _ _ (ap owner_in (row_law entries _ c.args.object.0 c.self.view_is)
    ∙ ap (λ found. owner_in (row_at c.args.object.0 found)) (free_is c.args.tid.0 (at c.args.object.0 entries) (sym c.in-Free.ensures.found)))
