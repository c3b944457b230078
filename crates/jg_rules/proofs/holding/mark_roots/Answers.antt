use Rattle.std.proofs.Common.{ℕ, Bool, refl}
use Rattle.std.specs.Prelude.{◌||◌}
use Rattle.jg_table_threads.specs.History as threads
use Rattle.jg_table_locals.specs.History as locals
use Rattle.jg_table_globals.specs.History as globals
use Rattle.jg_table_buffers.specs.History as buffers
use Rattle.jg_table_monitors.specs.History as monitors
use Rattle.jg_lists.proofs.Marks.{marks_more}
use Rattle.jg_rules.specs.Holding.{is_root}
use Rattle.jg_rules.proofs.holding.mark_roots.Goals as goal

pub returns : goal.returns
returns g c = λ p stands.
    let of_locals : ℕ → Bool = λ o. locals.holds_object p.locals o in
    let of_globals : ℕ → Bool = λ o. globals.holds_object p.globals o in
    let of_threads : ℕ → Bool = λ o. threads.is_pending p.threads o in
    let of_buffers : ℕ → Bool = λ o. buffers.pins_object p.buffers o in
    let of_monitors : ℕ → Bool = λ o. monitors.held p.monitors o in
    let one : ℕ → Bool = λ o. of_locals o || of_globals o in
    let two : ℕ → Bool = λ o. one o || of_threads o in
    let three : ℕ → Bool = λ o. two o || of_buffers o in
    marks_more three of_monitors (is_root p) _ _ _
    (marks_more two of_buffers three _ _ _
    (marks_more one of_threads two _ _ _
    (marks_more of_locals of_globals one _ _ _ (c.mark_held.ensures p.locals stands.locals) (c.mark_held-2.ensures p.globals stands.globals) (λ o. refl))
    (c.mark_held-3.ensures p.threads stands.threads) (λ o. refl))
    (c.mark_held-4.ensures p.buffers stands.buffers) (λ o. refl))
    (c.mark_held-5.ensures p.monitors stands.monitors) (λ o. refl)
