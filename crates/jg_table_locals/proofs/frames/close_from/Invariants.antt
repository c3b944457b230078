use Rattle.std.proofs.Common.{◌≡◌, ◌≤◌, ◌-◌}
use Rattle.std.specs.Prelude.{filter, vec_len, vec_capacity}
use Rattle.jg_table_locals.specs.Seen.{Chain, is_under, is_opened_under}
use Rattle.jg_table_locals.proofs.frames.close_from.Given as goal

-- what is closed is not under the frame
abbrev pub invariant-loop-from : goal.invariant-loop-from
invariant-loop-from g l =
    (filter (λ o. is_under o.frame l.from) l.frames.items ≡ filter (λ o. is_under o.frame l.from) l.initial.frames.items)
    × Chain is_opened_under l.frames.items
    × (vec_capacity l.initial.frames - vec_len l.initial.frames ≤ vec_capacity l.frames - vec_len l.frames)

abbrev pub decreases-loop-from : goal.decreases-loop-from
decreases-loop-from g l = vec_len l.frames
