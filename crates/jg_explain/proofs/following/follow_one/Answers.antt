use Rattle.std.proofs.Common.{◌+◌, List, map, sym, ap, ◌∙◌, subst, arith, All}
use Rattle.jg_words.specs.Entry.{Entry}
use Rattle.jg_policy.specs.Stated.{StatedSetup}
use Rattle.jg_explain.specs.Followed.{IsSeen, IsSteady, IsTraced, asked_steady}
use Rattle.jg_explain.proofs.Followed.{all_through}
use Rattle.jg_explain.proofs.Steadying.{all_asked_steady}
use Rattle.jg_explain.proofs.following.follow_one.Goals as goal

pub returns-clause-followed : goal.returns-clause-followed
returns-clause-followed g c old =
    let whole = c.args.guard.now in
    let s = whole.setup in
    let h = whole.journal in
    let at = c.args.at in
    let traces = c.args.following.now.traces in
    let steady = c.args.following.now.steady in
    let front = c.in_ok-replay_entry.ensures in
    let again = c.replay_entry.new.again in
    let lent = subst (All (IsTraced s h)) (sym c.deref_mut.ensures.value) old.seen in
    let found = subst (All (IsSeen s h at)) (sym c.deref-4.ensures.value) (c.in-Ok-see_each.ensures whole at c.requires.front) in
    let seen = c.trace_each.ensures whole front c.requires.within found lent in
    let entry = c.in-Some.entry.now in
    let asked = all_asked_steady s h at entry c.requires.within (sym c.in-Some.ensures.entry) steady.items old.asked in
    let made = c.ask_steady.ensures ∙ ap (λ (r : StatedSetup). map (asked_steady r again.journal entry at) c.deref_mut-2.result.now) front.setup
    ∙ ap (λ (j : List Entry). map (asked_steady s j entry at) c.deref_mut-2.result.now) front.journal in
    let all = subst (All (IsSteady s h (at + 1))) (sym (made ∙ ap (map (asked_steady s _ entry at)) c.deref_mut-2.ensures.value)) asked in
    record {
      seen = all_through (IsTraced s h) traces.len traces.items c.deref_mut.result.now c.trace_each.new.traces (omega (arith, traces.ok))
          c.deref_mut.ensures.value c.trace_each.auto.traces seen;
      asked = all_through (IsSteady s h (at + 1)) steady.len steady.items c.deref_mut-2.result.now c.ask_steady.new.all (omega (arith, steady.ok))
          c.deref_mut-2.ensures.value
          c.ask_steady.auto.all all;
    }
