use Rattle.std.proofs.Common.{ap, ◌∙◌, rules, ◌≡◌, ◌<◌, List, length, reverse, None, subst, sym, refl, ◌∷◌}
use Rattle.jg_words.specs.Entry.{Entry}
use Rattle.jg_words.specs.Value.{is_list}
use Rattle.jg_rules.specs.declared.answer.Answer.{Answer}
use Rattle.jg_rules.specs.Answers.{with_notice}
use Rattle.jg_rules.specs.Effects.{parts, passed_on}
use Rattle.jg_rules.specs.Parts.{Parts, TableRows}
use Rattle.jg_rules.specs.Rules.{verdict}
use Rattle.jg_guard.specs.Guard.{state_of, State, Takes}
use Rattle.jg_guard.specs.Tables.{rows_of}
use Rattle.jg_guard.specs.Findings.{IsReady}
use Rattle.jg_guard.specs.Peaks.{ArePeaks, IsNow}
use Rattle.jg_guard.specs.Tally.{IsTally}
use Rattle.jg_guard.proofs.Tallies.{fits, one_more}
use Rattle.jg_guard.proofs.Most.{peaks_raised}
use Rattle.jg_guard.proofs.Passing.{due_of, passed_by, passed_entry, entry_taken, takes_entry, sound_after, answered_due}
use Rattle.jg_guard.proofs.Cleaning.{listed}
use Rattle.jg_guard.proofs.Due.{due_at}
use Rattle.jg_guard.proofs.guard.Guard.pass.Goals as goal

pub answer_to-requires : goal.answer_to-requires
answer_to-requires g c =
    let state : State = state_of c.self.inside.setup c.self.inside.limit c.self.inside.journal in
    let none : verdict state.setup (parts state.setup state.journal) c.args.tid.0 c.args.env c.args.call ≡ None =
    subst (λ (s : State). verdict s.setup (parts s.setup s.journal) c.args.tid.0 c.args.env c.args.call ≡ None) (sym c.self.view_is) c.requires.passed in
    due_at state.setup _ (rows_of c.self.inside.tables) _ c.args.tid.0 c.args.call c.view-view.ensures.setup c.view-view.ensures.rows
    (due_of state _ c.args.tid c.args.env c.args.call c.self.invariant.0 none)

pub perform-requires-clause-ready : goal.perform-requires-clause-ready
perform-requires-clause-ready g c =
    subst (λ (rows : TableRows). IsReady rows.heap c.args.call c.find_held_for.new.findings) c.view-view.ensures.rows c.in-Ok.ensures.ready

pub perform-requires-clause-answered : goal.perform-requires-clause-answered
perform-requires-clause-answered g c =
    let state : State = state_of c.self.inside.setup c.self.inside.limit c.self.inside.journal in
    let given : Answer = c.in-Ok-answer_to.given in
    let passed = passed_by g.row.A.Denot state c.args.self.now c.view-view.result.setup.now
    (rows_of c.self.inside.tables) _ c.args.tid c.args.env c.args.call given c.find_held_for.new.findings c.self.invariant.0 c.self.view_is
    c.view-view.ensures.setup c.view-view.ensures.rows c.requires.passed c.in-Ok.ensures.found c.in-Ok-answer_to.ensures.given in
    answered_due g.row.A.Denot state (rows_of c.self.inside.tables) c.args.tid c.args.env c.args.call given _ c.find_held_for.new.findings c.self.invariant.0
    passed refl refl refl refl

-- what gives something back answers no list, so its answer is copied without memory
pub returns-in_default-try_copy-clause-wants : goal.returns-in_default-try_copy-clause-wants
returns-in_default-try_copy-clause-wants g c = λ room.
    let state : State = state_of c.self.inside.setup c.self.inside.limit c.self.inside.journal in
    let given : Answer = c.in-Ok-answer_to.given in
    let passed = passed_by g.row.A.Denot state c.args.self.now c.view-view.result.setup.now
    (rows_of c.self.inside.tables) _ c.args.tid c.args.env c.args.call given c.find_held_for.new.findings c.self.invariant.0 c.self.view_is
    c.view-view.ensures.setup c.view-view.ensures.rows c.requires.passed c.in-Ok.ensures.found c.in-Ok-answer_to.ensures.given in
    listed state.setup (parts state.setup state.journal) c.args.tid c.args.call
    (ap (λ (a : Answer). is_list a.reply.value) (sym passed.answers) ∙ c.in_default-try_copy.ensures.wants)

pub invariant_of-self-in_default-perform : goal.invariant_of-self-in_default-perform
invariant_of-self-in_default-perform g c =
    rw c.reserve.ensures.items ((
      record {
        legal = c.self.invariant.0.legal;
        small = c.self.invariant.0.small;
        bounded = c.self.invariant.0.bounded;
        tables = c.in_default-perform.ensures.err _ c.self.invariant.0.tables;
      },
      c.self.invariant.1,
      c.self.invariant.2,
    ))

pub invariant_of-self-2 : goal.invariant_of-self-2
invariant_of-self-2 g c =
    let state : State = state_of c.self.inside.setup c.self.inside.limit c.self.inside.journal in
    let room : length state.journal < state.limit = subst (λ (s : State). length s.journal < s.limit) (sym c.self.view_is) c.requires.room in
    let given : Answer = c.in-Ok-answer_to.given in
    let passed = passed_by g.row.A.Denot state c.args.self.now c.view-view.result.setup.now
    (rows_of c.self.inside.tables) _ c.args.tid c.args.env c.args.call given c.find_held_for.new.findings c.self.invariant.0 c.self.view_is
    c.view-view.ensures.setup c.view-view.ensures.rows c.requires.passed c.in-Ok.ensures.found c.in-Ok-answer_to.ensures.given in
    let p : Parts = parts state.setup state.journal in
    let stands = c.in-Ok-perform.ensures.stands p c.self.invariant.0.tables passed.answers passed.found in
    let told = c.is_noticed-noticed.ensures state.setup (passed_on state.setup c.args.tid.0 c.args.call given.reply given.object p) stands in
    let x : Entry = passed_entry c.args.tid c.args.env c.args.call (with_notice c.is_noticed-noticed.result given) in
    let next = entry_taken g.row.A.Denot state c.args.tid c.args.env c.args.call given c.find_held_for.new.findings c.is_noticed-noticed.result passed told in
    let journal : reverse c.push_reserved.new.journal.items ≡ x ∷ state.journal = search rules in
    let sound = sound_after state _ _ x (rows_of c.self.inside.tables) (rows_of c.perform.new.tables) c.self.invariant.0 room journal next stands in
    let now = subst (λ (j : List Entry). IsNow state.setup j c.counted.result) journal (c.counted.ensures state.setup _ sound.tables) in
    let peaks = peaks_raised state.setup state.journal x c.self.inside.peaks c.counted.result c.self.invariant.1 now in (
      sound,
      subst (λ (j : List Entry). ArePeaks state.setup j c.raised-self-inside.result) (sym journal)
          (subst (ArePeaks state.setup (x ∷ state.journal)) (sym c.raised-self-inside.ensures) peaks),
      subst (λ (j : List Entry). IsTally j c.count.new.tally) (sym journal)
          (one_more state.journal x c.self.inside.tally c.count.new.tally 0 (search rules) refl c.self.invariant.2 c.count.ensures),
    )

pub count-requires-clause-fits : goal.count-requires-clause-fits
count-requires-clause-fits g c =
    let state : State = state_of c.self.inside.setup c.self.inside.limit c.self.inside.journal in
    let room : length state.journal < state.limit = subst (λ (s : State). length s.journal < s.limit) (sym c.self.view_is) c.requires.room in
    fits state.journal c.self.inside.tally state.limit 0 c.self.invariant.2 room c.self.invariant.0.small

pub returns-clause-ok : goal.returns-clause-ok
returns-clause-ok g c =
    let state : State = state_of c.self.inside.setup c.self.inside.limit c.self.inside.journal in
    let given : Answer = c.in-Ok-answer_to.given in
    let passed = passed_by g.row.A.Denot state c.args.self.now c.view-view.result.setup.now
    (rows_of c.self.inside.tables) _ c.args.tid c.args.env c.args.call given c.find_held_for.new.findings c.self.invariant.0 c.self.view_is
    c.view-view.ensures.setup c.view-view.ensures.rows c.requires.passed c.in-Ok.ensures.found c.in-Ok-answer_to.ensures.given in
    let p : Parts = parts state.setup state.journal in
    let stands = c.in-Ok-perform.ensures.stands p c.self.invariant.0.tables passed.answers passed.found in
    let told = c.is_noticed-noticed.ensures state.setup (passed_on state.setup c.args.tid.0 c.args.call given.reply given.object p) stands in
    let x : Entry = passed_entry c.args.tid c.args.env c.args.call (with_notice c.is_noticed-noticed.result given) in
    let next = entry_taken g.row.A.Denot state c.args.tid c.args.env c.args.call given c.find_held_for.new.findings c.is_noticed-noticed.result passed told in
    let journal : reverse c.push_reserved.new.journal.items ≡ x ∷ state.journal = search rules in
    rw c.in-Ok-try_copy.ensures.copy
    (subst (λ (s : State). Takes s (state_of c.self.inside.setup c.self.inside.limit c.push_reserved.new.journal) x.tid x.env x.call x.outcome)
    c.self.view_is
    (takes_entry state (rows_of c.self.inside.tables) x (reverse c.push_reserved.new.journal.items) c.push_reserved.new.journal.spare c.self.invariant.0 journal
    next))
