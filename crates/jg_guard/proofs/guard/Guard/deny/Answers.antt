use Rattle.std.proofs.Common.{rules, ◌≡◌, ◌<◌, List, length, refl, reverse, Some, subst, sym, ◌∷◌}
use Rattle.jg_words.specs.Entry.{Entry}
use Rattle.jg_rules.specs.Effects.{parts}
use Rattle.jg_rules.specs.Rules.{verdict}
use Rattle.jg_guard.specs.Guard.{state_of, State, Takes}
use Rattle.jg_guard.specs.Peaks.{ArePeaks}
use Rattle.jg_guard.specs.Tables.{rows_of}
use Rattle.jg_guard.specs.Tally.{IsTally}
use Rattle.jg_guard.proofs.Most.{peaks_same}
use Rattle.jg_guard.proofs.Tallies.{fits, one_more}
use Rattle.jg_guard.proofs.Passing.{denied_sound, denied_entry, entry_denied, takes_entry}
use Rattle.jg_guard.proofs.guard.Guard.deny.Goals as goal

pub invariant_of-self-2 : goal.invariant_of-self-2
invariant_of-self-2 g c =
    let state : State = state_of c.self.inside.setup c.self.inside.limit c.self.inside.journal in
    let room : length state.journal < state.limit = subst (λ (s : State). length s.journal < s.limit) (sym c.self.view_is) c.requires.room in
    let denied : verdict state.setup (parts state.setup state.journal) c.args.tid.0 c.args.env c.args.call ≡ Some c.args.rule =
    subst (λ (s : State). verdict s.setup (parts s.setup s.journal) c.args.tid.0 c.args.env c.args.call ≡ Some c.args.rule)
    (sym c.self.view_is) c.requires.denied in
    let journal : reverse c.push_reserved.new.journal.items ≡ denied_entry c.args.tid c.args.env c.args.call c.args.rule ∷ state.journal = search rules in
    let x : Entry = denied_entry c.args.tid c.args.env c.args.call c.args.rule in
    let peaks = peaks_same state.setup state.journal x c.self.inside.peaks refl c.self.invariant.1 in (
      denied_sound state _ _ (rows_of c.self.inside.tables) c.args.tid c.args.env c.args.call c.args.rule c.self.invariant.0 room denied journal,
      subst (λ (j : List Entry). ArePeaks state.setup j c.self.inside.peaks) (sym journal) peaks,
      subst (λ (j : List Entry). IsTally j c.count.new.tally) (sym journal)
          (one_more state.journal x c.self.inside.tally c.count.new.tally c.number.result (search rules) (sym c.number.ensures) c.self.invariant.2
          c.count.ensures),
    )

pub count-requires-clause-fits : goal.count-requires-clause-fits
count-requires-clause-fits g c =
    let state : State = state_of c.self.inside.setup c.self.inside.limit c.self.inside.journal in
    let room : length state.journal < state.limit = subst (λ (s : State). length s.journal < s.limit) (sym c.self.view_is) c.requires.room in
    fits state.journal c.self.inside.tally state.limit c.number.result c.self.invariant.2 room c.self.invariant.0.small

pub returns-clause-ok : goal.returns-clause-ok
returns-clause-ok g c =
    let state : State = state_of c.self.inside.setup c.self.inside.limit c.self.inside.journal in
    let denied : verdict state.setup (parts state.setup state.journal) c.args.tid.0 c.args.env c.args.call ≡ Some c.args.rule =
    subst (λ (s : State). verdict s.setup (parts s.setup s.journal) c.args.tid.0 c.args.env c.args.call ≡ Some c.args.rule)
    (sym c.self.view_is) c.requires.denied in
    let x : Entry = denied_entry c.args.tid c.args.env c.args.call c.args.rule in
    let journal : reverse c.push_reserved.new.journal.items ≡ x ∷ state.journal = search rules in
    subst (λ (s : State). Takes s (state_of c.self.inside.setup c.self.inside.limit c.push_reserved.new.journal) x.tid x.env x.call x.outcome)
    c.self.view_is
    (takes_entry state (rows_of c.self.inside.tables) x (reverse c.push_reserved.new.journal.items) c.push_reserved.new.journal.spare c.self.invariant.0 journal
    (entry_denied state.setup (parts state.setup state.journal) c.args.tid c.args.env c.args.call c.args.rule denied))
