use Rattle.std.proofs.Common.{◌≡◌, ◌+◌, ◌∙◌, Some, List, ap, sym}
use Rattle.std.specs.Prelude.{slice_get}
use Rattle.jg_words.specs.Entry.{Entry}
use Rattle.jg_rules.specs.Effects.{parts}
use Rattle.jg_rules.specs.Legal.{entry_at}
use Rattle.jg_rules.specs.Parts.{Parts}
use Rattle.jg_guard_advice.proofs.Standing.{foreseen_so, refused, took}
use Rattle.jg_guard_advice.proofs.advising.GuardAdviser.pass.Goals as goal

pub returns-in-Err-clause-follows : goal.returns-in-Err-clause-follows
returns-in-Err-clause-follows g c = λ first follows.
    refused first c.args.self.now.log c.lose.new.self c.args.guard.now.setup c.take_judged.new.guard.setup c.args.guard.now.journal
    c.take_judged.new.guard.journal follows c.lose.ensures.lost
    c.take_judged.ensures.setup c.in-Err.ensures.same (c.lose.ensures.most ∙ c.ask.ensures.most) (c.lose.ensures.all ∙ c.ask.ensures.all)

pub returns-clause-follows : goal.returns-clause-follows
returns-clause-follows g c = λ first follows.
    let s = c.args.guard.now.setup in
    let h = c.args.guard.now.journal in
    let new = c.take_judged.new.guard in
    let p : Parts = parts s h in
    let e : Entry = entry_at s p c.args.tid c.args.env c.args.call in
    let journal = c.in_default.ensures.took.journal in
    let both : Some e ≡ Some c.newest.result.now = sym (ap (λ (j : List Entry). slice_get j 0) journal) ∙ c.newest.ensures in
    let is : c.newest.result.now ≡ e = cc in
    took first c.args.self.now.log c.ask.new.self.log c.tell.new.self.log s new.setup c.view.result.setup.now h new.journal c.args.tid c.args.env c.args.call
    c.newest.result.now
    (c.journal_len.result + 1) follows c.requires.passes (ap (λ n. n + 1) c.journal_len.ensures.len) c.view.ensures.setup
    (λ hist logs. c.ask.ensures.logs p hist c.view.ensures.stands logs)
    (λ hist logs. c.tell.ensures.logs s p (parts new.setup new.journal) hist
    (λ free. foreseen_so s c.view.result.setup.now p c.args.tid c.args.env c.args.call c.newest.result.now c.ask.new.self.foreseen c.view.ensures.setup is
    (c.ask.ensures.foreseen p c.view.ensures.stands free)) c.view-2.ensures.stands logs)
    c.take_judged.ensures.setup journal is (c.tell.ensures.most ∙ c.ask.ensures.most) (c.tell.ensures.all ∙ c.ask.ensures.all)
