use Rattle.std.proofs.Common.{◌≡◌, ◌∙◌, ◌≤◌, ℕ, List, length, ap, sym, subst}
use Rattle.jg_words.specs.Entry.{Entry}
use Rattle.jg_policy.specs.Stated.{StatedSetup}
use Rattle.jg_explain.specs.Explained.{as_it_was}
use Rattle.jg_journal_record.specs.Retold.{WritesRecord, entries_alike}
use Rattle.jg_journal_record.proofs.Alike.{alike}
use Rattle.jg_journal_record.proofs.journal.retell_journal.Goals as goal

pub retell-requires : goal.retell-requires
retell-requires g c =
    let after = c.replay_journal-replayed.new.guard.journal in
    let count : c.entries_alike-count.result ≡ entries_alike c.replay_journal-replayed.result (length after) =
    c.entries_alike-count.ensures ∙ ap (entries_alike c.replay_journal-replayed.result) c.journal_len.ensures.len in
    let (h, history, finds, leaves) = c.replay_journal-replayed.ensures.replays in
    subst (λ (n : ℕ). n ≤ length after) (sym count) (alike _ _ _ _ h after _ c.replay_journal-replayed.result finds leaves).within

pub returns-clause-retells : goal.returns-clause-retells
returns-clause-retells g c =
    let after = c.replay_journal-replayed.new.guard.journal in
    let count : c.entries_alike-count.result ≡ entries_alike c.replay_journal-replayed.result (length after) =
    c.entries_alike-count.ensures ∙ ap (entries_alike c.replay_journal-replayed.result) c.journal_len.ensures.len in
    let (h, history, finds, leaves) = c.replay_journal-replayed.ensures.replays in
    let same : as_it_was c.entries_alike-count.result after ≡ h =
    ap (λ (n : ℕ). as_it_was n after) count ∙ (alike _ _ _ _ h after _ c.replay_journal-replayed.result finds leaves).same in
    let holds = g.W.Write.contents in
    let writes : StatedSetup → List Entry → Type 0 = λ s journal. WritesRecord s journal (holds c.args.writer.now.device) (holds c.retell.new.writer.device)
    in (
      h,
      history,
      finds,
      subst (λ (journal : List Entry). writes c.args.guard.now.setup journal) same
          (subst (λ (s : StatedSetup). writes s (as_it_was c.entries_alike-count.result after)) c.replay_journal-replayed.ensures.setup
          c.in_default.ensures.written),
    )
