-- What a record tells.
use Rattle.std.specs.Prelude.{ℕ, ◌≡◌, List, reverse}
use Rattle.jg_words.specs.Entry.{Entry}
use Rattle.jg_policy.specs.Stated.{StatedSetup}
use Rattle.jg_entry_facts_laws.specs.Entries.{facts_of}
use Rattle.jg_journal_record.specs.Lines.{Line, AreLines, facts_told}
use Rattle.jg_journal_record.specs.Retold.{IsRecordOf}

-- the record of a history is lines that tell the facts of the history, oldest first, and no others
-- (proofs/Telling.antt)
abbrev pub RecordsTellFacts : Type 0
RecordsTellFacts = (s : StatedSetup) (h : List Entry) (text : List ℕ) → IsRecordOf s h text
    → (lines : List Line) × AreLines s lines text × (facts_told lines ≡ reverse (facts_of s h))
