-- What receipts and journal are where they agree. A journal has its newest entry first, receipts have the oldest first.
use Rattle.std.specs.Prelude.{◌≡◌, List, map, reverse, Any}
use Rattle.jg_words.specs.Entry.{Entry}
use Rattle.jg_shell.specs.Receipts.{entries_of, placed}
use Rattle.jg_shell.specs.Work.{Work}

-- the entries of the worker's thread are its receipts, each once, in order, at their places
abbrev pub IsOwnEntries : List Entry → Work → Type 0
IsOwnEntries h w = entries_of w.tid h ≡ map placed (reverse w.receipts)

-- the entry's thread has a worker
abbrev pub IsOfSome : List Work → Entry → Type 0
IsOfSome workers x = Any (λ (w : Work). w.tid ≡ x.tid) workers
