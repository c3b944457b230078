use Rattle.jg_core.proofs.gone.mark_held.Given as goal

-- what the store tells when the tables mark in it
abbrev pub ghosts-mark_in_store : goal.ghosts-mark_in_store
ghosts-mark_in_store g a = record { before = a.store }
