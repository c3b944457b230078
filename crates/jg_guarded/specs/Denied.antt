-- The denials of a journal.
use Rattle.std.specs.Prelude.{ℕ, List, [], ◌∷◌, ◌++◌, length, Option, Some, None}
use Rattle.jg_words.specs.declared.rule.Rule.{Rule}
use Rattle.jg_words.specs.Entry.{Entry, rule_in}
use Rattle.jg_guarded.specs.declared.denial.Denial.{Denial}

-- the denial of the entry at this place, where a rule denied it
abbrev pub denial_at : ℕ → Option Rule → List Denial
denial_at place None = []
denial_at place (Some rule) = record { place = place; rule = rule } ∷ []

-- the denials of a journal, the oldest first; an entry's place is how many are before it
abbrev pub denials_in : List Entry → List Denial
denials_in [] = []
denials_in (x ∷ h) = denials_in h ++ denial_at (length h) (rule_in x.outcome)
