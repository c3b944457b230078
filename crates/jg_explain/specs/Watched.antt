-- Many conditions, each watched up to a place of its own, in one run over a journal.
use Rattle.std.specs.Prelude.{ℕ, Bool, true, false, nat_lt, min, List}
use Rattle.jg_words.specs.Entry.{Entry}
use Rattle.jg_policy.specs.Stated.{StatedSetup}
use Rattle.jg_breaches.specs.Turns.{turned, same, still}
use Rattle.jg_explain.specs.declared.watching.Watch.{Watch}
use Rattle.jg_explain.specs.Explained.{after, was, turns_before}

-- what is known of the condition after so many entries, of which those from its own place on don't count
abbrev pub watched : StatedSetup → List Entry → ℕ → Watch → Watch
watched s journal n w = record {
  place = w.place;
  condition = w.condition;
  holds = was s w.condition journal (min n w.place);
  turns = turns_before s w.condition journal (min n w.place);
}

-- what is known before any entry
abbrev pub begun_with : StatedSetup → List Entry → Watch → Watch
begun_with s h w = record { place = w.place; condition = w.condition; holds = after s w.condition h; turns = still }

abbrev pub asked_if : Bool → StatedSetup → List Entry → ℕ → Watch → Watch
asked_if true s h place w = record {
  place = w.place;
  condition = w.condition;
  holds = after s w.condition h;
  turns = turned (same w.holds (after s w.condition h)) place w.turns;
}
asked_if false s h place w = w

-- what is known after the entry at that place, the newest of h
abbrev pub asked_at : StatedSetup → List Entry → ℕ → Watch → Watch
asked_at s h place w = asked_if (nat_lt place w.place) s h place w
