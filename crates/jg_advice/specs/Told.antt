-- What is told of a history by one that advises and notes.
use Rattle.std.specs.Prelude.{ℕ, ◌≡◌, Bool, false, List, [], ◌∷◌, ◌++◌, reverse}
use Rattle.jg_advice.specs.declared.advice.Advice.{Advice}
use Rattle.jg_advice.specs.Moments.{Moment}
use Rattle.jg_advice.specs.Advised.{AreLeft, IsAdvised}
use Rattle.jg_advice.specs.Noted.{IsNoted, Noting, told_text}
use Rattle.jg_advice.specs.Standing.{AdviserState, Stands}

-- all that is advised at the moments of the history, the newest first
abbrev pub AreAdvised : ℕ → List Moment → List Advice → Type 0
AreAdvised most [] advices = advices ≡ []
AreAdvised most (m ∷ h) advices = (newer older : List Advice) × IsAdvised most m h newer × AreAdvised most h older
    × (advices ≡ reverse newer ++ older)

-- the text is of all that is advised at the moments of the history and at its end: of each, or of the first of each kind
-- and function; and of how often each was given
pub record Tells (most : ℕ) (all : Bool) (h : List Moment) (text : List ℕ) : Type 0 where
  pub advices : List Advice
  pub at_end : List Advice
  pub advised : AreAdvised most h advices
  pub left : AreLeft h at_end
  pub is : text ≡ told_text all (reverse at_end ++ advices)

-- what contracts see of a log: its adviser, whether this is of no more use, and what was noted
pub record AdviceLogState : Type 0 where
  pub adviser : AdviserState
  pub lost : Bool
  pub noting : Noting

-- what was advised at the moments of the history is noted
pub record Notes (most : ℕ) (h : List Moment) (x : Noting) : Type 0 where
  pub advices : List Advice
  pub advised : AreAdvised most h advices
  pub noted : IsNoted x advices

-- it stands for the history, unless memory ran out
pub record LogStands (x : AdviceLogState) (h : List Moment) : Type 0 where
  pub stands : x.lost ≡ false → Stands x.adviser h
  pub notes : x.lost ≡ false → Notes x.adviser.most h x.noting
