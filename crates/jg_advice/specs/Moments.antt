-- What happened, as far as advice looks at it. A history has the newest moment first.
use Rattle.std.specs.Prelude.{ℕ, List, [], ◌∷◌}
use Rattle.jg_words.specs.declared.object.ObjId.{ObjId}
use Rattle.jg_words.specs.declared.thread.Tid.{Tid}
use Rattle.jg_table_locals.specs.History as locals
use Rattle.jg_policy.specs.Stated.{StatedSetup}
use Rattle.jg_judge.specs.declared.argument.Argument.{Argument}
use Rattle.jg_rules.specs.Parts.{Parts}
use Rattle.jg_core.specs.declared.fact.Fact.{Fact}
use Rattle.jg_core.specs.Facts.{all_gone}

-- a thread called the function at this place of the table, by a question that broke no rule of this setup, with these
-- operands and this text where it hands in a name; a fact was told; or the collector let these objects go
pub data What : Type 0 where
  Called : (s : StatedSetup) → (t : Tid) → (function : ℕ) → (operands : List Argument) → (name : List ℕ) → What
  Told : Fact → What
  Went : List ObjId → What

-- that, on this line, and the tables' events then: a question was judged by them, and a fact is among them
pub record Moment : Type 0 where
  pub line : ℕ
  pub what : What
  pub parts : Parts

abbrev pub with_facts_of : What → List Fact → List Fact
with_facts_of (Called s t f xs name) facts = facts
with_facts_of (Told fact) facts = fact ∷ facts
with_facts_of (Went objects) facts = all_gone objects facts

-- the facts that were told, the newest first
abbrev pub facts_of : List Moment → List Fact
facts_of [] = []
facts_of (m ∷ h) = with_facts_of m.what (facts_of h)

-- in how many native methods t is
abbrev pub depth : Parts → ℕ → ℕ
depth p t = locals.depth (locals.acts_of t p.locals)
