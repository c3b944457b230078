-- What an adviser was told, and what waits then.
use Rattle.std.proofs.Common.{ℕ, ◌≡◌, ◌∷◌, ◌++◌, ◌∙◌, List, ap}
use Rattle.jg_words.specs.declared.object.ObjId.{ObjId}
use Rattle.jg_rules.specs.Parts.{Parts}
use Rattle.jg_advice.specs.declared.advice.Advice.{Advice}
use Rattle.jg_advice.specs.Moments.{What, Went, Moment}
use Rattle.jg_advice.specs.Advised.{IsAdvised}
use Rattle.jg_advice.specs.Standing.{AdviserState, Stands}
use Rattle.jg_c.specs.Advisers.{NotedHeld}
use Rattle.jg_c.specs.Advising.{Advises, moment}

-- it stands for the moment, and all that it advised was put behind what waits
pub noted : (old new : NotedHeld) (place : ℕ) (what : What) (AreShown : Parts → Type 0) (room : List Advice)
    → new.adviser.most ≡ old.adviser.most
    → ((h : List Moment) (p : Parts) → Stands old.adviser h → AreShown p → Stands new.adviser (moment place what p ∷ h))
    → ((h : List Moment) (p : Parts) → Stands old.adviser h → AreShown p
    → (advices : List Advice) × IsAdvised old.adviser.most (moment place what p) h advices × (room ≡ advices))
    → new.waiting ≡ old.waiting ++ room → Advises old new place what AreShown
noted old new place what AreShown room most stands advised put = record {
  most = most;
  stands = stands;
  waiting = λ h p stood shown. let a = advised h p stood shown in (a.0, a.1, put ∙ ap (λ l. old.waiting ++ l) a.2);
}

-- which objects went is of no weight
pub any_went : (x : AdviserState) (h : List Moment) (place : ℕ) (p : Parts) (one other : List ObjId)
    → Stands x (moment place (Went one) p ∷ h) → Stands x (moment place (Went other) p ∷ h)
any_went x h place p one other stands = record {
  doings = stands.doings;
  written = stands.written;
  committed = stands.committed;
  once = stands.once;
  entered = stands.entered;
  regions = stands.regions;
  calls = stands.calls;
  collections = stands.collections;
}
