-- What happened by the entries of a guard's journal, as far as advice looks at it.
use Rattle.std.specs.Prelude.{ℕ, ◌≡◌, ◌+◌, length, List, [], ◌∷◌, reverse, slice_get, Some}
use Rattle.jg_words.specs.Entry.{Entry}
use Rattle.jg_words.specs.Call.{fun_of}
use Rattle.jg_words.specs.declared.thread.Tid.{Tid}
use Rattle.jg_words.specs.declared.call.Call.{Call}
use Rattle.jg_words.specs.declared.call.Call.TheVariants.{Objects}
use Rattle.jg_words.specs.declared.call.objects.ObjectsCall.{ObjectsCall}
use Rattle.jg_words.specs.declared.call.objects.ObjectsCall.TheVariants.{FindClass}
use Rattle.jg_words.specs.declared.entry.Outcome.{Outcome}
use Rattle.jg_words.specs.declared.entry.Outcome.TheVariants.{Passed, Denied}
use Rattle.jg_policy.specs.Stated.{StatedSetup}
use Rattle.jg_rows.specs.Table.{functions}
use Rattle.jg_rules.specs.Parts.{Parts}
use Rattle.jg_rules.specs.Effects.{parts}
use Rattle.jg_judge.specs.Written.{arguments_of, row_for}
use Rattle.jg_core.specs.declared.fact.Fact.{Fact}
use Rattle.jg_entry_facts_laws.specs.Entries.{outcome_facts}
use Rattle.jg_advice.specs.Moments.{Called, Moment, Told}
use Rattle.jg_advice.specs.Told.{AdviceLogState, LogStands}

abbrev pub objects_name : ObjectsCall → List ℕ
objects_name (FindClass name) = name
objects_name call = []

-- the name that FindClass is handed
abbrev pub name_handed : Call → List ℕ
name_handed (Objects call) = objects_name call
name_handed call = []

-- the question that the call of t is, on line n, where p is what came before it
pub record IsQuestion (s : StatedSetup) (p : Parts) (n : ℕ) (t : Tid) (call : Call) (m : Moment) : Type 0 where
  pub place : ℕ
  pub function : slice_get functions place ≡ Some (row_for (fun_of call))
  pub is : m ≡ record {
    line = n;
    what = Called s t place (arguments_of s p t.0 call) (name_handed call);
    parts = p;
  }

-- these facts, the oldest first, all on line n, with the tables as they are after all of them
abbrev pub with_facts : ℕ → Parts → List Fact → List Moment → List Moment
with_facts n p [] h = h
with_facts n p (x ∷ facts) h = with_facts n p facts (record { line = n; what = Told x; parts = p } ∷ h)

-- the entry's call passed: that was its question, and then its facts are told; a denied one is nothing
abbrev pub WithEntry : StatedSetup → List Entry → Entry → Outcome → List Moment → List Moment → Type 0
WithEntry s h x (Denied rule) before moments = moments ≡ before
WithEntry s h x (Passed reply) before moments = (m : Moment)
    × IsQuestion s (parts s h) (length h + 1) x.tid x.call m
    × (moments ≡ with_facts (length h + 1) (parts s (x ∷ h))
    (reverse (outcome_facts s (parts s h) x.tid x.call x.outcome x.object)) (m ∷ before))

-- what happened by the journal h, on the lines of its entries; the newest is first
abbrev pub AreMoments : StatedSetup → List Entry → List Moment → Type 0
AreMoments s [] moments = moments ≡ []
AreMoments s (x ∷ h) moments = (before : List Moment) × AreMoments s h before × WithEntry s h x x.outcome before moments

-- the log stands for the journal
abbrev pub Logged : AdviceLogState → StatedSetup → List Entry → Type 0
Logged x s h = (moments : List Moment) × AreMoments s h moments × LogStands x moments

-- so it does, and advises as it did at first
pub record Follows (first x : AdviceLogState) (s : StatedSetup) (h : List Entry) : Type 0 where
  pub logged : Logged x s h
  pub most : x.adviser.most ≡ first.adviser.most
  pub all : x.noting.all ≡ first.noting.all
