-- Lines behind lines, and what they tell.
use Rattle.std.proofs.Common.{◌≡◌, ℕ, true, List, [], ◌∷◌, ◌++◌, map, refl, ap, sym, ◌∙◌, subst, append_assoc}
use Rattle.std.proofs.lemmas.List.{append-nil, map-append}
use Rattle.jg_words.specs.declared.thread.Tid.{Tid}
use Rattle.jg_words.specs.declared.object.ObjId.{ObjId}
use Rattle.jg_policy.specs.Stated.{StatedSetup}
use Rattle.jg_core.specs.declared.fact.Fact.{Fact}
use Rattle.jg_core.specs.declared.fact.Fact.TheVariants.{Gone}
use Rattle.jg_record.specs.declared.event.Event.{Event}
use Rattle.jg_record.specs.declared.event.Event.TheVariants.{Fact as Told, Gone as AreGone}
use Rattle.jg_journal_record.specs.Lines.{Line, AreLines, AddsLine, AddsFacts, facts_in, tells, Tell, IsTelling}

pub lines_append : (s : StatedSetup) (xs ys : List Line) (a b : List ℕ) → AreLines s xs a → AreLines s ys b → AreLines s (xs ++ ys) (a ++ b)
lines_append s [] ys a b none are = subst (λ (t : List ℕ). AreLines s ys (t ++ b)) (sym none) are
lines_append s (x ∷ xs) ys a b (own, rest, is, are, text) others =
    (own, rest ++ b, is, lines_append s xs ys rest b are others, ap (λ (t : List ℕ). t ++ b) text ∙ append_assoc own (10 ∷ rest) b)

pub tell_append : (by : Tid) (xs ys : List Line) (f g : List Fact) → Tell by xs f → Tell by ys g → Tell by (xs ++ ys) (f ++ g)
tell_append by [] ys f g none tell = subst (λ (t : List Fact). Tell by ys (t ++ g)) (sym none) tell
tell_append by (x ∷ xs) ys f g (own, telling, rest, tell, is) others =
    (own, telling, rest ++ g, tell_append by xs ys rest g tell others, ap (λ (t : List Fact). t ++ g) is ∙ append_assoc (facts_in x.event x.gone) rest g)

-- one line more
line_told : (s : StatedSetup) (by : Tid) (start : List ℕ) (told after : List Fact) (listed left : List ObjId) (old new : List ℕ) (line : Line)
    (telling : IsTelling s by start told listed old)
    → AddsLine s line old new → line.by ≡ by → tells line.event ≡ true → after ≡ (telling.facts ++ facts_in line.event line.gone) ++ map (λ o. Gone o) left
    → IsTelling s by start after left new
line_told s by start told after listed left old new line telling (own, is, text) by_is event_tells after_is =
    record {
      lines = telling.lines ++ line ∷ [];
      facts = telling.facts ++ facts_in line.event line.gone;
      own = telling.own ++ (own ++ 10 ∷ []);
      are = lines_append s telling.lines (line ∷ []) telling.own (own ++ 10 ∷ []) telling.are (own, [], is, refl, refl);
      tell = tell_append by telling.lines (line ∷ []) telling.facts (facts_in line.event line.gone) telling.tell
          (by_is, event_tells, [], refl, sym (append-nil (facts_in line.event line.gone)));
      all = after_is;
      is = text ∙ ap (λ (t : List ℕ). t ++ (own ++ 10 ∷ [])) telling.is ∙ append_assoc start telling.own (own ++ 10 ∷ []);
    }

-- the line of a fact
pub fact_told : (s : StatedSetup) (by : Tid) (start : List ℕ) (told : List Fact) (old new : List ℕ) (line : Line) (fact : Fact)
    → IsTelling s by start told [] old
    → AddsLine s line old new → line.by ≡ by → line.event ≡ Told fact → IsTelling s by start (told ++ fact ∷ []) [] new
fact_told s by start told old new line fact telling adds by_is event_is =
    let facts : facts_in line.event line.gone ≡ fact ∷ [] = ap (λ (e : Event). facts_in e line.gone) event_is in
    line_told s by start told (told ++ fact ∷ []) [] [] old new line telling adds by_is (ap tells event_is)
    (ap (λ (t : List Fact). t ++ fact ∷ []) (telling.all ∙ append-nil telling.facts)
    ∙ (ap (λ (t : List Fact). telling.facts ++ t) (sym facts) ∙ sym (append-nil (telling.facts ++ facts_in line.event line.gone))))

-- the line of what is listed
pub gone_told : (s : StatedSetup) (by : Tid) (start : List ℕ) (told : List Fact) (listed : List ObjId) (old new : List ℕ) (line : Line)
    → IsTelling s by start told listed old → AddsLine s line old new
    → line.by ≡ by → line.event ≡ AreGone → line.gone ≡ listed → IsTelling s by start told [] new
gone_told s by start told listed old new line telling adds by_is event_is gone_is =
    let facts : facts_in line.event line.gone ≡ map (λ o. Gone o) listed = ap (λ (e : Event). facts_in e line.gone) event_is ∙ ap (map (λ o. Gone o)) gone_is in
    line_told s by start told told listed [] old new line telling adds by_is (ap tells event_is)
    (telling.all ∙ (ap (λ (t : List Fact). telling.facts ++ t) (sym facts) ∙ sym (append-nil (telling.facts ++ facts_in line.event line.gone))))

-- an object more is listed
pub gone_listed : (s : StatedSetup) (by : Tid) (start : List ℕ) (told : List Fact) (listed after : List ObjId) (text : List ℕ) (o : ObjId)
    → IsTelling s by start told listed text
    → after ≡ listed ++ o ∷ [] → IsTelling s by start (told ++ Gone o ∷ []) after text
gone_listed s by start told listed after text o telling after_is =
    record {
      lines = telling.lines;
      facts = telling.facts;
      own = telling.own;
      are = telling.are;
      tell = telling.tell;
      all = ap (λ (t : List Fact). t ++ Gone o ∷ []) telling.all
          ∙ (append_assoc telling.facts (map (λ o. Gone o) listed) (Gone o ∷ [])
          ∙ ap (λ (t : List Fact). telling.facts ++ t) (sym (map-append (λ o. Gone o) listed (o ∷ [])) ∙ ap (map (λ o. Gone o)) (sym after_is)));
      is = telling.is;
    }

-- nothing was told yet
pub none_told : (s : StatedSetup) (by : Tid) (start : List ℕ) → IsTelling s by start [] [] start
none_told s by start = record { lines = []; facts = []; own = []; are = refl; tell = refl; all = refl; is = sym (append-nil start) }

-- all is told
pub all_told : (s : StatedSetup) (by : Tid) (start : List ℕ) (told : List Fact) (text : List ℕ) → IsTelling s by start told [] text
    → AddsFacts s by told start text
all_told s by start told text telling = (
  telling.lines,
  subst (λ (t : List Fact). Tell by telling.lines t) (sym (telling.all ∙ append-nil telling.facts)) telling.tell,
  telling.own,
  telling.are,
  telling.is,
)
