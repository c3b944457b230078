-- Workers of threads that ascend.
use Rattle.std.proofs.Common.{◌≡◌, ℕ, ◌<◌, List, [], ◌∷◌, ◌++◌, length, map, get_or, take, drop, ap, sym, refl, ◌∙◌, arith}
use Rattle.std.proofs.lemmas.List.{get_or-map, length-map, take_at}
use Rattle.jg_words.specs.declared.thread.Tid.{Tid}
use Rattle.jg_script.specs.declared.scripts.Lines.{Lines}
use Rattle.jg_script.specs.ScriptFile.{Ascend}
use Rattle.jg_shell.specs.Played.{Ran}
use Rattle.jg_shell.specs.Work.{Work, fresh, AreApart}

-- the workers of threads that ascend are of different threads
pub fresh_apart : (scripts : List Lines) → Ascend scripts → AreApart (map fresh scripts)
fresh_apart [] ascend i j d lt within same = absurd (omega arith)
fresh_apart (s ∷ later) ascend i j d lt within same =
    let scripts = s ∷ later in
    let inside : j < length scripts = omega (arith, length-map scripts fresh, within) in
    let one = ap (λ (w : Work). w.tid.0) (get_or-map fresh scripts i s d (omega arith)) in
    let other = ap (λ (w : Work). w.tid.0) (get_or-map fresh scripts j s d inside) in
    omega (arith, one, other, ascend i j s lt inside, ap (λ (t : Tid). t.0) same)

-- the workers after their run, in their vector
pub kept : (len : ℕ) (old new : List Work) → len ≡ length old → length new ≡ length old → take len (new ++ drop (length new) old) ≡ new
kept len old new is same = ap (λ (n : ℕ). take n (new ++ drop (length new) old)) (is ∙ sym same) ∙ take_at new (drop (length new) old) (length new) refl

-- each worker has run
abbrev pub EachRan : ℕ → List Work → List Work → Type 0
EachRan turns old new = (i : ℕ) (d : Work) → i < length old → Ran turns (get_or old i d) (get_or new i d)

-- workers that have run are of different threads still
pub still_apart : (turns : ℕ) (old new : List Work) → length new ≡ length old → EachRan turns old new → AreApart old → AreApart new
still_apart turns old new same ran apart i j d lt within alike =
    let inside : j < length old = omega (arith, same, within) in
    apart i j d lt inside (sym (ran i d (omega arith)).tid_is ∙ alike ∙ (ran j d inside).tid_is)
