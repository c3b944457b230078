-- Workers that have run.
use Rattle.std.proofs.Common.{◌≡◌, ℕ, ◌+◌, ◌<◌, List, length, map, get_or, drop, ap, sym, subst, ◌∙◌, arith}
use Rattle.std.specs.Option.{option_or}
use Rattle.std.proofs.lemmas.List.{at_drop_more, get_or-map, length-map}
use Rattle.jg_script.specs.declared.scripts.Lines.{Lines}
use Rattle.jg_shell.specs.Played.{Ran}
use Rattle.jg_shell.specs.Work.{Work, fresh}
use Rattle.jg_shell.proofs.Apart.{EachRan}
use Rattle.jg_program.specs.Plays.{HaveRun, first_stop_of}

-- the first stop among the workers from this one on
pub first_stop-next : (workers : List Work) (i : ℕ) (w : Work) → i < length workers → w ≡ get_or workers i w
    → first_stop_of (drop i workers) ≡ option_or w.stopped (first_stop_of (drop (i + 1) workers))
first_stop-next workers i w within is =
    at_drop_more first_stop_of workers i w within ∙ ap (λ (v : Work). option_or v.stopped (first_stop_of (drop (i + 1) workers))) (sym is)

-- each worker has run its script
pub have_run : (turns : ℕ) (scripts : List Lines) (old new : List Work) → old ≡ map fresh scripts → EachRan turns old new → HaveRun turns scripts new
have_run turns scripts old new made ran i script worker within =
    let inside : i < length old = omega (arith, ap (λ (ws : List Work). length ws) made, length-map scripts fresh, within) in
    let was : get_or old i worker ≡ fresh (get_or scripts i script) =
    ap (λ (ws : List Work). get_or ws i worker) made ∙ get_or-map fresh scripts i script worker within in
    subst (λ (w : Work). Ran turns w (get_or new i worker)) was (ran i worker inside)
