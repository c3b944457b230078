-- What the frames open at a depth are.
use Rattle.std.proofs.Common.{◌≡◌, ℕ, Bool, true, false, List, [], ◌∷◌, ◌++◌, refl, arith}
use Rattle.std.specs.List.{list_any}
use Rattle.std.proofs.lemmas.Bool.{or_parts}
use Rattle.jg_lists.specs.Acts.{moments}
use Rattle.jg_table_locals.specs.History.{Act, how_many, begins, done_at, is_push, is_pop}
use Rattle.jg_table_locals.specs.Laws.{is_at_depth, begins_at, OpenFramesMean}
use Rattle.jg_table_locals.proofs.Looking.{pops_at_most_pushes}

-- since its activation began, the acts of a kind at a depth are counted by their moments
counted : (kind : Act → Bool) (d : ℕ) (later before : List Act) (a : Act) → begins d a before ≡ true
    → list_any (begins_at d) (moments later (a ∷ before)) ≡ false
    → done_at kind d (later ++ a ∷ before) ≡ how_many (is_at_depth kind d) (moments later (a ∷ before))
counted kind d [] before a first none = rw first refl
counted kind d (x ∷ later) before a first none =
    let both = or_parts (begins d x (later ++ a ∷ before)) (list_any (begins_at d) (moments later (a ∷ before))) none in
    rw (both.0, counted kind d later before a first both.1) refl

pub open_frames_mean : OpenFramesMean
open_frames_mean d later before a h first none =
    omega (
      arith,
      counted is_push d later before a first none,
      counted is_pop d later before a first none,
      pops_at_most_pushes d (later ++ a ∷ before) h,
    )
