-- The laws of turns, by induction over the history.
use Rattle.std.proofs.Common.{◌≡◌, ◌++◌, ℕ, Bool, true, false, List, [], ◌∷◌, length, Option, Some, None, refl, ap, sym, ◌∙◌, subst}
use Rattle.std.specs.Prelude.{not}
use Rattle.jg_words.specs.Entry.{Entry}
use Rattle.jg_breaches.specs.declared.turns.Turns.{Turns}
use Rattle.jg_breaches.specs.Turns.{turns, turned, same}
use Rattle.jg_breaches.specs.Laws.{HasTurned, LatestTurned, NeverTurned, TurnedOnce}

same_is : (a b : Bool) → same a b ≡ true → b ≡ a
same_is true b e = e
same_is false true e = cc
same_is false false e = refl

other_is : (a b : Bool) → same a b ≡ false → b ≡ not a
other_is true b e = e
other_is false true e = refl
other_is false false e = cc

abbrev tail_of : List Entry → List Entry
tail_of [] = []
tail_of (x ∷ xs) = xs

abbrev the_place : Option ℕ → ℕ
the_place None = 0
the_place (Some n) = n

module _ (test : List Entry → Bool) (x : Entry) (h : List Entry) where
  since_later : (place : ℕ) → test (x ∷ h) ≡ test h → (w : HasTurned test h place) → (newer older : List Entry)
      → x ∷ w.later ≡ newer ++ older → test (older ++ w.entry ∷ w.before) ≡ test (w.entry ∷ w.before)
  since_later place stays w [] older e =
      let all : x ∷ h ≡ older ++ w.entry ∷ w.before = ap (λ g. x ∷ g) w.whole ∙ ap (λ g. g ++ w.entry ∷ w.before) e in
      ap test (sym all) ∙ stays ∙ ap test w.whole ∙ w.since [] w.later refl
  since_later place stays w (y ∷ newer) older e = w.since newer older (ap tail_of e)

  -- the same turn, seen from one entry later that turned nothing
  later_turn : (place : ℕ) → same (test h) (test (x ∷ h)) ≡ true → HasTurned test h place → HasTurned test (x ∷ h) place
  later_turn place kept w = record {
    later = x ∷ w.later;
    entry = w.entry;
    before = w.before;
    whole = ap (λ g. x ∷ g) w.whole;
    placed = w.placed;
    turned = w.turned;
    since = since_later place (same_is (test h) (test (x ∷ h)) kept) w;
    earlier = ap (λ (b : Bool). (turned b (length h) (turns test h)).earlier) kept ∙ w.earlier;
  }

  nothing_later : (newer older : List Entry) → [] ≡ newer ++ older → test (older ++ x ∷ h) ≡ test (x ∷ h)
  nothing_later [] [] e = refl
  nothing_later [] (y ∷ older) e = cc
  nothing_later (y ∷ newer) older e = cc

  -- the newest entry turns it
  this_turn : same (test h) (test (x ∷ h)) ≡ false → HasTurned test (x ∷ h) (length h)
  this_turn other = record {
    later = [];
    entry = x;
    before = h;
    whole = refl;
    placed = refl;
    turned = other_is (test h) (test (x ∷ h)) other;
    since = nothing_later;
    earlier = ap (λ (b : Bool). (turned b (length h) (turns test h)).earlier) other;
  }

  one_more : (b : Bool) → same (test h) (test (x ∷ h)) ≡ b
      → ((place : ℕ) → (turns test h).latest ≡ Some place → HasTurned test h place) → (place : ℕ)
      → (turned b (length h) (turns test h)).latest ≡ Some place → HasTurned test (x ∷ h) place
  one_more true kept old place e = later_turn place kept (old place e)
  one_more false other old place e = subst (λ n. HasTurned test (x ∷ h) n) (ap the_place e) (this_turn other)

pub latest_turned : LatestTurned
latest_turned test [] place e = cc
latest_turned test (x ∷ h) place e = one_more test x h (same (test h) (test (x ∷ h))) refl (latest_turned test h) place e

none_kept : (b : Bool) (place : ℕ) (ts : Turns) → (turned b place ts).latest ≡ None → (b ≡ true) × (ts.latest ≡ None)
none_kept true place ts e = (refl, e)
none_kept false place ts e = cc

-- no entry turned the answer
ever_same : (test : List Entry → Bool) (h : List Entry) → (turns test h).latest ≡ None → test h ≡ test []
ever_same test [] e = refl
ever_same test (x ∷ h) e =
    let parts = none_kept (same (test h) (test (x ∷ h))) (length h) (turns test h) e in
    same_is (test h) (test (x ∷ h)) parts.0 ∙ ever_same test h parts.1

pub never_turned : NeverTurned
never_turned test [] h e = ever_same test h e
never_turned test (x ∷ newer) h e =
    never_turned test newer h (none_kept (same (test (newer ++ h)) (test (x ∷ newer ++ h))) (length (newer ++ h)) (turns test (newer ++ h)) e).1

once : (test : List Entry → Bool) (h : List Entry) (place : ℕ) → (w : HasTurned test h place) → (turns test h).earlier ≡ None → test h ≡ not (test [])
once test h place w none =
    ap test w.whole ∙ w.since [] w.later refl ∙ w.turned ∙ ap not (ever_same test w.before (sym w.earlier ∙ none))

pub turned_once : TurnedOnce
turned_once test h place e none = once test h place (latest_turned test h place e) none
