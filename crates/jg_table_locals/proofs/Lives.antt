-- What live means: made, and not ended since.
use Rattle.std.proofs.Common.{◌≡◌, ◌<◌, ℕ, Bool, true, false, List, [], ◌∷◌, ◌++◌, Option, Some, None, refl, ◌∙◌, ap, sym, subst, arith, inl, inr}
use Rattle.std.specs.Prelude.{◌==◌, ◌≢◌, ◌⊎◌, if◌then◌else◌}
use Rattle.std.proofs.lemmas.Bool.Decides.{nat_tests}
use Rattle.jg_table_locals.specs.History.{Act, Start, Make, Push, Ensure, Enter, Delete, Pop, Leave, End, how_many, is_enter, is_leave, is_push, is_pop, done_here, ends, survives, Making, making, seen_after, local_if_live, object_of, live, depth, frames}
use Rattle.jg_table_locals.specs.Standing.{AllAllowed}
use Rattle.jg_table_locals.specs.Laws.{IsEndedBy, IsNotEnded, IsNotMade, IsMadeAndKept, LiveMeans, LeftMeans, PoppedMeans, DeletedStaysDead}
use Rattle.jg_table_locals.proofs.Looking.{survived_before, survived_here, survived_frame, depth_since, frames_since}
use Rattle.jg_table_locals.proofs.LocalSteps.{making_splits}

not_ended_now : (n : ℕ) (a : Act) (since : List Act) → survives n (a ∷ since) ≡ true → ¬ IsEndedBy n a since
not_ended_now n a since s (inl by_name) = grind (arith, nat_tests)
not_ended_now n a since s (inr (inl left)) = grind (arith, nat_tests)
not_ended_now n a since s (inr (inr popped)) = grind (arith, nat_tests)

not_ended_in : (n : ℕ) (newer since : List Act) (a : Act) → survives n (newer ++ a ∷ since) ≡ true → ¬ IsEndedBy n a since
not_ended_in n [] since a s = not_ended_now n a since s
not_ended_in n (b ∷ newer) since a s = not_ended_in n newer since a (survived_before n b (newer ++ a ∷ since) s)

-- who survived was ended by no act
survivor : (n : ℕ) (later : List Act) → survives n later ≡ true → IsNotEnded n later
survivor n later s newer since a is = let P : List Act → Type 0 = λ acts. survives n acts ≡ true in not_ended_in n newer since a (subst P is s)

survives_now : (n : ℕ) (a : Act) (since : List Act) → survives n since ≡ true → ¬ IsEndedBy n a since → survives n (a ∷ since) ≡ true
survives_now n a since s not_ended =
    let by_name : ends n a ≡ true → ⊥ = λ is. not_ended (inl is) in
    let left : how_many is_enter (a ∷ since) < how_many is_leave (a ∷ since) → ⊥ = λ is. not_ended (inr (inl is)) in
    let popped : done_here is_push (a ∷ since) < done_here is_pop (a ∷ since) → ⊥ = λ is. not_ended (inr (inr is)) in
    grind (arith, nat_tests)

-- who was ended by no act survived
not_ended_survives : (n : ℕ) (later : List Act) → IsNotEnded n later → survives n later ≡ true
not_ended_survives n [] each = refl
not_ended_survives n (a ∷ later) each =
    survives_now n a later (not_ended_survives n later (λ newer since b is. each (a ∷ newer) since b (ap (λ acts. a ∷ acts) is))) (each [] later a refl)

alive_cases : (n o : ℕ) (m : Making) (alive : Bool) → survives n m.later ≡ alive → object_of (local_if_live n (Some m)) ≡ Some o
    → (survives n m.later ≡ true) × (m.object ≡ o)
alive_cases n o m true is_alive is = (is_alive, grind (arith, nat_tests))
alive_cases n o m false is_dead is =
    let gone : local_if_live n (Some m) ≡ None = rw is_dead refl in
    let none : object_of (local_if_live n (Some m)) ≡ None = ap object_of gone in
    cc

-- what came later than the making that is found makes the number not again
others_after : (n : ℕ) (a : Act) (found : Option Making) (m : Making) → ((later : List Act) → IsNotMade n later → IsNotMade n (a ∷ later))
    → ((k : Making) → found ≡ Some k → IsNotMade n k.later)
    → seen_after a found ≡ Some m → IsNotMade n m.later
others_after n a None m keeps earlier is = cc
others_after n a (Some k) m keeps earlier is =
    let same : record k { later = a ∷ k.later } ≡ m = cc in
    let P : Making → Type 0 = λ x. IsNotMade n x.later in
    subst P same (keeps k.later (earlier k refl))

others_made : (n j o : ℕ) (acts : List Act) (m : Making) (same : Bool) → (j == n) ≡ same → ((k : Making) → making n acts ≡ Some k → IsNotMade n k.later)
    → (if same then Some (record { later = []; object = o; before = acts }) else seen_after (Make j o) (making n acts)) ≡ Some m → IsNotMade n m.later
others_made n j o acts m true is earlier found =
    let made : record { later = []; object = o; before = acts } ≡ m = cc in
    let P : Making → Type 0 = λ x. IsNotMade n x.later in
    subst P made tt
others_made n j o acts m false is earlier found =
    let differ : j ≢ n = grind (arith, nat_tests) in
    others_after n (Make j o) (making n acts) m (λ later once. (differ, once)) earlier found

not_made_since : (n : ℕ) (acts : List Act) (m : Making) → making n acts ≡ Some m → IsNotMade n m.later
not_made_since n [] m is = cc
not_made_since n (Make j o ∷ acts) m is = others_made n j o acts m (j == n) refl (not_made_since n acts) is
not_made_since n (Start ∷ acts) m is = others_after n Start (making n acts) m (λ later once. once) (not_made_since n acts) is
not_made_since n (End ∷ acts) m is = others_after n End (making n acts) m (λ later once. once) (not_made_since n acts) is
not_made_since n (Push room ∷ acts) m is = others_after n (Push room) (making n acts) m (λ later once. once) (not_made_since n acts) is
not_made_since n (Ensure c ∷ acts) m is = others_after n (Ensure c) (making n acts) m (λ later once. once) (not_made_since n acts) is
not_made_since n (Enter ∷ acts) m is = others_after n Enter (making n acts) m (λ later once. once) (not_made_since n acts) is
not_made_since n (Delete k ∷ acts) m is = others_after n (Delete k) (making n acts) m (λ later once. once) (not_made_since n acts) is
not_made_since n (Pop ∷ acts) m is = others_after n Pop (making n acts) m (λ later once. once) (not_made_since n acts) is
not_made_since n (Leave ∷ acts) m is = others_after n Leave (making n acts) m (λ later once. once) (not_made_since n acts) is

was_made : (n o : ℕ) (acts : List Act) (found : Option Making) → making n acts ≡ found → object_of (local_if_live n found) ≡ Some o → IsMadeAndKept n o acts
was_made n o acts None is alive = cc
was_made n o acts (Some m) is alive =
    let both = alive_cases n o m (survives n m.later) refl alive in
    (m.later, m.before, making_splits n acts m is ∙ ap (λ x. m.later ++ Make n x ∷ m.before) both.1, not_made_since n acts m is, survivor n m.later both.0)

pub live_was_made : (n o : ℕ) (acts : List Act) → live n acts ≡ Some o → IsMadeAndKept n o acts
live_was_made n o acts alive = was_made n o acts (making n acts) refl alive

-- the same making is found behind acts that don't make the number
making_behind : (n : ℕ) (a : Act) (later acts : List Act) → IsNotMade n (a ∷ later) → making n (a ∷ (later ++ acts)) ≡ seen_after a (making n (later ++ acts))
making_behind n (Make k p) later acts once = let other : (k == n) ≡ false = grind (arith, nat_tests) in rw other refl
making_behind n Start later acts once = refl
making_behind n End later acts once = refl
making_behind n (Push room) later acts once = refl
making_behind n (Ensure c) later acts once = refl
making_behind n Enter later acts once = refl
making_behind n (Delete k) later acts once = refl
making_behind n Pop later acts once = refl
making_behind n Leave later acts once = refl

not_made_before : (n : ℕ) (a : Act) (later : List Act) → IsNotMade n (a ∷ later) → IsNotMade n later
not_made_before n (Make k p) later once = once.1
not_made_before n Start later once = once
not_made_before n End later once = once
not_made_before n (Push room) later once = once
not_made_before n (Ensure c) later once = once
not_made_before n Enter later once = once
not_made_before n (Delete k) later once = once
not_made_before n Pop later once = once
not_made_before n Leave later once = once

making_is : (n o : ℕ) (before later : List Act) → IsNotMade n later
    → making n (later ++ Make n o ∷ before) ≡ Some (record { later = later; object = o; before = before })
making_is n o before [] once = grind (arith, nat_tests)
making_is n o before (a ∷ later) once =
    rw (making_behind n a later (Make n o ∷ before) once, making_is n o before later (not_made_before n a later once)) refl

made_is_live : (n o : ℕ) (later before : List Act) → IsNotMade n later → IsNotEnded n later → live n (later ++ Make n o ∷ before) ≡ Some o
made_is_live n o later before once each = rw (making_is n o before later once, not_ended_survives n later each) refl

pub live_means : LiveMeans
live_means n o acts = (
  (λ is. live_was_made n o acts is),
  (λ made. subst (λ (xs : List Act). live n xs ≡ Some o) (sym made.2) (made_is_live n o made.0 made.1 made.3 made.4)),
)

-- ---- left and popped

not_left : (n : ℕ) (a : Act) (since : List Act) → ends n a ≡ false → survives n since ≡ true → IsEndedBy n a since
    → (how_many is_enter (a ∷ since) < how_many is_leave (a ∷ since)) ⊎ (done_here is_push (a ∷ since) < done_here is_pop (a ∷ since))
not_left n a since by_name s (inl is) = cc
not_left n a since by_name s (inr either) = either

less_deep : (n o : ℕ) (since before : List Act) → AllAllowed (Leave ∷ (since ++ Make n o ∷ before)) → survives n since ≡ true
    → (how_many is_enter (Leave ∷ since) < how_many is_leave (Leave ∷ since)) ⊎ (done_here is_push (Leave ∷ since) < done_here is_pop (Leave ∷ since))
    → depth (Leave ∷ (since ++ Make n o ∷ before)) < depth before
less_deep n o since before h s (inl is) = omega (arith, depth_since n o before since h.0 s, h.1, is)
less_deep n o since before h s (inr is) = absurd (omega (arith, survived_frame n since s, is))

pub left_means : LeftMeans
left_means n o since before h kept =
    let s = not_ended_survives n since kept in (
      (λ is. less_deep n o since before h s (not_left n Leave since refl s is)),
      (λ is.
          let gone : how_many is_enter (Leave ∷ since) < how_many is_leave (Leave ∷ since) = omega (arith, depth_since n o before since h.0 s, h.1, is) in
          inr (inl gone)),
    )

fewer_frames : (n o : ℕ) (since before : List Act) → AllAllowed (Pop ∷ (since ++ Make n o ∷ before)) → survives n since ≡ true
    → (how_many is_enter (Pop ∷ since) < how_many is_leave (Pop ∷ since)) ⊎ (done_here is_push (Pop ∷ since) < done_here is_pop (Pop ∷ since))
    → frames (depth before) (Pop ∷ (since ++ Make n o ∷ before)) < frames (depth before) before
fewer_frames n o since before h s (inl is) = absurd (omega (arith, survived_here n since s, is))
fewer_frames n o since before h s (inr is) =
    grind (arith, nat_tests, frames_since n o before since h.0 s, depth_since n o before since h.0 s, survived_frame n since s, h.1, is)

more_popped : (n o : ℕ) (since before : List Act) → AllAllowed (Pop ∷ (since ++ Make n o ∷ before)) → survives n since ≡ true
    → frames (depth before) (Pop ∷ (since ++ Make n o ∷ before)) < frames (depth before) before
    → done_here is_push (Pop ∷ since) < done_here is_pop (Pop ∷ since)
more_popped n o since before h s is =
    grind (arith, nat_tests, frames_since n o before since h.0 s, depth_since n o before since h.0 s, survived_frame n since s, h.1, is)

pub popped_means : PoppedMeans
popped_means n o since before h kept =
    let s = not_ended_survives n since kept in (
      (λ is. fewer_frames n o since before h s (not_left n Pop since refl s is)),
      (λ is. inr (inr (more_popped n o since before h s is))),
    )

-- whatever making is found behind a deletion, it didn't survive
IsDead : ℕ → Option Making → Type 0
IsDead n None = Unit {0}
IsDead n (Some m) = survives n m.later ≡ false

dead_now : (n : ℕ) (found : Option Making) → IsDead n (seen_after (Delete n) found)
unfolding IsDead
dead_now n None = tt
dead_now n (Some m) = grind (arith, nat_tests)

dead_later : (n : ℕ) (a : Act) (found : Option Making) → IsDead n found → IsDead n (seen_after a found)
unfolding IsDead
dead_later n a None dead = tt
dead_later n a (Some m) dead = grind (arith, nat_tests)

dead_behind : (n : ℕ) (later before : List Act) → IsNotMade n later → IsDead n (making n (later ++ Delete n ∷ before))
dead_behind n [] before once = dead_now n (making n before)
dead_behind n (a ∷ later) before once =
    rw (making_behind n a later (Delete n ∷ before) once) (dead_later n a _ (dead_behind n later before (not_made_before n a later once)))

dead_is_not_live : (n : ℕ) (found : Option Making) → IsDead n found → object_of (local_if_live n found) ≡ None
unfolding IsDead
dead_is_not_live n None dead = refl
dead_is_not_live n (Some m) dead = rw dead refl

pub deleted_stays_dead : DeletedStaysDead
deleted_stays_dead n later before once = dead_is_not_live n _ (dead_behind n later before once)
