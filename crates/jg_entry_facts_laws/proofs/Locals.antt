-- The locals of a thread, its frames and their room are told by what it did in its session.
use Rattle.std.proofs.Common.{ℕ, ◌≡◌, Bool, true, false, List, [], ◌∷◌, ◌++◌, Option, Some, None, refl, ap, sym, ◌∙◌, append_assoc, if◌then◌else◌}
use Rattle.std.specs.Prelude.{◌==◌, ◌&&◌, not}
use Rattle.jg_table_locals.specs.History.{Act, Start, Make, Push, Ensure, Enter, Delete, Pop, Leave, End, session, has_session, depth, frames, done_at, is_push, is_pop, Making, making, seen_after, survives, ends, Local, local_if_live, live_local}

-- the acts since the session began, with its beginning; all where it has none, and none of an earlier one
abbrev current : List Act → List Act
current [] = []
current (Start ∷ acts) = Start ∷ []
current (End ∷ acts) = []
current (a ∷ acts) = a ∷ current acts

abbrev pub anew : Bool → List Act → List Act
anew true acts = acts ++ Start ∷ []
anew false acts = acts

anew_more : (b : Bool) (a : Act) (acts : List Act) → a ∷ anew b acts ≡ anew b (a ∷ acts)
anew_more true a acts = refl
anew_more false a acts = refl

current_is : (acts : List Act) → current acts ≡ anew (has_session acts) (session acts)
current_is [] = refl
current_is (Start ∷ acts) = refl
current_is (End ∷ acts) = refl
current_is (Make n o ∷ acts) = ap (λ xs. Make n o ∷ xs) (current_is acts) ∙ anew_more (has_session acts) (Make n o) (session acts)
current_is (Push room ∷ acts) = ap (λ xs. Push room ∷ xs) (current_is acts) ∙ anew_more (has_session acts) (Push room) (session acts)
current_is (Ensure c ∷ acts) = ap (λ xs. Ensure c ∷ xs) (current_is acts) ∙ anew_more (has_session acts) (Ensure c) (session acts)
current_is (Enter ∷ acts) = ap (λ xs. Enter ∷ xs) (current_is acts) ∙ anew_more (has_session acts) Enter (session acts)
current_is (Delete n ∷ acts) = ap (λ xs. Delete n ∷ xs) (current_is acts) ∙ anew_more (has_session acts) (Delete n) (session acts)
current_is (Pop ∷ acts) = ap (λ xs. Pop ∷ xs) (current_is acts) ∙ anew_more (has_session acts) Pop (session acts)
current_is (Leave ∷ acts) = ap (λ xs. Leave ∷ xs) (current_is acts) ∙ anew_more (has_session acts) Leave (session acts)

session_current : (acts : List Act) → session (current acts) ≡ session acts
session_current [] = refl
session_current (Start ∷ acts) = refl
session_current (End ∷ acts) = refl
session_current (Make n o ∷ acts) = ap (λ xs. Make n o ∷ xs) (session_current acts)
session_current (Push room ∷ acts) = ap (λ xs. Push room ∷ xs) (session_current acts)
session_current (Ensure c ∷ acts) = ap (λ xs. Ensure c ∷ xs) (session_current acts)
session_current (Enter ∷ acts) = ap (λ xs. Enter ∷ xs) (session_current acts)
session_current (Delete n ∷ acts) = ap (λ xs. Delete n ∷ xs) (session_current acts)
session_current (Pop ∷ acts) = ap (λ xs. Pop ∷ xs) (session_current acts)
session_current (Leave ∷ acts) = ap (λ xs. Leave ∷ xs) (session_current acts)

depth_current : (acts : List Act) → depth (current acts) ≡ depth acts
depth_current acts = rw (session_current acts) refl

done_current : (kind : Act → Bool) (d : ℕ) (acts : List Act) → done_at kind d (current acts) ≡ done_at kind d acts
done_current kind d [] = refl
done_current kind d (Start ∷ acts) = refl
done_current kind d (End ∷ acts) = refl
done_current kind d (Make n o ∷ acts) = rw (depth_current acts, done_current kind d acts) refl
done_current kind d (Push room ∷ acts) = rw (depth_current acts, done_current kind d acts) refl
done_current kind d (Ensure c ∷ acts) = rw (depth_current acts, done_current kind d acts) refl
done_current kind d (Enter ∷ acts) = rw (depth_current acts, done_current kind d acts) refl
done_current kind d (Delete n ∷ acts) = rw (depth_current acts, done_current kind d acts) refl
done_current kind d (Pop ∷ acts) = rw (depth_current acts, done_current kind d acts) refl
done_current kind d (Leave ∷ acts) = rw (depth_current acts, done_current kind d acts) refl

frames_current : (d : ℕ) (acts : List Act) → frames d (current acts) ≡ frames d acts
frames_current d acts = rw (done_current is_push d acts, done_current is_pop d acts) refl

-- ---- live locals

-- a making, seen from these acts later
abbrev before_these : List Act → Option Making → Option Making
before_these pre None = None
before_these pre (Some m) = Some (record m { later = pre ++ m.later })

abbrev seen : ℕ → List Act → Option Making → Option Local
seen n pre found = local_if_live n (before_these pre found)

no_left : (a b c : Bool) → a ≡ false → ((a && b) && c) ≡ false
no_left a b c is = rw is refl

no_right : (a b c : Bool) → b ≡ true → ((a && not b) && c) ≡ false
no_right true true c is = refl
no_right false true c is = refl
no_right a false c is = absurd cc

-- none survives an end
ended : (n : ℕ) (pre later : List Act) (a : Act) → ends n a ≡ true → survives n (pre ++ a ∷ later) ≡ false
ended n [] later a is = no_right (survives n later) (ends n a) _ is
ended n (x ∷ pre) later a is = no_left (survives n (pre ++ a ∷ later)) (not (ends n x)) _ (ended n pre later a is)

ended_none : (n : ℕ) (pre : List Act) (a : Act) (found : Option Making) → ends n a ≡ true → None ≡ seen n pre (seen_after a found)
ended_none n pre a None is = refl
ended_none n pre a (Some m) is = rw (ended n pre m.later a is) refl

one_more : (n : ℕ) (pre : List Act) (a : Act) (found : Option Making) → seen n pre (seen_after a found) ≡ seen n (pre ++ a ∷ []) found
one_more n pre a None = refl
one_more n pre a (Some m) = ap (λ later. local_if_live n (Some (record m { later = later }))) (sym (append_assoc pre (a ∷ []) m.later))

further : (n : ℕ) (a : Act) (old new : Option Making) → ((pre : List Act) → seen n pre old ≡ seen n pre new) → (pre : List Act)
    → seen n pre (seen_after a old) ≡ seen n pre (seen_after a new)
further n a old new same pre = one_more n pre a old ∙ (same (pre ++ a ∷ []) ∙ sym (one_more n pre a new))

made_if : (b : Bool) (n o : ℕ) (a : Act) (acts : List Act) (old new : Option Making) → ((pre : List Act) → seen n pre old ≡ seen n pre new) → (pre : List Act)
    → seen n pre (if b then Some (record { later = []; object = o; before = current acts }) else seen_after a old)
    ≡ seen n pre (if b then Some (record { later = []; object = o; before = acts }) else seen_after a new)
made_if true n o a acts old new same pre = rw (depth_current acts, frames_current (depth acts) acts) refl
made_if false n o a acts old new same pre = further n a old new same pre

seen_current : (n : ℕ) (acts : List Act) (pre : List Act) → seen n pre (making n (current acts)) ≡ seen n pre (making n acts)
seen_current n [] pre = refl
seen_current n (Start ∷ acts) pre = ended_none n pre Start (making n acts) refl
seen_current n (End ∷ acts) pre = ended_none n pre End (making n acts) refl
seen_current n (Make m o ∷ acts) pre = made_if (m == n) n o (Make m o) acts (making n (current acts)) (making n acts) (seen_current n acts) pre
seen_current n (Push room ∷ acts) pre = further n (Push room) (making n (current acts)) (making n acts) (seen_current n acts) pre
seen_current n (Ensure c ∷ acts) pre = further n (Ensure c) (making n (current acts)) (making n acts) (seen_current n acts) pre
seen_current n (Enter ∷ acts) pre = further n Enter (making n (current acts)) (making n acts) (seen_current n acts) pre
seen_current n (Delete m ∷ acts) pre = further n (Delete m) (making n (current acts)) (making n acts) (seen_current n acts) pre
seen_current n (Pop ∷ acts) pre = further n Pop (making n (current acts)) (making n acts) (seen_current n acts) pre
seen_current n (Leave ∷ acts) pre = further n Leave (making n (current acts)) (making n acts) (seen_current n acts) pre

unseen : (n : ℕ) (found : Option Making) → seen n [] found ≡ local_if_live n found
unseen n None = refl
unseen n (Some m) = refl

live_current : (n : ℕ) (acts : List Act) → live_local n (current acts) ≡ live_local n acts
live_current n acts = sym (unseen n (making n (current acts))) ∙ (seen_current n acts [] ∙ unseen n (making n acts))

-- ---- the same session

pub record SameSession (a b : List Act) : Type 0 where
  pub has : has_session a ≡ has_session b
  pub acts : session a ≡ session b

same_current : (a b : List Act) → SameSession a b → current a ≡ current b
same_current a b same = current_is a ∙ ((rw (same.has, same.acts) refl) ∙ sym (current_is b))

pub same_live : (a b : List Act) (n : ℕ) → SameSession a b → live_local n a ≡ live_local n b
same_live a b n same = sym (live_current n a) ∙ (ap (live_local n) (same_current a b same) ∙ live_current n b)

same_depth : (a b : List Act) → SameSession a b → depth a ≡ depth b
same_depth a b same = rw same.acts refl

pub same_frames : (a b : List Act) → SameSession a b → frames (depth a) a ≡ frames (depth b) b
same_frames a b same = rw (same_depth a b same)
    (sym (frames_current (depth b) a) ∙ (ap (frames (depth b)) (same_current a b same) ∙ frames_current (depth b) b))

-- the same acts keep it
pub same_more : (a b : List Act) (x : Act) → SameSession a b → SameSession (x ∷ a) (x ∷ b)
same_more a b Start same = record { has = refl; acts = refl }
same_more a b End same = record { has = refl; acts = refl }
same_more a b (Make n o) same = record { has = same.has; acts = ap (λ xs. Make n o ∷ xs) same.acts }
same_more a b (Push room) same = record { has = same.has; acts = ap (λ xs. Push room ∷ xs) same.acts }
same_more a b (Ensure c) same = record { has = same.has; acts = ap (λ xs. Ensure c ∷ xs) same.acts }
same_more a b Enter same = record { has = same.has; acts = ap (λ xs. Enter ∷ xs) same.acts }
same_more a b (Delete n) same = record { has = same.has; acts = ap (λ xs. Delete n ∷ xs) same.acts }
same_more a b Pop same = record { has = same.has; acts = ap (λ xs. Pop ∷ xs) same.acts }
same_more a b Leave same = record { has = same.has; acts = ap (λ xs. Leave ∷ xs) same.acts }

-- where there is no session, and nothing was done outside of one, its end changes nothing
pub end_idle : (a b : List Act) → has_session a ≡ false → session a ≡ [] → SameSession a b → SameSession a (End ∷ b)
end_idle a b none nothing same = record { has = none; acts = nothing }

-- and no local is live
pub idle_live : (a : List Act) (n : ℕ) → has_session a ≡ false → session a ≡ [] → live_local n a ≡ None
idle_live a n none nothing = same_live a [] n (record { has = none; acts = nothing })
