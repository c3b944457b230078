-- What attached and pending mean, and which numbers never fall.
use Rattle.std.proofs.Common.{◌≡◌, ◌≤◌, ℕ, Bool, true, false, List, [], ◌∷◌, ◌++◌, Option, Some, None, refl, ◌∙◌, ap, subst, sym, arith, if◌then◌else◌, ◌+◌}
use Rattle.std.proofs.lemmas.Bool.Decides.{nat_tests}
use Rattle.std.specs.Prelude.{◌==◌, not}
use Rattle.std.proofs.lemmas.List.{append-nil}
use Rattle.jg_words.proofs.Common.{eqb_self}
use Rattle.jg_lists.specs.Acts.{moments}
use Rattle.jg_table_threads.specs.History.{Act, Attach, Detach, Enter, Leave, Raise, Calm, CountRef, CountBuffer, how_many, acts_of, attached, sessions, pending, is_object}
use Rattle.jg_table_threads.specs.Laws.{HasNoDetach, KeepsPending, begins_session, AttachedMeans, PendingMeans, IsPendingMeans, SessionMeans, SessionsNeverFall, HandedOutNeverFall}
use Rattle.jg_table_threads.proofs.Pending.{some_event, object_is, is_pending_by}

-- the act that decides, what was done later, which keeps it, and what was done before
record Found (act : Act) (Keeps : List Act → Type 0) (acts : List Act) : Type 0 where
  later : List Act
  before : List Act
  splits : acts ≡ later ++ act ∷ before
  kept : Keeps later

one_later : (act : Act) (Keeps : List Act → Type 0) (a : Act) (acts : List Act) → ((later : List Act) → Keeps later → Keeps (a ∷ later)) → Found act Keeps acts
    → Found act Keeps (a ∷ acts)
one_later act Keeps a acts keeps found =
    record { later = a ∷ found.later; before = found.before; splits = ap (λ xs. a ∷ xs) found.splits; kept = keeps found.later found.kept }

attachment : (acts : List Act) → attached acts ≡ true → Found Attach HasNoDetach acts
attachment [] is = cc
attachment (Attach ∷ acts) is = record { later = []; before = acts; splits = refl; kept = tt }
attachment (Detach ∷ acts) is = cc
attachment (Enter ∷ acts) is = one_later Attach HasNoDetach Enter acts (λ later h. h) (attachment acts is)
attachment (Leave ∷ acts) is = one_later Attach HasNoDetach Leave acts (λ later h. h) (attachment acts is)
attachment (Raise o ∷ acts) is = one_later Attach HasNoDetach (Raise o) acts (λ later h. h) (attachment acts is)
attachment (Calm ∷ acts) is = one_later Attach HasNoDetach Calm acts (λ later h. h) (attachment acts is)
attachment (CountRef ∷ acts) is = one_later Attach HasNoDetach CountRef acts (λ later h. h) (attachment acts is)
attachment (CountBuffer ∷ acts) is = one_later Attach HasNoDetach CountBuffer acts (λ later h. h) (attachment acts is)

still_attached : (later before : List Act) → HasNoDetach later → attached (later ++ Attach ∷ before) ≡ true
still_attached [] before h = refl
still_attached (Attach ∷ later) before h = refl
still_attached (Detach ∷ later) before h = absurd h
still_attached (Enter ∷ later) before h = still_attached later before h
still_attached (Leave ∷ later) before h = still_attached later before h
still_attached (Raise o ∷ later) before h = still_attached later before h
still_attached (Calm ∷ later) before h = still_attached later before h
still_attached (CountRef ∷ later) before h = still_attached later before h
still_attached (CountBuffer ∷ later) before h = still_attached later before h

pub attached_means : AttachedMeans
attached_means acts = (
  (λ is. let found = attachment acts is in (found.later, found.before, found.splits, found.kept)),
  (λ some. let P : List Act → Type 0 = λ xs. attached xs ≡ true in subst P (sym some.2) (still_attached some.0 some.1 some.3)),
)

raising : (acts : List Act) (o : ℕ) → pending acts ≡ Some o → Found (Raise o) KeepsPending acts
raising [] o is = cc
raising (Raise p ∷ acts) o is =
    let same : p ≡ o = cc in
    record { later = []; before = acts; splits = ap (λ q. Raise q ∷ acts) same; kept = tt }
raising (Calm ∷ acts) o is = cc
raising (Detach ∷ acts) o is = cc
raising (Attach ∷ acts) o is = one_later (Raise o) KeepsPending Attach acts (λ later h. h) (raising acts o is)
raising (Enter ∷ acts) o is = one_later (Raise o) KeepsPending Enter acts (λ later h. h) (raising acts o is)
raising (Leave ∷ acts) o is = one_later (Raise o) KeepsPending Leave acts (λ later h. h) (raising acts o is)
raising (CountRef ∷ acts) o is = one_later (Raise o) KeepsPending CountRef acts (λ later h. h) (raising acts o is)
raising (CountBuffer ∷ acts) o is = one_later (Raise o) KeepsPending CountBuffer acts (λ later h. h) (raising acts o is)

still_pending : (later before : List Act) (o : ℕ) → KeepsPending later → pending (later ++ Raise o ∷ before) ≡ Some o
still_pending [] before o h = refl
still_pending (Raise p ∷ later) before o h = absurd h
still_pending (Calm ∷ later) before o h = absurd h
still_pending (Detach ∷ later) before o h = absurd h
still_pending (Attach ∷ later) before o h = still_pending later before o h
still_pending (Enter ∷ later) before o h = still_pending later before o h
still_pending (Leave ∷ later) before o h = still_pending later before o h
still_pending (CountRef ∷ later) before o h = still_pending later before o h
still_pending (CountBuffer ∷ later) before o h = still_pending later before o h

pub pending_means : PendingMeans
pending_means acts o = (
  (λ is. let found = raising acts o is in (found.later, found.before, found.splits, found.kept)),
  (λ some. let P : List Act → Type 0 = λ xs. pending xs ≡ Some o in subst P (sym some.2) (still_pending some.0 some.1 o some.3)),
)

more_by : (b : Bool) (n m : ℕ) → n ≡ m → (if b then n else n + 1) ≡ (if not b then m + 1 else m)
more_by true n m is = is
more_by false n m is = ap (λ k. k + 1) is

-- the sessions are the attachments that found the thread unattached
sessions_counted : (acts : List Act) → sessions acts ≡ how_many begins_session (moments acts [])
sessions_counted [] = refl
sessions_counted (Attach ∷ acts) =
    rw (append-nil acts) (more_by (attached acts) (sessions acts) (how_many begins_session (moments acts [])) (sessions_counted acts))
sessions_counted (Detach ∷ acts) = sessions_counted acts
sessions_counted (Enter ∷ acts) = sessions_counted acts
sessions_counted (Leave ∷ acts) = sessions_counted acts
sessions_counted (Raise o ∷ acts) = sessions_counted acts
sessions_counted (Calm ∷ acts) = sessions_counted acts
sessions_counted (CountRef ∷ acts) = sessions_counted acts
sessions_counted (CountBuffer ∷ acts) = sessions_counted acts

numbered : (b : Bool) (n m : ℕ) → if◌then◌else◌ {A = Option ℕ} b (Some n) None ≡ Some m → (b ≡ true) × (n ≡ m)
numbered true n m is = (refl, cc)
numbered false n m is = cc

number_of : (b : Bool) (n m : ℕ) → b ≡ true → n ≡ m → if◌then◌else◌ {A = Option ℕ} b (Some n) None ≡ Some m
number_of true n m on is = ap Some is
number_of false n m on is = cc

pub session_means : SessionMeans
session_means acts n = (
  (λ is.
      let both = numbered (attached acts) (sessions acts) n is in
      (both.0, sym (sessions_counted acts) ∙ both.1)),
  (λ both. number_of (attached acts) (sessions acts) n both.0 (sessions_counted acts ∙ both.1)),
)

pub is_pending_means : IsPendingMeans
is_pending_means e o = (
  (λ is.
      let found = some_event (λ ev. is_object o (pending (acts_of ev.tid e))) e is in
      (found.0.tid, object_is o (pending (acts_of found.0.tid e)) found.1)),
  (λ some. is_pending_by e o some.0 (ap (is_object o) some.1 ∙ eqb_self o)),
)

one_more : (b : Bool) (n m : ℕ) → n ≤ m → n ≤ (if b then m else m + 1)
one_more true n m h = h
one_more false n m h = omega arith

pub sessions_never_fall : SessionsNeverFall
sessions_never_fall [] before = omega arith
sessions_never_fall (Attach ∷ later) before = one_more (attached (later ++ before)) _ _ (sessions_never_fall later before)
sessions_never_fall (Detach ∷ later) before = sessions_never_fall later before
sessions_never_fall (Enter ∷ later) before = sessions_never_fall later before
sessions_never_fall (Leave ∷ later) before = sessions_never_fall later before
sessions_never_fall (Raise o ∷ later) before = sessions_never_fall later before
sessions_never_fall (Calm ∷ later) before = sessions_never_fall later before
sessions_never_fall (CountRef ∷ later) before = sessions_never_fall later before
sessions_never_fall (CountBuffer ∷ later) before = sessions_never_fall later before

how_many_never_falls : (kind : Act → Bool) (later before : List Act) → how_many kind before ≤ how_many kind (later ++ before)
how_many_never_falls kind [] before = omega arith
how_many_never_falls kind (a ∷ later) before =
    let here = how_many_never_falls kind later before in
    grind (arith, nat_tests, here)

pub handed_out_never_fall : HandedOutNeverFall
handed_out_never_fall later before = (how_many_never_falls _ later before, how_many_never_falls _ later before)
