-- What the definitions mean, in the words of the list.
use Rattle.std.specs.Prelude.{◌≡◌, ◌≤◌, ◌↔◌, ◌&&◌, not, ℕ, Bool, true, false, List, [], ◌∷◌, ◌++◌, Some, IsTrue}
use Rattle.jg_lists.specs.Acts.{Moment, moments}
use Rattle.jg_table_threads.specs.History.{Act, Attach, Detach, Raise, Calm, Event, acts_of, how_many, is_attach, is_enter, is_leave, since, attached, was_attached, sessions, session, pending, refs, buffers, is_pending}
use Rattle.jg_table_threads.specs.Rows.{no_row}
use Rattle.jg_table_threads.specs.Standing.{AllAllowed, row_by}

-- none of the acts is a detachment
abbrev pub HasNoDetach : List Act → Type 0
HasNoDetach [] = Unit {0}
HasNoDetach (Detach ∷ acts) = ⊥
HasNoDetach (a ∷ acts) = HasNoDetach acts

-- none of the acts raises an exception, calms one, or is a detachment
abbrev pub KeepsPending : List Act → Type 0
KeepsPending [] = Unit {0}
KeepsPending (Raise o ∷ acts) = ⊥
KeepsPending (Calm ∷ acts) = ⊥
KeepsPending (Detach ∷ acts) = ⊥
KeepsPending (a ∷ acts) = KeepsPending acts

-- attached: some attachment has no later detachment
-- (proofs/Means.antt)
abbrev pub AttachedMeans : Type 0
AttachedMeans = (acts : List Act) → IsTrue (attached acts) ↔ ((later : List Act) × (before : List Act)
    × (acts ≡ later ++ Attach ∷ before) × HasNoDetach later)

-- pending: the object was raised, and nothing was raised, nothing calmed and the thread not detached since
-- (proofs/Means.antt)
abbrev pub PendingMeans : Type 0
PendingMeans = (acts : List Act) (o : ℕ)
    → (pending acts ≡ Some o) ↔ ((later : List Act) × (before : List Act) × (acts ≡ later ++ Raise o ∷ before)
    × KeepsPending later)

-- an object is pending where it is some thread's pending exception
-- (proofs/Means.antt)
abbrev pub IsPendingMeans : Type 0
IsPendingMeans = (e : List Event) (o : ℕ) → IsTrue (is_pending e o) ↔ ((t : ℕ) × (pending (acts_of t e) ≡ Some o))

-- the moment is an attachment that found the thread unattached
abbrev pub begins_session : Moment Act → Bool
begins_session m = is_attach m.act && not (attached m.before)

-- a thread has a session where it is attached; the session's number is how many attachments found it unattached
-- (proofs/Means.antt)
abbrev pub SessionMeans : Type 0
SessionMeans = (acts : List Act) (n : ℕ) → (session acts ≡ Some n)
    ↔ ((attached acts ≡ true) × (how_many begins_session (moments acts []) ≡ n))

-- among acts that were allowed, no more native methods are left in a session than are entered
-- (proofs/Callers.antt)
abbrev pub LeavesAtMostEnters : Type 0
LeavesAtMostEnters = (acts : List Act) → AllAllowed acts
    → how_many is_leave (since acts) ≤ how_many is_enter (since acts)

-- a thread that was never attached, among acts that were allowed, did nothing that a row would tell
-- (proofs/Callers.antt)
abbrev pub NoRowMeans : Type 0
NoRowMeans = (acts : List Act) → AllAllowed acts → was_attached acts ≡ false → row_by acts ≡ no_row

-- whatever was done later
-- (proofs/Means.antt)
abbrev pub SessionsNeverFall : Type 0
SessionsNeverFall = (later before : List Act) → sessions before ≤ sessions (later ++ before)

-- (proofs/Means.antt)
abbrev pub HandedOutNeverFall : Type 0
HandedOutNeverFall = (later before : List Act) → (refs before ≤ refs (later ++ before))
    × (buffers before ≤ buffers (later ++ before))
