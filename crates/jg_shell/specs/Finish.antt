-- What the receipts of all workers are against the journal, which has its newest entry first.
use Rattle.std.specs.Prelude.{ℕ, ◌≡◌, ◌<◌, ◌≤◌, ◌+◌, ◌==◌, ◌&&◌, Bool, true, false, List, [], ◌∷◌, ◌++◌, length, All, AllPairs, Some}
use Rattle.std.specs.List.{list_any}
use Rattle.jg_words.specs.declared.thread.Tid.{Tid}
use Rattle.jg_words.specs.Entry.{Entry}
use Rattle.jg_shell.specs.declared.receipt.Receipt.{Receipt}
use Rattle.jg_shell.specs.Receipts.{Told, told_by, told_at}
use Rattle.jg_shell.specs.Work.{Work}

-- the receipt is the entry at its place, which is `low` or later
pub record IsRight (h : List Entry) (low : ℕ) (r : Receipt) : Type 0 where
  pub after : low ≤ r.place
  pub told_is : told_at h r.place ≡ Some (told_by r)

-- each of the receipts, the oldest first, is right, and stands after the one before
abbrev pub Stand : List Entry → ℕ → List Receipt → Type 0
Stand h low [] = Unit {0}
Stand h low (r ∷ rs) = IsRight h low r × Stand h (r.place + 1) rs

-- the place after the last of the receipts
abbrev pub next_place : ℕ → List Receipt → ℕ
next_place low [] = low
next_place low (r ∷ rs) = next_place (r.place + 1) rs

-- each receipt's place is before those of the later ones
abbrev pub PlacesRise : List Receipt → Type 0
PlacesRise rs = AllPairs (λ (one later : Receipt). one.place < later.place) rs

abbrev pub has_place : ℕ → List Receipt → Bool
has_place place rs = list_any (λ r. r.place == place) rs

-- the worker is of the thread, and has a receipt for the place
abbrev pub tells : Tid → ℕ → Work → Bool
tells t place w = (w.tid.0 == t.0) && has_place place w.receipts

-- some worker of the thread has a receipt for the place
abbrev pub is_told : List Work → Tid → ℕ → Bool
is_told workers t place = list_any (tells t place) workers

-- the first of the receipts that is not right
pub record IsFirstWrong (h : List Entry) (rs : List Receipt) (place : ℕ) : Type 0 where
  pub good : List Receipt
  pub wrong : Receipt
  pub later : List Receipt
  pub receipts_are : rs ≡ good ++ wrong ∷ later
  pub stand : Stand h 0 good
  pub is_wrong : IsRight h (next_place 0 good) wrong → ⊥
  pub place_is : place ≡ wrong.place

-- each entry before a place is some worker's receipt
abbrev pub ToldBelow : List Entry → List Work → ℕ → Type 0
ToldBelow h workers n = (i : ℕ) (told : Told) → i < n → told_at h i ≡ Some told → is_told workers told.tid i ≡ true

-- a worker's receipts are of its thread, and stand in the journal
pub record IsRightWorker (h : List Entry) (w : Work) : Type 0 where
  pub own : All (λ (r : Receipt). r.tid ≡ w.tid) w.receipts
  pub stand : Stand h 0 w.receipts

-- the first receipt, workers in their order, that is not the entry at its place or not after the one before
pub record IsWrongReceipt (h : List Entry) (workers : List Work) (tid : Tid) (place : ℕ) : Type 0 where
  pub before : List Work
  pub worker : Work
  pub later : List Work
  pub workers_are : workers ≡ before ++ worker ∷ later
  pub right : All (IsRightWorker h) before
  pub tid_is : tid ≡ worker.tid
  pub wrong : IsFirstWrong h worker.receipts place

-- the first entry that is no worker's receipt, where each receipt is right
pub record IsUntoldEntry (h : List Entry) (workers : List Work) (tid : Tid) (place : ℕ) : Type 0 where
  pub right : All (IsRightWorker h) workers
  pub told : Told
  pub told_is : told_at h place ≡ Some told
  pub tid_is : tid ≡ told.tid
  pub told_below : ToldBelow h workers place
  pub untold : is_told workers tid place ≡ false

-- each receipt is right, and each entry is a receipt
pub record IsAllTold (h : List Entry) (workers : List Work) : Type 0 where
  pub right : All (IsRightWorker h) workers
  pub told : ToldBelow h workers (length h)
