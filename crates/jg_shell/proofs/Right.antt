-- Receipts that are looked at one after another.
use Rattle.std.proofs.Common.{ℕ, ◌≡◌, ◌<◌, ◌≤◌, ◌+◌, List, [], ◌∷◌, ◌++◌, length, take, drop, get_or, suc, refl, sym, ap, subst, ◌∙◌, arith}
use Rattle.std.specs.Prelude.{All}
use Rattle.std.proofs.lemmas.List.{take_more}
use Rattle.std.proofs.lemmas.List.Elements.{All-cons, All-nil, All-weaker}
use Rattle.std.proofs.lemmas.List.Kept.{AllPairs-cons}
use Rattle.std.proofs.Math.Seq.{split_at}
use Rattle.jg_words.specs.declared.thread.Tid.{Tid}
use Rattle.jg_words.specs.Entry.{Entry}
use Rattle.jg_shell.specs.declared.receipt.Receipt.{Receipt}
use Rattle.jg_shell.specs.Work.{Work}
use Rattle.jg_shell.specs.Finish.{IsRight, Stand, PlacesRise, next_place, IsFirstWrong, IsRightWorker, IsWrongReceipt}

Stand-last : (h : List Entry) (low : ℕ) (rs : List Receipt) (r : Receipt) → Stand h low rs → IsRight h (next_place low rs) r → Stand h low (rs ++ r ∷ [])
Stand-last h low [] r s right = (right, tt)
Stand-last h low (q ∷ rs) r s right = (s.0, Stand-last h (q.place + 1) rs r s.1 right)

next_place-last : (low : ℕ) (rs : List Receipt) (r : Receipt) → next_place low (rs ++ r ∷ []) ≡ r.place + 1
next_place-last low [] r = refl
next_place-last low (q ∷ rs) r = next_place-last (q.place + 1) rs r

-- the first `index` receipts are right, and the next may stand at `low`
pub record IsChecked (h : List Entry) (rs : List Receipt) (index low : ℕ) : Type 0 where
  pub stand : Stand h 0 (take index rs)
  pub low_is : low ≡ next_place 0 (take index rs)

pub IsChecked-more : (h : List Entry) (rs : List Receipt) (index low : ℕ) (r : Receipt) → index < length rs → r ≡ get_or rs index r → IsChecked h rs index low
    → IsRight h low r
    → IsChecked h rs (index + 1) (r.place + 1)
IsChecked-more h rs index low r within is so_far right =
    let next : take (index + 1) rs ≡ take index rs ++ r ∷ [] = take_more rs index r within ∙ ap (λ (q : Receipt). take index rs ++ q ∷ []) (sym is) in
    let right' : IsRight h (next_place 0 (take index rs)) r = subst (λ (n : ℕ). IsRight h n r) so_far.low_is right in
    record {
      stand = rw next (Stand-last h 0 (take index rs) r so_far.stand right');
      low_is = rw next (sym (next_place-last 0 (take index rs) r));
    }

pub IsChecked-wrong : (h : List Entry) (rs : List Receipt) (index low : ℕ) (r : Receipt) → index < length rs → r ≡ get_or rs index r → IsChecked h rs index low
    → (IsRight h low r → ⊥)
    → IsFirstWrong h rs r.place
IsChecked-wrong h rs index low r within is so_far wrong = record {
  good = take index rs;
  wrong = r;
  later = drop (suc index) rs;
  receipts_are = split_at rs index r within ∙ ap (λ (q : Receipt). take index rs ++ q ∷ drop (suc index) rs) (sym is);
  stand = so_far.stand;
  is_wrong = λ right. wrong (subst (λ (n : ℕ). IsRight h n r) (sym so_far.low_is) right);
  place_is = refl;
}

pub IsWrongReceipt-at : (h : List Entry) (workers : List Work) (i : ℕ) (w : Work) (tid : Tid) (place : ℕ) → i < length workers → w ≡ get_or workers i w
    → All (IsRightWorker h) (take i workers)
    → tid ≡ w.tid → IsFirstWrong h w.receipts place → IsWrongReceipt h workers tid place
IsWrongReceipt-at h workers i w tid place within is right tid_is wrong = record {
  before = take i workers;
  worker = w;
  later = drop (suc i) workers;
  workers_are = split_at workers i w within ∙ ap (λ (v : Work). take i workers ++ v ∷ drop (suc i) workers) (sym is);
  right = right;
  tid_is = tid_is;
  wrong = wrong;
}

-- receipts that stand from a place on are all there or later
Stand-from : (h : List Entry) (low : ℕ) (rs : List Receipt) → Stand h low rs → All (λ (r : Receipt). low ≤ r.place) rs
Stand-from h low [] s = All-nil _
Stand-from h low (r ∷ rs) s =
    All-cons (λ (q : Receipt). low ≤ q.place) r rs s.0.after
    (All-weaker (λ (q : Receipt). r.place + 1 ≤ q.place) (λ (q : Receipt). low ≤ q.place) (λ q le. omega (arith, s.0.after, le)) rs
    (Stand-from h (r.place + 1) rs s.1))

-- receipts that stand in the journal have rising places
pub Stand-rise : (h : List Entry) (low : ℕ) (rs : List Receipt) → Stand h low rs → PlacesRise rs
Stand-rise h low [] s = λ i j d lt within. absurd (omega arith)
Stand-rise h low (r ∷ rs) s =
    AllPairs-cons (λ (one later : Receipt). one.place < later.place) r rs
    (All-weaker (λ (q : Receipt). r.place + 1 ≤ q.place) (λ (q : Receipt). r.place < q.place) (λ q le. omega (arith, le)) rs
    (Stand-from h (r.place + 1) rs s.1))
    (Stand-rise h (r.place + 1) rs s.1)
