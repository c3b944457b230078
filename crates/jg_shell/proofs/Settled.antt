-- Receipts that are right and complete are the entries of their thread.
use Rattle.std.proofs.Common.{ℕ, ◌≡◌, ◌<◌, ◌≤◌, ◌+◌, Bool, true, false, List, [], ◌∷◌, ◌++◌, length, get_or, refl, sym, ap, ap₂, subst, ◌∙◌, arith, inl, inr, Some, map, reverse, append_assoc, append-nil}
use Rattle.std.specs.Prelude.{◌==◌, ◌&&◌, ◌||◌, if◌then◌else◌, All, Any}
use Rattle.std.proofs.lemmas.Bool.{cases_lt, and_parts}
use Rattle.std.proofs.lemmas.Bool.Decides.{nat_tests}
use Rattle.std.proofs.lemmas.List.{reverse-append, get_or_default}
use Rattle.std.proofs.lemmas.List.Elements.{All-cons, All-nil, All-head, All-tail}
use Rattle.std.proofs.lemmas.List.Folds.{Any-from_list_any}
use Rattle.std.proofs.lemmas.List.Sorted.{IsPermutation-reverse, list_any-IsPermutation}
use Rattle.std.proofs.lemmas.Option.{same_Some}
use Rattle.jg_words.specs.declared.thread.Tid.{Tid}
use Rattle.jg_words.specs.Entry.{Entry}
use Rattle.jg_shell.specs.declared.receipt.Receipt.{Receipt}
use Rattle.jg_shell.specs.Receipts.{Told, told_of, told_by, told_at, entries_of, placed}
use Rattle.jg_shell.specs.Work.{Work, AreApart}
use Rattle.jg_shell.specs.Finish.{Stand, next_place, has_place, tells, IsRightWorker, IsAllTold}
use Rattle.jg_shell.specs.Settled.{IsOwnEntries, IsOfSome}
use Rattle.jg_shell.proofs.Places.{told_newest, told_older, told_within}

-- receipts of a thread, the newest first, that are the entries at their places, each below the one before
abbrev Down : Tid → List Entry → ℕ → List Receipt → Type 0
Down t h high [] = Unit {0}
Down t h high (r ∷ rs) = (r.place < high) × (r.tid ≡ t) × (told_at h r.place ≡ Some (told_by r)) × Down t h r.place rs

Down-raise : (t : Tid) (h : List Entry) (a b : ℕ) (rs : List Receipt) → a ≤ b → Down t h a rs → Down t h b rs
Down-raise t h a b [] le d = tt
Down-raise t h a b (r ∷ rs) le d = (omega (arith, d.0), d.1, d.2, d.3)

turned : (r : Receipt) (rs acc : List Receipt) → reverse (r ∷ rs) ++ acc ≡ reverse rs ++ r ∷ acc
turned r rs acc = ap (λ (qs : List Receipt). qs ++ acc) (reverse-append (r ∷ []) rs) ∙ append_assoc (reverse rs) (r ∷ []) acc

down_onto : (t : Tid) (h : List Entry) (low : ℕ) (rs acc : List Receipt) → All (λ (r : Receipt). r.tid ≡ t) rs → Stand h low rs → Down t h low acc
    → Down t h (next_place low rs) (reverse rs ++ acc)
down_onto t h low [] acc own s d = d
down_onto t h low (r ∷ rs) acc own s d =
    let own' = λ (q : Receipt). q.tid ≡ t in
    subst (λ (qs : List Receipt). Down t h (next_place (r.place + 1) rs) qs) (sym (turned r rs acc))
    (down_onto t h (r.place + 1) rs (r ∷ acc) (All-tail own' r rs own) s.1
    (omega arith, All-head own' r rs own, s.0.told_is, Down-raise t h low r.place acc s.0.after d))

Down-within : (t : Tid) (h : List Entry) (n : ℕ) (rs : List Receipt) → Down t h n rs → Down t h (length h) rs
Down-within t h n [] d = tt
Down-within t h n (r ∷ rs) d = (told_within h r.place (told_by r) d.2, d.1, d.2, d.3)

-- a worker's receipts that are right, the newest first
right_down : (h : List Entry) (w : Work) → IsRightWorker h w → Down w.tid h (length h) (reverse w.receipts)
right_down h w right =
    let down : Down w.tid h (next_place 0 w.receipts) (reverse w.receipts) =
    subst (λ (qs : List Receipt). Down w.tid h (next_place 0 w.receipts) qs) (append-nil (reverse w.receipts))
    (down_onto w.tid h 0 w.receipts [] right.own right.stand tt) in
    Down-within w.tid h (next_place 0 w.receipts) (reverse w.receipts) down

no_place : (t : Tid) (h : List Entry) (high i : ℕ) (rs : List Receipt) → high ≤ i → Down t h high rs → has_place i rs ≡ false
no_place t h high i [] le d = refl
no_place t h high i (r ∷ rs) le d =
    let lt : r.place < i = omega (arith, d.0) in
    let other : (r.place == i) ≡ false = grind (arith, nat_tests) in
    ap (λ (b : Bool). b || has_place i rs) other ∙ no_place t h r.place i rs (omega arith) d.3

older : (t : Tid) (x : Entry) (h : List Entry) (high : ℕ) (rs : List Receipt) → high ≤ length h → Down t (x ∷ h) high rs → Down t h high rs
older t x h high [] le d = tt
older t x h high (r ∷ rs) le d =
    let lt : r.place < length h = omega (arith, d.0) in (d.0, d.1, sym (told_older x h r.place lt) ∙ d.2, older t x h r.place rs (omega arith) d.3)

-- each entry of the thread has a receipt
abbrev Covers : Tid → List Entry → List Receipt → Type 0
Covers t h rs = (i : ℕ) (told : Told) → told_at h i ≡ Some told → told.tid ≡ t → has_place i rs ≡ true

pub tid_same : (a b : Tid) → (a.0 == b.0) ≡ true → a ≡ b
tid_same a b same =
    let make : ℕ → Tid = λ n. record { 0 = n } in let e : a.0 ≡ b.0 = grind (arith, nat_tests) in ap make e

here_at : (b : Bool) (rest : Bool) (p q : ℕ) → (p == q) ≡ b → (b || rest) ≡ true → rest ≡ false → p ≡ q
here_at true rest p q is some none = grind (arith, nat_tests)
here_at false rest p q is some none = absurd (cc (some, none))

Covers-older : (t : Tid) (x : Entry) (h : List Entry) (rs : List Receipt) → Covers t (x ∷ h) rs → Covers t h rs
Covers-older t x h rs c i told at own = c i told (told_older x h i (told_within h i told at) ∙ at) own

own_at : (t : Tid) (x : Entry) (h : List Entry) (rs : List Receipt) (b : Bool) → (x.tid.0 == t.0) ≡ b → Down t (x ∷ h) (length (x ∷ h)) rs → Covers t (x ∷ h) rs
    → ((qs : List Receipt) → Down t h (length h) qs → Covers t h qs → entries_of t h ≡ map placed qs)
    → (if b then (length h, told_of x) ∷ entries_of t h else entries_of t h) ≡ map placed rs
own_at t x h [] true is d c rec =
    let bad : false ≡ true = c (length h) (told_of x) (told_newest x h) (tid_same x.tid t is) in absurd (cc bad)
own_at t x h (r ∷ rs) true is d c rec =
    let has : has_place (length h) (r ∷ rs) ≡ true = c (length h) (told_of x) (told_newest x h) (tid_same x.tid t is) in
    let here : r.place ≡ length h =
    here_at (r.place == length h) (has_place (length h) rs) r.place (length h) refl has (no_place t (x ∷ h) r.place (length h) rs (omega (arith, d.0)) d.3)
    in
    let same : told_of x ≡ told_by r = same_Some (told_of x) (told_by r) (sym (told_newest x h) ∙ (ap (told_at (x ∷ h)) (sym here) ∙ d.2)) in
    let below : Down t h (length h) rs = older t x h (length h) rs (omega arith) (subst (λ (n : ℕ). Down t (x ∷ h) n rs) here d.3) in
    let covers : Covers t h rs =
    λ i told at own.
    let lt = told_within h i told at in
    let other : (r.place == i) ≡ false = grind (arith, nat_tests) in
    sym (ap (λ (b : Bool). b || has_place i rs) other) ∙ c i told (told_older x h i lt ∙ at) own in
    ap₂ (λ (p : ℕ × Told) (q : List (ℕ × Told)). p ∷ q) (ap₂ (λ (n : ℕ) (told : Told). (n, told)) (sym here) same) (rec rs below covers)
own_at t x h [] false is d c rec = rec [] tt (Covers-older t x h [] c)
own_at t x h (r ∷ rs) false is d c rec =
    let other : r.place ≡ length h → ⊥ =
    λ here.
    let same : told_of x ≡ told_by r = same_Some (told_of x) (told_by r) (sym (told_newest x h) ∙ (ap (told_at (x ∷ h)) (sym here) ∙ d.2)) in
    let own : x.tid.0 ≡ t.0 = ap (λ (told : Told). told.tid.0) same ∙ ap (λ (u : Tid). u.0) d.1 in
    absurd (grind (arith, nat_tests)) in
    let lt : r.place < length h = omega (arith, d.0, other) in
    rec (r ∷ rs) (lt, d.1, sym (told_older x h r.place lt) ∙ d.2, older t x h r.place rs (omega arith) d.3) (Covers-older t x h (r ∷ rs) c)

own_entries : (t : Tid) (h : List Entry) (rs : List Receipt) → Down t h (length h) rs → Covers t h rs → entries_of t h ≡ map placed rs
own_entries t [] [] d c = refl
own_entries t [] (r ∷ rs) d c = absurd (omega (arith, d.0))
own_entries t (x ∷ h) rs d c = own_at t x h rs (x.tid.0 == t.0) refl d c (own_entries t h)

-- the worker that was told of a place, and its index
record IsTeller (workers : List Work) (t : Tid) (place : ℕ) : Type 0 where
  index : ℕ
  worker : Work
  within : index < length workers
  worker_is : get_or workers index worker ≡ worker
  thread : worker.tid ≡ t
  has : has_place place worker.receipts ≡ true

teller : (h : List Entry) (workers : List Work) → IsAllTold h workers → (i : ℕ) (told : Told) → told_at h i ≡ Some told → IsTeller workers told.tid i
teller h workers all i told at =
    let any = Any-from_list_any (tells told.tid i) workers (all.told i told (told_within h i told at) at) in
    let test = and_parts _ _ any.4 in
    record { index = any.0; worker = any.1; within = any.2; worker_is = any.3; thread = tid_same any.1.tid told.tid test.0; has = test.1 }

-- workers of one thread are one
apart_index : (workers : List Work) → AreApart workers → (i j : ℕ) (d : Work) → i < length workers → j < length workers
    → (get_or workers i d).tid ≡ (get_or workers j d).tid → i ≡ j
apart_index workers apart i j d i_in j_in same =
    elim (cases_lt i j) [
      | inl lt ↦ absurd (apart i j d lt j_in same)
      | inr le ↦ elim (cases_lt j i) [ inl lt ↦ absurd (apart j i d lt i_in (sym same)) | inr le' ↦ omega (arith, le, le') ]
    ]

-- the entries of each worker's thread are its receipts
pub own_settled : (h : List Entry) (workers : List Work) → AreApart workers → IsAllTold h workers → All (IsOwnEntries h) workers
own_settled h workers apart all k d lt =
    let w = get_or workers k d in
    let covers : Covers w.tid h (reverse w.receipts) =
    λ i told at own.
    let one = teller h workers all i told at in
    let x = one.worker in
    let there : get_or workers one.index d ≡ x = get_or_default workers one.index d x one.within ∙ one.worker_is in
    let same : one.index ≡ k = apart_index workers apart one.index k d one.within lt (ap (λ (v : Work). v.tid) there ∙ (one.thread ∙ own)) in
    let it : x ≡ w = sym there ∙ ap (λ (j : ℕ). get_or workers j d) same in
    let has : has_place i w.receipts ≡ true = subst (λ (v : Work). has_place i v.receipts ≡ true) it one.has in
    sym (list_any-IsPermutation (λ (r : Receipt). r.place == i) w.receipts (reverse w.receipts) (IsPermutation-reverse w.receipts)) ∙ has in
    own_entries w.tid h (reverse w.receipts) (right_down h w (all.right k d lt)) covers

-- what holds of what is told at each place holds of each entry
each_entry : (P : Tid → Type 0) (h : List Entry) → ((i : ℕ) (told : Told) → told_at h i ≡ Some told → P told.tid) → All (λ (x : Entry). P x.tid) h
each_entry P [] each = All-nil _
each_entry P (x ∷ h) each =
    All-cons (λ (y : Entry). P y.tid) x h (each (length h) (told_of x) (told_newest x h))
    (each_entry P h (λ i told at. each i told (told_older x h i (told_within h i told at) ∙ at)))

-- each entry's thread has a worker
pub known_settled : (h : List Entry) (workers : List Work) → IsAllTold h workers → All (IsOfSome workers) h
known_settled h workers all =
    each_entry (λ (t : Tid). Any (λ (w : Work). w.tid ≡ t) workers) h (λ i told at.
    let one = teller h workers all i told at in (one.index, one.worker, one.within, one.worker_is, one.thread))
