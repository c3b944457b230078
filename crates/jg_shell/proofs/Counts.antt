-- How many entries there are, by thread.
use Rattle.std.proofs.Common.{ℕ, zero, suc, ◌≡◌, ◌+◌, ◌<◌, Bool, true, false, List, [], ◌∷◌, length, get_or, reverse, refl, sym, ap, ◌∙◌, arith, eq-eqb}
use Rattle.std.specs.Prelude.{◌==◌, ◌≢◌, if◌then◌else◌, All, sum_by}
use Rattle.std.proofs.lemmas.Bool.Decides.{nat_tests}
use Rattle.std.proofs.lemmas.List.{length-reverse, length-map}
use Rattle.std.proofs.lemmas.List.Elements.{All-head, All-tail, All-weaker}
use Rattle.std.proofs.lemmas.List.Sums.{sum_by-cons}
use Rattle.jg_words.specs.declared.thread.Tid.{Tid}
use Rattle.jg_words.specs.Entry.{Entry}
use Rattle.jg_shell.specs.Receipts.{Told, told_of, entries_of, placed}
use Rattle.jg_shell.specs.Work.{Work, AreApart}
use Rattle.jg_shell.specs.Finish.{IsAllTold}
use Rattle.jg_shell.specs.Settled.{IsOwnEntries, IsOfSome}
use Rattle.jg_shell.proofs.Settled.{own_settled, known_settled}

-- equal terms have equal sums
sum_by-same : {X : Type 0} (f g : X → ℕ) (xs : List X) → All (λ x. f x ≡ g x) xs → sum_by f xs ≡ sum_by g xs
sum_by-same f g [] same = refl
sum_by-same f g (x ∷ xs) same =
    sum_by-cons f x xs ∙ (ap (λ n. n + sum_by f xs) (All-head (λ y. f y ≡ g y) x xs same)
    ∙ (ap (λ n. g x + n) (sum_by-same f g xs (All-tail (λ y. f y ≡ g y) x xs same)) ∙ sym (sum_by-cons g x xs)))

-- 1 where the worker is of the thread
abbrev is_of : Tid → Work → ℕ
is_of t w = if t.0 == w.tid.0 then 1 else 0

abbrev own_count : List Entry → Work → ℕ
own_count h w = length (entries_of w.tid h)

longer : (b : Bool) (p : ℕ × Told) (l : List (ℕ × Told)) → length (if b then p ∷ l else l) ≡ (if b then 1 else 0) + length l
longer true p l = omega arith
longer false p l = omega arith

-- one entry more is one worker's
sum_by-entry : (x : Entry) (h : List Entry) (ws : List Work) → sum_by (own_count (x ∷ h)) ws ≡ sum_by (is_of x.tid) ws + sum_by (own_count h) ws
sum_by-entry x h [] = refl
sum_by-entry x h (w ∷ ws) =
    omega (
      arith,
      sum_by-cons (own_count (x ∷ h)) w ws,
      sum_by-cons (is_of x.tid) w ws,
      sum_by-cons (own_count h) w ws,
      sum_by-entry x h ws,
      longer (x.tid.0 == w.tid.0) (length h, told_of x) (entries_of w.tid h),
    )

differs : (a b : Tid) → a ≢ b → (a.0 == b.0) ≡ false
differs a b other =
    let make : ℕ → Tid = λ n. record { 0 = n } in
    let apart : a.0 ≡ b.0 → ⊥ = λ same. other (ap make same) in grind (arith, nat_tests)

none_of : (t : Tid) (ws : List Work) → All (λ (w : Work). t ≢ w.tid) ws → sum_by (is_of t) ws ≡ 0
none_of t [] others = refl
none_of t (w ∷ ws) others =
    let other : is_of t w ≡ 0 = ap (λ (b : Bool). if b then 1 else 0) (differs t w.tid (All-head (λ (v : Work). t ≢ v.tid) w ws others)) in
    omega (arith, sum_by-cons (is_of t) w ws, other, none_of t ws (All-tail (λ (v : Work). t ≢ v.tid) w ws others))

tail_apart : (w : Work) (ws : List Work) → AreApart (w ∷ ws) → AreApart ws
tail_apart w ws apart = λ i j d lt within. apart (suc i) (suc j) d (omega arith) (omega arith)

head_apart : (w : Work) (ws : List Work) → AreApart (w ∷ ws) → All (λ (v : Work). w.tid ≢ v.tid) ws
head_apart w ws apart = λ k d lt. apart 0 (suc k) d (omega arith) (omega arith)

-- of workers of different threads, one is of a thread that has one
one_of : (t : Tid) (ws : List Work) → AreApart ws → (k : ℕ) (v : Work) → k < length ws → get_or ws k v ≡ v → v.tid ≡ t → sum_by (is_of t) ws ≡ 1
one_of t [] apart k v lt is own = absurd (omega arith)
one_of t (w ∷ ws) apart zero v lt is own =
    let same : w.tid ≡ t = ap (λ (u : Work). u.tid) is ∙ own in
    let here : is_of t w ≡ 1 = ap (λ (b : Bool). if b then 1 else 0) (eq-eqb t.0 w.tid.0 (ap (λ (u : Tid). u.0) (sym same))) in
    let others : All (λ (u : Work). t ≢ u.tid) ws =
    All-weaker (λ (u : Work). w.tid ≢ u.tid) (λ (u : Work). t ≢ u.tid) (λ u other its. other (same ∙ its)) ws (head_apart w ws apart) in
    omega (arith, sum_by-cons (is_of t) w ws, here, none_of t ws others)
one_of t (w ∷ ws) apart (suc k) v lt is own =
    let other : t ≢ w.tid = λ its. apart 0 (suc k) v (omega arith) lt (sym its ∙ (sym own ∙ ap (λ (u : Work). u.tid) (sym is))) in
    let not_here : is_of t w ≡ 0 = ap (λ (b : Bool). if b then 1 else 0) (differs t w.tid other) in
    omega (arith, sum_by-cons (is_of t) w ws, not_here, one_of t ws (tail_apart w ws apart) k v (omega arith) is own)

no_entries : (ws : List Work) → sum_by (own_count []) ws ≡ 0
no_entries [] = refl
no_entries (w ∷ ws) = omega (arith, sum_by-cons (own_count []) w ws, no_entries ws)

counted : (ws : List Work) → AreApart ws → (h : List Entry) → All (IsOfSome ws) h → sum_by (own_count h) ws ≡ length h
counted ws apart [] known = no_entries ws
counted ws apart (x ∷ h) known =
    let some = All-head (IsOfSome ws) x h known in
    omega (arith, sum_by-entry x h ws, one_of x.tid ws apart some.0 some.1 some.2 some.3 some.4, counted ws apart h (All-tail (IsOfSome ws) x h known))

-- where receipts and journal agree, there are as many entries as receipts
pub settled_count : (h : List Entry) (ws : List Work) → AreApart ws → IsAllTold h ws → length h ≡ sum_by (λ (w : Work). length w.receipts) ws
settled_count h ws apart all =
    sym (counted ws apart h (known_settled h ws all))
    ∙ sum_by-same (own_count h) (λ (w : Work). length w.receipts) ws
    (All-weaker (IsOwnEntries h) (λ (w : Work). own_count h w ≡ length w.receipts)
    (λ w is. ap (λ (l : List (ℕ × Told)). length l) is ∙ (length-map (reverse w.receipts) placed ∙ length-reverse w.receipts)) ws (own_settled h ws apart all))
