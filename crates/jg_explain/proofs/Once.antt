-- What comes to hold once and then holds no more: a few entries at which it is asked tell where it turned.
use Rattle.std.proofs.Common.{◌≡◌, ◌+◌, ◌-◌, ◌<◌, ◌≤◌, ℕ, zero, suc, Bool, true, false, List, length, Some, None, refl, ap, sym, ◌∙◌, arith, add-one}
use Rattle.jg_words.specs.Entry.{Entry}
use Rattle.jg_words.proofs.Common.{clash}
use Rattle.jg_lists.proofs.Oldest.{oldest}
use Rattle.jg_breaches.specs.declared.turns.Turns.{Turns}
use Rattle.jg_breaches.specs.Turns.{turns, turned, same, still}
use Rattle.jg_explain.proofs.Turning.{turns_more}

-- it doesn't hold at first, and where it held and doesn't any more, it never does again
pub record HoldsOnce (test : List Entry → Bool) (h : List Entry) : Type 0 where
  pub first : test (oldest 0 h) ≡ false
  pub over : (i j k : ℕ) → i ≤ j → j ≤ k → k ≤ length h → test (oldest i h) ≡ true → test (oldest j h) ≡ false → test (oldest k h) ≡ false

module _ (test : List Entry → Bool) (h : List Entry) (once : HoldsOnce test h) where
  -- the turns of so many entries
  abbrev turned_by : ℕ → Turns
  turned_by n = turns test (oldest n h)

  -- nothing turned while it didn't hold
  pub never : (n : ℕ) → n ≤ length h → ((i : ℕ) → i ≤ n → test (oldest i h) ≡ false) → turned_by n ≡ still
  never zero within none = refl
  never (suc n) within none =
      let below : n < length h = omega (arith, within) in
      let was : test (oldest n h) ≡ false = none n (omega arith) in
      let is : test (oldest (n + 1) h) ≡ false = none (n + 1) (omega arith) in
      ap turned_by (sym (add-one n)) ∙ turns_more test h n below ∙ ap (λ b. turned (same b (test (oldest (n + 1) h))) n (turned_by n)) was
      ∙ ap (λ b. turned (same false b) n (turned_by n)) is
      ∙ never n (omega (arith, within)) (λ i le. none i (omega (arith, le)))

  -- nor while it went on as it was
  stays : (b : Bool) (a n : ℕ) → a + n ≤ length h → ((i : ℕ) → a ≤ i → i ≤ a + n → test (oldest i h) ≡ b) → turned_by (a + n) ≡ turned_by a
  stays b a zero within all = ap turned_by (omega arith)
  stays b a (suc n) within all =
      let below : a + n < length h = omega (arith, within) in
      let was : test (oldest (a + n) h) ≡ b = all (a + n) (omega arith) (omega arith) in
      let is : test (oldest (a + n + 1) h) ≡ b = all (a + n + 1) (omega arith) (omega arith) in
      ap turned_by (omega arith) ∙ turns_more test h (a + n) below ∙ ap (λ c. turned (same c (test (oldest (a + n + 1) h))) (a + n) (turned_by (a + n))) was
      ∙ ap (λ c. turned (same b c) (a + n) (turned_by (a + n))) is ∙ unturned b (a + n) (turned_by (a + n))
      ∙ stays b a n (omega (arith, within)) (λ i low le. all i low (omega (arith, le)))
    where
      unturned : (b : Bool) (place : ℕ) (ts : Turns) → turned (same b b) place ts ≡ ts
      unturned true place ts = refl
      unturned false place ts = refl

  -- it came to hold at that entry: until then it never did
  not_before : (a : ℕ) → a < length h → test (oldest a h) ≡ false → test (oldest (a + 1) h) ≡ true → (i : ℕ) → i ≤ a → test (oldest i h) ≡ false
  not_before a below lacked held i le = by (test (oldest i h)) refl
    where
      by : (b : Bool) → test (oldest i h) ≡ b → test (oldest i h) ≡ false
      by false is = is
      by true is = absurd (clash (test (oldest (a + 1) h)) held (once.over i a (a + 1) le (omega arith) (omega (arith, below)) is lacked))

  -- and from then on it does, as long as it does later
  since_then : (a n : ℕ) → n ≤ length h → test (oldest (a + 1) h) ≡ true → test (oldest n h) ≡ true → (i : ℕ) → a + 1 ≤ i → i ≤ n → test (oldest i h) ≡ true
  since_then a n within held still_held i low le = by (test (oldest i h)) refl
    where
      by : (b : Bool) → test (oldest i h) ≡ b → test (oldest i h) ≡ true
      by true is = is
      by false is = absurd (clash (test (oldest n h)) still_held (once.over (a + 1) i n low le within held is))

  -- once it has ceased it is so no more
  no_more : (b n : ℕ) → n ≤ length h → test (oldest b h) ≡ true → test (oldest (b + 1) h) ≡ false → (i : ℕ) → b + 1 ≤ i → i ≤ n → test (oldest i h) ≡ false
  no_more b n within held lacked i low le = once.over b (b + 1) i (omega arith) low (omega (arith, le, within)) held lacked

  -- it turned when it came to hold, and not before
  begun : (a : ℕ) → a < length h → test (oldest a h) ≡ false → test (oldest (a + 1) h) ≡ true → turned_by (a + 1) ≡ record { latest = Some a; earlier = None }
  begun a below lacked held =
      turns_more test h a below ∙ ap (λ b. turned (same b (test (oldest (a + 1) h))) a (turned_by a)) lacked
      ∙ ap (λ b. turned (same false b) a (turned_by a)) held
      ∙ ap (λ ts. turned false a ts) (never a (omega (arith, below)) (not_before a below lacked held))

  -- what holds has turned where it came to hold
  pub holding : (a n : ℕ) → a < n → n ≤ length h → test (oldest a h) ≡ false → test (oldest (a + 1) h) ≡ true → test (oldest n h) ≡ true
      → turned_by n ≡ record { latest = Some a; earlier = None }
  holding a n before within lacked held still_held =
      let low : a + 1 ≤ n = omega (arith, before) in
      let more : a + 1 + (n - (a + 1)) ≡ n = omega (arith, low) in
      ap turned_by (sym more) ∙ stays true (a + 1) (n - (a + 1)) (omega (arith, more, within))
      (λ i least le. since_then a n within held still_held i least (omega (arith, le, more)))
      ∙ begun a (omega (arith, before, within)) lacked held

  -- what holds no more has turned where it came to hold, and where it ceased
  pub over_now : (a b n : ℕ) → a < b → b < n → n ≤ length h → test (oldest a h) ≡ false → test (oldest (a + 1) h) ≡ true → test (oldest b h) ≡ true
      → test (oldest (b + 1) h) ≡ false
      → turned_by n ≡ record { latest = Some b; earlier = Some a }
  over_now a b n first last within lacked held held_still ceased =
      let more : b + 1 + (n - (b + 1)) ≡ n = omega (arith, last) in
      let below : b < length h = omega (arith, last, within) in
      ap turned_by (sym more) ∙ stays false (b + 1) (n - (b + 1)) (omega (arith, more, within))
      (λ i least le. no_more b n within held_still ceased i least (omega (arith, le, more)))
      ∙ turns_more test h b below ∙ ap (λ c. turned (same c (test (oldest (b + 1) h))) b (turned_by b)) held_still
      ∙ ap (λ c. turned (same true c) b (turned_by b)) ceased
      ∙ ap (λ ts. turned false b ts) (holding a b first (omega (arith, below)) lacked held held_still)

  -- where no entry brings it about, it never holds
  lacking : (n : ℕ) → n ≤ length h → ((i : ℕ) → i < n → test (oldest i h) ≡ false → test (oldest (i + 1) h) ≡ false) → (i : ℕ) → i ≤ n
      → test (oldest i h) ≡ false
  lacking n within none zero le = once.first
  lacking n within none (suc i) le = ap (λ k. test (oldest k h)) (sym (add-one i)) ∙ none i (omega (arith, le)) (lacking n within none i (omega (arith, le)))

  -- and has never turned
  pub unmade : (n : ℕ) → n ≤ length h → ((i : ℕ) → i < n → test (oldest i h) ≡ false → test (oldest (i + 1) h) ≡ false)
      → (test (oldest n h) ≡ false) × (turned_by n ≡ still)
  unmade n within none = (lacking n within none n (omega arith), never n within (lacking n within none))
