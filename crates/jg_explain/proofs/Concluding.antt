-- A few entries before and after which it was asked tell where a condition that comes to hold once has turned.
use Rattle.std.proofs.Common.{◌≡◌, ◌⊎◌, ◌+◌, ◌<◌, ◌≤◌, ◌++◌, ◌∙◌, ℕ, Bool, true, false, List, [], ◌∷◌, length, Some, None, inl, inr, refl, ap, sym, subst, arith}
use Rattle.std.specs.Prelude.{nat_lt, reverse, slice_get}
use Rattle.std.proofs.lemmas.Bool.Decides.{nat_tests}
use Rattle.std.proofs.lemmas.List.{length-reverse}
use Rattle.std.proofs.lemmas.Option.{slice_get_cases}
use Rattle.jg_words.specs.Entry.{Entry}
use Rattle.jg_words.specs.declared.reference.Ref.TheVariants.{Null, To}
use Rattle.jg_words.proofs.Common.{clash}
use Rattle.jg_policy.specs.Stated.{StatedSetup}
use Rattle.jg_table_buffers.specs.History.{opened}
use Rattle.jg_lists.proofs.Oldest.{oldest, oldest_more}
use Rattle.jg_rules.specs.Effects.{parts}
use Rattle.jg_rules.specs.Legal.{Legal}
use Rattle.jg_breaches.specs.declared.condition.Condition.{Condition}
use Rattle.jg_breaches.specs.declared.condition.Condition.TheVariants.{IsAttached, IsPresent, HasPending, Names, NamesObject, IsOpen, Owns, IsOwned, HasFrame, InNative, IsLinked}
use Rattle.jg_breaches.specs.Turns.{still}
use Rattle.jg_breaches.proofs.Making.{made_by_its_answer}
use Rattle.jg_explain.specs.Explained.{after, turns_before, was}
use Rattle.jg_explain.specs.Followed.{GaveOther, Was, comes_once, given_in, was_given}
use Rattle.jg_explain.proofs.Giving.{buffer_numbered, buffer_still_given, ref_numbered, ref_still_given}
use Rattle.jg_explain.proofs.Objects.{object_by_its_answer}
use Rattle.jg_explain.proofs.Once.{HoldsOnce, holding, over_now, unmade}
use Rattle.jg_explain.proofs.Onces.{names_once, object_once, open_none, open_once, open_there}
use Rattle.jg_explain.proofs.Opening.{opened_by_its_answer}
use Rattle.jg_explain.proofs.Splits.{behind, front_legal}

once_of : (s : StatedSetup) (c : Condition) → comes_once c ≡ true → (h : List Entry) → Legal s h → HoldsOnce (after s c) h
once_of s (Names t (To kind maker n)) is h legal = names_once s t maker kind n h legal
once_of s (NamesObject t (To kind maker n)) is h legal = object_once s t maker kind n h legal
once_of s (IsOpen b) is h legal = open_once s b h legal
once_of s (Names t Null) is h legal = absurd cc
once_of s (NamesObject t Null) is h legal = absurd cc
once_of s (IsAttached t) is h legal = absurd cc
once_of s (IsPresent env) is h legal = absurd cc
once_of s (HasPending t) is h legal = absurd cc
once_of s (Owns t o) is h legal = absurd cc
once_of s (IsOwned o) is h legal = absurd cc
once_of s (HasFrame t) is h legal = absurd cc
once_of s (InNative t) is h legal = absurd cc
once_of s (IsLinked class native) is h legal = absurd cc

-- a number that was given stays given
still_given : (s : StatedSetup) (c : Condition) → comes_once c ≡ true → (newer h : List Entry) → Legal s (newer ++ h) → given_in (parts s h) c ≡ true
    → given_in (parts s (newer ++ h)) c ≡ true
still_given s (Names t (To kind maker n)) is newer h legal given = ref_still_given s newer h maker.0 n legal given
still_given s (NamesObject t (To kind maker n)) is newer h legal given = ref_still_given s newer h maker.0 n legal given
still_given s (IsOpen b) is newer h legal given = buffer_still_given s newer h b.maker.0 b.n legal given
still_given s (Names t Null) is newer h legal given = absurd cc
still_given s (NamesObject t Null) is newer h legal given = absurd cc
still_given s (IsAttached t) is newer h legal given = absurd cc
still_given s (IsPresent env) is newer h legal given = absurd cc
still_given s (HasPending t) is newer h legal given = absurd cc
still_given s (Owns t o) is newer h legal given = absurd cc
still_given s (IsOwned o) is newer h legal given = absurd cc
still_given s (HasFrame t) is newer h legal given = absurd cc
still_given s (InNative t) is newer h legal given = absurd cc
still_given s (IsLinked class native) is newer h legal given = absurd cc

-- where it comes to hold its number is given
Numbered : StatedSetup → Condition → List Entry → Entry → Type 0
Numbered s c h x = (given_in (parts s h) c ≡ false) × (given_in (parts s (x ∷ h)) c ≡ true)

numbered : (s : StatedSetup) (c : Condition) → comes_once c ≡ true → (h : List Entry) (x : Entry) → Legal s (x ∷ h) → after s c h ≡ false
    → after s c (x ∷ h) ≡ true → Numbered s c h x
unfolding Numbered
numbered s (Names t (To kind maker n)) is h x legal lacked held =
    ref_numbered s h x kind maker n legal (made_by_its_answer s [] x h t (To kind maker n) legal lacked held)
numbered s (NamesObject t (To kind maker n)) is h x legal lacked held =
    ref_numbered s h x kind maker n legal (object_by_its_answer s h x t (To kind maker n) legal lacked held)
numbered s (IsOpen b) is h x legal lacked held =
    let none = open_none (opened (parts s h).buffers b.maker.0 b.n) lacked in
    let some = open_there (opened (parts s (x ∷ h)).buffers b.maker.0 b.n) held in
    buffer_numbered s h x b some.0 legal (opened_by_its_answer s h x b.maker.0 b.n some.0 legal none some.1) some.1
numbered s (Names t Null) is h x legal lacked held = absurd cc
numbered s (NamesObject t Null) is h x legal lacked held = absurd cc
numbered s (IsAttached t) is h x legal lacked held = absurd cc
numbered s (IsPresent env) is h x legal lacked held = absurd cc
numbered s (HasPending t) is h x legal lacked held = absurd cc
numbered s (Owns t o) is h x legal lacked held = absurd cc
numbered s (IsOwned o) is h x legal lacked held = absurd cc
numbered s (HasFrame t) is h x legal lacked held = absurd cc
numbered s (InNative t) is h x legal lacked held = absurd cc
numbered s (IsLinked class native) is h x legal lacked held = absurd cc

order : (i g : ℕ) → (i < g) ⊎ ((i ≡ g) ⊎ (g < i))
order i g = by (nat_lt i g) (nat_lt g i) refl refl
  where
    by : (b d : Bool) → nat_lt i g ≡ b → nat_lt g i ≡ d → (i < g) ⊎ ((i ≡ g) ⊎ (g < i))
    by true d below is = inl (grind (arith, nat_tests, below))
    by false true is above = inr (inr (grind (arith, nat_tests, above)))
    by false false low high = inr (inl (grind (arith, nat_tests, low, high)))

module _ (s : StatedSetup) (h : List Entry) (legal : Legal s h) (c : Condition) (is : comes_once c ≡ true) where
  once : HoldsOnce (after s c) h
  once = once_of s c is h legal

  given_later : (i j : ℕ) → i ≤ j → j ≤ length h → was_given s c h i ≡ true → was_given s c h j ≡ true
  given_later i j low within given =
      let rest = behind i j h low within in
      let own = subst (λ (l : List Entry). Legal s l) rest.is (front_legal s h j within legal) in
      subst (λ (l : List Entry). given_in (parts s l) c ≡ true) (sym rest.is) (still_given s c is rest.later (oldest i h) own given)

  given_at : (i : ℕ) (x : Entry) → i < length h → slice_get (reverse h) i ≡ Some x → was s c h i ≡ false → was s c h (i + 1) ≡ true
      → (was_given s c h i ≡ false) × (was_given s c h (i + 1) ≡ true)
  unfolding Numbered
  given_at i x below at lacked held =
      let more = oldest_more h i x at in
      let own = subst (λ (l : List Entry). Legal s l) more (front_legal s h (i + 1) (omega (arith, below)) legal) in
      let both = numbered s c is (oldest i h) x own lacked (subst (λ (l : List Entry). after s c l ≡ true) more held) in
      (both.0, subst (λ (l : List Entry). given_in (parts s l) c ≡ true) (sym more) both.1)

  given_there : (i : ℕ) → i < length h → was s c h i ≡ false → was s c h (i + 1) ≡ true → (was_given s c h i ≡ false) × (was_given s c h (i + 1) ≡ true)
  given_there i below lacked held =
      elim (slice_get_cases (reverse h) i).1 [
        | inl found ↦ given_at i found.0 below found.2 lacked held
        | inr past ↦ absurd (omega (arith, past.0, below, length-reverse h))
      ]

  -- at an entry at which it doesn't come to hold it lacks still
  lacks_if : (i : ℕ) → (was s c h (i + 1) ≡ true → ⊥) → was s c h (i + 1) ≡ false
  lacks_if i isnt = by (was s c h (i + 1)) refl
    where
      by : (b : Bool) → was s c h (i + 1) ≡ b → was s c h (i + 1) ≡ false
      by false lacks = lacks
      by true held = absurd (isnt held)

  -- before its number is given it has never held
  pub ungiven : (n : ℕ) → n ≤ length h → was_given s c h n ≡ false → turns_before s c h n ≡ still
  ungiven n within none =
      (unmade (after s c) h once n within (λ i below lacked. lacks_if i
      (λ held. clash (was_given s c h n) (given_later (i + 1) n (omega (arith, below)) within (given_there i (omega (arith, below, within)) lacked held).1)
      none))).1

  -- nor ever, where its number was given to something else
  pub given_away : (g n : ℕ) → g < n → n ≤ length h → GaveOther s h c g → turns_before s c h n ≡ still
  given_away g n before within gave =
      (unmade (after s c) h once n within (λ i below lacked. lacks_if i (λ held. at_no_entry i below lacked held))).1
    where
      at_no_entry : (i : ℕ) → i < n → was s c h i ≡ false → was s c h (i + 1) ≡ true → ⊥
      at_no_entry i below lacked held =
          let there = given_there i (omega (arith, below, within)) lacked held in
          elim (order i g) [
            | inl low ↦ clash (was_given s c h g) (given_later (i + 1) g (omega (arith, low)) (omega (arith, before, within)) there.1) gave.before
            | inr (inl same) ↦ clash (was s c h (i + 1)) held (ap (λ k. was s c h (k + 1)) same ∙ gave.lacking)
            | inr (inr high) ↦ clash (was_given s c h i) (given_later (g + 1) i (omega (arith, high)) (omega (arith, below, within)) gave.after) there.0
          ]

  pub since_made : (a n : ℕ) → a < n → n ≤ length h → Was s h c false true a → was s c h n ≡ true
      → turns_before s c h n ≡ record { latest = Some a; earlier = None }
  since_made a n before within made held = holding (after s c) h once a n before within made.before made.after held

  pub since_ended : (a b n : ℕ) → a < b → b < n → n ≤ length h → Was s h c false true a → Was s h c true false b
      → turns_before s c h n ≡ record { latest = Some b; earlier = Some a }
  since_ended a b n first last within made ended = over_now (after s c) h once a b n first last within made.before made.after ended.before ended.after
