-- Which denials a journal has, from one entry to the next, and in its front.
use Rattle.std.proofs.Common.{◌≡◌, ◌+◌, ◌<◌, ◌≤◌, ℕ, zero, suc, List, [], ◌∷◌, ◌++◌, length, map, take, take_all, drop, Option, Some, None, inl, inr, refl, ap, sym, ◌∙◌, subst, arith, add-one}
use Rattle.std.specs.Prelude.{flat_map, min, reverse, slice_get}
use Rattle.std.proofs.lemmas.List.{append_assoc, append-nil, length-append, length-map, length-reverse, map-append, reverse-reverse}
use Rattle.std.proofs.lemmas.Option.{slice_get_cases}
use Rattle.std.proofs.lemmas.List.Concat.{flat_map-cons}
use Rattle.jg_words.specs.Entry.{Entry, rule_in}
use Rattle.jg_words.specs.declared.rule.Rule.{Rule}
use Rattle.jg_lists.proofs.Oldest.{oldest, oldest_more, oldest_before}
use Rattle.jg_policy.specs.Stated.{StatedSetup}
use Rattle.jg_breaches.specs.declared.condition.Condition.{Condition}
use Rattle.jg_explain.specs.declared.denials.Denial.{Denial}
use Rattle.jg_explain.specs.declared.watching.Watch.{Watch}
use Rattle.jg_guard.specs.Guard.{State}
use Rattle.jg_explain.specs.Explained.{AreWithin, Cause, IsFront, all_known, cause_at, causes, causes_at, causes_of, denial_of, known, turns_before, unknown, was, watches_of}
use Rattle.jg_explain.specs.Watched.{watched}

-- with one entry more
pub causes_next : (s : StatedSetup) (h : List Entry) (n : ℕ) → n < length h → causes s (oldest (n + 1) h) ≡ causes s (oldest n h) ++ cause_at s h n
causes_next s h n below =
    elim (slice_get_cases (reverse h) n).1 [
      | inl found ↦ ap (causes s) (oldest_more h n found.0 found.2) ∙ ap (λ x. causes s (oldest n h) ++ causes_at s (oldest n h) x) (sym found.2)
      | inr past ↦ absurd (omega (arith, past.0, below, length-reverse h))
    ]

-- the same where a guard that has gone over those before it tells of it
causes_more : (whole again : State) (n : ℕ) → n < length whole.journal → IsFront whole again n
    → causes whole.setup (oldest (n + 1) whole.journal)
    ≡ causes whole.setup (oldest n whole.journal) ++ causes_at again.setup again.journal (slice_get (reverse whole.journal) n)
causes_more whole again n below front =
    let at = slice_get (reverse whole.journal) n in
    let told : causes_at again.setup again.journal at ≡ causes_at whole.setup (oldest n whole.journal) at =
    ap (λ s. causes_at s again.journal at) front.setup ∙ ap (λ h. causes_at whole.setup h at) front.journal in
    causes_next whole.setup whole.journal n below ∙ ap (λ cs. causes whole.setup (oldest n whole.journal) ++ cs) (sym told)

-- what is kept of them, with what is kept of that one behind it
pub kept_more : {X : Type 0} (f : List Cause → List X) (whole again : State) (n : ℕ) (old new : List X) → ((cs ds : List Cause) → f (cs ++ ds) ≡ f cs ++ f ds)
    → n < length whole.journal → IsFront whole again n → old ≡ f (causes whole.setup (oldest n whole.journal))
    → new ≡ old ++ f (causes_at again.setup again.journal (slice_get (reverse whole.journal) n)) → new ≡ f (causes whole.setup (oldest (n + 1) whole.journal))
kept_more f whole again n old new adds below front were are =
    let more = causes_at again.setup again.journal (slice_get (reverse whole.journal) n) in
    are ∙ ap (λ l. l ++ f more) were ∙ sym (adds (causes whole.setup (oldest n whole.journal)) more) ∙ ap f (sym (causes_more whole again n below front))

one_at_most : (s : StatedSetup) (h : List Entry) (x : Entry) (rule : Option Rule) → length (causes_of s h x rule) ≤ 1
one_at_most s h x None = omega arith
one_at_most s h x (Some rule) = omega arith

pub at_most_one : (s : StatedSetup) (h : List Entry) (found : Option Entry) → length (causes_at s h found) ≤ 1
at_most_one s h None = omega arith
at_most_one s h (Some x) = one_at_most s h x (rule_in x.outcome)

-- those of a front come first
record Rest (s : StatedSetup) (whole front : List Entry) : Type 0 where
  rest : List Cause
  is : causes s whole ≡ causes s front ++ rest

front_first : (s : StatedSetup) (later h : List Entry) → Rest s (later ++ h) h
front_first s [] h = record { rest = []; is = sym (append-nil (causes s h)) }
front_first s (x ∷ later) h =
    let old = front_first s later h in
    let new = causes_of s (later ++ h) x (rule_in x.outcome) in
    record { rest = old.rest ++ new; is = ap (λ l. l ++ new) old.is ∙ append_assoc (causes s h) old.rest new }

take_whole : {X : Type 0} (n : ℕ) (xs ys : List X) → length xs ≡ n → take n (xs ++ ys) ≡ xs
take_whole zero [] ys long = refl
take_whole zero (x ∷ xs) ys long = absurd (omega (arith, long))
take_whole (suc n) [] ys long = absurd (omega (arith, long))
take_whole (suc n) (x ∷ xs) ys long = ap (λ l. x ∷ l) (take_whole n xs ys (omega (arith, long)))

pub few_more : (whole again : State) (n most : ℕ) → n < length whole.journal → IsFront whole again n
    → length (causes whole.setup (oldest n whole.journal)) < most
    → length (causes whole.setup (oldest (n + 1) whole.journal)) ≤ most
few_more whole again n most below front few =
    let at = slice_get (reverse whole.journal) n in
    let one = at_most_one again.setup again.journal at in
    let long = ap length (causes_more whole again n below front)
    ∙ length-append (causes whole.setup (oldest n whole.journal)) (causes_at again.setup again.journal at) in
    omega (arith, few, one, long)

-- where a front has as many as are wanted, they are its
pub enough : (s : StatedSetup) (h : List Entry) (n most : ℕ) → n < length h → length (causes s (oldest n h)) ≡ most
    → take most (causes s h) ≡ causes s (oldest n h)
enough s h n most below full =
    elim (slice_get_cases (reverse h) n).1 [
      | inl found ↦
          let later : List Entry = reverse (drop (suc n) (reverse h)) ++ found.0 ∷ [] in
          let split : h ≡ later ++ oldest n h =
          oldest_before h n found.0 found.2 ∙ sym (append_assoc (reverse (drop (suc n) (reverse h))) (found.0 ∷ []) (oldest n h)) in
          let first = front_first s later (oldest n h) in
          ap (λ l. take most (causes s l)) split ∙ ap (take most) first.is ∙ take_whole most (causes s (oldest n h)) first.rest full
      | inr past ↦ absurd (omega (arith, past.0, below, length-reverse h))
    ]

-- the same where as many are kept as are wanted
pub when_enough : (s : StatedSetup) (h : List Entry) (n most : ℕ) (kept : List Denial) → n < length h → kept ≡ map denial_of (causes s (oldest n h))
    → length (causes s (oldest n h)) ≤ most
    → most ≤ length kept → take most (causes s h) ≡ causes s (oldest n h)
when_enough s h n most kept below are few many =
    let long = ap length are ∙ length-map (causes s (oldest n h)) denial_of in
    enough s h n most below (omega (arith, long, few, many))

pub oldest_all : (h : List Entry) (n : ℕ) → length h ≤ n → oldest n h ≡ h
oldest_all h n all = ap reverse (take_all n (reverse h) (omega (arith, all, length-reverse h))) ∙ reverse-reverse h

pub all_of_them : (s : StatedSetup) (h : List Entry) (n most : ℕ) → length h ≤ n → length (causes s (oldest n h)) ≤ most
    → take most (causes s h) ≡ causes s (oldest n h)
all_of_them s h n most whole few =
    let few_all : length (causes s h) ≤ most = subst (λ l. length (causes s l) ≤ most) (oldest_all h n whole) few in
    take_all most (causes s h) few_all ∙ ap (causes s) (sym (oldest_all h n whole))

-- ---- watches

within_more : (n : ℕ) (cs : List Cause) → AreWithin n cs → AreWithin (n + 1) cs
within_more n [] all = tt
within_more n (c ∷ cs) all = (omega (arith, all.0), within_more n cs all.1)

within_both : (n : ℕ) (cs ds : List Cause) → AreWithin n cs → AreWithin n ds → AreWithin n (cs ++ ds)
within_both n [] ds all more = more
within_both n (c ∷ cs) ds all more = (all.0, within_both n cs ds all.1 more)

within_take : (n k : ℕ) (cs : List Cause) → AreWithin n cs → AreWithin n (take k cs)
within_take n zero cs all = tt
within_take n (suc k) [] all = tt
within_take n (suc k) (c ∷ cs) all = (all.0, within_take n k cs all.1)

pub newest_within : (s : StatedSetup) (h : List Entry) (x : Entry) (rule : Option Rule) → AreWithin (length h) (causes_of s h x rule)
newest_within s h x None = tt
newest_within s h x (Some rule) = (omega arith, tt)

causes_within : (s : StatedSetup) (h : List Entry) → AreWithin (length h) (causes s h)
causes_within s [] = tt
causes_within s (x ∷ h) =
    subst (λ n. AreWithin n (causes s (x ∷ h))) (add-one (length h))
    (within_more (length h) (causes s (x ∷ h))
    (within_both (length h) (causes s h) (causes_of s h x (rule_in x.outcome)) (causes_within s h) (newest_within s h x (rule_in x.outcome))))

module _ (s : StatedSetup) (journal : List Entry) (n : ℕ) where
  abbrev known_at : ℕ → Condition → ℕ → Watch
  known_at place c i = record { place = place; condition = c; holds = was s c journal i; turns = turns_before s c journal i }

  each_known : (place : ℕ) → place ≤ n → (cs : List Condition) → map (watched s journal n) (map (unknown place) cs) ≡ map (known s journal place) cs
  each_known place within [] = refl
  each_known place within (c ∷ cs) =
      let same : min n place ≡ place = omega (arith, within) in
      ap (λ i. known_at place c i ∷ map (watched s journal n) (map (unknown place) cs)) same
      ∙ ap (λ l. known s journal place c ∷ l) (each_known place within cs)

  pub every_known : (cs : List Cause) → AreWithin n cs → map (watched s journal n) (flat_map watches_of cs) ≡ flat_map (all_known s journal) cs
  every_known [] all = refl
  every_known (c ∷ cs) all =
      ap (map (watched s journal n)) (flat_map-cons watches_of c cs) ∙ map-append (watched s journal n) (watches_of c) (flat_map watches_of cs)
      ∙ ap (λ l. l ++ map (watched s journal n) (flat_map watches_of cs)) (each_known c.place all.0 c.asked)
      ∙ ap (λ l. all_known s journal c ++ l) (every_known cs all.1)
      ∙ sym (flat_map-cons (all_known s journal) c cs)

-- what is said of the first causes: watched over as many entries as they are within, their watches know what is known
pub all_watched : (s : StatedSetup) (journal : List Entry) (n most : ℕ) → AreWithin n (take most (causes s journal))
    → map (watched s journal n) (flat_map watches_of (take most (causes s journal))) ≡ flat_map (all_known s journal) (take most (causes s journal))
all_watched s journal n most within = every_known s journal n (take most (causes s journal)) within

-- as many as the guard that went over the journal has
pub front_within : (whole again : State) (n most : ℕ) → IsFront whole again n
    → take most (causes whole.setup whole.journal) ≡ causes whole.setup (oldest n whole.journal)
    → AreWithin (length again.journal) (take most (causes whole.setup whole.journal))
front_within whole again n most front is =
    subst (λ h. AreWithin (length h) (take most (causes whole.setup whole.journal))) (sym front.journal)
    (subst (λ cs. AreWithin (length (oldest n whole.journal)) cs) (sym is) (causes_within whole.setup (oldest n whole.journal)))
