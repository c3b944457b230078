-- Who owns a monitor is told by how often each thread entered and exited it.
use Rattle.std.proofs.Common.{ℕ, ◌≡◌, ◌<◌, List, ◌∷◌, Option, Some, None, refl, ap, sym, subst, ◌∙◌}
use Rattle.jg_words.proofs.Common.{positive}
use Rattle.jg_table_monitors.specs.History.{Event, Act, Enter, Exit, ReleaseAll, acts_of, since, count, owner}
use Rattle.jg_table_monitors.specs.Standing.{AllAllowed}
use Rattle.jg_table_monitors.proofs.Callers.{one_owner, owner_has, all_free}

-- each thread did the same since it last released all
abbrev pub SameMonitors : List Event → List Event → Type 0
SameMonitors e f = (t : ℕ) → since (acts_of t e) ≡ since (acts_of t f)

pub same_count : (e f : List Event) (t o : ℕ) → SameMonitors e f → count e t o ≡ count f t o
same_count e f t o same = rw (same t) refl

owner_by : (e : List Event) (t o : ℕ) (found : Option ℕ) → owner e o ≡ found → AllAllowed e → 0 < count e t o → found ≡ Some t
owner_by e t o None is all some = absurd (positive (count e t o) some (all_free e t o all is))
owner_by e t o (Some u) is all some = ap Some (one_owner e u t o all (owner_has e u o is) some)

none_by : (e f : List Event) (o : ℕ) (found : Option ℕ) → owner f o ≡ found → ((t : ℕ) → count f t o ≡ 0) → None ≡ found
none_by e f o None is free = refl
none_by e f o (Some u) is free = absurd (positive (count f u o) (owner_has f u o is) (free u))

same_by : (e f : List Event) (o : ℕ) (found : Option ℕ) → owner e o ≡ found → AllAllowed e → AllAllowed f → SameMonitors e f → found ≡ owner f o
same_by e f o None is all others same = none_by e f o (owner f o) refl (λ t. sym (same_count e f t o same) ∙ all_free e t o all is)
same_by e f o (Some t) is all others same =
    sym (owner_by f t o (owner f o) refl others (subst (λ (n : ℕ). 0 < n) (same_count e f t o same) (owner_has e t o is)))

pub same_owner : (e f : List Event) (o : ℕ) → AllAllowed e → AllAllowed f → SameMonitors e f → owner e o ≡ owner f o
same_owner e f o all others same = same_by e f o (owner e o) refl all others same

-- the same act keeps it
pub same_more : (a b : List Act) (x : Act) → since a ≡ since b → since (x ∷ a) ≡ since (x ∷ b)
same_more a b (Enter o) same = ap (λ xs. Enter o ∷ xs) same
same_more a b (Exit o) same = ap (λ xs. Exit o ∷ xs) same
same_more a b ReleaseAll same = refl
