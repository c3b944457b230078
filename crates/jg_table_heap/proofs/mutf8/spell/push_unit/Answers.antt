use Rattle.std.proofs.Common.{ap, sym, ◌++◌, ◌∷◌, [], List, ℕ, ◌≡◌, ◌∙◌, append_assoc, refl}
use Rattle.jg_table_heap.proofs.Shapes.{spelling_one, spelling_short, spelling_long}
use Rattle.jg_table_heap.proofs.mutf8.spell.push_unit.Goals as goal

-- one byte more, and one more
two : (a b : ℕ) (old mid new s : List ℕ) → mid ≡ old ++ a ∷ [] → new ≡ mid ++ b ∷ [] → s ≡ a ∷ b ∷ [] → new ≡ old ++ s
two a b old mid new s h g is = g ∙ ap (λ (xs : List ℕ). xs ++ b ∷ []) h ∙ append_assoc old (a ∷ []) (b ∷ []) ∙ ap (λ (xs : List ℕ). old ++ xs) (sym is)

three : (a b c : ℕ) (old mid more new s : List ℕ) → mid ≡ old ++ a ∷ [] → more ≡ mid ++ b ∷ [] → new ≡ more ++ c ∷ [] → s ≡ a ∷ b ∷ c ∷ [] → new ≡ old ++ s
three a b c old mid more new s h g f is = f ∙ ap (λ (xs : List ℕ). xs ++ c ∷ []) (two a b old mid more (a ∷ b ∷ []) h g refl)
    ∙ append_assoc old (a ∷ b ∷ []) (c ∷ [])
    ∙ ap (λ (xs : List ℕ). old ++ xs) (sym is)

pub returns-in_ok-push : goal.returns-in_ok-push
returns-in_ok-push g c = c.in_ok-push.ensures.items
    ∙ ap (λ (xs : List ℕ). c.args.bytes.now.items ++ xs) (sym (spelling_one c.args.unit c.if-unit-gt0.true c.if-unit-lt128.true))

pub returns-in_ok-push-3 : goal.returns-in_ok-push-3
returns-in_ok-push-3 g c =
    two _ _ _ _ _ _ c.in_ok-push-2.ensures.items c.in_ok-push-3.ensures.items (spelling_short c.args.unit c.else-unit-gt0.either c.if-unit-lt2048.true)

pub returns-in_ok-push-6 : goal.returns-in_ok-push-6
returns-in_ok-push-6 g c =
    three _ _ _ _ _ _ _ _ c.in_ok-push-4.ensures.items c.in_ok-push-5.ensures.items c.in_ok-push-6.ensures.items
    (spelling_long c.args.unit c.if-unit-lt2048.false)
