-- Lists of which something holds of each, as they are written.
use Rattle.std.proofs.Common.{◌≡◌, ℕ, List, [], ◌∷◌, ◌++◌, length, take, drop, refl, ap, sym, ◌∙◌, subst, All}
use Rattle.std.proofs.lemmas.List.Elements.{All-append, All-cons, All-nil}
use Rattle.std.proofs.Math.Seq.{take-append_seam}
use Rattle.jg_guard.specs.Guard.{State}
use Rattle.jg_breaches.specs.declared.condition.Condition.{Condition}
use Rattle.jg_explain.specs.Explained.{IsFront}
use Rattle.jg_explain.specs.Followed.{IsSteady, begun_steady}
use Rattle.jg_explain.proofs.Fronts.{after_front}

pub all_pushed : {X : Type 0} (P : X → Type 0) (xs ys : List X) (x : X) → ys ≡ xs ++ x ∷ [] → All P xs → P x → All P ys
all_pushed P xs ys x is all one = subst (All P) (sym is) (All-append P xs (x ∷ []) all (All-cons P x [] one (All-nil P)))

-- what is written through a slice of all items of a vector are its items then
pub all_through : {X : Type 0} (P : X → Type 0) (len : ℕ) (items lent new : List X) → len ≡ length items → lent ≡ items → length new ≡ length lent → All P new
    → All P (take len (new ++ drop (length new) items))
all_through P len items lent new long is same all =
    let whole = long ∙ sym (same ∙ ap length is) in
    subst (All P) (sym (ap (λ n. take n (new ++ drop (length new) items)) whole ∙ take-append_seam new (drop (length new) items))) all

pub steady_begun : (whole again : State) (c : Condition) → IsFront whole again 0
    → IsSteady whole.setup whole.journal 0 (begun_steady again.setup again.journal c)
steady_begun whole again c front = record { holds = after_front whole again c 0 front; turns = refl }
