-- What stands beside a guard, before and after its calls.
use Rattle.std.proofs.Common.{◌≡◌, ◌∙◌, ◌⊎◌, ℕ, IfSome, inl, inr, Bool, true, false, List, [], Option, Some, None, String, Global, string_bytes, refl, subst, sym}
use mathlib.Core.Bool.{true≢false}
use Rattle.std.specs.Option.{is_some}
use Rattle.jg_words.specs.Entry.{Entry}
use Rattle.jg_policy.specs.Stated.{StatedSetup}
use Rattle.jg_script.specs.Beside.{FollowsIf}
use Rattle.jg_guard_advice.specs.declared.advising.GuardAdviser.{GuardAdviser}
use Rattle.jg_advice.specs.Moments.{Moment}
use Rattle.jg_advice.specs.Told.{Tells as Advises}
use Rattle.jg_guard_advice.specs.Logged.{AreMoments, Logged, Follows}
use Rattle.jg_program.specs.declared.reporting.Reporting.{Reporting}
use Rattle.jg_program.specs.Advising.{SaysAdvice, SaysAsked, StandsBeside, is_advised}

-- what followed the calls stands after them as it stood before
pub stood : {A : Type 0} (r : Reporting) (x y : Option (GuardAdviser A)) (s s' : StatedSetup) (h : List Entry)
    → ((first : Option (GuardAdviser A)) → FollowsIf (λ first x s h. Follows first.log x.log s h) first x s []
    → FollowsIf (λ first x s h. Follows first.log x.log s h) first y s' h)
    → StandsBeside r x s [] → StandsBeside r y s' h
stood r None None s s' h follows stands = stands
stood r None (Some y) s s' h follows stands = absurd (follows None tt)
stood r (Some x) None s s' h follows stands =
    absurd (follows (Some x) (record { logged = stands.0; most = refl; all = refl }))
stood r (Some x) (Some y) s s' h follows stands =
    let after = follows (Some x) (record { logged = stands.0; most = refl; all = refl }) in (
      after.logged,
      stands.1 ∙ rw (after.most, after.all) refl,
    )

some_advised : {A : Type 0} (r : Reporting) (x : Option (GuardAdviser A)) (s : StatedSetup) (h : List Entry) → StandsBeside r x s h → is_some x ≡ true
    → is_advised r ≡ true
some_advised r None s h stands some = absurd (true≢false (sym some))
some_advised r (Some x) s h stands some = rw stands.1 refl

-- memory runs out for advice where it is asked for, and nowhere else
pub lost_advised : {A : Type 0} (r : Reporting) (x : Option (GuardAdviser A)) (begun : Bool) (s : StatedSetup) (h : List Entry) (text : Option (String Global))
    → (begun ≡ false → is_advised r ≡ true) → (begun ≡ true → StandsBeside r x s h) → (text ≡ None → (begun ≡ false) ⊎ (is_some x ≡ true)) → text ≡ None
    → is_advised r ≡ true
lost_advised r x false s h text refused stands lost none = refused refl
lost_advised r x true s h text refused stands lost none = by (lost none)
  where
    by : (true ≡ false) ⊎ (is_some x ≡ true) → is_advised r ≡ true
    by (inl unequal) = absurd (true≢false unequal)
    by (inr some) = some_advised r x s h (stands refl) some

-- what a log tells is the advice that is asked for
pub advice_said : (A : Type 0) (beside : Option (GuardAdviser A)) (x : GuardAdviser A) (begun : Bool) (result : Option (String Global)) → beside ≡ Some x
    → begun ≡ true
    → IfSome result (λ text. (s : StatedSetup) (h : List Entry) → Logged x.log s h
    → (moments : List Moment) × AreMoments s h moments × Advises x.log.adviser.most x.log.noting.all moments (string_bytes text))
    → IfSome result (λ text. (begun ≡ true)
    × ((r : Reporting) (s : StatedSetup) (h : List Entry) → StandsBeside r beside s h → SaysAdvice r s h (string_bytes text)))
advice_said A beside x begun None is so said = tt
advice_said A beside x begun (Some text) is so said = (
  so,
  λ r s h stands.
      let here : StandsBeside r (Some x) s h = subst (λ (b : Option (GuardAdviser A)). StandsBeside r b s h) is stands in
      subst (λ (a : Option (ℕ × Bool)). SaysAsked a s h (string_bytes text)) (sym here.1) (said s h here.0),
)
