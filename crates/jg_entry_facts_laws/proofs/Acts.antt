-- What holds of each thread's acts, where one thread did some more.
use Rattle.std.proofs.Common.{ℕ, ◌≡◌, List, [], ◌∷◌, ◌++◌, map, refl, ap, ◌∙◌}
use Rattle.jg_lists.specs.Acts.{Event, by, acts_of}
use Rattle.jg_lists.proofs.Acts.{acts_more, each_thread, acts_others}

pub own_acts : {A : Type 0} (u : ℕ) (xs : List A) (e : List (Event A)) → acts_of u (map (by u) xs ++ e) ≡ xs ++ acts_of u e
own_acts u [] e = refl
own_acts u (x ∷ xs) e = acts_more u u x (map (by u) xs ++ e) refl ∙ ap (λ ys. x ∷ ys) (own_acts u xs e)

module _ {A : Type 0} (R : List A → List A → Type 0) where
  -- u did these acts on one side, and those on the other
  pub both : (u : ℕ) (xs ys : List A) (e f : List (Event A)) → (R (acts_of u e) (acts_of u f) → R (xs ++ acts_of u e) (ys ++ acts_of u f))
      → ((t : ℕ) → R (acts_of t e) (acts_of t f))
      → (t : ℕ) → R (acts_of t (map (by u) xs ++ e)) (acts_of t (map (by u) ys ++ f))
  both u xs ys e f more old t =
      each_thread (λ v. R (acts_of v (map (by u) xs ++ e)) (acts_of v (map (by u) ys ++ f))) u
      (rw (own_acts u xs e, own_acts u ys f) (more (old u)))
      (λ v differ. rw (acts_others v u xs e differ, acts_others v u ys f differ) (old v))
      t
