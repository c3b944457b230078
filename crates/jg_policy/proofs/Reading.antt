-- What is kept at a class's number is what the setup states there.
use Rattle.std.proofs.Common.{◌≡◌, ℕ, ◌+◌, ◌-◌, ◌<◌, ◌≤◌, nat_lt, zero, suc, false, List, [], ◌∷◌, ◌++◌, length, map, Some, None, slice_get, position, String, Global, string_bytes, refl, ap, ◌∙◌, sym, arith}
use Rattle.std.proofs.lemmas.Bool.Decides.{nat_tests}
use Rattle.std.specs.Option.{option_map}
use Rattle.std.specs.Str.{bytes_eq}
use Rattle.jg_words.proofs.Common.{slice_get-before}
use Rattle.jg_policy.specs.declared.class.Class.{Class}
use Rattle.jg_policy.specs.BaseClasses.{base_names}
use Rattle.jg_policy.specs.Stated.{StatedClass, StatedSetup, class_names}
use Rattle.jg_policy.specs.Classes.{class_at, class_name_of, class_named, module_name_of}
use Rattle.jg_policy.specs.Kept.{class_view}
use Rattle.jg_policy.proofs.Places.{position-append, position-map}

-- the entries of a setup's map of classes
abbrev Entries : Type 0
Entries = List (String Global × Class)

pub slice_get-map : {A B : Type 0} (f : A → B) (xs : List A) (i : ℕ) → slice_get (map f xs) i ≡ option_map f (slice_get xs i)
slice_get-map f [] i = refl
slice_get-map f (x ∷ xs) zero = refl
slice_get-map f (x ∷ xs) (suc i) = slice_get-map f xs i

module _ (s : StatedSetup) (es : Entries) (kept : map class_view es ≡ s.classes) (class : ℕ) (above : 15 ≤ class) where
  class_at-kept : class_at s class ≡ option_map class_view (slice_get es (class - 15))
  class_at-kept =
      let is : nat_lt class 15 ≡ false = grind (arith, nat_tests) in
      rw (is, ← kept) (slice_get-map class_view es (class - 15))

  pub class_found : (e : String Global × Class) → Some e ≡ slice_get es (class - 15) → class_at s class ≡ Some (class_view e)
  class_found e at = class_at-kept ∙ ap (option_map class_view) (sym at)

  pub class_absent : None ≡ slice_get es (class - 15) → class_at s class ≡ None
  class_absent at = class_at-kept ∙ ap (option_map class_view) (sym at)

pub count_base : length base_names ≡ 15
unfolding base_names
count_base = refl

get_back : {A : Type 0} (xs ys : List A) (i : ℕ) → length xs ≤ i → slice_get (xs ++ ys) i ≡ slice_get ys (i - length xs)
get_back [] ys i high = let same : i ≡ i - 0 = omega arith in ap (slice_get ys) same
get_back (x ∷ xs) ys zero high = absurd (omega (arith, high))
get_back (x ∷ xs) ys (suc i) high =
    let same : i - length xs ≡ suc i - length (x ∷ xs) = omega arith in
    get_back xs ys i (omega (arith, high)) ∙ ap (slice_get ys) same

-- the names of classes by number
pub name_of_base : (s : StatedSetup) (class : ℕ) → class < 15 → class_name_of s class ≡ slice_get base_names class
name_of_base s class low = slice_get-before base_names (class_names s) class (omega (arith, low, count_base))

module _ (s : StatedSetup) (es : Entries) (kept : map class_view es ≡ s.classes) (class : ℕ) (above : 15 ≤ class) where
  stated_kept : slice_get s.classes (class - 15) ≡ option_map class_view (slice_get es (class - 15))
  stated_kept = ap (λ l. slice_get l (class - 15)) (sym kept) ∙ slice_get-map class_view es (class - 15)

  name_kept : class_name_of s class ≡ option_map (λ (c : StatedClass). c.name) (option_map class_view (slice_get es (class - 15)))
  name_kept =
      get_back base_names (class_names s) class (omega (arith, above, count_base))
      ∙ ap (λ n. slice_get (class_names s) (class - n)) count_base
      ∙ slice_get-map (λ (c : StatedClass). c.name) s.classes (class - 15)
      ∙ ap (option_map (λ (c : StatedClass). c.name)) stated_kept

  pub name_found : (e : String Global × Class) → Some e ≡ slice_get es (class - 15) → class_name_of s class ≡ Some (string_bytes e.0)
  name_found e there = name_kept ∙ ap (λ found. option_map (λ (c : StatedClass). c.name) (option_map class_view found)) (sym there)

  pub name_absent : None ≡ slice_get es (class - 15) → class_name_of s class ≡ None
  name_absent there = name_kept ∙ ap (λ found. option_map (λ (c : StatedClass). c.name) (option_map class_view found)) (sym there)

  module_kept : module_name_of s class ≡ option_map (λ (c : StatedClass). c.module_name) (option_map class_view (slice_get es (class - 15)))
  module_kept =
      let is : nat_lt class 15 ≡ false = grind (arith, nat_tests) in
      rw is (ap (option_map (λ (c : StatedClass). c.module_name)) stated_kept)

  pub module_found : (e : String Global × Class) → Some e ≡ slice_get es (class - 15) → module_name_of s class ≡ Some (string_bytes e.1.module_name)
  module_found e there = module_kept ∙ ap (λ found. option_map (λ (c : StatedClass). c.module_name) (option_map class_view found)) (sym there)

  pub module_absent : None ≡ slice_get es (class - 15) → module_name_of s class ≡ None
  module_absent there = module_kept ∙ ap (λ found. option_map (λ (c : StatedClass). c.module_name) (option_map class_view found)) (sym there)

module _ (s : StatedSetup) (name : List ℕ) where
  pub named_base : (base : ℕ) → Some base ≡ position (bytes_eq name) base_names → Some base ≡ class_named s name
  named_base base is = sym (position-append (bytes_eq name) base_names (class_names s) ∙ rw (← is))

  -- a name that no base class has is sought among the setup's
  pub named_later : None ≡ position (bytes_eq name) base_names → (es : Entries) → map class_view es ≡ s.classes
      → class_named s name ≡ option_map (λ i. 15 + i) (position (λ k. bytes_eq name (string_bytes k)) (map (λ e. e.0) es))
  named_later none es kept =
      position-append (bytes_eq name) base_names (class_names s)
      ∙ rw (← none, count_base, ← kept)
      (ap (option_map (λ i. 15 + i)) (sym (twice es ∙ position-map (map class_view es) (λ (c : StatedClass). c.name) (bytes_eq name))))
    where
      twice : (es : Entries) → position (λ k. bytes_eq name (string_bytes k)) (map (λ e. e.0) es)
          ≡ position (λ (c : StatedClass). bytes_eq name c.name) (map class_view es)
      twice es = sym (position-map es (λ (e : String Global × Class). e.0) (λ k. bytes_eq name (string_bytes k)))
          ∙ position-map es class_view (λ (c : StatedClass). bytes_eq name c.name)
