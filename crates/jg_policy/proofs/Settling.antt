-- Modules numbered one after another, and what is read of what was settled.
use Rattle.std.proofs.Common.{◌≡◌, ℕ, ◌+◌, ◌-◌, ◌<◌, ◌≤◌, nat_lt, Bool, ◌||◌, ◌&&◌, true, false, cond, List, [], ◌∷◌, ◌++◌, length, map, take, get_or, slice_get, Option, Some, None, position, option_and_then, unwrap_or, if◌then◌else◌, String, Global, string_bytes, codes, append_assoc, refl, ap, ◌∙◌, sym, arith}
use Rattle.std.proofs.lemmas.Bool.Decides.{nat_tests}
use Rattle.std.proofs.Math.Bool.{and-true, or-true}
use Rattle.std.proofs.lemmas.List.{length-map, length-append, map-append, map_more}
use Rattle.std.proofs.lemmas.List.Folds.{list_any-append}
use Rattle.std.specs.Cmp.Lexicographic.{bytes_decides, nat_list_eq_equiv}
use Rattle.std.specs.Map.{update}
use Rattle.std.specs.Option.{option_map, option_map_or}
use Rattle.std.specs.Str.{bytes_eq}
use Rattle.jg_policy.specs.declared.access.Access.TheVariants.{Allowed}
use Rattle.jg_policy.specs.declared.access.Operation.{Operation}
use Rattle.jg_policy.specs.declared.access.Operation.TheVariants.{Load, Register, Link}
use Rattle.jg_policy.specs.declared.class.Class.{Class}
use Rattle.jg_policy.specs.declared.grant.Grant.{Grant}
use Rattle.jg_policy.specs.declared.setup.settling.Settled.{Settled}
use Rattle.jg_policy.specs.Stated.{StatedClass, StatedSetup}
use Rattle.jg_policy.specs.Classes.{module_name_of, module_names, module_of}
use Rattle.jg_policy.specs.NativeAccess.{allows, is_granted, is_enabled, module_access, access_by, access_of}
use Rattle.jg_policy.specs.Kept.{grant_view, class_view}
use Rattle.jg_policy.specs.Settling.{settled_for, settled_view, settled_access, AreSettled}
use Rattle.jg_policy.proofs.Places.{or_later, position-cons}
use Rattle.jg_policy.proofs.Reading.{slice_get-map}

-- ---- texts in a set

-- with one more text, a set has a name where it had it or the name is this text
pub put_text : (text name : List ℕ) (held : Bool) → cond (bytes_eq text name) true held ≡ (held || bytes_eq name text)
put_text text name held = rw (nat_list_eq_equiv.symm name text) (by (bytes_eq text name) held)
  where
    by : (b held : Bool) → cond b true held ≡ (held || b)
    by true held = sym (or-true held)
    by false true = refl
    by false false = refl

-- the same of a text that is put where a test passes
pub put_allowed : (text name : List ℕ) (held allowed : Bool) → allowed ≡ true → cond (bytes_eq text name) true held ≡ (held || (bytes_eq name text && allowed))
put_allowed text name held allowed is = rw is (put_text text name held ∙ ap (λ b. held || b) (sym (and-true (bytes_eq name text))))

-- what one more grant adds
pub granted_more : (known : Bool) (name : List ℕ) (operation : Operation) (gs : List Grant) (i : ℕ) (g : Grant) → i < length gs → g ≡ get_or gs i g
    → ((known || is_granted (map grant_view (take i gs)) name operation) || (bytes_eq name (string_bytes g.module_name) && allows (grant_view g) operation))
    ≡ (known || is_granted (map grant_view (take (i + 1) gs)) name operation)
granted_more known name operation gs i g below is =
    rw (
      map_more grant_view gs i g below,
      list_any-append (λ s. bytes_eq name s.module_name && allows s operation) (map grant_view (take i gs))
          (grant_view (get_or gs i g) ∷ []),
      ← is,
    )
    (by known (is_granted (map grant_view (take i gs)) name operation) (bytes_eq name (string_bytes g.module_name) && allows (grant_view g) operation))
  where
    by : (a b c : Bool) → ((a || b) || c) ≡ (a || (b || (c || false)))
    by true b c = refl
    by false true c = refl
    by false false true = refl
    by false false false = refl

-- ---- numbers of modules

shifted : (n : ℕ) (o p : Option ℕ) → or_later n o (option_map (λ i. 1 + i) p) ≡ or_later (1 + n) o p
shifted n (Some i) p = refl
shifted n None None = refl
shifted n None (Some i) = ap (λ m. Some m) (let e : n + (1 + i) ≡ (1 + n) + i = omega arith in e)

module _ (names : List (List ℕ)) where
  -- the number that a name was given, or else its place among those that are left, is its place among all
  abbrev Numbers : (List ℕ → Option ℕ) → ℕ → List (List ℕ) → Type 0
  Numbers given next left = (q : List ℕ) → or_later next (given q) (position (bytes_eq q) left) ≡ position (bytes_eq q) names

  none_given : Numbers (λ q. None) 0 names
  none_given q = by (position (bytes_eq q) names)
    where
      by : (o : Option ℕ) → or_later 0 None o ≡ o
      by None = refl
      by (Some i) = ap (λ m. Some m) (let e : 0 + i ≡ i = omega arith in e)

  module _ (given : List ℕ → Option ℕ) (next : ℕ) (name : List ℕ) (left : List (List ℕ)) (numbers : Numbers given next (name ∷ left)) where
    -- the next of those that are left gets its number
    next_number : Some (unwrap_or (given name) next) ≡ position (bytes_eq name) names
    next_number = by (given name) (numbers name)
      where
        here : position (bytes_eq name) (name ∷ left) ≡ Some 0
        here = position-cons (bytes_eq name) name left ∙ rw (nat_list_eq_equiv.refl name) refl

        by : (o : Option ℕ) → or_later next o (position (bytes_eq name) (name ∷ left)) ≡ position (bytes_eq name) names
            → Some (unwrap_or o next) ≡ position (bytes_eq name) names
        by (Some n) h = h
        by None h = ap (λ m. Some m) (let e : next ≡ next + 0 = omega arith in e) ∙ ap (or_later next None) (sym here) ∙ h

    next_numbers : (n : ℕ) (after : List ℕ → Option ℕ) → n ≡ unwrap_or (given name) next → ((q : List ℕ) → after q ≡ update bytes_eq given name (Some n) q)
        → Numbers after (1 + next) left
    next_numbers n after is set q = rw (set q) (by (bytes_eq name q) refl)
      where
        by : (b : Bool) → bytes_eq name q ≡ b → or_later (1 + next) (cond b (Some n) (given q)) (position (bytes_eq q) left) ≡ position (bytes_eq q) names
        by true e = ap (λ m. Some m) is ∙ next_number ∙ ap (λ t. position (bytes_eq t) names) ((bytes_decides name q).0 e)
        by false e =
            sym (shifted next (given q) (position (bytes_eq q) left))
            ∙ ap (or_later next (given q)) (sym (position-cons (bytes_eq q) name left ∙ rw (nat_list_eq_equiv.symm q name, e) refl))
            ∙ numbers q

-- ---- one class after another

-- the modules of classes, in their order
abbrev modules_of : List Class → List (List ℕ)
modules_of cs = map (λ c. string_bytes c.module_name) cs

modules_kept : (es : List (String Global × Class)) → modules_of (map (λ e. e.1) es) ≡ map (λ (c : StatedClass). c.module_name) (map class_view es)
modules_kept [] = refl
modules_kept (e ∷ es) = ap (λ ns. string_bytes e.1.module_name ∷ ns) (modules_kept es)

one_settled : (setup : StatedSetup) (done : List Settled) (k : Settled) (name : List ℕ) (left : List (List ℕ)) → settled_view k ≡ settled_for setup name
    → map settled_view (done ++ k ∷ []) ++ map (settled_for setup) left ≡ map settled_view done ++ map (settled_for setup) (name ∷ left)
one_settled setup done k name left is =
    ap (λ ks. ks ++ map (settled_for setup) left) (map-append settled_view done (k ∷ []))
    ∙ append_assoc (map settled_view done) _ _ ∙ ap (λ p. map settled_view done ++ p ∷ map (settled_for setup) left) is

module _ (setup : StatedSetup) where
  -- with the classes that are left settled, all are
  pub record IsSettling (done : List Settled) (given : List ℕ → Option ℕ) (left : List Class) : Type 0 where
    pub count : length done + length left ≡ length setup.classes
    pub settled : map settled_view done ++ map (settled_for setup) (modules_of left) ≡ map (settled_for setup) (map (λ c. c.module_name) setup.classes)
    pub numbers : Numbers (module_names setup) given (1 + length done) (modules_of left)

  pub starts : (es : List (String Global × Class)) (given : List ℕ → Option ℕ) → map class_view es ≡ setup.classes
      → ((q : List ℕ) → given q ≡ update bytes_eq (λ t. None) (codes "java.base") (Some 0) q) → IsSettling [] given (map (λ e. e.1) es)
  starts es given kept is =
      let names = map (λ (c : StatedClass). c.module_name) setup.classes in
      let modules : modules_of (map (λ e. e.1) es) ≡ names = modules_kept es ∙ ap (map (λ (c : StatedClass). c.module_name)) kept in
      record {
        count = omega (arith, length-map es (λ e. e.1), length-map es class_view, ap length kept);
        settled = ap (map (settled_for setup)) modules;
        numbers = rw modules (next_numbers (module_names setup) (λ t. None) 0 (codes "java.base") names (none_given (module_names setup)) 0 given refl is);
      }

  pub continues : (done : List Settled) (given : List ℕ → Option ℕ) (c : Class) (left : List Class) → IsSettling done given (c ∷ left)
      → (k : Settled) (after : List ℕ → Option ℕ) → k.home ≡ unwrap_or (given (string_bytes c.module_name)) (1 + length done)
      → ((q : List ℕ) → after q ≡ update bytes_eq given (string_bytes c.module_name) (Some k.home) q)
      → k.load ≡ module_access setup (string_bytes c.module_name) Load → k.register ≡ module_access setup (string_bytes c.module_name) Register
      → k.link ≡ module_access setup (string_bytes c.module_name) Link → IsSettling (done ++ k ∷ []) after left
  continues done given c left so k after home set load register link =
      let name = string_bytes c.module_name in
      let longer : length (done ++ k ∷ []) ≡ 1 + length done = rw length-append (omega arith) in
      record {
        count = omega (arith, longer, so.count);
        settled =
            one_settled setup done k name (modules_of left)
            (let number = next_number (module_names setup) given (1 + length done) name (modules_of left) so.numbers
            in rw (home, number, load, register, link) refl)
            ∙ so.settled;
        numbers = rw longer (next_numbers (module_names setup) given (1 + length done) name (modules_of left) so.numbers k.home after home set);
      }

-- ---- what is settled of a class

module _ (s : StatedSetup) (settled : List Settled) (are : AreSettled s settled) (class : ℕ) (above : 15 ≤ class) where
  -- each class is settled
  pub settled_count : length settled ≡ length s.classes
  settled_count = sym (length-map settled settled_view) ∙ ap length are ∙ rw (length-map, length-map) refl

  settled_at : option_map settled_view (slice_get settled (class - 15)) ≡ option_map (settled_for s) (module_name_of s class)
  settled_at =
      let is : nat_lt class 15 ≡ false = grind (arith, nat_tests) in
      sym (slice_get-map settled_view settled (class - 15)) ∙ ap (λ ks. slice_get ks (class - 15)) are
      ∙ slice_get-map (settled_for s) (map (λ (c : StatedClass). c.module_name) s.classes) (class - 15)
      ∙ ap (option_map (settled_for s)) (slice_get-map (λ (c : StatedClass). c.module_name) s.classes (class - 15) ∙ rw is refl)

  module _ (k : Settled) (at : slice_get settled (class - 15) ≡ Some k) where
    -- what was settled of a class is what the setup says of it
    pub settled_home : Some k.home ≡ module_of s class
    settled_home = by (module_name_of s class) (ap (option_map settled_view) (sym at) ∙ settled_at)
      where
        by : (o : Option (List ℕ)) → Some (settled_view k) ≡ option_map (settled_for s) o
            → Some k.home ≡ option_and_then (λ name. position (bytes_eq name) (module_names s)) o
        by None h = absurd (let no : ⊥ = cc in no)
        by (Some name) h = let e : settled_view k ≡ settled_for s name = cc in ap (λ p. p.home) e

    pub settled_for_use : (operation : Operation) → settled_access (settled_view k) operation ≡ access_of s class operation
    settled_for_use operation = by (module_name_of s class) (ap (option_map settled_view) (sym at) ∙ settled_at)
      where
        of_use : (name : List ℕ) (operation : Operation) → settled_access (settled_for s name) operation ≡ module_access s name operation
        of_use name Load = refl
        of_use name Register = refl
        of_use name Link = refl

        by : (o : Option (List ℕ)) → Some (settled_view k) ≡ option_map (settled_for s) o
            → settled_access (settled_view k) operation ≡ (if option_map_or (λ name. is_enabled s name operation) o false then Allowed else access_by s.mode)
        by None h = absurd (let no : ⊥ = cc in no)
        by (Some name) h = let e : settled_view k ≡ settled_for s name = cc in ap (λ p. settled_access p operation) e ∙ of_use name operation
