-- A function is found by its name alone.
use Rattle.std.proofs.Common.{◌≡◌, ◌≢◌, ℕ, List, [], ◌∷◌, Bool, true, false, Option, Some, None, refl, sym, ◌∙◌, ap, subst, Contains, Bor, ◌<◌}
use Rattle.std.specs.Prelude.{IfNone, IfSome, find, cond, nat_eq, ◌&&◌, slice_index_or}
use Rattle.std.specs.List.{list_all, list_any}
use Rattle.std.proofs.lemmas.List.Folds.{Any-from_list_any}
use Rattle.std.specs.Cmp.Lexicographic.{pointwise, same_text}
use Rattle.std.proofs.lemmas.Bool.{and_parts}
use Rattle.jg_words.specs.declared.fun.Fun.{Fun}
use Rattle.jg_words.specs.Fun.{name_of, named, all}
use Rattle.jg_words.proofs.Names.{named-name_of}
use Rattle.jg_words.specs.ByName.{IsByKey, name_key}

find_passes : (p : Fun → Bool) (xs : List Fun) (f : Fun) → find p xs ≡ Some f → p f ≡ true
find_passes p [] f e = absurd (cc)
find_passes p (x ∷ xs) f e =
    elim (p x) as (λ b. p x ≡ b → cond b (Some x) (find p xs) ≡ Some f → p f ≡ true) [
      | true ↦ λ t h. (let same : x ≡ f = cc in subst (λ (y : Fun). p y ≡ true) same t)
      | false ↦ λ t h. find_passes p xs f h
    ] refl e

pub names_injective : (f g : Fun) → name_of f ≡ name_of g → f ≡ g
names_injective f g e = let both : Some f ≡ Some g = sym (named-name_of f) ∙ ap named e ∙ named-name_of g in cc

named_some : (text : List ℕ) (f : Fun) → named text ≡ Some f → text ≡ name_of f
named_some text f e = let passes : pointwise nat_eq (name_of f) text ≡ true = find_passes (λ g. pointwise nat_eq (name_of g) text) all f e
    in sym (same_text (name_of f) text (sym passes))

named_none : (text : List ℕ) → named text ≡ None → (f : Fun) → text ≢ name_of f
named_none text e f same = let clash : Some f ≡ None = sym (named-name_of f) ∙ ap named (sym same) ∙ e in absurd (cc)

-- what all functions pass, each passes
pub each_passes : (p q : Fun → Bool) (xs : List Fun) (f : Fun) → find p xs ≡ Some f → list_all q xs ≡ true → q f ≡ true
each_passes p q [] f e h = absurd (cc)
each_passes p q (x ∷ xs) f e h =
    elim (p x) as (λ b. cond b (Some x) (find p xs) ≡ Some f → q f ≡ true) [
      | true ↦ λ k. (let same : x ≡ f = cc in subst (λ (y : Fun). q y ≡ true) same (and_parts (q x) (list_all q xs) h).0)
      | false ↦ λ k. each_passes p q xs f k (and_parts (q x) (list_all q xs) h).1
    ] e

-- a function stands in a row one of whose names is its own
abbrev has : List Fun → Fun → Bool
has row f = list_any (λ g. pointwise nat_eq (name_of g) (name_of f)) row

stands_in : (row : List Fun) (f : Fun) → has row f ≡ true → Contains row f
stands_in row f e =
    let found = Any-from_list_any (λ g. pointwise nat_eq (name_of g) (name_of f)) row e in
    let (k, g, within, here, passes) = found in
    let same : g ≡ f = names_injective g f (same_text (name_of g) (name_of f) (sym passes)) in
    subst (λ (h : Fun). Contains row h) same (k, within, here)

-- a table that passes the test for each function is one by key
pub by_key : (rows : List (Bor (List Fun))) → ((d : Bor (List Fun)) → list_all (λ f. has (slice_index_or rows (name_key (name_of f)) d).now f) all ≡ true)
    → IsByKey rows
by_key rows h = record {
  stands = λ f d. stands_in (slice_index_or rows (name_key (name_of f)) d).now f
      (each_passes (λ g. pointwise nat_eq (name_of g) (name_of f)) (λ g. has (slice_index_or rows (name_key (name_of g)) d).now g) all f (named-name_of f)
      (h d));
}

-- what is found by the bytes is what the name means
pub named_by_bytes : (text : List ℕ) (r : Option Fun) → IfSome r (λ f. text ≡ name_of f) → IfNone r ((f : Fun) → text ≢ name_of f) → r ≡ named text
named_by_bytes text (Some f) some none = sym (ap named some ∙ named-name_of f)
named_by_bytes text None some none = by (named text) refl
  where
    by : (r : Option Fun) → named text ≡ r → None ≡ named text
    by None e = sym e
    by (Some f) e = absurd (none f (named_some text f e))
