-- What each call of the table of links does to the rows.
use Rattle.std.proofs.Common.{◌≡◌, ℕ, ◌+◌, ◌≤◌, Bool, true, false, not, ◌&&◌, ◌||◌, ◌==◌, if◌then◌else◌, cond, List, [], ◌∷◌, Some, None, map, refl, ◌∙◌, ap, sym, subst, arith}
use Rattle.std.proofs.lemmas.Bool.{false≢true, eqb-true, and_parts}
use Rattle.std.proofs.lemmas.Bool.Decides.{nat_tests}
use Rattle.std.proofs.lemmas.Map.Keys.{IsDistinct-head, IsDistinct-tail}
use Rattle.std.specs.Prelude.{IsPermutation, MatchBool, nat_le}
use Rattle.std.specs.List.{list_any, IsDistinct, AllByRecursion}
use Rattle.jg_lists.specs.Acts.{how_many, once_if}
use Rattle.jg_lists.proofs.Lists.{how_many-map}
use Rattle.jg_policy.specs.declared.links.Link.{Link}
use Rattle.jg_policy.specs.Links.{Event, Linked, UnlinkedAll, Warned, linked, warned}
use Rattle.jg_policy.specs.LinkRows.{Rows, is_link}
use Rattle.jg_policy.specs.LinkKept.{link_view, same_link, greatest_of, IsUpTo, AreUpTo}
use Rattle.jg_policy.specs.LinkStanding.{Stands}
use Rattle.jg_policy.proofs.Counting.{how_many-reordered, how_many-put, found_once}

abbrev pub rows_of : List Link → List ℕ → Rows
rows_of links warnings = record { linked = map link_view links; warned = warnings }

abbrev pub link_at : ℕ → ℕ → Link
link_at class native = record { class = class; native = native }

equal_link : (q k : Link) → same_link q k ≡ true → q ≡ k
equal_link q k h =
    let tests = and_parts _ _ h in
    rw (eqb-true q.class k.class tests.0, eqb-true q.native k.native tests.1) refl

module _ (links : List Link) (warnings : List ℕ) (e : List Event) (stands : Stands (rows_of links warnings) e) where
  once_linked : (q : Link) → how_many (same_link q) links ≡ once_if (linked e q.class q.native)
  once_linked q = sym (how_many-map (is_link q.class q.native) link_view links) ∙ stands.linked q.class q.native

  pub found_link : (class native : ℕ) → list_any (same_link (link_at class native)) links ≡ linked e class native
  found_link class native = found_once (same_link (link_at class native)) links (linked e class native) (once_linked (link_at class native))

  pub found_warning : (home : ℕ) → list_any (λ m. home == m) warnings ≡ warned e home
  found_warning home = found_once (λ m. home == m) warnings (warned e home) (stands.warned home)

  pub after_link : (class native : ℕ) (added : Bool) (new : List Link) → added ≡ not (list_any (same_link (link_at class native)) links)
      → MatchBool added (IsPermutation (link_at class native ∷ links) new) (new ≡ links) → Stands (rows_of new warnings) (Linked class native ∷ e)
  after_link class native added new is put = record {
    linked =
        λ c n.
        how_many-map (is_link c n) link_view new
        ∙ how_many-put same_link equal_link links new (link_at class native) added is put (λ q. linked e q.class q.native) once_linked (link_at c n);
    warned = stands.warned;
  }

  pub after_warn : (home : ℕ) (added : Bool) (new : List ℕ) → added ≡ not (list_any (λ m. home == m) warnings)
      → MatchBool added (IsPermutation (home ∷ warnings) new) (new ≡ warnings) → Stands (rows_of links new) (Warned home ∷ e)
  after_warn home added new is put = record {
    linked = stands.linked;
    warned = how_many-put (λ m n. m == n) eqb-true warnings new home added is put (warned e) stands.warned;
  }

  -- where each link is there once, and just those of the class are gone
  pub after_unlink : (class : ℕ) (new : List Link) → ((q : Link) → how_many (same_link q) new ≡ once_if (list_any (same_link q) new))
      → ((q : Link) → list_any (same_link q) new ≡ (not (class == q.class) && list_any (same_link q) links))
      → Stands (rows_of new warnings) (UnlinkedAll class ∷ e)
  after_unlink class new once gone = record {
    linked =
        λ c n.
        how_many-map (is_link c n) link_view new
        ∙ once (link_at c n) ∙ ap once_if (gone (link_at c n) ∙ ap (λ b. not (class == c) && b) (found_link c n));
    warned = stands.warned;
  }

  pub linked_once : (q : Link) → how_many (same_link q) links ≡ once_if (list_any (same_link q) links)
  linked_once q = once_linked q ∙ ap once_if (sym (found_once (same_link q) links (linked e q.class q.native) (once_linked q)))

  pub after_reserve : (new : List Link) (others : List ℕ) → IsPermutation links new → IsPermutation warnings others → Stands (rows_of new others) e
  after_reserve new others links_moved warnings_moved = record {
    linked =
        λ c n.
        how_many-map (is_link c n) link_view new ∙ how_many-reordered (same_link (link_at c n)) links new links_moved ∙ once_linked (link_at c n);
    warned = λ home. how_many-reordered (λ m. home == m) warnings others warnings_moved ∙ stands.warned home;
  }

-- ---- what is linked, by the greatest number of each class

-- a link of a set is there once
pub counted_once : (links : List Link) → IsDistinct same_link links → (q : Link) → how_many (same_link q) links ≡ once_if (list_any (same_link q) links)
counted_once [] apart q = refl
counted_once (k ∷ links) apart q = by (same_link q k) refl (counted_once links (IsDistinct-tail same_link k links apart) q)
  where
    by : (b : Bool) → same_link q k ≡ b → how_many (same_link q) links ≡ once_if (list_any (same_link q) links)
        → (if b then how_many (same_link q) links + 1 else how_many (same_link q) links) ≡ once_if (b || list_any (same_link q) links)
    by true same later =
        let none : list_any (same_link k) links ≡ false = any_apart links (IsDistinct-head same_link k links apart) in
        ap (λ n. n + 1) (later ∙ ap once_if (ap (λ l. list_any (same_link l) links) (equal_link q k same) ∙ none))
      where
        any_apart : (ks : List Link) → AllByRecursion (λ y. same_link k y ≡ false) ks → list_any (same_link k) ks ≡ false
        any_apart [] all = refl
        any_apart (y ∷ ks) all = rw (all.0) (any_apart ks all.1)
    by false other later = later

-- a class's number was raised
pub up_to_raised : (old new : List (ℕ × ℕ)) (class most : ℕ) → ((c : ℕ) → greatest_of c new ≡ cond (class == c) (Some most) (greatest_of c old))
    → ((n : ℕ) → IsUpTo n (greatest_of class old) → n ≤ most)
    → (c n : ℕ) → IsUpTo n (greatest_of c old) → IsUpTo n (greatest_of c new)
up_to_raised old new class most put least c n below = subst (IsUpTo n) (sym (put c)) (by (class == c) refl)
  where
    by : (b : Bool) → (class == c) ≡ b → IsUpTo n (cond b (Some most) (greatest_of c old))
    by true same = least n (subst (λ k. IsUpTo n (greatest_of k old)) (sym (eqb-true class c same)) below)
    by false other = below

pub up_to_alike : (links new : List Link) (old now : List (ℕ × ℕ)) → ((q : Link) → list_any (same_link q) new ≡ list_any (same_link q) links)
    → ((c n : ℕ) → IsUpTo n (greatest_of c old) → IsUpTo n (greatest_of c now))
    → AreUpTo links old → AreUpTo new now
up_to_alike links new old now same raised all q there = raised q.class q.native (all q (sym (same q) ∙ there))

-- one more link
pub up_to_linked : (links new : List Link) (old now : List (ℕ × ℕ)) (k : Link)
    → ((q : Link) → list_any (same_link q) new ≡ cond (same_link k q) true (list_any (same_link q) links)) → IsUpTo k.native (greatest_of k.class now)
    → ((c n : ℕ) → IsUpTo n (greatest_of c old) → IsUpTo n (greatest_of c now)) → AreUpTo links old → AreUpTo new now
up_to_linked links new old now k put own raised all q there = by (same_link k q) refl (sym (put q) ∙ there)
  where
    by : (b : Bool) → same_link k q ≡ b → cond b true (list_any (same_link q) links) ≡ true → IsUpTo q.native (greatest_of q.class now)
    by true same is = subst (λ (l : Link). IsUpTo l.native (greatest_of l.class now)) (equal_link k q same) own
    by false other is = raised q.class q.native (all q is)

-- no link of a class is left where none has a greater number
abbrev Gone : ℕ → List Link → List Link → Type 0
Gone class links new = (q : Link) → list_any (same_link q) new ≡ (not (class == q.class) && list_any (same_link q) links)

pub gone_all : (links new : List Link) (old : List (ℕ × ℕ)) (class most : ℕ) → greatest_of class old ≡ Some most
    → ((q : Link) → list_any (same_link q) new ≡ (if class == q.class && nat_le q.native most then false else list_any (same_link q) links)) → AreUpTo links old
    → Gone class links new
gone_all links new old class most is dropped all q = dropped q ∙ by (class == q.class) refl (nat_le q.native most) refl (list_any (same_link q) links) refl
  where
    by : (c : Bool) → (class == q.class) ≡ c → (le : Bool) → nat_le q.native most ≡ le → (there : Bool) → list_any (same_link q) links ≡ there
        → (if c && le then false else there) ≡ (not c && there)
    by true same true within there here = refl
    by true same false above false here = refl
    by true same false above true here =
        let below : q.native ≤ most = subst (IsUpTo q.native) (ap (λ k. greatest_of k old) (sym (eqb-true class q.class same)) ∙ is) (all q here) in
        absurd (grind (arith, nat_tests, below, above))
    by false other le within there here = refl

pub gone_none : (links : List Link) (old : List (ℕ × ℕ)) (class : ℕ) → greatest_of class old ≡ None → AreUpTo links old → Gone class links links
gone_none links old class is all q = by (class == q.class) refl (list_any (same_link q) links) refl
  where
    by : (c : Bool) → (class == q.class) ≡ c → (there : Bool) → list_any (same_link q) links ≡ there → there ≡ (not c && there)
    by true same true here = absurd (subst (IsUpTo q.native) (ap (λ k. greatest_of k old) (sym (eqb-true class q.class same)) ∙ is) (all q here))
    by true same false here = refl
    by false same there here = refl

up_to_gone : (links new : List Link) (old now : List (ℕ × ℕ)) (class : ℕ) → ((c : ℕ) → greatest_of c now ≡ cond (class == c) None (greatest_of c old))
    → Gone class links new → AreUpTo links old → AreUpTo new now
up_to_gone links new old now class put gone all q there = by (class == q.class) refl (sym (gone q) ∙ there)
  where
    by : (b : Bool) → (class == q.class) ≡ b → (not b && list_any (same_link q) links) ≡ true → IsUpTo q.native (greatest_of q.class now)
    by true same is = absurd (false≢true is)
    by false other is = subst (IsUpTo q.native) (sym (put q.class ∙ ap (λ b. cond b None (greatest_of q.class old)) other)) (all q is)
