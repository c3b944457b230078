-- A question about words that passed passes still.
use Rattle.std.proofs.Common.{ℕ, ◌≡◌, ◌≢◌, Bool, true, false, List, [], ◌∷◌, ◌++◌, Option, Some, None, refl, ap, sym, ◌∙◌, subst, arith, if◌then◌else◌}
use Rattle.std.specs.Prelude.{◌==◌, ◌||◌, not}
use Rattle.std.specs.List.{list_any}
use Rattle.std.proofs.lemmas.Bool.Decides.{nat_tests}
use Rattle.std.proofs.lemmas.Bool.{not-true}
use Rattle.jg_words.specs.declared.thread.Tid.{Tid}
use Rattle.jg_words.specs.declared.reference.Ref.{Ref}
use Rattle.jg_words.specs.declared.reference.Ref.TheVariants.{Null, To}
use Rattle.jg_words.specs.declared.reference.Kind.TheVariants.{Local, Global, Weak}
use Rattle.jg_policy.specs.Stated.{StatedSetup}
use Rattle.jg_rules.specs.declared.named.Named.{Named}
use Rattle.jg_rules.specs.Parts.{Parts}
use Rattle.jg_rules.specs.Names.{names}
use Rattle.jg_rules.specs.Rules.{is_nothing}
use Rattle.jg_judge.specs.declared.argument.Argument.{Argument}
use Rattle.jg_judge.specs.declared.argument.Argument.TheVariants.{Reference}
use Rattle.jg_judge.specs.Broken.{verdict}
use Rattle.jg_core.specs.declared.fact.Fact.{Fact}
use Rattle.jg_core.specs.Facts.{on, parts_of, is_in_being, History}
use Rattle.jg_core.proofs.Each.{each_told, keeps_below, keeps_globals_below}
use Rattle.jg_core_laws.specs.Laws.{hinders, clouds, references, unsettles}
use Rattle.jg_core_laws.proofs.Judged.{or_both, or_parts}
use Rattle.jg_core_laws.proofs.Meanings.{fact_means}
use Rattle.jg_core_laws.proofs.Leases.{passes_still}
use Rattle.jg_witness.specs.declared.operand.Operand.{Operand}
use Rattle.jg_witness.specs.declared.operand.Operand.TheVariants.{Word, Other}
use Rattle.jg_witness.specs.Events.{Event, Told, Handed, Lapsed, AreNamed, facts_of, if_in_being, lost_after, meaning, newest}
use Rattle.jg_witness.specs.Words.{or_dead, named_for, arguments_of}
use Rattle.jg_witness.specs.Laws.{HandNoneOut, facts_since, hands_anew, may_end, may_unsettle, WordsPassStill}
use Rattle.jg_witness.proofs.Meant.{revived_law}

-- ---- the later facts

lost_before : (name : Option Ref) (v w : List Fact) → lost_after name (v ++ w) ≡ lost_after name v ++ w
lost_before None v w = refl
lost_before (Some r) v w = refl

split : (later e : List Event) → facts_of (later ++ e) ≡ facts_since later e ++ facts_of e
split [] e = refl
split (Told x ∷ later) e = ap (λ (v : List Fact). x ∷ v) (split later e)
split (Handed word name ∷ later) e =
    ap (lost_after (meaning word (later ++ e))) (split later e) ∙ lost_before (meaning word (later ++ e)) (facts_since later e) (facts_of e)
split (Lapsed word ∷ later) e =
    ap (lost_after (meaning word (later ++ e))) (split later e) ∙ lost_before (meaning word (later ++ e)) (facts_since later e) (facts_of e)

-- ---- a reference that nothing ends stays in being

named_still : (old new : Named) → new ≡ old → not (is_nothing old) ≡ true → not (is_nothing new) ≡ true
named_still old new same is = rw same is

being_after : (s : StatedSetup) (w : List Fact) (x : Fact) (t : Tid) (r : Ref) → History s w → hinders t.0 x ≡ false → may_end x r ≡ false
    → is_in_being (parts_of w) r ≡ true → is_in_being (on x (parts_of w)) r ≡ true
being_after s w x t Null could other clear is = is
being_after s w x t (To Local maker n) could other clear is =
    let p : Parts = parts_of w in
    let both = or_parts (hinders maker.0 x) (clouds x (To Local maker n)) clear in
    named_still (names p maker.0 (To Local maker n)) (names (on x p) maker.0 (To Local maker n))
    (fact_means maker.0 x p (To Local maker n) (each_told _ s (keeps_below s) (λ u. tt) w could)
    (each_told _ s (keeps_globals_below s) (λ u. tt) w could) both.0 both.1 (not-true (is_nothing (names p maker.0 (To Local maker n))) is)) is
being_after s w x t (To Global maker n) could other clear is =
    let p : Parts = parts_of w in
    named_still (names p t.0 (To Global maker n)) (names (on x p) t.0 (To Global maker n))
    (fact_means t.0 x p (To Global maker n) (each_told _ s (keeps_below s) (λ u. tt) w could)
    (each_told _ s (keeps_globals_below s) (λ u. tt) w could) other clear (not-true (is_nothing (names p t.0 (To Global maker n))) is)) is
being_after s w x t (To Weak maker n) could other clear is =
    let p : Parts = parts_of w in
    named_still (names p t.0 (To Weak maker n)) (names (on x p) t.0 (To Weak maker n))
    (fact_means t.0 x p (To Weak maker n) (each_told _ s (keeps_below s) (λ u. tt) w could)
    (each_told _ s (keeps_globals_below s) (λ u. tt) w could) other clear (not-true (is_nothing (names p t.0 (To Weak maker n))) is)) is

being_later : (s : StatedSetup) (newer w : List Fact) (t : Tid) (r : Ref) → History s (newer ++ w)
    → list_any (λ x. hinders t.0 x || may_end x r) newer ≡ false
    → is_in_being (parts_of w) r ≡ true → is_in_being (parts_of (newer ++ w)) r ≡ true
being_later s [] w t r could clear is = is
being_later s (x ∷ newer) w t r could clear is =
    let both = or_parts (hinders t.0 x || may_end x r) (list_any (λ x. hinders t.0 x || may_end x r) newer) clear in
    let parts = or_parts (hinders t.0 x) (may_end x r) both.0 in
    being_after s (newer ++ w) x t r could.1 parts.0 parts.1 (being_later s newer w t r could.1 both.1 is)

-- ---- what a word means

differ : (u word : ℕ) → (u == word) ≡ false → u ≢ word
differ u word is same = grind (arith, nat_tests, is, same)

none_out : (word : ℕ) (later : List Event) → list_any (λ event. hands_anew event (Word word)) later ≡ false → HandNoneOut word later
none_out word [] none = tt
none_out word (Told x ∷ later) none = none_out word later none
none_out word (Handed u name ∷ later) none =
    let both = or_parts (u == word) (list_any (λ event. hands_anew event (Word word)) later) none in
    (differ u word both.0, none_out word later both.1)
none_out word (Lapsed u ∷ later) none = none_out word later none

newest_same : (word : ℕ) (later e : List Event) → list_any (λ event. hands_anew event (Word word)) later ≡ false → newest word (later ++ e) ≡ newest word e
newest_same word [] e none = refl
newest_same word (Told x ∷ later) e none = newest_same word later e none
newest_same word (Handed u name ∷ later) e none =
    let both = or_parts (u == word) (list_any (λ event. hands_anew event (Word word)) later) none in
    rw both.0 (newest_same word later e both.1)
newest_same word (Lapsed u ∷ later) e none = newest_same word later e none

named_parts : (b : Bool) (name r : Ref) → (if b then Some name else None) ≡ Some r → (b ≡ true) × (name ≡ r)
named_parts true name r is = (refl, cc)
named_parts false name r is = absurd cc

meant_parts : (p : Parts) (name : Option Ref) (r : Ref) → if_in_being p name ≡ Some r → (name ≡ Some r) × (is_in_being p r ≡ true)
meant_parts p None r is = absurd cc
meant_parts p (Some name) r is =
    let both = named_parts (is_in_being p name) name r is in
    (ap Some both.1, subst (λ (q : Ref). is_in_being p q ≡ true) both.1 both.0)

meant_by : (p : Parts) (name : Option Ref) (r : Ref) → name ≡ Some r → is_in_being p r ≡ true → if_in_being p name ≡ Some r
meant_by p name r is here = rw (is, here) refl

-- no later fact ends a reference among these, and none hinders t
abbrev AllClear : Tid → List Ref → List Fact → Type 0
AllClear t rs newer = list_any (λ x. hinders t.0 x || list_any (may_end x) rs) newer ≡ false

both_clear : (h a b : Bool) → (h || (a || b)) ≡ false → ((h || a) ≡ false) × ((h || b) ≡ false)
both_clear true a b is = absurd cc
both_clear false true b is = absurd cc
both_clear false false b is = (refl, is)

first_clear : (t : Tid) (r : Ref) (rs : List Ref) (newer : List Fact) → AllClear t (r ∷ rs) newer
    → (list_any (λ x. hinders t.0 x || may_end x r) newer ≡ false) × AllClear t rs newer
first_clear t r rs [] clear = (refl, refl)
first_clear t r rs (x ∷ newer) clear =
    let both = or_parts (hinders t.0 x || (may_end x r || list_any (may_end x) rs)) _ clear in
    let here = both_clear (hinders t.0 x) (may_end x r) (list_any (may_end x) rs) both.0 in
    let rest = first_clear t r rs newer both.1 in
    (or_both _ _ here.0 rest.0, or_both _ _ here.1 rest.1)

rest_clear : (t : Tid) (x : Argument) (ys : List Argument) (newer : List Fact) → AllClear t (references (x ∷ ys)) newer → AllClear t (references ys) newer
rest_clear t (Reference r) ys newer clear = (first_clear t r (references ys) newer clear).1
rest_clear t x ys newer clear = clear

-- ---- the question is the same

module _ (s : StatedSetup) (t : Tid) (later e : List Event) (could : History s (facts_of (later ++ e))) (named : AreNamed (later ++ e)) where
  could_split : History s (facts_since later e ++ facts_of e)
  could_split = subst (History s) (split later e) could

  meaning_same : (word : ℕ) (meant : Option Ref) → meaning word e ≡ meant → list_any (λ event. hands_anew event (Word word)) later ≡ false
      → ((r : Ref) → meant ≡ Some r → list_any (λ x. hinders t.0 x || may_end x r) (facts_since later e) ≡ false)
      → meaning word (later ++ e) ≡ meant
  meaning_same word None is none clear = revived_law s later e word could named (none_out word later none) is
  meaning_same word (Some r) is none clear =
      let parts = meant_parts (parts_of (facts_of e)) (newest word e) r is in
      let here = being_later s (facts_since later e) (facts_of e) t r could_split (clear r refl) parts.1 in
      meant_by (parts_of (facts_of (later ++ e))) (newest word (later ++ e)) r (newest_same word later e none ∙ parts.0)
      (subst (λ (w : List Fact). is_in_being (parts_of w) r ≡ true) (sym (split later e)) here)

  asked_as : (word : ℕ) (null : Bool) → (word == 0) ≡ null → list_any (λ event. hands_anew event (Word word)) later ≡ false
      → list_any (λ x. hinders t.0 x || may_end x (named_for t e word)) (facts_since later e) ≡ false → named_for t (later ++ e) word ≡ named_for t e word
  asked_as word true is none clear = rw is refl
  asked_as word false is none clear =
      let as_meant : named_for t e word ≡ or_dead t (meaning word e) = rw is refl in
      let same = meaning_same word (meaning word e) refl none
      (λ r meant. subst (λ (q : Ref). list_any (λ x. hinders t.0 x || may_end x q) (facts_since later e) ≡ false)
      (as_meant ∙ ap (or_dead t) meant) clear) in
      rw is (ap (or_dead t) same)

  any_parts : (f g : Event → Bool) (events : List Event) → list_any (λ event. f event || g event) events ≡ false
      → (list_any f events ≡ false) × (list_any g events ≡ false)
  any_parts f g [] none = (refl, refl)
  any_parts f g (event ∷ events) none =
      let both = or_parts (f event || g event) _ none in
      let here = or_parts (f event) (g event) both.0 in
      let rest = any_parts f g events both.1 in
      (or_both _ _ here.0 rest.0, or_both _ _ here.1 rest.1)

  arguments_same : (xs : List Operand) → list_any (λ event. list_any (hands_anew event) xs) later ≡ false
      → AllClear t (references (arguments_of t e xs)) (facts_since later e) → arguments_of t (later ++ e) xs ≡ arguments_of t e xs
  arguments_same [] none clear = refl
  arguments_same (Word word ∷ xs) none clear =
      let out = any_parts (λ event. hands_anew event (Word word)) (λ event. list_any (hands_anew event) xs) later none in
      let settled = first_clear t (named_for t e word) (references (arguments_of t e xs)) (facts_since later e) clear in
      rw (asked_as word (word == 0) refl out.0 settled.0, arguments_same xs out.1 settled.1) refl
  arguments_same (Other x ∷ xs) none clear =
      let out = any_parts (λ event. hands_anew event (Other x)) (λ event. list_any (hands_anew event) xs) later none in
      rw (arguments_same xs out.1 (rest_clear t x (arguments_of t e xs) (facts_since later e) clear)) refl

unclouded : (x : Fact) (rs : List Ref) → list_any (may_end x) rs ≡ false → list_any (clouds x) rs ≡ false
unclouded x [] clear = refl
unclouded x (r ∷ rs) clear =
    let both = or_parts (may_end x r) (list_any (may_end x) rs) clear in
    or_both _ _ (or_parts _ (clouds x r) both.0).1 (unclouded x rs both.1)

settled_too : (t : Tid) (xs : List Argument) (newer : List Fact) → list_any (may_unsettle t.0 xs) newer ≡ false → list_any (unsettles t.0 xs) newer ≡ false
settled_too t xs [] clear = refl
settled_too t xs (x ∷ newer) clear =
    let both = or_parts (may_unsettle t.0 xs x) (list_any (may_unsettle t.0 xs) newer) clear in
    let parts = or_parts (hinders t.0 x) (list_any (may_end x) (references xs)) both.0 in
    or_both _ _ (or_both _ _ parts.0 (unclouded x (references xs) parts.1)) (settled_too t xs newer both.1)

pub words_pass_still : WordsPassStill
words_pass_still bounds s t env row xs later e could named plain unlent none settled passed =
    let same = arguments_same s t later e could named xs none settled in
    let after = passes_still bounds s t.0 env row (arguments_of t e xs) (facts_since later e) (facts_of e) (could_split s t later e could named) plain unlent
    (settled_too t (arguments_of t e xs) (facts_since later e) settled) passed in (
      same,
      subst (λ (ys : List Argument). verdict bounds s (parts_of (facts_of (later ++ e))) t.0 env row ys ≡ None) (sym same)
          (subst (λ (w : List Fact). verdict bounds s (parts_of w) t.0 env row (arguments_of t e xs) ≡ None) (sym (split later e)) after),
    )
