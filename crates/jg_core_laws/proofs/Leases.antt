-- A question that passed passes still.
use Rattle.std.proofs.Common.{ℕ, ◌≡◌, Bool, true, false, List, [], ◌∷◌, ◌++◌, Option, Some, None, refl, ap, sym, ◌∙◌}
use Rattle.std.specs.Prelude.{◌&&◌, not, cond}
use Rattle.std.specs.List.{list_any, find, AllByRecursion}
use Rattle.std.specs.Option.{is_some}
use Rattle.jg_words.specs.declared.thread.EnvId.{EnvId}
use Rattle.jg_words.specs.declared.reference.Ref.{Ref}
use Rattle.jg_words.specs.declared.rule.Rule.{Rule}
use Rattle.jg_words.specs.declared.rule.Rule.TheVariants.{WrongThread, Detached, InCritical, Pending, ForeignLocal, DeadReference, WrongRefKind, NullReference, WrongType, BadField, BadBuffer, BadArgument, Pinned, NotOwner, BadFrame, NoNativeAccess, NotLinked}
use Rattle.jg_policy.specs.Stated.{StatedSetup}
use Rattle.jg_table_buffers.specs.History as buffers
use Rattle.jg_rows.specs.declared.row.Effect.{Effect}
use Rattle.jg_rows.specs.declared.row.Effect.TheVariants.{Ends, Pops, Frees, Detaches, Enters, Leaves, Loads, Links}
use Rattle.jg_rows.specs.Columns.{Columns}
use Rattle.jg_rules.specs.declared.named.Named.TheVariants.{Object}
use Rattle.jg_rules.specs.Parts.{Parts}
use Rattle.jg_rules.specs.Names.{names, session, pending, is_here, object_in}
use Rattle.jg_rules.specs.Rules.{rules_in_order, is_nothing}
use Rattle.jg_judge.specs.declared.argument.Argument.{Argument}
use Rattle.jg_judge.specs.declared.argument.Bounds.{Bounds}
use Rattle.jg_judge.specs.Asked.{judged, paired, first_reference, first_buffer}
use Rattle.jg_judge.specs.Broken.{broken, verdict, detached, dead_reference, pinned, not_owner, bad_frame, no_access, not_linked, passes_critical, passes_pending, is_out_of_bounds, bad_argument}
use Rattle.jg_core.specs.declared.fact.Fact.{Fact}
use Rattle.jg_core.specs.Facts.{on, parts_of, History}
use Rattle.jg_core.proofs.Each.{each_told, keeps_below, keeps_globals_below}
use Rattle.jg_core.proofs.Here.{live_is_here}
use Rattle.jg_core_laws.specs.Laws.{hinders, clouds, references, unsettles, is_plain, is_buffer, PassesStill}
use Rattle.jg_core_laws.proofs.Callers.{fact_goes, fact_calmer}
use Rattle.jg_core_laws.proofs.Meanings.{fact_means}
use Rattle.jg_core_laws.proofs.Classes.{fact_class}
use Rattle.jg_core_laws.proofs.Judged.{or_parts, Same, each_judged, dead_none, null_none, kind_none, no_buffer, buffers_right, all_bounds_same}

-- ---- what names an object is there

named_here : (s : StatedSetup) (w : List Fact) (t o : ℕ) (r : Ref) → History s w → names (parts_of w) t r ≡ Object (record { 0 = o }) → is_here s (parts_of w) o ≡ true
named_here s w t o r could is = live_is_here s w t o r could (ap object_in is)

not_nothing : (p : Parts) (t o : ℕ) (r : Ref) → names p t r ≡ Object (record { 0 = o }) → is_nothing (names p t r) ≡ false
not_nothing p t o r is = rw is refl

same_after : (s : StatedSetup) (w : List Fact) (x : Fact) (t : ℕ) (r : Ref) → History s (x ∷ w) → hinders t x ≡ false → clouds x r ≡ false
    → Same s (parts_of w) (on x (parts_of w)) t r
same_after s w x t r could other clear =
    let p : Parts = parts_of w in
    let below = each_told _ s (keeps_below s) (λ u. tt) w could.1 in
    let globals_below = each_told _ s (keeps_globals_below s) (λ u. tt) w could.1 in
    let stays = fact_means t x p r below globals_below other clear in
    record {
      named = stays;
      class = λ o is. fact_class s x p o (named_here s w t o r could.1 is)
          (named_here s (x ∷ w) t o r could (stays (not_nothing p t o r is) ∙ is));
    }

sames_after : (s : StatedSetup) (w : List Fact) (x : Fact) (t : ℕ) (rs : List Ref) → History s (x ∷ w) → hinders t x ≡ false → list_any (clouds x) rs ≡ false
    → AllByRecursion (Same s (parts_of w) (on x (parts_of w)) t) rs
sames_after s w x t [] could other clear = tt
sames_after s w x t (r ∷ rs) could other clear =
    let both = or_parts (clouds x r) (list_any (clouds x) rs) clear in
    (same_after s w x t r could other both.0, sames_after s w x t rs could other both.1)

-- ---- the rules that a plain function can't break

plain_pinned : (p : Parts) (effect : Effect) (r : Ref) → is_plain effect ≡ true → pinned p effect r ≡ false
plain_pinned p (Ends kind) r is = absurd cc
plain_pinned p effect r is = refl

plain_owner : (p : Parts) (t : ℕ) (effect : Effect) (r : Ref) → is_plain effect ≡ true → not_owner p t effect r ≡ false
plain_owner p t Frees r is = absurd cc
plain_owner p t effect r is = refl

plain_frame : (p : Parts) (t : ℕ) (effect : Effect) → is_plain effect ≡ true → bad_frame p t effect ≡ false
plain_frame p t Detaches is = absurd cc
plain_frame p t Leaves is = absurd cc
plain_frame p t Pops is = absurd cc
plain_frame p t effect is = refl

plain_access : (s : StatedSetup) (p : Parts) (t : ℕ) (effect : Effect) (r : Ref) (xs : List Argument) → is_plain effect ≡ true
    → no_access s p t effect r xs ≡ false
plain_access s p t Enters r xs is = absurd cc
plain_access s p t Loads r xs is = absurd cc
plain_access s p t Links r xs is = absurd cc
plain_access s p t effect r xs is = refl

plain_linked : (s : StatedSetup) (p : Parts) (effect : Effect) (xs : List Argument) → is_plain effect ≡ true → not_linked s p effect xs ≡ false
plain_linked s p Enters xs is = absurd cc
plain_linked s p effect xs is = refl

-- ---- each rule

less_if : (a b c : Bool) → (c ≡ true → b ≡ true) → (a && b) ≡ false → (a && c) ≡ false
less_if false b c less is = refl
less_if true false true less is = sym (less refl)
less_if true false false less is = refl
less_if true true c less is = absurd cc

detached_same : (p q : Parts) (t : ℕ) (env : Option EnvId) (row : Columns) → session q t ≡ session p t → detached p t env row ≡ false → detached q t env row ≡ false
detached_same p q t None row same is = is
detached_same p q t (Some env) row same is = rw same is

bounds_none : (bounds : Bounds) (s : StatedSetup) (p q : Parts) (row : Columns) (xs : List Argument) → first_buffer xs ≡ None
    → bad_argument bounds s p row xs ≡ false → bad_argument bounds s q row xs ≡ false
bounds_none bounds s p q row xs none is =
    let of_p : bad_argument bounds s p row xs ≡ list_any (λ x. is_out_of_bounds bounds s p None x.0 x.1) (paired row.takes xs) = rw none refl in
    let of_q : bad_argument bounds s q row xs ≡ list_any (λ x. is_out_of_bounds bounds s q None x.0 x.1) (paired row.takes xs) = rw none refl in
    of_q ∙ (all_bounds_same bounds s p q (paired row.takes xs) ∙ (sym of_p ∙ is))

abbrev pub AllFail : (Rule → Bool) → List Rule → Type 0
AllFail test rules = AllByRecursion (λ rule. test rule ≡ false) rules

first_fails : (test : Rule → Bool) (rule : Rule) (rules : List Rule) (b : Bool) → test rule ≡ b → (find test rules ≡ None → AllFail test rules)
    → cond b (Some rule) (find test rules) ≡ None → AllFail test (rule ∷ rules)
first_fails test rule rules true found rest is = absurd cc
first_fails test rule rules false found rest is = (found, rest is)

each_fails : (test : Rule → Bool) (rules : List Rule) → find test rules ≡ None → AllFail test rules
each_fails test [] is = tt
each_fails test (rule ∷ rules) is = first_fails test rule rules (test rule) refl (each_fails test rules) is

pub none_found : (test : Rule → Bool) (rules : List Rule) → AllFail test rules → find test rules ≡ None
none_found test [] all = refl
none_found test (rule ∷ rules) all = rw all.0 (none_found test rules all.1)

all_fail : (old new : Rule → Bool) → ((rule : Rule) → old rule ≡ false → new rule ≡ false) → (rules : List Rule) → AllFail old rules → AllFail new rules
all_fail old new each [] all = tt
all_fail old new each (rule ∷ rules) all = (each rule all.0, all_fail old new each rules all.1)

module _ (bounds : Bounds) (s : StatedSetup) (t : ℕ) (env : Option EnvId) (row : Columns) (xs : List Argument) (plain : is_plain row.effect ≡ true)
    (unlent : list_any is_buffer xs ≡ false) where
  module _ (x : Fact) (w : List Fact) (could : History s (x ∷ w)) (settled : unsettles t xs x ≡ false) where
    other : hinders t x ≡ false
    other = (or_parts (hinders t x) (list_any (clouds x) (references xs)) settled).0

    same : AllByRecursion (λ j. Same s (parts_of w) (on x (parts_of w)) t j.reference) (judged row.takes xs)
    same =
        each_judged (Same s (parts_of w) (on x (parts_of w)) t) (record { named = λ alive. refl; class = λ o is. absurd cc }) row.takes xs
        (sames_after s w x t (references xs) could other (or_parts (hinders t x) (list_any (clouds x) (references xs)) settled).1)

    rule_still : dead_reference (parts_of w) t row xs ≡ false → (rule : Rule) → broken rule bounds s (parts_of w) t env row xs ≡ false
        → broken rule bounds s (on x (parts_of w)) t env row xs ≡ false
    rule_still alive WrongThread none = none
    rule_still alive Detached none = detached_same (parts_of w) (on x (parts_of w)) t env row (fact_goes t x (parts_of w) other).0 none
    rule_still alive InCritical none =
        less_if (not (passes_critical row.passes)) (buffers.in_critical (parts_of w).buffers t) (buffers.in_critical (on x (parts_of w)).buffers t)
        (fact_calmer t x (parts_of w) other) none
    rule_still alive Pending none =
        less_if (not (passes_pending row.passes)) (is_some (pending (parts_of w) t)) (is_some (pending (on x (parts_of w)) t))
        (fact_goes t x (parts_of w) other).1 none
    rule_still alive ForeignLocal none = none
    rule_still alive DeadReference none = dead_none s (parts_of w) (on x (parts_of w)) t (judged row.takes xs) same none
    rule_still alive WrongRefKind none = none
    rule_still alive NullReference none = null_none s (parts_of w) (on x (parts_of w)) t (judged row.takes xs) same alive none
    rule_still alive WrongType none = kind_none s (parts_of w) (on x (parts_of w)) t (judged row.takes xs) same alive none
    rule_still alive BadField none = none
    rule_still alive BadBuffer none = buffers_right (on x (parts_of w)) t (first_reference xs) row.takes xs unlent
    rule_still alive BadArgument none = bounds_none bounds s (parts_of w) (on x (parts_of w)) row xs (no_buffer xs unlent) none
    rule_still alive Pinned none = plain_pinned (on x (parts_of w)) row.effect (first_reference xs) plain
    rule_still alive NotOwner none = plain_owner (on x (parts_of w)) t row.effect (first_reference xs) plain
    rule_still alive BadFrame none = plain_frame (on x (parts_of w)) t row.effect plain
    rule_still alive NoNativeAccess none = plain_access s (on x (parts_of w)) t row.effect (first_reference xs) xs plain
    rule_still alive NotLinked none = plain_linked s (on x (parts_of w)) row.effect xs plain

    one_more : verdict bounds s (parts_of w) t env row xs ≡ None → verdict bounds s (on x (parts_of w)) t env row xs ≡ None
    one_more passed =
        let all = each_fails (λ rule. broken rule bounds s (parts_of w) t env row xs) rules_in_order passed in
        none_found (λ rule. broken rule bounds s (on x (parts_of w)) t env row xs) rules_in_order
        (all_fail (λ rule. broken rule bounds s (parts_of w) t env row xs) (λ rule. broken rule bounds s (on x (parts_of w)) t env row xs)
        (rule_still all.1.1.1.1.1.0) rules_in_order all)

  all_more : (later w : List Fact) → History s (later ++ w) → list_any (unsettles t xs) later ≡ false → verdict bounds s (parts_of w) t env row xs ≡ None
      → verdict bounds s (parts_of (later ++ w)) t env row xs ≡ None
  all_more [] w could settled passed = passed
  all_more (x ∷ later) w could settled passed =
      let both = or_parts (unsettles t xs x) (list_any (unsettles t xs) later) settled in
      one_more x (later ++ w) could both.0 (all_more later w could.1 both.1 passed)

pub passes_still : PassesStill
passes_still bounds s t env row xs later w could plain unlent settled passed = all_more bounds s t env row xs plain unlent later w could settled passed
