-- What a witness stands for as events go on.
use Rattle.std.proofs.Common.{ℕ, ◌≡◌, Bool, true, false, List, ◌∷◌, Option, Some, None, inl, inr, refl, ap, sym, ◌∙◌, subst}
use Rattle.std.specs.Prelude.{◌⊎◌, nat_eq, Ok, Err, OnOk}
use Rattle.std.specs.declared.result.Result.{Result}
use Rattle.std.specs.Cmp.{nat_eq_equiv}
use Rattle.std.specs.List.{IsDistinct, filter}
use Rattle.std.specs.Map.{keys_of}
use Rattle.std.proofs.lemmas.Map.Entries.{lookup-filter-values, option_filter}
use Rattle.jg_words.specs.declared.object.ObjId.{ObjId}
use Rattle.jg_words.specs.declared.reference.Ref.{Ref}
use Rattle.jg_rules.specs.Parts.{Parts}
use Rattle.jg_core.specs.declared.fact.Fact.{Fact}
use Rattle.jg_core.specs.Facts.{parts_of, is_in_being}
use Rattle.jg_core.specs.declared.says.Given.{Given}
use Rattle.jg_core.specs.declared.kernel.Untold.{Untold}
use Rattle.jg_core.specs.declared.gone.StillHeld.{StillHeld}
use Rattle.jg_core.specs.Kernel.{CoreState, CoreStands, Took, TookAll}
use Rattle.jg_witness.specs.Events.{Event, Told, facts_of, if_in_being, told_gone}
use Rattle.jg_witness.specs.Standing.{AreSwept, Keeps, Takes, WitnessStands, both, name_at}
use Rattle.jg_witness.proofs.Past.{keeps_gone, keeps_meaning, keeps_told, facts_gone, named_gone}

pub told_stands : (old new : CoreState) (names : List (ℕ × Ref)) (x : Fact) (e : List Event) → WitnessStands (both old names) e
    → CoreStands new (x ∷ facts_of e) → WitnessStands (both new names) (Told x ∷ e)
told_stands old new names x e stands core = record {
  core = core;
  named = stands.named;
  names = λ word. keeps_told new.setup x e core.history stands.named word (name_at word names) (stands.names word);
}

pub gone_stands : (old new : CoreState) (names : List (ℕ × Ref)) (objects : List ObjId) (e : List Event) → WitnessStands (both old names) e
    → CoreStands new (facts_of (told_gone objects e)) → WitnessStands (both new names) (told_gone objects e)
gone_stands old new names objects e stands core = record {
  core = core;
  named = named_gone objects e stands.named;
  names = λ word. keeps_gone new.setup objects e core.history stands.named word (name_at word names) (stands.names word);
}

-- ---- the names after a sweep

swept : (p : Parts) (word : ℕ) (e : List Event) (old new : Option Ref) → p ≡ parts_of (facts_of e)
    → (new ≡ old) ⊎ ((new ≡ None) × (if_in_being p old ≡ None)) → Keeps word e old → Keeps word e new
swept p word e old new is (inl same) keeps = subst (λ (kept : Option Ref). Keeps word e kept) (sym same) keeps
swept p word e old new is (inr none) keeps =
    inr (none.0, sym (keeps_meaning word e old keeps) ∙ (ap (λ (q : Parts). if_in_being q old) (sym is) ∙ none.1))

pub swept_stands : (core : CoreState) (names left : List (ℕ × Ref)) (e : List Event) → AreSwept (parts_of (facts_of e)) names left
    → WitnessStands (both core names) e → WitnessStands (both core left) e
swept_stands core names left e sweeps stands = record {
  core = stands.core;
  named = stands.named;
  names = λ word. swept (parts_of (facts_of e)) word e (name_at word names) (name_at word left) refl (sweeps word) (stands.names word);
}

-- what is left of the entries is what is in being
kept_or_not : (p : Parts) (r : Ref) (b : Bool) → is_in_being p r ≡ b
    → (option_filter (is_in_being p) (Some r) ≡ Some r) ⊎ ((option_filter (is_in_being p) (Some r) ≡ None) × (if_in_being p (Some r) ≡ None))
kept_or_not p r true is = inl (rw is refl)
kept_or_not p r false is = inr (rw is refl, rw is refl)

filtered : (p : Parts) (old : Option Ref)
    → (option_filter (is_in_being p) old ≡ old) ⊎ ((option_filter (is_in_being p) old ≡ None) × (if_in_being p old ≡ None))
filtered p None = inl refl
filtered p (Some r) = kept_or_not p r (is_in_being p r) refl

pub filter_sweeps : (p : Parts) (old new : List (ℕ × Ref)) → IsDistinct nat_eq (keys_of old) → new ≡ filter (λ (e : ℕ × Ref). is_in_being p e.1) old
    → AreSwept p old new
filter_sweeps p old new distinct is word =
    let found : name_at word new ≡ option_filter (is_in_being p) (name_at word old) =
    ap (λ (es : List (ℕ × Ref)). name_at word es) is ∙ lookup-filter-values nat_eq_equiv (is_in_being p) word old distinct
    in
    subst (λ (x : Option Ref). (x ≡ name_at word old) ⊎ ((x ≡ None) × (if_in_being p (name_at word old) ≡ None))) (sym found)
    (filtered p (name_at word old))

-- a sweep, and then a table with the same names
pub same_sweeps : (p : Parts) (old middle new : List (ℕ × Ref)) → AreSwept p old middle → ((word : ℕ) → name_at word new ≡ name_at word middle)
    → AreSwept p old new
same_sweeps p old middle new swept same word =
    subst (λ (x : Option Ref). (x ≡ name_at word old) ⊎ ((x ≡ None) × (if_in_being p (name_at word old) ≡ None))) (sym (same word)) (swept word)

-- ---- after a call that may be refused

pub told_if : (old new : CoreState) (names : List (ℕ × Ref)) (x : Fact) (result : Result Given Untold) → OnOk result (Took old new x)
    → OnOk result (Takes (both old names) (both new names) (Told x))
told_if old new names x (Ok out) took =
    λ e stands. told_stands old new names x e stands (took.stands (facts_of e) stands.core)
told_if old new names x (Err why) took = tt

pub gone_if : (old new : CoreState) (names : List (ℕ × Ref)) (objects : List ObjId) (result : Result (Unit {0}) StillHeld)
    → OnOk result (TookAll old new objects)
    → OnOk result ((e : List Event) → WitnessStands (both old names) e → WitnessStands (both new names) (told_gone objects e))
gone_if old new names objects (Ok out) took =
    λ e stands. gone_stands old new names objects e stands
    (subst (λ (w : List Fact). CoreStands new w) (sym (facts_gone objects e)) (took.stands (facts_of e) stands.core))
gone_if old new names objects (Err held) took = tt
