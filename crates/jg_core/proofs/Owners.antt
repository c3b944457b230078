-- What facts do to monitors was allowed at its time, so that none has two owners.
use Rattle.std.proofs.Common.{ℕ, ◌≡◌, true, List, [], ◌∷◌, Option, Some, None, refl, ap, eqb-true}
use Rattle.std.specs.Prelude.{◌&&◌}
use Rattle.jg_words.specs.declared.object.ObjId.{ObjId}
use Rattle.jg_words.specs.declared.reference.Ref.{Ref}
use Rattle.jg_words.specs.declared.reference.Ref.TheVariants.{Null, To}
use Rattle.jg_words.specs.declared.reference.Kind.{Kind}
use Rattle.jg_words.specs.declared.reference.Kind.TheVariants.{Local, Global, Weak}
use Rattle.jg_words.proofs.Common.{and_second}
use Rattle.jg_policy.specs.Stated.{StatedSetup}
use Rattle.jg_table_monitors.specs.declared.entering.Entering.TheVariants.{Entered}
use Rattle.jg_table_monitors.specs.History.{entering, owner}
use Rattle.jg_table_monitors.specs.Standing.{AllAllowed}
use Rattle.jg_table_monitors.proofs.Callers.{one_owner as one_owner_of, owner_has}
use Rattle.jg_rules.specs.Parts.{Parts}
use Rattle.jg_rules.specs.Names.{is_here}
use Rattle.jg_laws.proofs.Owners.{alone}
use Rattle.jg_core.specs.declared.fact.Fact.{Fact}
use Rattle.jg_core.specs.declared.fact.Fact.TheVariants.{Begin, End, Enter, Leave, Push, Pop, Ensure, Raise, Calm, Hand, Lost, Lend, Back, Own, Free, Meet, Gone, Link, Unlink, Warn, Checked}
use Rattle.jg_core.specs.Facts.{on, handed_on, kept_on, lost_on, parts_of, can_be, is_attached, is_free_for, is_owner, History}
use Rattle.jg_core.specs.Laws.{OneOwner}

pub owned_by : (found : Option ℕ) (t : ℕ) → is_owner t found ≡ true → found ≡ Some t
owned_by None t is = absurd cc
owned_by (Some u) t is = ap Some (eqb-true u t is)

-- a monitor that is nobody else's isn't busy
not_busy : (found : Option ℕ) (t : ℕ) → is_free_for t found ≡ true → entering t found ≡ Entered
not_busy None t is = refl
not_busy (Some u) t is = rw is refl

handed_allowed : (t : ℕ) (kind : Kind) (o : ℕ) (p : Parts) → AllAllowed p.monitors → AllAllowed (handed_on t kind o p).monitors
handed_allowed t Local o p old = old
handed_allowed t Global o p old = old
handed_allowed t Weak o p old = old

kept_allowed : (t : ℕ) (kept : Option ObjId) (p : Parts) → AllAllowed p.monitors → AllAllowed (kept_on t kept p).monitors
kept_allowed t None p old = old
kept_allowed t (Some o) p old = old

lost_allowed : (r : Ref) (p : Parts) → AllAllowed p.monitors → AllAllowed (lost_on r p).monitors
lost_allowed Null p old = old
lost_allowed (To Local maker n) p old = old
lost_allowed (To Global maker n) p old = old
lost_allowed (To Weak maker n) p old = old

allowed : (s : StatedSetup) (p : Parts) (x : Fact) → can_be s p x ≡ true → AllAllowed p.monitors → AllAllowed (on x p).monitors
allowed s p (End t) can old = (old, tt)
allowed s p (Own t o) can old =
    let here = and_second (is_attached p t.0) (is_here s p o.0 && is_free_for t.0 (owner p.monitors o.0)) can in (
      old,
      alone p.monitors t.0 o.0 (owner p.monitors o.0) refl old
          (not_busy (owner p.monitors o.0) t.0 (and_second (is_here s p o.0) (is_free_for t.0 (owner p.monitors o.0)) here)),
    )
allowed s p (Free t o) can old = (old, owner_has p.monitors t.0 o.0 (owned_by (owner p.monitors o.0) t.0 can))
allowed s p (Hand t kind o) can old = handed_allowed t.0 kind o.0 p old
allowed s p (Leave t kept) can old = kept_allowed t.0 kept _ old
allowed s p (Pop t kept) can old = kept_allowed t.0 kept _ old
allowed s p (Lost r) can old = lost_allowed r p old
allowed s p (Begin t) can old = old
allowed s p (Enter t) can old = old
allowed s p (Push t room) can old = old
allowed s p (Ensure t room) can old = old
allowed s p (Raise t o) can old = old
allowed s p (Calm t) can old = old
allowed s p (Lend t family o via n) can old = old
allowed s p (Back b) can old = old
allowed s p (Meet class n) can old = old
allowed s p (Gone o) can old = old
allowed s p (Link class native) can old = old
allowed s p (Unlink class) can old = old
allowed s p (Warn home) can old = old
allowed s p (Checked check) can old = old

pub all_allowed : (s : StatedSetup) (w : List Fact) → History s w → AllAllowed (parts_of w).monitors
all_allowed s [] could = tt
all_allowed s (x ∷ w) could = allowed s (parts_of w) x could.0 (all_allowed s w could.1)

pub one_owner : OneOwner
one_owner s w t u o could one two = one_owner_of (parts_of w).monitors t u o (all_allowed s w could) one two
