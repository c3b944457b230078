-- Of which classes objects are, by what was met.
use Rattle.std.proofs.Common.{ℕ, List, [], ◌∷◌, Option, Some, None, arith}
use Rattle.std.specs.List.{AllByRecursion}
use Rattle.jg_words.specs.declared.object.ObjId.{ObjId}
use Rattle.jg_words.specs.declared.reference.Kind.{Kind}
use Rattle.jg_words.specs.declared.reference.Kind.TheVariants.{Local, Global, Weak}
use Rattle.jg_words.specs.declared.reference.Ref.{Ref}
use Rattle.jg_words.specs.declared.reference.Ref.TheVariants.{Null, To}
use Rattle.jg_policy.specs.Stated.{StatedSetup, class_count}
use Rattle.jg_table_heap.specs.Making.{Opaque}
use Rattle.jg_rules.specs.Parts.{Parts}
use Rattle.jg_rules.specs.Names.{is_here}
use Rattle.jg_laws.proofs.Here.{AreKnown, known_made}
use Rattle.jg_laws.proofs.HandedHere.{class_known}
use Rattle.jg_core.specs.declared.fact.Fact.{Fact}
use Rattle.jg_core.specs.declared.fact.Fact.TheVariants.{Begin, End, Enter, Leave, Push, Pop, Ensure, Raise, Calm, Hand, Lost, Lend, Back, Own, Free, Meet, Gone, Link, Unlink, Warn, Checked}
use Rattle.jg_core.specs.Facts.{on, handed_on, kept_on, lost_on, parts_of}
use Rattle.jg_core.specs.Laws.{ClassesStated, IsStatedMeet}

abbrev Known : ℕ → Parts → Type 0
Known k p = AreKnown k p.heap

handed_known : (k t : ℕ) (kind : Kind) (o : ℕ) (p : Parts) → Known k p → Known k (handed_on t kind o p)
handed_known k t Local o p old = old
handed_known k t Global o p old = old
handed_known k t Weak o p old = old

kept_known : (k t : ℕ) (kept : Option ObjId) (p : Parts) → Known k p → Known k (kept_on t kept p)
kept_known k t None p old = old
kept_known k t (Some o) p old = old

lost_known : (k : ℕ) (r : Ref) (p : Parts) → Known k p → Known k (lost_on r p)
lost_known k Null p old = old
lost_known k (To Local maker n) p old = old
lost_known k (To Global maker n) p old = old
lost_known k (To Weak maker n) p old = old

each_known : (s : StatedSetup) (p : Parts) (x : Fact) → IsStatedMeet s x → Known (class_count s) p → Known (class_count s) (on x p)
each_known s p (Begin t) stated old = old
each_known s p (End t) stated old = old
each_known s p (Enter t) stated old = old
each_known s p (Leave t kept) stated old = kept_known (class_count s) t.0 kept _ old
each_known s p (Push t room) stated old = old
each_known s p (Pop t kept) stated old = kept_known (class_count s) t.0 kept _ old
each_known s p (Ensure t room) stated old = old
each_known s p (Raise t o) stated old = old
each_known s p (Calm t) stated old = old
each_known s p (Hand t kind o) stated old = handed_known (class_count s) t.0 kind o.0 p old
each_known s p (Lost r) stated old = lost_known (class_count s) r p old
each_known s p (Lend t family o via n) stated old = old
each_known s p (Back b) stated old = old
each_known s p (Own t o) stated old = old
each_known s p (Free t o) stated old = old
each_known s p (Meet class n) stated old = known_made (class_count s) p.heap (Opaque class n) stated old
each_known s p (Gone o) stated old = old
each_known s p (Link class native) stated old = old
each_known s p (Unlink class) stated old = old
each_known s p (Warn home) stated old = old
each_known s p (Checked check) stated old = old

all_known : (s : StatedSetup) (w : List Fact) → AllByRecursion (IsStatedMeet s) w → Known (class_count s) (parts_of w)
all_known s [] stated = λ o. omega arith
all_known s (x ∷ w) stated = each_known s (parts_of w) x stated.0 (all_known s w stated.1)

pub classes_stated : ClassesStated
classes_stated s w stated o = class_known (is_here s (parts_of w) o) s _ (all_known s w stated o)
