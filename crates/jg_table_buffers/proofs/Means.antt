-- What the definitions mean, by one case for each event.
use Rattle.std.proofs.Common.{◌≡◌, ℕ, ◌<◌, Bool, true, false, List, [], ◌∷◌, ◌++◌, Option, Some, None, refl, ◌∙◌, ap, sym, subst, arith, eqb-true}
use Rattle.std.specs.Prelude.{◌==◌, ◌&&◌, ◌||◌, ℤ, pos, if◌then◌else◌, slice_index_or}
use Rattle.std.specs.List.{list_any}
use Rattle.std.proofs.lemmas.Bool.Decides.{nat_tests}
use Rattle.std.proofs.lemmas.Option.{same_Some}
use Rattle.std.proofs.lemmas.Bool.{eq-eqb, or_parts}
use Rattle.jg_words.specs.declared.reference.Ref.{Ref}
use Rattle.jg_words.specs.declared.reference.Ref.TheVariants.{Null, To}
use Rattle.jg_words.specs.declared.reference.Kind.TheVariants.{Local, Global, Weak}
use Rattle.jg_words.proofs.Common.{eqb_self}
use Rattle.jg_table_buffers.specs.History.{Buffer, Event, Opened, Wrote, Closed, ReleaseAll, is_same, is_critical, opened, content, in_critical, pinned_by, pins_object, same_ref}
use Rattle.jg_table_buffers.specs.Laws.{about, OpenSince, changes, CriticalBuffer, IsOpenedBelow, NumbersRise, opens}
use Rattle.jg_table_buffers.specs.Rows.{Rows, IsAbove}
use Rattle.jg_table_buffers.specs.Standing.{Stands}
use Rattle.jg_table_buffers.proofs.Counts.{same_ref_is}
use Rattle.jg_table_buffers.proofs.Lookups.{still_open, still_lent}
use Rattle.jg_table_buffers.proofs.Numbers.{above_law}
use Rattle.jg_table_buffers.proofs.Pins.{OpenPin, pins_law, pins_have}
use Rattle.jg_table_buffers.proofs.Steps.{row_law, row_now, same_self}

-- ---- open

same_later : (ev : Event) (e : List Event) (m n : ℕ) (b : Buffer) → about b ev ≡ false → OpenSince e m n b → OpenSince (ev ∷ e) m n b
same_later ev e m n b other since = record {
  later = ev ∷ since.later;
  before = since.before;
  made = ap (λ l. ev ∷ l) since.made;
  own = since.own;
  kept = rw (other, since.kept) refl;
}

own_name : (m n k i : ℕ) (b : Buffer) → is_same m n b.maker b.n ≡ true → is_same b.maker b.n k i ≡ is_same m n k i
own_name m n k i b own = grind (arith, nat_tests)

own_maker : (m n : ℕ) (b : Buffer) → is_same m n b.maker b.n ≡ true → b.maker ≡ m
own_maker m n b own = grind (arith, nat_tests)

opened_since : (e : List Event) (m n : ℕ) (at b : Buffer) (c : Bool) → is_same m n at.maker at.n ≡ c → (opened e m n ≡ Some b → OpenSince e m n b)
    → (if c then Some at else opened e m n) ≡ Some b
    → OpenSince (Opened at ∷ e) m n b
opened_since e m n at b true is older now =
    let same : at ≡ b = same_Some at b now in
    let P : Buffer → Type 0 = λ x. OpenSince (Opened at ∷ e) m n x in
    subst P same (record { later = []; before = e; made = refl; own = is; kept = refl })
opened_since e m n at b false is older now =
    let since = older now in
    same_later (Opened at) e m n b (own_name m n at.maker at.n b since.own ∙ is) since

closed_since : (e : List Event) (m n k i : ℕ) (b : Buffer) (c : Bool) → is_same m n k i ≡ c → (opened e m n ≡ Some b → OpenSince e m n b)
    → if◌then◌else◌ {A = Option Buffer} c None (opened e m n) ≡ Some b → OpenSince (Closed k i ∷ e) m n b
closed_since e m n k i b true is older now = cc
closed_since e m n k i b false is older now =
    let since = older now in
    same_later (Closed k i) e m n b (own_name m n k i b since.own ∙ is) since

pub open_since : (e : List Event) (m n : ℕ) (b : Buffer) → opened e m n ≡ Some b → OpenSince e m n b
open_since [] m n b now = cc
open_since (Opened at ∷ e) m n b now = opened_since e m n at b (is_same m n at.maker at.n) refl (open_since e m n b) now
open_since (Wrote k i j v ∷ e) m n b now = same_later (Wrote k i j v) e m n b refl (open_since e m n b now)
open_since (Closed k i ∷ e) m n b now = closed_since e m n k i b (is_same m n k i) refl (open_since e m n b) now
open_since (ReleaseAll k ∷ e) m n b now =
    let left = still_lent (opened e m n) (k == m) b now in
    let since = open_since e m n b left.0 in
    same_later (ReleaseAll k) e m n b (ap (λ o. (k == o) && is_critical b.family) (own_maker m n b since.own) ∙ left.1) since

left_open : (b : Buffer) (c critical : Bool) → (c && critical) ≡ false
    → (if c then if◌then◌else◌ {A = Option Buffer} critical None (Some b) else Some b) ≡ Some b
left_open b true true some = cc
left_open b true false none = refl
left_open b false critical none = refl

-- an event that isn't about it leaves it open
open_left : (ev : Event) (e : List Event) (m n : ℕ) (b : Buffer) → is_same m n b.maker b.n ≡ true → about b ev ≡ false → opened e m n ≡ Some b
    → opened (ev ∷ e) m n ≡ Some b
open_left (Opened at) e m n b own other was = rw (sym (own_name m n at.maker at.n b own) ∙ other) was
open_left (Wrote k i j v) e m n b own other was = was
open_left (Closed k i) e m n b own other was = rw (sym (own_name m n k i b own) ∙ other) was
open_left (ReleaseAll k) e m n b own other was =
    rw was (left_open b (k == m) (is_critical b.family) (sym (ap (λ o. (k == o) && is_critical b.family) (own_maker m n b own)) ∙ other))

open_kept : (later before : List Event) (m n : ℕ) (b : Buffer) → is_same m n b.maker b.n ≡ true → list_any (about b) later ≡ false
    → opened (later ++ Opened b ∷ before) m n ≡ Some b
open_kept [] before m n b own kept = rw own refl
open_kept (ev ∷ later) before m n b own kept =
    let parts = or_parts (about b ev) (list_any (about b) later) kept in
    open_left ev (later ++ Opened b ∷ before) m n b own parts.0 (open_kept later before m n b own parts.1)

pub since_open : (e : List Event) (m n : ℕ) (b : Buffer) → OpenSince e m n b → opened e m n ≡ Some b
since_open e m n b since = rw since.made (open_kept since.later since.before m n b since.own since.kept)

-- ---- content

content_other : (ev : Event) (e : List Event) (m n i : ℕ) → changes m n i ev ≡ false → content (ev ∷ e) m n i ≡ content e m n i
content_other (Opened at) e m n i other = rw other refl
content_other (Wrote k j p v) e m n i other = rw other refl
content_other (Closed k j) e m n i other = refl
content_other (ReleaseAll k) e m n i other = refl

pub written_means : (later before : List Event) (m n i : ℕ) (v : ℤ) → list_any (changes m n i) later ≡ false
    → content (later ++ Wrote m n i v ∷ before) m n i ≡ v
written_means [] before m n i v kept = rw (same_self m n, eqb_self i) refl
written_means (ev ∷ later) before m n i v kept =
    let parts = or_parts (changes m n i ev) (list_any (changes m n i) later) kept in
    content_other ev (later ++ Wrote m n i v ∷ before) m n i parts.0 ∙ written_means later before m n i v parts.1

pub unwritten_means : (later before : List Event) (b : Buffer) (i : ℕ) → list_any (changes b.maker b.n i) later ≡ false
    → content (later ++ Opened b ∷ before) b.maker b.n i ≡ slice_index_or b.items i (pos 0)
unwritten_means [] before b i kept = rw (same_self b.maker b.n) refl
unwritten_means (ev ∷ later) before b i kept =
    let parts = or_parts (changes b.maker b.n i ev) (list_any (changes b.maker b.n i) later) kept in
    content_other ev (later ++ Opened b ∷ before) b.maker b.n i parts.0 ∙ unwritten_means later before b i parts.1

-- ---- critical

from_pin : (P : Buffer → Bool) (Q : Buffer → Type 0) (e : List Event) → ((b : Buffer) → P b ≡ true → Q b) → OpenPin P e → CriticalBuffer e Q
from_pin P Q e says pin =
    record { maker = pin.maker; n = pin.n; buffer = pin.buffer; is_open = pin.is_open; critical = pin.critical; holds = says pin.buffer pin.passes }

to_pin : (P : Buffer → Bool) (Q : Buffer → Type 0) (e : List Event) → ((b : Buffer) → Q b → P b ≡ true) → CriticalBuffer e Q → OpenPin P e
to_pin P Q e says pin = record {
  maker = pin.maker;
  n = pin.n;
  buffer = pin.buffer;
  is_open = pin.is_open;
  critical = pin.critical;
  passes =
      says pin.buffer pin.holds;
}

pub ref_self : (r : Ref) → same_ref r r ≡ true
ref_self Null = refl
ref_self (To Local m n) = grind (arith, nat_tests)
ref_self (To Global m n) = grind (arith, nat_tests)
ref_self (To Weak m n) = grind (arith, nat_tests)

pub critical_there : (e : List Event) (t : ℕ) → in_critical e t ≡ true → CriticalBuffer e (λ b. b.maker ≡ t)
critical_there e t is = from_pin (λ b. b.maker == t) (λ b. b.maker ≡ t) e (λ b yes. eqb-true b.maker t yes) (pins_law (λ b. b.maker == t) e is)

pub critical_back : (e : List Event) (t : ℕ) → CriticalBuffer e (λ b. b.maker ≡ t) → in_critical e t ≡ true
critical_back e t pin = pins_have (λ b. b.maker == t) e (to_pin (λ b. b.maker == t) (λ b. b.maker ≡ t) e (λ b is. eq-eqb b.maker t is) pin)

pub pinned_there : (e : List Event) (r : Ref) → pinned_by e r ≡ true → CriticalBuffer e (λ b. b.via ≡ r)
pinned_there e r is = from_pin (λ b. same_ref b.via r) (λ b. b.via ≡ r) e (λ b passes. same_ref_is b.via r passes) (pins_law (λ b. same_ref b.via r) e is)

pub pinned_back : (e : List Event) (r : Ref) → CriticalBuffer e (λ b. b.via ≡ r) → pinned_by e r ≡ true
pinned_back e r pin = pins_have (λ b. same_ref b.via r) e
    (to_pin (λ b. same_ref b.via r) (λ b. b.via ≡ r) e (λ b is. ap (λ q. same_ref q r) is ∙ ref_self r) pin)

pub object_there : (e : List Event) (o : ℕ) → pins_object e o ≡ true → CriticalBuffer e (λ b. b.object ≡ o)
object_there e o is = from_pin (λ b. b.object == o) (λ b. b.object ≡ o) e (λ b passes. eqb-true b.object o passes) (pins_law (λ b. b.object == o) e is)

pub object_back : (e : List Event) (o : ℕ) → CriticalBuffer e (λ b. b.object ≡ o) → pins_object e o ≡ true
object_back e o pin = pins_have (λ b. b.object == o) e (to_pin (λ b. b.object == o) (λ b. b.object ≡ o) e (λ b is. eq-eqb b.object o is) pin)

-- ---- numbers

-- a number that was given isn't above all that were given
given_below : (e : List Event) (m n k i : ℕ) → list_any (opens m n) e ≡ true → IsOpenedBelow k i e → is_same m n k i ≡ false
given_below [] m n k i made below = cc
given_below (Opened b ∷ e) m n k i made below =
    let older = given_below e m n k i in
    let here = below.0 in
    grind (arith, nat_tests, older, here, below.1)
given_below (Wrote j l p v ∷ e) m n k i made below = given_below e m n k i made below
given_below (Closed j l ∷ e) m n k i made below = given_below e m n k i made below
given_below (ReleaseAll j ∷ e) m n k i made below = given_below e m n k i made below

was_given : (later e : List Event) (m n : ℕ) → list_any (opens m n) e ≡ true → list_any (opens m n) (later ++ e) ≡ true
was_given [] e m n made = made
was_given (ev ∷ later) e m n made = rw (was_given later e m n made) (elim (opens m n ev) as (λ b. (b || true) ≡ true) [ true ↦ refl | false ↦ refl ])

pub stays_closed : (later e : List Event) (m n : ℕ) → NumbersRise (later ++ e) → list_any (opens m n) e ≡ true → opened e m n ≡ None
    → opened (later ++ e) m n ≡ None
stays_closed [] e m n rise made none = none
stays_closed (Opened b ∷ later) e m n rise made none =
    rw (given_below (later ++ e) m n b.maker b.n (was_given later e m n made) rise.0) (stays_closed later e m n rise.1 made none)
stays_closed (Wrote k i j v ∷ later) e m n rise made none = stays_closed later e m n rise made none
stays_closed (Closed k i ∷ later) e m n rise made none =
    rw (stays_closed later e m n rise made none)
    (elim (is_same m n k i) as (λ b. if◌then◌else◌ {A = Option Buffer} b None None ≡ None) [ true ↦ refl | false ↦ refl ])
stays_closed (ReleaseAll k ∷ later) e m n rise made none =
    rw (stays_closed later e m n rise made none) (elim (k == m) as (λ b. if◌then◌else◌ {A = Option Buffer} b None None ≡ None) [ true ↦ refl | false ↦ refl ])

open_below : (e : List Event) (k i n : ℕ) (b : Buffer) → opened e k i ≡ Some b → IsOpenedBelow k n e → i < n
open_below [] k i n b now below = cc
open_below (Opened at ∷ e) k i n b now below =
    let older = open_below e k i n b in
    let here = below.0 in
    let rest = below.1 in
    grind (arith, nat_tests, older, here, rest)
open_below (Wrote j l p v ∷ e) k i n b now below = open_below e k i n b now below
open_below (Closed j l ∷ e) k i n b now below = open_below e k i n b (still_open (opened e k i) (is_same k i j l) b now) below
open_below (ReleaseAll j ∷ e) k i n b now below = open_below e k i n b (still_lent (opened e k i) (j == k) b now).0 below

was_open : (e : List Event) (m n : ℕ) (found : Option Buffer) (b : Buffer) → opened e m n ≡ found → row_now e m n found ≡ Some b
    → (x : Buffer) × (opened e m n ≡ Some x)
was_open e m n None b is now = cc
was_open e m n (Some x) b is now = (x, is)

pub above_all : (rows : Rows) (e : List Event) (m n : ℕ) → Stands rows e → IsOpenedBelow m n e → IsAbove m n rows
above_all rows e m n stands below = above_law rows m n
    (λ j b found.
    let now = was_open e m j (opened e m j) b refl (sym (row_law rows e m j stands) ∙ found) in
    open_below e m j n now.0 now.1 below)
