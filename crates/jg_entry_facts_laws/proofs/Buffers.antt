-- Open buffers without their items: the same events keep them the same.
use Rattle.std.proofs.Common.{ℕ, ℤ, ◌≡◌, Bool, true, false, List, [], ◌∷◌, Option, Some, None, refl, ap, sym, subst, ◌∙◌, eqb-true, if◌then◌else◌}
use Rattle.std.specs.Prelude.{◌==◌}
use Rattle.std.specs.Option.{option_map}
use Rattle.std.specs.Cmp.{both_ways}
use Rattle.jg_words.specs.declared.reference.Ref.{Ref}
use Rattle.jg_words.proofs.Common.{clash, and_first}
use Rattle.jg_table_buffers.specs.declared.info.Info.{Info}
use Rattle.jg_table_buffers.specs.History.{Buffer, Event, Opened, Wrote, Closed, ReleaseAll, is_same, is_critical, opened, info_of, in_critical, pinned_by, pins_object, copied_only}
use Rattle.jg_table_buffers.specs.Laws.{CriticalBuffer}
use Rattle.jg_table_buffers.proofs.Callers.{critical_law, pinned_law, pinned_object_law}

-- the open buffers, but for their items
abbrev pub SameBuffers : List Event → List Event → Type 0
SameBuffers e f = (maker n : ℕ) → option_map info_of (opened e maker n) ≡ option_map info_of (opened f maker n)

opened_if : (same : Bool) (b c : Buffer) (x y : Option Buffer) → info_of b ≡ info_of c → option_map info_of x ≡ option_map info_of y
    → option_map info_of (if same then Some b else x) ≡ option_map info_of (if same then Some c else y)
opened_if true b c x y is old = ap Some is
opened_if false b c x y is old = old

-- a buffer of the same maker, number, object, family, reference and length is lent
pub opened_both : (e f : List Event) (b c : Buffer) → info_of b ≡ info_of c → b.n ≡ c.n → SameBuffers e f → SameBuffers (Opened b ∷ e) (Opened c ∷ f)
opened_both e f b c is number same maker n =
    let own : b.maker ≡ c.maker = ap (λ (i : Info). i.maker.0) is in
    let test : is_same maker n b.maker b.n ≡ is_same maker n c.maker c.n = rw (own, number) refl in
    ap (λ (own : Bool). option_map info_of (if own then Some b else opened e maker n)) test
    ∙ opened_if (is_same maker n c.maker c.n) b c (opened e maker n) (opened f maker n) is (same maker n)

closed_if : (b : Bool) (x y : Option Buffer) → option_map info_of x ≡ option_map info_of y
    → option_map info_of (if b then None else x) ≡ option_map info_of (if b then None else y)
closed_if true x y old = refl
closed_if false x y old = old

pub closed_both : (e f : List Event) (k i : ℕ) → SameBuffers e f → SameBuffers (Closed k i ∷ e) (Closed k i ∷ f)
closed_both e f k i same maker n = closed_if (is_same maker n k i) (opened e maker n) (opened f maker n) (same maker n)

-- what is written into a copy changes nothing else
pub wrote_one : (e f : List Event) (k i j : ℕ) (v : ℤ) → SameBuffers e f → SameBuffers e (Wrote k i j v ∷ f)
wrote_one e f k i j v same maker n = same maker n

-- ---- a session that ends outside of a critical region

own_if : (same : Bool) (m : ℕ) (c b : Buffer) (before : Option Buffer) → (same ≡ true → c.maker ≡ m) → (before ≡ Some b → b.maker ≡ m)
    → (if same then Some c else before) ≡ Some b → b.maker ≡ m
own_if true m c b before own old is = (let same : c ≡ b = cc in ap (λ (y : Buffer). y.maker) (sym same) ∙ own refl)
own_if false m c b before own old is = old is

ended_if : (same : Bool) (m : ℕ) (b : Buffer) (before : Option Buffer) → (before ≡ Some b → b.maker ≡ m) → (if same then None else before) ≡ Some b
    → b.maker ≡ m
ended_if true m b before old is = absurd cc
ended_if false m b before old is = old is

copied_if : (critical : Bool) (a b : Buffer) (m : ℕ) → (a ≡ b → b.maker ≡ m) → (if critical then None else Some a) ≡ Some b → b.maker ≡ m
copied_if true a b m old is = absurd cc
copied_if false a b m old is = old cc

copied_own : (m : ℕ) (b : Buffer) (before : Option Buffer) → (before ≡ Some b → b.maker ≡ m) → copied_only before ≡ Some b → b.maker ≡ m
copied_own m b None old is = absurd cc
copied_own m b (Some a) old is = copied_if (is_critical a.family) a b m (λ same. old (ap Some same)) is

released_if : (same : Bool) (m : ℕ) (b : Buffer) (before : Option Buffer) → (before ≡ Some b → b.maker ≡ m)
    → (if same then copied_only before else before) ≡ Some b → b.maker ≡ m
released_if true m b before old is = copied_own m b before old is
released_if false m b before old is = old is

-- an open buffer is its maker's
own_maker : (e : List Event) (m n : ℕ) (b : Buffer) → opened e m n ≡ Some b → b.maker ≡ m
own_maker [] m n b is = absurd cc
own_maker (Opened c ∷ e) m n b is =
    own_if (is_same m n c.maker c.n) m c b (opened e m n) (λ same. eqb-true c.maker m (and_first (c.maker == m) (c.n == n) same)) (own_maker e m n b) is
own_maker (Wrote k i j v ∷ e) m n b is = own_maker e m n b is
own_maker (Closed k i ∷ e) m n b is = ended_if (is_same m n k i) m b (opened e m n) (own_maker e m n b) is
own_maker (ReleaseAll k ∷ e) m n b is = released_if (k == m) m b (opened e m n) (own_maker e m n b) is

copies_only : (e : List Event) (m n : ℕ) (b : Buffer) (critical : Bool) → is_critical b.family ≡ critical
    → opened e m n ≡ Some b → in_critical e m ≡ false → (if critical then None else Some b) ≡ Some b
copies_only e m n b true is there none =
    absurd (clash (in_critical e m)
    ((critical_law e m).1 (record { maker = m; n = n; buffer = b; is_open = there; critical = is; holds = own_maker e m n b there })) none)
copies_only e m n b false is there none = refl

all_copies : (e : List Event) (m n : ℕ) (found : Option Buffer) → opened e m n ≡ found → in_critical e m ≡ false → copied_only found ≡ found
all_copies e m n None there none = refl
all_copies e m n (Some b) there none = copies_only e m n b (is_critical b.family) refl there none

release_if : (same : Bool) (e : List Event) (m n : ℕ) → (same ≡ true → in_critical e m ≡ false)
    → (if same then copied_only (opened e m n) else opened e m n) ≡ opened e m n
release_if true e m n none = all_copies e m n (opened e m n) refl (none refl)
release_if false e m n none = refl

pub released_none : (e f : List Event) (t : ℕ) → in_critical e t ≡ false → SameBuffers e f → SameBuffers (ReleaseAll t ∷ e) f
released_none e f t none same maker n =
    ap (option_map info_of) (release_if (t == maker) e maker n (λ is. subst (λ (m : ℕ). in_critical e m ≡ false) (eqb-true t maker is) none)) ∙ same maker n

-- ---- what is told of critical buffers

record Found (x : Option Buffer) (i : Info) : Type 0 where
  buffer : Buffer
  is : x ≡ Some buffer
  told : info_of buffer ≡ i

found : (x : Option Buffer) (i : Info) → option_map info_of x ≡ Some i → Found x i
found None i is = absurd cc
found (Some b) i is = record { buffer = b; is = refl; told = cc }

-- an open critical buffer on one side is one on the other, if what is asked of it is told by its look-up
carried : (e f : List Event) (H : Buffer → Type 0) → SameBuffers e f → ((b c : Buffer) → info_of c ≡ info_of b → H b → H c) → CriticalBuffer e H
    → CriticalBuffer f H
carried e f H same told c =
    let there = found (opened f c.maker c.n) (info_of c.buffer) (sym (same c.maker c.n) ∙ ap (option_map info_of) c.is_open) in
    record {
      maker = c.maker;
      n = c.n;
      buffer = there.buffer;
      is_open = there.is;
      critical = ap (λ (i : Info). is_critical i.family) there.told ∙ c.critical;
      holds = told c.buffer there.buffer there.told c.holds;
    }

turned : (e f : List Event) → SameBuffers e f → SameBuffers f e
turned e f same maker n = sym (same maker n)

pub same_critical : (e f : List Event) (t : ℕ) → SameBuffers e f → in_critical e t ≡ in_critical f t
same_critical e f t same =
    let H : Buffer → Type 0 = λ b. b.maker ≡ t in
    let told : (b c : Buffer) → info_of c ≡ info_of b → H b → H c = λ b c is own. ap (λ (i : Info). i.maker.0) is ∙ own in
    both_ways (in_critical e t) (in_critical f t)
    (λ is. (critical_law f t).1 (carried e f H same told ((critical_law e t).0 is)))
    (λ is. (critical_law e t).1 (carried f e H (turned e f same) told ((critical_law f t).0 is)))

pub same_pinned : (e f : List Event) (r : Ref) → SameBuffers e f → pinned_by e r ≡ pinned_by f r
same_pinned e f r same =
    let H : Buffer → Type 0 = λ b. b.via ≡ r in
    let told : (b c : Buffer) → info_of c ≡ info_of b → H b → H c = λ b c is own. ap (λ (i : Info). i.via) is ∙ own in
    both_ways (pinned_by e r) (pinned_by f r)
    (λ is. (pinned_law f r).1 (carried e f H same told ((pinned_law e r).0 is)))
    (λ is. (pinned_law e r).1 (carried f e H (turned e f same) told ((pinned_law f r).0 is)))

pub same_pins : (e f : List Event) (o : ℕ) → SameBuffers e f → pins_object e o ≡ pins_object f o
same_pins e f o same =
    let H : Buffer → Type 0 = λ b. b.object ≡ o in
    let told : (b c : Buffer) → info_of c ≡ info_of b → H b → H c = λ b c is own. ap (λ (i : Info). i.object.0) is ∙ own in
    both_ways (pins_object e o) (pins_object f o)
    (λ is. (pinned_object_law f o).1 (carried e f H same told ((pinned_object_law e o).0 is)))
    (λ is. (pinned_object_law e o).1 (carried f e H (turned e f same) told ((pinned_object_law f o).0 is)))
