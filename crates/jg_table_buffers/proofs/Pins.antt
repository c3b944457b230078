-- The open critical buffers and the rows of the pinned ones.
use Rattle.std.proofs.Common.{◌≡◌, ℕ, Bool, true, false, List, [], ◌∷◌, ◌++◌, Option, Some, None, refl, ◌∙◌, ap, sym, subst, arith, inl, inr, eqb-true}
use Rattle.std.specs.Prelude.{ℤ, ◌==◌, ◌||◌, if◌then◌else◌, IfSome, filter, map, find}
use Rattle.std.specs.List.{list_any, filter_map, cons_option}
use Rattle.std.specs.Option.{option_map, option_to_list}
use Rattle.std.specs.Map.{lookup}
use Rattle.std.proofs.lemmas.Bool.Decides.{nat_tests}
use Rattle.std.proofs.lemmas.Option.{same_Some}
use Rattle.std.specs.Cmp.{both_ways}
use Rattle.std.proofs.lemmas.Bool.{or_right}
use Rattle.jg_words.proofs.Common.{clash}
use Rattle.jg_table_buffers.specs.declared.copied.Copied.{Copied}
use Rattle.jg_table_buffers.specs.declared.pinned.Pinned.{Pinned}
use Rattle.jg_table_buffers.specs.History.{Buffer, Event, Opened, Wrote, Closed, ReleaseAll, is_same, is_critical, opened, critical_only, pin_of, pins, pins_object, IsPinOf}
use Rattle.jg_lists.specs.ByMaker.{same_name}
use Rattle.jg_table_buffers.specs.Rows.{is_buffer}
use Rattle.jg_table_buffers.specs.Seen.{copy_seen, pin_seen, key_name}
use Rattle.jg_table_buffers.specs.Standing.{rows_of, Stands}
use Rattle.jg_lists.proofs.Found.{found_in, is_found}
use Rattle.jg_lists.proofs.Lists.{Member, any_member, any_of_filter, member_filter, list_any-map}
use Rattle.jg_table_buffers.proofs.Maps.{found_row}
use Rattle.jg_table_buffers.proofs.Steps.{tells}
use Rattle.jg_table_buffers.proofs.Lookups.{IsBlind, copies_free, pins_critical, still_open, still_lent}

-- an open critical buffer that passes
pub record OpenPin (P : Buffer → Bool) (e : List Event) : Type 0 where
  pub maker : ℕ
  pub n : ℕ
  pub buffer : Buffer
  pub is_open : opened e maker n ≡ Some buffer
  pub critical : is_critical buffer.family ≡ true
  pub passes : P buffer ≡ true

-- the buffer is an open critical one that passes
record PinAt (P : Buffer → Bool) (e : List Event) (m n : ℕ) : Type 0 where
  buffer : Buffer
  is_open : opened e m n ≡ Some buffer
  critical : is_critical buffer.family ≡ true
  passes : P buffer ≡ true

passing : (P : Buffer → Bool) (all : List Event) (m n : ℕ) (b : Buffer) (rest : Bool) (p : Bool) → P b ≡ p → opened all m n ≡ Some b
    → is_critical b.family ≡ true → (rest ≡ true → OpenPin P all)
    → (p || rest) ≡ true → OpenPin P all
passing P all m n b rest true is there critical later some = record { maker = m; n = n; buffer = b; is_open = there; critical = critical; passes = is }
passing P all m n b rest false is there critical later some = later some

if_critical : (P : Buffer → Bool) (all : List Event) (m n : ℕ) (b : Buffer) (rest : List Buffer) (c : Bool) → is_critical b.family ≡ c → opened all m n ≡ Some b
    → (list_any P rest ≡ true → OpenPin P all)
    → list_any P (cons_option (if c then Some b else None) rest) ≡ true → OpenPin P all
if_critical P all m n b rest true is there later some = passing P all m n b (list_any P rest) (P b) refl there is later some
if_critical P all m n b rest false is there later some = later some

of_found : (P : Buffer → Bool) (all : List Event) (m n : ℕ) (found : Option Buffer) (rest : List Buffer) → opened all m n ≡ found
    → (list_any P rest ≡ true → OpenPin P all)
    → list_any P (cons_option (critical_only found) rest) ≡ true → OpenPin P all
of_found P all m n None rest is later some = later some
of_found P all m n (Some b) rest is later some = if_critical P all m n b rest (is_critical b.family) refl is later some

has_pin : (P : Buffer → Bool) (all e : List Event) → list_any P (filter_map (pin_of all) e) ≡ true → OpenPin P all
has_pin P all [] some = cc
has_pin P all (Opened at ∷ e) some = of_found P all at.maker at.n (opened all at.maker at.n) (filter_map (pin_of all) e) refl (has_pin P all e) some
has_pin P all (Wrote k i j v ∷ e) some = has_pin P all e some
has_pin P all (Closed k i ∷ e) some = has_pin P all e some
has_pin P all (ReleaseAll k ∷ e) some = has_pin P all e some

any_more : (P : Buffer → Bool) (found : Option Buffer) (rest : List Buffer) → list_any P rest ≡ true → list_any P (cons_option found rest) ≡ true
any_more P None rest is = is
any_more P (Some b) rest is = or_right (P b) (list_any P rest) is

pin_here : (P : Buffer → Bool) (all e : List Event) (m n : ℕ) (at b : Buffer) (c : Bool) → is_same m n at.maker at.n ≡ c → opened all m n ≡ Some b
    → is_critical b.family ≡ true → P b ≡ true
    → (opened e m n ≡ Some b → list_any P (filter_map (pin_of all) e) ≡ true) → (if c then Some at else opened e m n) ≡ Some b
    → list_any P (cons_option (critical_only (opened all at.maker at.n)) (filter_map (pin_of all) e)) ≡ true
pin_here P all e m n at b true is now critical passes older here =
    let maker : at.maker ≡ m = grind (arith, nat_tests) in
    let number : at.n ≡ n = grind (arith, nat_tests) in
    rw (maker, number, now, critical, passes) refl
pin_here P all e m n at b false is now critical passes older here =
    any_more P (critical_only (opened all at.maker at.n)) (filter_map (pin_of all) e) (older here)

was_pin : (P : Buffer → Bool) (all e : List Event) (m n : ℕ) (b : Buffer) → opened all m n ≡ Some b → is_critical b.family ≡ true → P b ≡ true
    → opened e m n ≡ Some b
    → list_any P (filter_map (pin_of all) e) ≡ true
was_pin P all [] m n b now critical passes here = cc
was_pin P all (Opened at ∷ e) m n b now critical passes here =
    pin_here P all e m n at b (is_same m n at.maker at.n) refl now critical passes (was_pin P all e m n b now critical passes) here
was_pin P all (Wrote k i j v ∷ e) m n b now critical passes here = was_pin P all e m n b now critical passes here
was_pin P all (Closed k i ∷ e) m n b now critical passes here = was_pin P all e m n b now critical passes (still_open (opened e m n) (is_same m n k i) b here)
was_pin P all (ReleaseAll k ∷ e) m n b now critical passes here = was_pin P all e m n b now critical passes (still_lent (opened e m n) (k == m) b here).0

-- a test passes some open critical buffer
pub pins_law : (P : Buffer → Bool) (e : List Event) → list_any P (pins e) ≡ true → OpenPin P e
pins_law P e some = has_pin P e e some

pub pins_have : (P : Buffer → Bool) (e : List Event) → OpenPin P e → list_any P (pins e) ≡ true
pins_have P e pin = was_pin P e e pin.maker pin.n pin.buffer pin.is_open pin.critical pin.passes pin.is_open

-- ---- rows

abbrev head_or : Buffer → List Buffer → Option Buffer
head_or d [] = Some d
head_or d (b ∷ bs) = Some b

pub head_is : (a b : Buffer) (rest : List Buffer) → a ∷ rest ≡ b ∷ [] → a ≡ b
head_is a b rest is = cc

the_pin : (copy pin : Option Buffer) (b : Buffer) → option_to_list copy ++ option_to_list pin ≡ b ∷ []
    → ((x : Buffer) → copy ≡ Some x → is_critical x.family ≡ false) → is_critical b.family ≡ true → pin ≡ Some b
the_pin None None b is free critical = cc
the_pin None (Some p) b is free critical = ap (λ l. head_or p l) is
the_pin (Some q) pin b is free critical =
    let same : q ≡ b = head_is q b (option_to_list pin) is in
    let own : is_critical b.family ≡ false = ap (λ x. is_critical x.family) (sym same) ∙ free q refl in
    absurd (clash (is_critical b.family) critical own)

pub free_copy : {I : Type 0} (shows : I → List ℤ) (q : ℕ × ℕ) (found : Option (Copied I)) (x : Buffer) → option_map (λ w. copy_seen shows (q, w)) found ≡ Some x
    → is_critical x.family ≡ false
free_copy shows q None x is = cc
free_copy shows q (Some w) x is = ap (λ b. is_critical b.family) (sym (same_Some (copy_seen shows (q, w)) x is)) ∙ copies_free w.kind

critical_pin : (fs : List ((ℕ × ℕ) × Pinned)) (x : Buffer) → Member x (map pin_seen fs) → is_critical x.family ≡ true
critical_pin [] x there = absurd there
critical_pin (f ∷ fs) x (inl same) = ap (λ b. is_critical b.family) same ∙ pins_critical f.1.kind
critical_pin (f ∷ fs) x (inr later) = critical_pin fs x later

in_whole : {X : Type 0} (x : X) (xs ys : List X) → Member x ys → Member x (xs ++ ys)
in_whole x [] ys there = there
in_whole x (y ∷ xs) ys there = inr (in_whole x xs ys there)

of_row : (e : List Event) (m n : ℕ) (x : Buffer) (P : Buffer → Bool) (blind : IsBlind P) (found : Option Buffer) → opened e m n ≡ found
    → Member x (rows_of e m n found) → is_critical x.family ≡ true
    → P x ≡ true → PinAt P e m n
of_row e m n x P blind None is there critical passes = absurd there
of_row e m n x P blind (Some b) is (inr never) critical passes = absurd never
of_row e m n x P blind (Some b) is (inl same) critical passes = record {
  buffer = b;
  is_open = is;
  critical = ap (λ y. is_critical y.family) (sym same) ∙ critical;
  passes = sym (blind b _) ∙ (ap P (sym same) ∙ passes);
}

-- a row of a pinned buffer that passes
row_pinned : {I : Type 0} (shows : I → List ℤ) (P : Buffer → Bool) (blind : IsBlind P) (es : List ((ℕ × ℕ) × Copied I)) (fs : List ((ℕ × ℕ) × Pinned))
    (e : List Event)
    → Stands (record { lent = map (copy_seen shows) es ++ map pin_seen fs }) e → (x : Buffer) → Member x (map pin_seen fs) → P x ≡ true → PinAt P e x.maker x.n
row_pinned shows P blind es fs e stands x there passes =
    let mine : is_buffer x.maker x.n x ≡ true = grind (arith, nat_tests) in
    let kept = member_filter (is_buffer x.maker x.n) x (map (copy_seen shows) es ++ map pin_seen fs)
    (in_whole x (map (copy_seen shows) es) (map pin_seen fs) there) mine in
    let Q : List Buffer → Type 0 = λ l. Member x l in
    of_row e x.maker x.n x P blind (opened e x.maker x.n) refl (subst Q (stands x.maker x.n) kept) (critical_pin fs x there) passes

row_pins : {I : Type 0} (shows : I → List ℤ) (P : Buffer → Bool) (blind : IsBlind P) (es : List ((ℕ × ℕ) × Copied I)) (fs : List ((ℕ × ℕ) × Pinned))
    (e : List Event)
    → Stands (record { lent = map (copy_seen shows) es ++ map pin_seen fs }) e
    → list_any P (map pin_seen fs) ≡ true → list_any P (pins e) ≡ true
row_pins shows P blind es fs e stands some =
    let found = any_member P (map pin_seen fs) some in
    let pin = row_pinned shows P blind es fs e stands found.0 found.1.0 found.1.1 in
    pins_have P e (record { maker = found.0.maker; n = found.0.n; buffer = pin.buffer; is_open = pin.is_open; critical = pin.critical; passes = pin.passes })

pinned_row : {I : Type 0} (shows : I → List ℤ) (P : Buffer → Bool) (blind : IsBlind P) (es : List ((ℕ × ℕ) × Copied I)) (fs : List ((ℕ × ℕ) × Pinned))
    (e : List Event)
    → Stands (record { lent = map (copy_seen shows) es ++ map pin_seen fs }) e
    → list_any P (pins e) ≡ true → list_any P (map pin_seen fs) ≡ true
pinned_row shows P blind es fs e stands some =
    let pin = pins_law P e some in
    let told = tells (map (copy_seen shows) es) (map pin_seen fs) e pin.maker pin.n stands in
    let row : Buffer = record pin.buffer { items = [] } in
    let rows : rows_of e pin.maker pin.n (opened e pin.maker pin.n) ≡ row ∷ [] = rw (pin.is_open, pin.critical) refl in
    let free = λ (x : Buffer) (is : find (is_buffer pin.maker pin.n) (map (copy_seen shows) es) ≡ Some x). free_copy shows (pin.maker, pin.n)
    (lookup (same_name (pin.maker, pin.n)) es) x
    (sym (found_row (copy_seen shows) (λ i j y. refl) pin.maker pin.n es) ∙ is) in
    let found = the_pin (find (is_buffer pin.maker pin.n) (map (copy_seen shows) es)) (find (is_buffer pin.maker pin.n) (map pin_seen fs)) row
    (told.agrees ∙ rows) free pin.critical in
    let kept : filter (is_buffer pin.maker pin.n) (map pin_seen fs) ≡ row ∷ [] = told.pin ∙ ap option_to_list found in
    let passes : P row ≡ true = blind pin.buffer [] ∙ pin.passes in
    any_of_filter P (is_buffer pin.maker pin.n) (map pin_seen fs) (rw (kept, passes) refl)

-- a test of the pinned rows and of the open critical buffers
pub pin_law : {I : Type 0} (shows : I → List ℤ) (P : Buffer → Bool) (blind : IsBlind P) (es : List ((ℕ × ℕ) × Copied I)) (fs : List ((ℕ × ℕ) × Pinned))
    (e : List Event)
    → Stands (record { lent = map (copy_seen shows) es ++ map pin_seen fs }) e
    → list_any (λ f. P (pin_seen f)) fs ≡ list_any P (pins e)
pin_law shows P blind es fs e stands =
    list_any-map pin_seen (λ f. P (pin_seen f)) P (λ f. refl) fs
    ∙ both_ways (list_any P (map pin_seen fs)) (list_any P (pins e)) (row_pins shows P blind es fs e stands) (pinned_row shows P blind es fs e stands)

-- a pinned buffer of the object
pub object_law : {I : Type 0} (shows : I → List ℤ) (o : ℕ) (es : List ((ℕ × ℕ) × Copied I)) (fs : List ((ℕ × ℕ) × Pinned)) (e : List Event)
    → Stands (record { lent = map (copy_seen shows) es ++ map pin_seen fs }) e
    → list_any (λ f. f.1.object == o) fs ≡ pins_object e o
object_law shows o es fs e stands = pin_law shows (λ b. b.object == o) (λ b items. refl) es fs e stands

-- the buffer that is found is an open pinned one of the object
pub named_law : {I : Type 0} (shows : I → List ℤ) (o : ℕ) (es : List ((ℕ × ℕ) × Copied I)) (fs : List ((ℕ × ℕ) × Pinned)) (e : List Event)
    → Stands (record { lent = map (copy_seen shows) es ++ map pin_seen fs }) e
    → IfSome (option_map (λ (f : (ℕ × ℕ) × Pinned). f.0) (find (λ f. f.1.object == o) fs)) (λ name. IsPinOf e o (key_name name))
named_law shows o es fs e stands =
    let P : Option (ℕ × ℕ) → Type 0 = λ found. IfSome found (λ name. IsPinOf e o (key_name name)) in
    subst P (sym (found_in {R = ℕ × ℕ} pin_seen (λ b. b.object == o) (λ (b : Buffer). (b.maker, b.n)) fs))
    (by (find (λ b. b.object == o) (map pin_seen fs)) (is_found (λ b. b.object == o) (map pin_seen fs)))
  where
    of_pin : (m n : ℕ) → PinAt (λ b. b.object == o) e m n → IsPinOf e o (key_name (m, n))
    of_pin m n pin = record { buffer = pin.buffer; is_open = pin.is_open; critical = pin.critical; of_object = eqb-true pin.buffer.object o pin.passes }

    by : (found : Option Buffer) → IfSome found (λ b. Member b (map pin_seen fs) × ((b.object == o) ≡ true))
        → IfSome (option_map {U = ℕ × ℕ} (λ (b : Buffer). (b.maker, b.n)) found) (λ name. IsPinOf e o (key_name name))
    by None all = tt
    by (Some b) all = of_pin b.maker b.n (row_pinned shows (λ b. b.object == o) (λ b items. refl) es fs e stands b all.0 all.1)
