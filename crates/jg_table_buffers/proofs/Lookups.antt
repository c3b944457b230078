-- What the look-ups answer where the rows stand.
use Rattle.std.proofs.Common.{◌≡◌, ℕ, ◌<◌, length, Bool, true, false, List, [], ◌++◌, Option, Some, None, refl, ◌∙◌, ap, sym, subst, arith, zero-add}
use Rattle.std.specs.Prelude.{◌&&◌, ℤ, pos, if◌then◌else◌, map, find, slice_index_or}
use Rattle.std.specs.List.{range_with_len}
use Rattle.std.specs.Option.{option_map}
use Rattle.std.specs.Map.{lookup}
use Rattle.std.proofs.lemmas.List.FromFn.{get_or-map-range_with_len}
use Rattle.std.proofs.lemmas.Option.{same_Some}
use Rattle.jg_table_buffers.specs.declared.copied.CopyKind.{CopyKind}
use Rattle.jg_table_buffers.specs.declared.copied.CopyKind.TheVariants.{Elements as ElementsKind, Chars as CharsKind, UtfChars as UtfCharsKind}
use Rattle.jg_table_buffers.specs.declared.copied.Copied.{Copied}
use Rattle.jg_table_buffers.specs.declared.pinned.PinKind.{PinKind}
use Rattle.jg_table_buffers.specs.declared.pinned.PinKind.TheVariants.{Array, String}
use Rattle.jg_table_buffers.specs.declared.pinned.Pinned.{Pinned}
use Rattle.jg_table_buffers.specs.History.{Buffer, Event, is_critical, copied_only, opened, content, items_of, contents, info_of}
use Rattle.jg_lists.specs.ByMaker.{same_name}
use Rattle.jg_table_buffers.specs.Rows.{Rows, is_buffer, row_of, copy_length, items_in, IsAbove}
use Rattle.jg_table_buffers.specs.Seen.{copy_seen, pin_seen, copy_family, pin_family}
use Rattle.jg_table_buffers.specs.Standing.{Stands}
use Rattle.jg_table_buffers.proofs.Maps.{found_row}
use Rattle.jg_table_buffers.proofs.Steps.{first_of, row_now, row_law, find-append}

-- a value is seen as its view
pub reopened : (a b : Rows) (e : List Event) → a ≡ b → Stands b e → Stands a e
reopened a b e is stands =
    let P : Rows → Type 0 = λ v. Stands v e in
    subst P (sym is) stands

-- the row of a buffer is what the look-ups find
pub row_is : {I : Type 0} (shows : I → List ℤ) (es : List ((ℕ × ℕ) × Copied I)) (fs : List ((ℕ × ℕ) × Pinned)) (rows : Rows) (m n : ℕ)
    → record { lent = map (copy_seen shows) es ++ map pin_seen fs } ≡ rows
    → row_of m n rows ≡ first_of (option_map (λ w. copy_seen shows ((m, n), w)) (lookup (same_name (m, n)) es))
    (option_map (λ w. pin_seen ((m, n), w)) (lookup (same_name (m, n)) fs))
row_is shows es fs rows m n is =
    ap (row_of m n) (sym is) ∙ (find-append (is_buffer m n) (map (copy_seen shows) es) (map pin_seen fs)
    ∙ (ap (λ c. first_of c (find (is_buffer m n) (map pin_seen fs))) (found_row (copy_seen shows) (λ i j e. refl) m n es)
    ∙ ap (first_of (option_map (λ w. copy_seen shows ((m, n), w)) (lookup (same_name (m, n)) es))) (found_row pin_seen (λ i j e. refl) m n fs)))

info_now : (e : List Event) (m n : ℕ) (found : Option Buffer) → option_map info_of (row_now e m n found) ≡ option_map info_of found
info_now e m n None = refl
info_now e m n (Some b) = refl

pub info_law : (rows : Rows) (e : List Event) (m n : ℕ) → Stands rows e → option_map info_of (row_of m n rows) ≡ option_map info_of (opened e m n)
info_law rows e m n stands = ap (option_map info_of) (row_law rows e m n stands) ∙ info_now e m n (opened e m n)

items_at : (e : List Event) (m n : ℕ) (found : Option Buffer) → items_in (row_now e m n found) ≡ items_of e m n found
items_at e m n None = refl
items_at e m n (Some b) = refl

pub contents_law : (rows : Rows) (e : List Event) (m n : ℕ) → Stands rows e → items_in (row_of m n rows) ≡ contents e m n
contents_law rows e m n stands = ap items_in (row_law rows e m n stands) ∙ items_at e m n (opened e m n)

content_by : (e : List Event) (m n i : ℕ) (b : Buffer) (critical : Bool) → i < (if critical then 0 else b.length)
    → slice_index_or (if critical then [] else map (content e m n) (range_with_len 0 b.length)) i (pos 0) ≡ content e m n i
content_by e m n i b true within = absurd (omega arith)
content_by e m n i b false within = get_or-map-range_with_len (content e m n) 0 b.length i i (pos 0) within (zero-add i)

content_at : (e : List Event) (m n i : ℕ) (found : Option Buffer) → i < copy_length (row_now e m n found)
    → slice_index_or (items_in (row_now e m n found)) i (pos 0) ≡ content e m n i
content_at e m n i None within = absurd (omega arith)
content_at e m n i (Some b) within = content_by e m n i b (is_critical b.family) within

pub content_law : (rows : Rows) (e : List Event) (m n i : ℕ) → Stands rows e → i < copy_length (row_of m n rows)
    → slice_index_or (items_in (row_of m n rows)) i (pos 0) ≡ content e m n i
content_law rows e m n i stands within =
    let row = row_law rows e m n stands in
    let P : Option Buffer → Type 0 = λ r. i < copy_length r in
    ap (λ r. slice_index_or (items_in r) i (pos 0)) row ∙ content_at e m n i (opened e m n) (subst P row within)

pub copies_free : (k : CopyKind) → is_critical (copy_family k) ≡ false
copies_free (ElementsKind p) = refl
copies_free CharsKind = refl
copies_free UtfCharsKind = refl

pub pins_critical : (k : PinKind) → is_critical (pin_family k) ≡ true
pins_critical Array = refl
pins_critical String = refl

long_by : {I : Type 0} (shows : I → List ℤ) (q : ℕ × ℕ) (copy : Option (Copied I)) (pin : Option Pinned)
    → copy_length (first_of (option_map (λ w. copy_seen shows (q, w)) copy) (option_map (λ w. pin_seen (q, w)) pin))
    ≡ length (items_in (first_of (option_map (λ w. copy_seen shows (q, w)) copy) (option_map (λ w. pin_seen (q, w)) pin)))
long_by shows q (Some w) pin = rw (copies_free w.kind) refl
long_by shows q None None = refl
long_by shows q None (Some w) = rw (pins_critical w.kind) refl

-- an open copy is as long as its items
pub long_law : {I : Type 0} (shows : I → List ℤ) (es : List ((ℕ × ℕ) × Copied I)) (fs : List ((ℕ × ℕ) × Pinned)) (rows : Rows) (m n : ℕ)
    → record { lent = map (copy_seen shows) es ++ map pin_seen fs } ≡ rows
    → copy_length (row_of m n rows) ≡ length (items_in (row_of m n rows))
long_law shows es fs rows m n is =
    let row = row_is shows es fs rows m n is in
    ap copy_length row ∙ (long_by shows (m, n) (lookup (same_name (m, n)) es) (lookup (same_name (m, n)) fs) ∙ ap (λ r. length (items_in r)) (sym row))

-- ---- critical buffers

-- a test of buffers that doesn't look at the items
abbrev pub IsBlind : (Buffer → Bool) → Type 0
IsBlind P = (b : Buffer) (items : List ℤ) → P (record b { items = items }) ≡ P b

pub still_open : (found : Option Buffer) (c : Bool) (b : Buffer) → if◌then◌else◌ {A = Option Buffer} c None found ≡ Some b → found ≡ Some b
still_open found true b now = cc
still_open found false b now = now

left_by : (x b : Buffer) (critical : Bool) → is_critical x.family ≡ critical → if◌then◌else◌ {A = Option Buffer} critical None (Some x) ≡ Some b
    → (Some x ≡ Some b) × (is_critical b.family ≡ false)
left_by x b true is now = cc
left_by x b false is now = (now, ap (λ y. is_critical y.family) (sym (same_Some x b now)) ∙ is)

-- what is open after the end of a session was open before it, and is a copy where the session was its thread's
pub still_lent : (found : Option Buffer) (c : Bool) (b : Buffer) → (if c then copied_only found else found) ≡ Some b
    → (found ≡ Some b) × ((c && is_critical b.family) ≡ false)
still_lent None true b now = cc
still_lent (Some x) true b now = left_by x b (is_critical x.family) refl now
still_lent found false b now = (now, refl)

-- a pinned buffer has no items of its own
pub pin_items : (q : ℕ × ℕ) (found : Option Pinned) → [] ≡ items_in (option_map (λ w. pin_seen (q, w)) found)
pin_items q None = refl
pin_items q (Some w) = refl

pub above_in : (a b : Rows) (k i : ℕ) → a ≡ b → IsAbove k i b → IsAbove k i a
above_in a b k i is above =
    let P : Rows → Type 0 = λ v. IsAbove k i v in
    subst P (sym is) above
