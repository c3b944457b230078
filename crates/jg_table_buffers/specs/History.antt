-- Buffers, told by looking back. A list of events has the newest first.
use Rattle.std.specs.Prelude.{◌≡◌, ℕ, ℤ, pos, Bool, true, false, ◌==◌, ◌&&◌, if◌then◌else◌, List, [], ◌∷◌, map, length, slice_index_or, Option, Some, None}
use Rattle.std.specs.List.{list_any, filter_map, range_with_len}
use Rattle.jg_words.specs.declared.buffer.BufId.{BufId}
use Rattle.jg_words.specs.declared.reference.Ref.{Ref}
use Rattle.jg_words.specs.declared.reference.Ref.TheVariants.{Null, To}
use Rattle.jg_words.specs.declared.reference.Kind.{Kind}
use Rattle.jg_words.specs.declared.reference.Kind.TheVariants.{Local, Global, Weak}
use Rattle.jg_table_buffers.specs.declared.family.Family.{Family}
use Rattle.jg_table_buffers.specs.declared.family.Family.TheVariants.{Elements, Chars, UtfChars, ArrayCritical, StringCritical}
use Rattle.jg_table_buffers.specs.declared.info.Info.{Info}

-- a buffer as it was opened: number n of the thread that it was lent to, its object and its family, the reference
-- through which a critical one was opened (null for a copy), its length in items, and a copy's items at its making
-- (none for a critical one, whose items are the object's)
pub record Buffer : Type 0 where
  pub maker : ℕ
  pub n : ℕ
  pub object : ℕ
  pub family : Family
  pub via : Ref
  pub length : ℕ
  pub items : List ℤ

-- what happens to buffers: one is opened; an item of a copy is written; one is released for good, which JNI_COMMIT does
-- not do; a thread's session ends, and with it each critical buffer that it was lent, while its copies stay open
pub data Event : Type 0 where
  Opened : Buffer → Event
  Wrote : (maker : ℕ) → (n : ℕ) → (index : ℕ) → (value : ℤ) → Event
  Closed : (maker : ℕ) → (n : ℕ) → Event
  ReleaseAll : (maker : ℕ) → Event

-- the families that pin, and so open a critical region (JNI chapter 4, "GetPrimitiveArrayCritical" and
-- "GetStringCritical")
abbrev pub is_critical : Family → Bool
is_critical (Elements p) = false
is_critical Chars = false
is_critical UtfChars = false
is_critical ArrayCritical = true
is_critical StringCritical = true

-- a copy with these items
abbrev pub copy_with : ℕ → ℕ → ℕ → Family → List ℤ → Buffer
copy_with maker n o family items =
    record { maker = maker; n = n; object = o; family = family; via = Null; length = length items; items = items }

-- a pinned buffer of that length, opened through that reference
abbrev pub pin_through : ℕ → ℕ → ℕ → Family → Ref → ℕ → Buffer
pin_through maker n o family via count =
    record { maker = maker; n = n; object = o; family = family; via = via; length = count; items = [] }

abbrev pub kind_number : Kind → ℕ
kind_number Local = 0
kind_number Global = 1
kind_number Weak = 2

-- the two are one reference
abbrev pub same_ref : Ref → Ref → Bool
same_ref Null Null = true
same_ref Null (To k m n) = false
same_ref (To k m n) Null = false
same_ref (To k m n) (To j i o) = (kind_number k == kind_number j) && ((m.0 == i.0) && (n == o))

-- the pair is that maker and that number
abbrev pub is_same : ℕ → ℕ → ℕ → ℕ → Bool
is_same maker n k i = (k == maker) && (i == n)

-- what an end of the session leaves of a buffer
abbrev pub copied_only : Option Buffer → Option Buffer
copied_only None = None
copied_only (Some b) = if is_critical b.family then None else Some b

-- the open buffer: it was opened, and not closed since
abbrev pub opened : List Event → ℕ → ℕ → Option Buffer
opened [] maker n = None
opened (Opened b ∷ e) maker n = if is_same maker n b.maker b.n then Some b else opened e maker n
opened (Closed k i ∷ e) maker n = if is_same maker n k i then None else opened e maker n
opened (Wrote k i j v ∷ e) maker n = opened e maker n
opened (ReleaseAll k ∷ e) maker n = if k == maker then copied_only (opened e maker n) else opened e maker n

-- an item of a copy: what was written there last, else the item at the making
abbrev pub content : List Event → ℕ → ℕ → ℕ → ℤ
content [] maker n index = pos 0
content (Opened b ∷ e) maker n index =
    if is_same maker n b.maker b.n then slice_index_or b.items index (pos 0) else content e maker n index
content (Wrote k i j v ∷ e) maker n index = if is_same maker n k i && (j == index) then v else content e maker n index
content (Closed k i ∷ e) maker n index = content e maker n index
content (ReleaseAll k ∷ e) maker n index = content e maker n index

-- the items of an open buffer as they are now; none for a critical one
abbrev pub items_now : List Event → ℕ → ℕ → Buffer → List ℤ
items_now e maker n b = if is_critical b.family then [] else map (content e maker n) (range_with_len 0 b.length)

abbrev pub items_of : List Event → ℕ → ℕ → Option Buffer → List ℤ
items_of e maker n None = []
items_of e maker n (Some b) = items_now e maker n b

-- the items of the open copy as they are now, which a release with copying back writes into the object
abbrev pub contents : List Event → ℕ → ℕ → List ℤ
contents e maker n = items_of e maker n (opened e maker n)

abbrev pub critical_only : Option Buffer → Option Buffer
critical_only None = None
critical_only (Some b) = if is_critical b.family then Some b else None

abbrev pub pin_of : List Event → Event → Option Buffer
pin_of e (Opened b) = critical_only (opened e b.maker b.n)
pin_of e ev = None

-- the open critical buffers
abbrev pub pins : List Event → List Buffer
pins e = filter_map (pin_of e) e

-- the thread is in a critical region: a critical buffer that it was lent is open, so that of nested pairs the last ends
-- the region
abbrev pub in_critical : List Event → ℕ → Bool
in_critical e t = list_any (λ b. b.maker == t) (pins e)

-- a critical buffer that was opened through the reference is open
abbrev pub pinned_by : List Event → Ref → Bool
pinned_by e r = list_any (λ b. same_ref b.via r) (pins e)

-- a critical buffer of the object is open
abbrev pub pins_object : List Event → ℕ → Bool
pins_object e o = list_any (λ b. b.object == o) (pins e)

-- the critical buffer is open, and of the object
pub record IsPinOf (e : List Event) (o : ℕ) (buf : BufId) : Type 0 where
  pub buffer : Buffer
  pub is_open : opened e buf.maker.0 buf.n ≡ Some buffer
  pub critical : is_critical buffer.family ≡ true
  pub of_object : buffer.object ≡ o

-- the reference is null
abbrev pub is_null : Ref → Bool
is_null Null = true
is_null (To kind maker n) = false

-- what a look-up tells of an open buffer
abbrev pub info_of : Buffer → Info
info_of b = record {
  maker = record { 0 = b.maker };
  object = record { 0 = b.object };
  family = b.family;
  via = b.via;
  length = b.length;
}
