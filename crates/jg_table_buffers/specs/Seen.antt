-- What contracts see of what the code keeps.
use Rattle.std.specs.Prelude.{ℕ, ℤ, slice_set, List, [], length, option_map, Option, Some, None}
use Rattle.std.specs.declared.vec.Vec.{Vec}
use Rattle.jg_words.specs.declared.buffer.BufId.{BufId}
use Rattle.jg_words.specs.declared.reference.Ref.{Ref}
use Rattle.jg_words.specs.declared.reference.Ref.TheVariants.{Null, To}
use Rattle.jg_words.specs.declared.reference.Kind.{Kind}
use Rattle.jg_words.specs.declared.reference.Kind.TheVariants.{Local, Global, Weak}
use Rattle.jg_table_buffers.specs.declared.family.Family.{Family}
use Rattle.jg_table_buffers.specs.declared.family.Family.TheVariants.{Elements, Chars, UtfChars, ArrayCritical, StringCritical}
use Rattle.jg_table_buffers.specs.declared.copied.CopyKind.{CopyKind}
use Rattle.jg_table_buffers.specs.declared.copied.CopyKind.TheVariants.{Elements as ElementsKind, Chars as CharsKind, UtfChars as UtfCharsKind}
use Rattle.jg_table_buffers.specs.declared.copied.Copied.{Copied}
use Rattle.jg_table_buffers.specs.declared.pinned.PinKind.{PinKind}
use Rattle.jg_table_buffers.specs.declared.pinned.PinKind.TheVariants.{Array, String}
use Rattle.jg_table_buffers.specs.declared.pinned.Pinned.{Pinned}
use Rattle.jg_table_buffers.specs.History.{Buffer}

abbrev pub copy_family : CopyKind → Family
copy_family (ElementsKind p) = Elements p
copy_family CharsKind = Chars
copy_family UtfCharsKind = UtfChars

abbrev pub pin_family : PinKind → Family
pin_family Array = ArrayCritical
pin_family String = StringCritical

-- what a list of items shows of them
abbrev pub listed : {A : Type 0} → Vec ℤ A → List ℤ
listed list = list.items

-- an open copy, by the items that what is kept of them stands for
abbrev pub copy_seen : {I : Type 0} → (I → List ℤ) → (ℕ × ℕ) × Copied I → Buffer
copy_seen items_of e = record {
  maker = e.0.0;
  n = e.0.1;
  object = e.1.object;
  family = copy_family e.1.kind;
  via = Null;
  length = length (items_of e.1.items);
  items = items_of e.1.items;
}

abbrev pub pin_seen : (ℕ × ℕ) × Pinned → Buffer
pin_seen e = record {
  maker = e.0.0;
  n = e.0.1;
  object = e.1.object;
  family = pin_family e.1.kind;
  via = e.1.via;
  length = e.1.length;
  items = [];
}

-- the buffer that a map has at a key
abbrev pub key_name : ℕ × ℕ → BufId
key_name key = record { maker = record { 0 = key.0 }; n = key.1 }

abbrev pub kind_key : Kind → ℕ
kind_key Local = 1
kind_key Global = 2
kind_key Weak = 3

-- a reference as the key of a map
abbrev pub key_of : Ref → ℕ × ℕ × ℕ
key_of Null = (0, 0, 0)
key_of (To k m n) = (kind_key k, m.0, n)

abbrev pub count_at : Option ℕ → ℕ
count_at None = 0
count_at (Some count) = count

abbrev pub copy_at : {I : Type 0} → (I → List ℤ) → ℕ × ℕ → Option (Copied I) → Option Buffer
copy_at items_of q found = option_map (λ w. copy_seen items_of (q, w)) found

-- a copy with one item written
abbrev pub copy_item_set : ℕ → ℤ → Option Buffer → Option Buffer
copy_item_set i v None = None
copy_item_set i v (Some b) = Some (record b { items = slice_set b.items i v })
