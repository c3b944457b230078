-- What is left behind as text: a line for each reference, then one for each buffer, then one for each monitor.
use Rattle.std.specs.Prelude.{ℕ, List, [], ◌∷◌, ◌++◌, codes}
use Rattle.std.specs.List.{flat_map}
use Rattle.std.specs.Fmt.{decimal}
use Rattle.jg_words.specs.declared.reference.Ref.{Ref}
use Rattle.jg_words.specs.declared.buffer.BufId.{BufId}
use Rattle.jg_table_monitors.specs.declared.owned_monitor.OwnedMonitor.{OwnedMonitor}
use Rattle.jg_text.specs.Words.{ref_text, buf_text, tid_text}

-- `leak`, a space, what is left, a line feed
abbrev pub leak_line : List ℕ → List ℕ
leak_line text = codes "leak " ++ text ++ 10 ∷ []

abbrev pub ref_line : Ref → List ℕ
ref_line r = leak_line (ref_text r)

abbrev pub buffer_line : BufId → List ℕ
buffer_line b = leak_line (buf_text b)

-- `M` and the number of the object, the thread that owns its monitor, and its count
abbrev pub monitor_line : OwnedMonitor → List ℕ
monitor_line m = leak_line (77 ∷ decimal m.object.0 ++ 32 ∷ tid_text m.owner ++ 32 ∷ decimal m.count)

abbrev pub leaks_text : List Ref → List BufId → List OwnedMonitor → List ℕ
leaks_text refs lent owned = flat_map ref_line refs ++ (flat_map buffer_line lent ++ flat_map monitor_line owned)
