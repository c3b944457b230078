-- What a journal leaves behind, as text, with the entry since which each of it is there.
use Rattle.std.specs.Prelude.{ℕ, List, [], ◌∷◌, ◌++◌, codes, flat_map, length, map, Option, Some, None}
use Rattle.std.specs.Fmt.{decimal}
use Rattle.jg_words.specs.declared.buffer.BufId.{BufId}
use Rattle.jg_words.specs.declared.reference.Ref.{Ref}
use Rattle.jg_words.specs.declared.reference.Ref.TheVariants.{Null, To}
use Rattle.jg_words.specs.declared.thread.Tid.{Tid}
use Rattle.jg_words.specs.Entry.{Entry}
use Rattle.jg_policy.specs.Stated.{StatedSetup}
use Rattle.jg_table_monitors.specs.declared.owned_monitor.OwnedMonitor.{OwnedMonitor}
use Rattle.jg_text.specs.Words.{buf_text, ref_text, tid_text}
use Rattle.jg_breaches.specs.declared.condition.Condition.{Condition}
use Rattle.jg_breaches.specs.declared.condition.Condition.TheVariants.{IsOpen, Names, Owns}
use Rattle.jg_explain.specs.declared.left.Left.{Left}
use Rattle.jg_explain.specs.declared.left.Left.TheVariants.{Reference, Buffer, Monitor}
use Rattle.jg_explain.specs.declared.watching.Watch.{Watch}
use Rattle.jg_explain.specs.Explained.{known, unknown}
use Rattle.jg_explain.specs.Texts.{begun_at}

abbrev pub all_left : List Ref → List BufId → List OwnedMonitor → List Left
all_left refs lent owned = map Reference refs ++ map Buffer lent ++ map Monitor owned

-- the thread that a reference was handed to
abbrev pub maker_of : Ref → Tid
maker_of Null = record { 0 = 0 }
maker_of (To kind maker n) = maker

-- what came to be so when it came to be there
abbrev pub presence : Left → Condition
presence (Reference r) = Names (maker_of r) r
presence (Buffer b) = IsOpen b
presence (Monitor m) = Owns m.owner m.object

-- a monitor by its object, the thread that owns it, and how often that entered it
abbrev pub left_text : Left → List ℕ
left_text (Reference r) = ref_text r
left_text (Buffer b) = buf_text b
left_text (Monitor m) = 77 ∷ decimal m.object.0 ++ 32 ∷ tid_text m.owner ++ 32 ∷ decimal m.count

abbrev pub since_when : List Entry → Condition → Option ℕ → List ℕ
since_when journal c None = []
since_when journal c (Some place) = codes ": " ++ begun_at journal c place

-- `leak L1.1: made at line 3 by T1 NewString`
abbrev pub left_line : List Entry → Left → Watch → List ℕ
left_line journal x w = codes "leak " ++ left_text x ++ since_when journal w.condition w.turns.latest ++ 10 ∷ []

-- what is known of it at the journal's end
abbrev pub known_left : StatedSetup → List Entry → Left → Watch
known_left s journal x = known s journal (length journal) (presence x)

abbrev pub explained_left : StatedSetup → List Entry → Left → List ℕ
explained_left s journal x = left_line journal x (known_left s journal x)

-- a line for each reference, then one for each buffer, then one for each monitor
abbrev pub all_left_text : StatedSetup → List Entry → List Ref → List BufId → List OwnedMonitor → List ℕ
all_left_text s journal refs lent owned = flat_map (explained_left s journal) (all_left refs lent owned)

-- it is to be watched to the end of so many entries
abbrev pub watch_of : ℕ → Left → Watch
watch_of n x = unknown n (presence x)
