-- What was written to a copy, and what was only committed.
use Rattle.std.specs.Prelude.{ℤ, ◌==◌, ◌&&◌, Bool, false, not, if◌then◌else◌, List, [], ◌∷◌, Option, Some, None, slice_get}
use Rattle.jg_words.specs.declared.buffer.BufId.{BufId}
use Rattle.jg_lists.specs.ByMaker.{Name, same_name}
use Rattle.jg_table_buffers.specs.History.{is_critical}
use Rattle.jg_table_heap.specs.Reading.{natural}
use Rattle.jg_rows.specs.Columns.{Columns}
use Rattle.jg_rows.specs.Table.{functions}
use Rattle.jg_rules.specs.Buffers.{buffer_named, is_commit, is_open_and}
use Rattle.jg_rules.specs.Parts.{Parts}
use Rattle.jg_judge.specs.declared.argument.Argument.{Argument}
use Rattle.jg_judge.specs.declared.argument.Argument.TheVariants.{Buffer, Number}
use Rattle.jg_core.specs.declared.fact.Fact.{Fact}
use Rattle.jg_core.specs.declared.fact.Fact.TheVariants.{Back, End}
use Rattle.jg_advice.specs.declared.advice.Source.{Source}
use Rattle.jg_advice.specs.declared.functions.Release.{Release}
use Rattle.jg_advice.specs.Moments.{What, Called, Told, Went, Moment}
use Rattle.jg_advice.specs.Functions.{gives_back, writes}
use Rattle.jg_advice.specs.Doing.{source}

-- a buffer by its maker and its number
abbrev pub name_of : BufId → Name
name_of b = (b.maker.0, b.n)

-- the buffer that the call writes to
abbrev pub written_by : Option Columns → List Argument → Option BufId
written_by (Some row) (Buffer b ∷ xs) = if writes row then Some b else None
written_by row xs = None

-- the buffer that the call gives back, and its mode, where it takes one
abbrev pub released_by : Option Columns → List Argument → Option Release
released_by (Some row) (x ∷ Buffer b ∷ Number mode ∷ xs) =
    if gives_back row then Some (record { buffer = b; mode = mode }) else None
released_by row xs = None

abbrev pub is_named : Name → Option BufId → Bool
is_named q None = false
is_named q (Some b) = same_name (name_of b) q

-- it is a copy, and open
abbrev pub is_copy : Parts → Option BufId → Bool
is_copy p None = false
is_copy p (Some b) = is_open_and (λ info. not (is_critical info.family)) (buffer_named p b)

-- the mode is JNI_ABORT
abbrev pub is_abort : ℤ → Bool
is_abort mode = natural mode == 2

-- the call releases the buffer by JNI_COMMIT
abbrev pub commits : Name → Option Release → Bool
commits q None = false
commits q (Some r) = is_commit r.mode && same_name (name_of r.buffer) q

-- the buffer was given back for good
abbrev pub is_given_back : Name → Fact → Bool
is_given_back q (Back b) = same_name (name_of b) q
is_given_back q fact = false

-- so it was, or the session of the thread that it was lent to ended
abbrev pub is_settled : Name → Fact → Bool
is_settled q (Back b) = same_name (name_of b) q
is_settled q (End t) = t.0 == q.0
is_settled q fact = false

abbrev pub written_with : Name → Moment → List Moment → What → Option Source → Option Source
written_with q m h (Called s t f xs name) before =
    if commits q (released_by (slice_get functions f) xs) then None
    else (if is_named q (written_by (slice_get functions f) xs)
    && is_copy m.parts (written_by (slice_get functions f) xs) then Some (source m.line t f) else before)
written_with q m h (Told fact) before = if is_given_back q fact then None else before
written_with q m h (Went objects) before = before

-- 2: the latest call that wrote to the copy since it was lent or last committed
abbrev pub written : Name → List Moment → Option Source
written q [] = None
written q (m ∷ h) = written_with q m h m.what (written q h)

abbrev pub committed_with : Name → Moment → What → Option Source → Option Source
committed_with q m (Called s t f xs name) before =
    if commits q (released_by (slice_get functions f) xs) then Some (source m.line t f) else before
committed_with q m (Told fact) before = if is_settled q fact then None else before
committed_with q m (Went objects) before = before

-- 3: the latest call that released the buffer by JNI_COMMIT, where it wasn't given back since, and no session of its
-- thread ended
abbrev pub committed : Name → List Moment → Option Source
committed q [] = None
committed q (m ∷ h) = committed_with q m m.what (committed q h)
