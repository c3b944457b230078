-- Critical regions (JNI Specification, chapter 4, `GetPrimitiveArrayCritical` and `GetStringCritical`), and how long
-- they are.
use Rattle.std.specs.Prelude.{ℕ, ◌-◌, ◌==◌, ◌||◌, Bool, true, false, if◌then◌else◌, nat_lt, List, [], ◌∷◌, Option, Some, None}
use Rattle.jg_words.specs.declared.thread.Tid.{Tid}
use Rattle.jg_lists.specs.Acts.{how_many}
use Rattle.jg_table_buffers.specs.History.{in_critical}
use Rattle.jg_rules.specs.Parts.{Parts}
use Rattle.jg_core.specs.declared.fact.Fact.{Fact}
use Rattle.jg_core.specs.declared.fact.Fact.TheVariants.{Lend, Back, End, Gone}
use Rattle.jg_advice.specs.declared.regions.Region.{Region}
use Rattle.jg_advice.specs.Moments.{What, Called, Told, Went, Moment}
use Rattle.jg_advice.specs.Functions.{collects, is, is_jni}
use Rattle.jg_advice.specs.Doing.{cause}

-- a call of a function of the JNI
abbrev pub is_call : What → Bool
is_call (Called s t f xs name) = is is_jni f
is_call what = false

abbrev pub is_gone : Fact → Bool
is_gone (Gone o) = true
is_gone fact = false

-- the collector ran, or let objects go
abbrev pub is_collection : What → Bool
is_collection (Called s t f xs name) = is collects f
is_collection (Told fact) = is_gone fact
is_collection (Went objects) = true

-- how many calls any threads made
abbrev pub calls_in : List Moment → ℕ
calls_in h = how_many (λ m. is_call m.what) h

-- how often it was told that the collector ran
abbrev pub collections_in : List Moment → ℕ
collections_in h = how_many (λ m. is_collection m.what) h

-- the thread whose critical region the fact may begin or end: it lends it a buffer, ends one that it was lent, or ends
-- its session
abbrev pub bordered : Fact → Option Tid
bordered (Lend t family o via n) = Some t
bordered (Back b) = Some b.maker
bordered (End t) = Some t
bordered fact = None

abbrev pub or_begun : Option Region → Region → Option Region
or_begun None region = Some region
or_begun (Some region) later = Some region

-- what a fact leaves of t's region, where the events with it are p, and a region that begins with it is that
abbrev pub region_by : ℕ → Parts → (Tid → Region) → Option Tid → Option Region → Option Region
region_by t p begins None before = before
region_by t p begins (Some u) before =
    if u.0 == t then (if in_critical p.buffers u.0 then or_begun before (begins u) else None) else before

abbrev pub region_with : ℕ → Moment → List Moment → What → Option Region → Option Region
region_with t m h (Told fact) before =
    region_by t m.parts
    (λ u. record { source = cause u m h; calls = calls_in h; collections = collections_in h }) (bordered fact) before
region_with t m h what before = before

-- the critical region in which t is: the call that it began with, and how many calls and collections came before it
abbrev pub region : ℕ → List Moment → Option Region
region t [] = None
region t (m ∷ h) = region_with t m h m.what (region t h)

-- 4: after so many calls and collections, more calls than that came since it began, or a collection
abbrev pub is_long : ℕ → ℕ → ℕ → Region → Bool
is_long most calls collections r = nat_lt most (calls - r.calls) || nat_lt r.collections collections
