-- What a history leaves behind.
use Rattle.std.specs.Prelude.{ℕ, ◌≡◌, Bool, false, ◌==◌, List, [], ◌∷◌, filter, Option, Some, None, IsSortedByKey}
use Rattle.std.specs.Option.{is_some}
use Rattle.jg_lists.specs.Acts.{how_many, once_if}
use Rattle.jg_words.specs.declared.reference.Ref.{Ref}
use Rattle.jg_words.specs.declared.reference.Ref.TheVariants.{Null, To}
use Rattle.jg_words.specs.declared.reference.Kind.TheVariants.{Local, Global, Weak}
use Rattle.jg_words.specs.declared.buffer.BufId.{BufId}
use Rattle.jg_table_locals.specs.History as locals
use Rattle.jg_table_globals.specs.History as globals
use Rattle.jg_table_buffers.specs.History as buffers
use Rattle.jg_table_buffers.specs.History.{same_ref, is_same}
use Rattle.jg_table_buffers.specs.Keys.{pair_cmp}
use Rattle.jg_table_buffers.specs.Ordered.{buffer_key}
use Rattle.jg_table_monitors.specs.History as monitors
use Rattle.jg_table_monitors.specs.Rows.{Ascends}
use Rattle.jg_table_monitors.specs.declared.owned_monitor.OwnedMonitor.{OwnedMonitor}
use Rattle.jg_rules.specs.Parts.{Parts}

-- a local that is live for its maker, or a global or weak reference in being, of which a weak one may be cleared (JNI
-- Specification, chapter 2, "Global and Local References"; chapter 4, "Weak Global References")
abbrev pub is_left : Parts → Ref → Bool
is_left p Null = false
is_left p (To Local maker n) = is_some (locals.live n (locals.acts_of maker.0 p.locals))
is_left p (To Global maker n) = is_some (globals.target_of p.globals (To Global maker n))
is_left p (To Weak maker n) = is_some (globals.target_of p.globals (To Weak maker n))

-- each reference that is left is listed once, and no other
abbrev pub ListsRefs : Parts → List Ref → Type 0
ListsRefs p refs = (r : Ref) → how_many (λ q. same_ref q r) refs ≡ once_if (is_left p r)

-- each open buffer is listed once, and no other
abbrev pub ListsBuffers : Parts → List BufId → Type 0
ListsBuffers p lent = (maker n : ℕ)
    → how_many (λ b. is_same maker n b.maker.0 b.n) lent ≡ once_if (is_some (buffers.opened p.buffers maker n))

-- the monitor of the object, where a thread owns it
abbrev pub monitor_owned : Parts → ℕ → Option ℕ → List OwnedMonitor
monitor_owned p o None = []
monitor_owned p o (Some t) = record {
  object = record { 0 = o };
  owner = record { 0 = t };
  count = monitors.count p.monitors t o;
} ∷ []

-- each owned monitor is listed once, with its owner and its count, and no other
abbrev pub ListsMonitors : Parts → List OwnedMonitor → Type 0
ListsMonitors p owned = (o : ℕ)
    → filter (λ m. m.object.0 == o) owned ≡ monitor_owned p o (monitors.owner p.monitors o)

-- by maker, and then by number
abbrev pub ref_key : Ref → ℕ × ℕ
ref_key Null = (0, 0)
ref_key (To kind maker n) = (maker.0, n)

abbrev pub RefsAscend : List Ref → Type 0
RefsAscend refs = IsSortedByKey ref_key pair_cmp refs

abbrev pub BuffersAscend : List BufId → Type 0
BuffersAscend lent = IsSortedByKey buffer_key pair_cmp lent

-- the lists are what the events leave behind, in order
pub record AreLeft (p : Parts) (named : List Ref) (lent : List BufId) (owned : List OwnedMonitor) : Type 0 where
  pub refs : ListsRefs p named
  pub refs_ascend : RefsAscend named
  pub buffers : ListsBuffers p lent
  pub buffers_ascend : BuffersAscend lent
  pub monitors : ListsMonitors p owned
  pub monitors_ascend : Ascends owned
