-- What the table keeps of its counts of pinned buffers.
use Rattle.std.specs.Prelude.{◌≡◌, ℕ, ◌==◌, List, slice_index_or}
use Rattle.indexmap.specs.IndexMap.{IndexMap, get}
pub use Rattle.jg_lists.specs.Acts.{how_many}
use Rattle.jg_table_buffers.specs.Keys.{same_triple}
use Rattle.jg_words.specs.declared.reference.Ref.{Ref}
use Rattle.jg_table_buffers.specs.declared.pinned.Pinned.{Pinned}
use Rattle.jg_table_buffers.specs.History.{same_ref}
use Rattle.jg_table_buffers.specs.Seen.{key_of, count_at}

-- the counts are those of the open pinned buffers, by the thread that they were lent to and by the reference that they
-- were opened through
pub record Counted {T : Type 0} (pins : List ((ℕ × ℕ) × Pinned)) (makers : List ℕ)
    (vias : IndexMap (ℕ × ℕ × ℕ) ℕ T) : Type 0 where
  pub by_maker : (t : ℕ) → slice_index_or makers t 0 ≡ how_many (λ e. e.0.0 == t) pins
  pub by_via : (r : Ref) → count_at (get same_triple vias (key_of r)) ≡ how_many (λ e. same_ref e.1.via r) pins
