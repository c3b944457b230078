-- What a witness is told to be gone, and can't be.
use Rattle.std.proofs.Common.{ℕ, ◌≡◌, List, Some, inr, refl, sym, ◌∙◌, ap, subst}
use Rattle.std.specs.Prelude.{slice_index_or}
use Rattle.jg_words.specs.declared.object.ObjId.{ObjId}
use Rattle.jg_core.specs.declared.gone.StillHeld.{StillHeld}
use Rattle.jg_core.specs.Facts.{first_held, parts_of}
use Rattle.jg_core.specs.Kernel.{Keeps}
use Rattle.jg_witness.specs.Events.{Event, facts_of}
use Rattle.jg_witness.specs.Standing.{Stays, WitnessStands}
use Rattle.jg_c.specs.declared.held.JgHeld.{JgHeld}
use Rattle.jg_c.specs.Errors as errors
use Rattle.jg_c.specs.Holders.{holder_of}
use Rattle.jg_c.specs.Telling.{objects_of}
use Rattle.jg_c.specs.Witnesses.{WitnessHeld}
use Rattle.jg_c.specs.WordTelling.{LetsGoOf}

-- it is told by these numbers
pub held_still : (old new : WitnessHeld) (ns : List ℕ) (objects : List ObjId) (still : StillHeld) (held : JgHeld) → objects ≡ objects_of ns
    → Stays old.witness new.witness
    → ((e : List Event) → WitnessStands old.witness e → first_held old.witness.core.setup (parts_of (facts_of e)) objects ≡ Some still.place)
    → ((e : List Event) → WitnessStands old.witness e
    → Keeps old.witness.core.setup (parts_of (facts_of e)) (slice_index_or objects still.place (record { 0 = 0 })).0 still.by)
    → held.place ≡ still.place → holder_of held ≡ Some still.by → LetsGoOf old new ns held errors.impossible
held_still old new ns objects still held are stays first by place is = inr (
  refl,
  stays,
  record {
    first = λ e stands.
        subst (λ (os : List ObjId). first_held old.witness.core.setup (parts_of (facts_of e)) os ≡ Some held.place) are
        (first e stands ∙ ap Some (sym place));
    holder = still.by;
    is = is;
    keeps = λ e stands.
        subst (λ (n : ℕ). Keeps old.witness.core.setup (parts_of (facts_of e)) (slice_index_or (objects_of ns) n (record { 0 = 0 })).0 still.by) (sym place)
        (subst (λ (os : List ObjId). Keeps old.witness.core.setup (parts_of (facts_of e)) (slice_index_or os still.place (record { 0 = 0 })).0 still.by) are
        (by e stands));
  },
)
