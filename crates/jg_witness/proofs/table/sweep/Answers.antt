use Rattle.std.proofs.Common.{ℕ, rules}
use Rattle.std.proofs.lemmas.Map.Made.{filter_same_pairs}
use Rattle.jg_words.specs.declared.reference.Ref.{Ref}
use Rattle.jg_core.specs.Facts.{is_in_being}
use Rattle.jg_witness.proofs.Standing.{filter_sweeps}
use Rattle.jg_witness.proofs.table.sweep.Goals as goal

pub returns : goal.returns
returns g c = λ p tells.
    filter_sweeps p c.args.names.now.entries c.retain.new.self.entries c.retain.ensures.was_unique
    (filter_same_pairs _ (λ (e : ℕ × Ref). is_in_being p e.1) _ (λ k v b w f' called. search rules) _ _ c.retain.ensures.filtered)
