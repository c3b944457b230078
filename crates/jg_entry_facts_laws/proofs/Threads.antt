-- Two threads that read the same: the same acts keep them so.
use Rattle.std.proofs.Common.{ℕ, ◌≡◌, ◌+◌, true, List, [], ◌∷◌, Some, None, refl, ap, sym, ◌∙◌}
use Rattle.jg_lists.specs.Acts.{how_many}
use Rattle.jg_table_threads.specs.History as threads
use Rattle.jg_table_threads.specs.History.{Act, Attach, Detach, Enter, Leave, Raise, Calm, CountRef, CountBuffer, since, is_enter, is_leave}

pub record SameThread (a b : List Act) : Type 0 where
  pub attached : threads.attached a ≡ threads.attached b
  pub sessions : threads.sessions a ≡ threads.sessions b
  pub enters : how_many is_enter (since a) ≡ how_many is_enter (since b)
  pub leaves : how_many is_leave (since a) ≡ how_many is_leave (since b)
  pub pending : threads.pending a ≡ threads.pending b
  pub refs : threads.refs a ≡ threads.refs b
  pub buffers : threads.buffers a ≡ threads.buffers b

pub attach_both : (a b : List Act) → SameThread a b → SameThread (Attach ∷ a) (Attach ∷ b)
attach_both a b same = record {
  attached = refl;
  sessions = rw (same.attached, same.sessions) refl;
  enters = same.enters;
  leaves = same.leaves;
  pending = same.pending;
  refs = same.refs;
  buffers = same.buffers;
}

pub detach_both : (a b : List Act) → SameThread a b → SameThread (Detach ∷ a) (Detach ∷ b)
detach_both a b same = record {
  attached = refl;
  sessions = same.sessions;
  enters = refl;
  leaves = refl;
  pending = refl;
  refs = same.refs;
  buffers =
      same.buffers;
}

pub raise_both : (o : ℕ) (a b : List Act) → SameThread a b → SameThread (Raise o ∷ a) (Raise o ∷ b)
raise_both o a b same = record {
  attached = same.attached;
  sessions = same.sessions;
  enters = same.enters;
  leaves = same.leaves;
  pending = refl;
  refs =
      same.refs;
  buffers = same.buffers;
}

pub calm_both : (a b : List Act) → SameThread a b → SameThread (Calm ∷ a) (Calm ∷ b)
calm_both a b same = record {
  attached = same.attached;
  sessions = same.sessions;
  enters = same.enters;
  leaves = same.leaves;
  pending = refl;
  refs =
      same.refs;
  buffers = same.buffers;
}

pub ref_both : (a b : List Act) → SameThread a b → SameThread (CountRef ∷ a) (CountRef ∷ b)
ref_both a b same =
    record {
      attached = same.attached;
      sessions = same.sessions;
      enters = same.enters;
      leaves = same.leaves;
      pending = same.pending;
      refs = ap (λ n. n + 1) same.refs;
      buffers = same.buffers;
    }

pub buffer_both : (a b : List Act) → SameThread a b → SameThread (CountBuffer ∷ a) (CountBuffer ∷ b)
buffer_both a b same =
    record {
      attached = same.attached;
      sessions = same.sessions;
      enters = same.enters;
      leaves = same.leaves;
      pending = same.pending;
      refs = same.refs;
      buffers = ap (λ n. n + 1) same.buffers;
    }

-- the fact calms, and nothing is pending where a call enters
pub enter_both : (a b : List Act) → threads.pending b ≡ None → SameThread a b → SameThread (Calm ∷ Enter ∷ a) (Enter ∷ b)
enter_both a b none same = record {
  attached = same.attached;
  sessions = same.sessions;
  enters = ap (λ n. n + 1) same.enters;
  leaves = same.leaves;
  pending = sym none;
  refs = same.refs;
  buffers = same.buffers;
}

-- nor where it leaves
pub leave_both : (a b : List Act) → threads.pending b ≡ None → SameThread a b → SameThread (Calm ∷ Leave ∷ a) (Leave ∷ b)
leave_both a b none same = record {
  attached = same.attached;
  sessions = same.sessions;
  enters = same.enters;
  leaves = ap (λ n. n + 1) same.leaves;
  pending = sym none;
  refs = same.refs;
  buffers = same.buffers;
}

-- or it is raised again
pub leave_raised : (o : ℕ) (a b : List Act) → threads.pending b ≡ Some o → SameThread a b → SameThread (Raise o ∷ Calm ∷ Leave ∷ a) (Leave ∷ b)
leave_raised o a b is same = record {
  attached = same.attached;
  sessions = same.sessions;
  enters = same.enters;
  leaves = ap (λ n. n + 1) same.leaves;
  pending = sym is;
  refs = same.refs;
  buffers = same.buffers;
}

-- an attachment of an attached thread changes nothing
pub attach_again : (a b : List Act) → threads.attached b ≡ true → SameThread a b → SameThread a (Attach ∷ b)
attach_again a b is same = record {
  attached = same.attached ∙ is;
  sessions = rw is same.sessions;
  enters = same.enters;
  leaves = same.leaves;
  pending = same.pending;
  refs = same.refs;
  buffers = same.buffers;
}

-- nor does a detachment of one that has no session, and did nothing since it had
pub detach_idle : (a b : List Act) → since a ≡ [] → SameThread a b → SameThread a (Detach ∷ b)
detach_idle a b none same = record {
  attached = rw none refl;
  sessions = same.sessions;
  enters = rw none refl;
  leaves = rw none refl;
  pending = rw none refl;
  refs = same.refs;
  buffers = same.buffers;
}
