-- Parts that read the same, though their events differ. Facts say neither what objects and copies hold nor how an
-- object was made. They clear what is pending where a native method begins or ends, which entries leave. And there are
-- entries that are no fact, since nothing comes of them.
use Rattle.std.specs.Prelude.{ℕ, ◌≡◌}
use Rattle.jg_words.specs.declared.reference.Ref.{Ref}
use Rattle.jg_words.specs.declared.buffer.BufId.{BufId}
use Rattle.jg_policy.specs.Stated.{StatedSetup}
use Rattle.jg_policy.specs.Links as links
use Rattle.jg_table_threads.specs.History as threads
use Rattle.jg_table_locals.specs.History as locals
use Rattle.jg_table_globals.specs.History as globals
use Rattle.jg_table_monitors.specs.History as monitors
use Rattle.jg_rules.specs.Parts.{Parts}
use Rattle.jg_rules.specs.Names.{session, depth, open_frames, pending, next_ref, next_buffer, object_count, is_here, class_of, length_of}
use Rattle.jg_rules.specs.Buffers.{buffer_named}

pub record ReadAlike (s : StatedSetup) (p q : Parts) : Type 0 where
  -- of each thread: its present session, how many it had, how many native methods it is in, what is pending, and the
  -- numbers of the next reference and the next buffer that it is handed
  pub present : (t : ℕ) → session p t ≡ session q t
  pub sessions : (t : ℕ)
      → threads.sessions (threads.acts_of t p.threads) ≡ threads.sessions (threads.acts_of t q.threads)
  pub natives : (t : ℕ) → depth p t ≡ depth q t
  pub raised : (t : ℕ) → pending p t ≡ pending q t
  pub refs : (t : ℕ) → next_ref p t ≡ next_ref q t
  pub buffers : (t : ℕ) → next_buffer p t ≡ next_buffer q t
  -- whether it has locals, and all that it did to them in its session, which its frames and their room depend on; then
  -- the live locals, each with its frame, and how many frames it can pop
  pub has_locals : (t : ℕ)
      → locals.has_session (locals.acts_of t p.locals) ≡ locals.has_session (locals.acts_of t q.locals)
  pub acts : (t : ℕ) → locals.session (locals.acts_of t p.locals) ≡ locals.session (locals.acts_of t q.locals)
  pub locals : (t n : ℕ)
      → locals.live_local n (locals.acts_of t p.locals) ≡ locals.live_local n (locals.acts_of t q.locals)
  pub frames : (t : ℕ) → open_frames p t ≡ open_frames q t
  -- what a global or weak reference names
  pub targets : (r : Ref) → globals.target_of p.globals r ≡ globals.target_of q.globals r
  -- the open buffers, but for their items
  pub lent : (b : BufId) → buffer_named p b ≡ buffer_named q b
  -- how often a thread entered a monitor and didn't exit it, and who owns it
  pub counts : (t o : ℕ) → monitors.count p.monitors t o ≡ monitors.count q.monitors t o
  pub owners : (o : ℕ) → monitors.owner p.monitors o ≡ monitors.owner q.monitors o
  -- how many objects there were, which are there, and their classes and lengths
  pub objects : object_count s p ≡ object_count s q
  pub here : (o : ℕ) → is_here s p o ≡ is_here s q o
  pub classes : (o : ℕ) → class_of s p o ≡ class_of s q o
  pub lengths : (o : ℕ) → length_of s p o ≡ length_of s q o
  -- which native methods are linked, and which modules were warned of
  pub linked : (class native : ℕ) → links.linked p.links class native ≡ links.linked q.links class native
  pub warned : (home : ℕ) → links.warned p.links home ≡ links.warned q.links home
