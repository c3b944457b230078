-- What holds after some entries, in the words of the rules.
use Rattle.std.specs.Prelude.{Bool, not, nat_lt}
use Rattle.std.specs.Option.{is_some}
use Rattle.jg_policy.specs.Links as links
use Rattle.jg_table_monitors.specs.History as monitors
use Rattle.jg_rules.specs.Parts.{Parts}
use Rattle.jg_rules.specs.Names.{names, object_named, session, depth, open_frames, pending}
use Rattle.jg_rules.specs.Buffers.{buffer_named}
use Rattle.jg_rules.specs.Rules.{is_nothing, is_session, is_by}
use Rattle.jg_breaches.specs.declared.condition.Condition.{Condition}
use Rattle.jg_breaches.specs.declared.condition.Condition.TheVariants.{IsAttached, IsPresent, HasPending, Names, NamesObject, IsOpen, Owns, IsOwned, HasFrame, InNative, IsLinked}

abbrev pub holds : Parts → Condition → Bool
holds p (IsAttached t) = is_some (session p t.0)
holds p (IsPresent env) = is_session (session p env.tid.0) env.session
holds p (HasPending t) = is_some (pending p t.0)
holds p (Names t r) = not (is_nothing (names p t.0 r))
holds p (NamesObject t r) = is_some (object_named p t.0 r)
holds p (IsOpen b) = is_some (buffer_named p b)
holds p (Owns t o) = is_by t.0 (monitors.owner p.monitors o.0)
holds p (IsOwned o) = monitors.held p.monitors o.0
holds p (HasFrame t) = nat_lt 0 (open_frames p t.0)
holds p (InNative t) = nat_lt 0 (depth p t.0)
holds p (IsLinked class native) = links.linked p.links class native
