use Rattle.jg_rules.specs.Names.{names}
use Rattle.jg_guard.proofs.Due.{stand_at, can_open}
use Rattle.jg_guard.proofs.Buffers.{string_made}
use Rattle.jg_guard.proofs.groups.buffers.pin_string.Goals as goal

pub string-requires : goal.string-requires
string-requires g c =
    rw (c.the_object-object.ensures c.requires.events (stand_at _ _ _ _ c.requires.events c.view.ensures.setup c.view.ensures.rows c.requires.stand))
    (string_made _ _ c.requires.events (names c.requires.events c.args.tid.0 c.args.string) c.requires.stand c.requires.unbroken.alive
    c.requires.unbroken.not_null c.requires.unbroken.right_type)

pub open_pin-requires-clause-above : goal.open_pin-requires-clause-above
open_pin-requires-clause-above g c =
    can_open c.requires.events c.args.tables.now.buffers c.args.tid.0 c.next_buf-n.result c.requires.ordinary c.requires.stand.buffers
    (c.next_buf-n.ensures.history c.requires.events.threads c.requires.stand.threads)
