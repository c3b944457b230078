use Rattle.std.proofs.Common.{arith}
use Rattle.jg_core.proofs.Due.{can_meet}
use Rattle.jg_core.proofs.take.meet.Goals as goal

pub meet-requires : goal.meet-requires
meet-requires g c = can_meet c.args.setup.now c.requires.events c.args.tables.now.objects (omega arith) c.requires.ordinary c.requires.stand.heap
