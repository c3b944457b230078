use Rattle.std.proofs.Common.{◌<◌, length, rules}
use Rattle.jg_lines.proofs.TextLines.{line_taken, last_taken, too_long}
use Rattle.jg_lines.proofs.line.next_line.Goals as goal

pub returns-in-Ok-Feed-clause-taken : goal.returns-in-Ok-Feed-clause-taken
returns-in-Ok-Feed-clause-taken g c =
    let taken = rw c.in-Ok-Feed.field-0-is at c.in-Ok-Feed.ensures.taken in
    line_taken _ _ c.read_line.new.line.items taken.0 c.in-Ok-Feed.ensures.clean

pub returns-else-is_empty-clause-taken : goal.returns-else-is_empty-clause-taken
returns-else-is_empty-clause-taken g c =
    let taken = rw c.in-Ok-End.field-0-is at c.in-Ok-End.ensures.taken in
    let some : 0 < length c.read_line.new.line.items = search rules in
    (last_taken _ _ c.read_line.new.line.items taken.0 taken.1 c.in-Ok-End.ensures.clean some, taken.1)

pub returns-in-Ok-Long-clause-taken : goal.returns-in-Ok-Long-clause-taken
returns-in-Ok-Long-clause-taken g c =
    let taken = rw c.in-Ok-Long.field-0-is at c.in-Ok-Long.ensures.taken in
    too_long _ _ c.read_line.new.line.items taken.0 c.in-Ok-Long.ensures.clean taken.1
