use Rattle.std.proofs.Common.{take}
use Rattle.jg_text.proofs.Columns.{byte_place_is}
use Rattle.jg_text.proofs.place.odd_place.Goals as goal

pub returns : goal.returns
returns c = λ odd. (
  take c.before_odd.result c.args.line.now,
  c.before_odd.ensures.odd odd,
  byte_place_is (take c.before_odd.result c.args.line.now) c.split_at.result.0.now c.count_of.result c.split_at.ensures.front c.count_of.ensures.counted,
)
