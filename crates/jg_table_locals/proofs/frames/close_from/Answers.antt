use Rattle.std.proofs.Common.{rules, ◌≡◌, ◌∙◌, sym, true, false, arith}
use Rattle.std.specs.Option.{option_map}
use Rattle.jg_table_locals.specs.Seen.{last, is_from, frame_of}
use Rattle.jg_table_locals.proofs.Opened.{frames_cut_one, opened_front, frames_left}
use Rattle.jg_table_locals.proofs.frames.close_from.Goals as goal

pub loop-from-preserved : goal.loop-from-preserved
loop-from-preserved g c =
    let at : is_from c.args.from (option_map frame_of (last c.loop-from.frames.items)) ≡ true = search rules in
    let was = c.pop.ensures.items in (
      frames_cut_one c.args.from c.pop.new.self.items c.loop-from.frames.items c.pop.result was at ∙ c.loop-from.invariant.0,
      opened_front c.pop.new.self.items c.loop-from.frames.items c.pop.result was c.loop-from.invariant.1,
      omega (arith, c.loop-from.invariant.2, c.pop.ensures.len, c.pop.ensures.capacity),
    )

pub returns-clause-kept : goal.returns-clause-kept
returns-clause-kept g c =
    let at : is_from c.args.from (option_map frame_of (last c.loop-from.frames.items)) ≡ false = search rules in
    sym (frames_left c.args.from c.loop-from.frames.items c.loop-from.invariant.1 at) ∙ c.loop-from.invariant.0
