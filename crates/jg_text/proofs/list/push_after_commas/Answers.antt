use Rattle.std.proofs.Common.{◌≡◌, ◌++◌}
use Rattle.std.proofs.lemmas.List.{take-append-drop}
use Rattle.jg_text.proofs.Lists.{block_written, block_fits}
use Rattle.jg_text.proofs.list.push_after_commas.Goals as goal

pub loop-rest-preserved : goal.loop-rest-preserved
loop-rest-preserved c =
    let inv = c.loop-rest.invariant in
    let wrote = c.in_ok-push_block.ensures in
    let rest = c.loop-rest.rest.now in
    let block = c.split_at.result.0.now in
    let more = c.split_at.result.1.now in
    let whole : block ++ more ≡ rest = rw (c.split_at.ensures.front, c.split_at.ensures.back) (take-append-drop c.min.result rest) in
    record {
      written = block_written _ _ _ block more rest whole wrote.written inv.written;
      fits = λ later. inv.fits (block_fits block more rest whole wrote.fits later);
    }
