use Rattle.std.proofs.Common.{◌<◌, ◌≤◌, ◌+◌, length, take, subst, rules, arith, length-take-le}
use Rattle.std.specs.Io.KnownBytes.{Consumes}
use Rattle.std.specs.Io.BufRead.{FillKeeps}
use Rattle.std.proofs.BufReadLemmas.{Consumes_shown}
use Rattle.jg_lines.proofs.Pieces.{no_feed, before_feed, through_feed}
use Rattle.jg_lines.proofs.piece.take_piece.Goals as goal

pub returns-else-is_err-clause-taken : goal.returns-else-is_err-clause-taken
returns-else-is_err-clause-taken g c =
    let shown = c.in-Ok.shown.now in
    let most = c.min-most.result in
    let i = c.in-Some.i in
    let fits : most ≤ length shown = search rules in
    let room : most ≤ c.args.room = search rules in
    let long = length-take-le most shown fits in
    let found = rw c.in-Some.is at c.memchr.ensures in
    let high = found.0.high in
    let within : i < most = omega (arith, high, long) in
    let rested = c.fill_buf.follows.lender-at-none in
    let filled = subst (FillKeeps _ (g.B.Read.remaining rested) (g.B.BufRead.consumable_len rested)) c.in-Ok.is c.fill_buf.follows.holds-at-none in
    let moved = Consumes_shown _ _ _ _ shown (i + 1) (omega (arith, within, fits)) c.in-Ok.ensures.front c.in-Ok.ensures.end filled.0 filled.1
    c.consume.ensures.bytes in
    let short = length-take-le i shown (omega (arith, within, fits)) in (
      take i shown,
      search rules,
      before_feed shown most i high (omega (arith, within)) (omega (arith, within, fits)) found.0.before,
      subst (Consumes _ _) (through_feed shown most i within (omega (arith, within, fits)) found.1) moved.0,
      omega (arith, within, room, short),
    )

pub returns-else-is_err-2-clause-taken : goal.returns-else-is_err-2-clause-taken
returns-else-is_err-2-clause-taken g c =
    let shown = c.in-Ok.shown.now in
    let most = c.min-most.result in
    let fits : most ≤ length shown = search rules in
    let room : most ≤ c.args.room = search rules in
    let some : 0 < most = search rules in
    let long = length-take-le most shown fits in
    let none = rw c.in-None.is at c.memchr.ensures in
    let rested = c.fill_buf.follows.lender-at-none in
    let filled = subst (FillKeeps _ (g.B.Read.remaining rested) (g.B.BufRead.consumable_len rested)) c.in-Ok.is c.fill_buf.follows.holds-at-none in
    let moved = Consumes_shown _ _ _ _ shown most fits c.in-Ok.ensures.front c.in-Ok.ensures.end filled.0 filled.1 c.consume-in-None.ensures.bytes in (
      take most shown,
      search rules,
      no_feed (take most shown) none,
      moved.0,
      omega (arith, some, long),
      omega (arith, room, long),
    )
