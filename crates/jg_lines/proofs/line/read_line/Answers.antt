use Rattle.std.proofs.Common.{◌≡◌, ◌<◌, ◌++◌, ◌∷◌, [], ◌==◌, false, length, arith, refl, inr, length-append, subst, append_assoc, sym}
use Rattle.std.specs.Io.KnownBytes.{Consumes}
use Rattle.std.proofs.KnownBytes.{Consumes-kept, Consumes-trans}
use Rattle.std.proofs.lemmas.List.Elements.{All-append}
use Rattle.jg_lines.proofs.Fronts.{with_feed, with_byte}
use Rattle.jg_lines.proofs.line.read_line.Goals as goal

pub returns-in-Ok-Feed-clause-front : goal.returns-in-Ok-Feed-clause-front
returns-in-Ok-Feed-clause-front g c =
    let inv = c.loop-reader.invariant in
    let feed = rw c.in-Ok-Feed.field-0-is at c.in-Ok-Feed.ensures.taken in
    let bytes = feed.0 in
    let line = c.loop-reader.line.items in
    let room = c.len-in-loop-reader.ensures in
    let test = c.loop-reader-test.true in
    let fits = feed.4 in
    let one = length-append line bytes in
    let two = length-append (line ++ bytes) (10 ∷ []) in (
      (line ++ bytes) ++ 10 ∷ [],
      (line ++ bytes, All-append (λ b. (b == 10) ≡ false) line bytes inv.clean feed.2, inr refl, omega (arith, room, fits, one, two)),
      subst (Consumes _ _) (sym (append_assoc line bytes (10 ∷ [])))
          (Consumes-trans _ (g.R.Read.remaining c.loop-reader.reader.device) _ line (bytes ++ 10 ∷ []) inv.taken feed.3),
    )

pub returns-in-Ok-Some-eq10-clause-front : goal.returns-in-Ok-Some-eq10-clause-front
returns-in-Ok-Some-eq10-clause-front g c =
    let some = c.in-Ok-Some-eq10 in
    let inv = c.loop-reader.invariant in
    let none = rw c.in-Ok-Nothing.field-0-is at c.in-Ok-Nothing.ensures.taken in
    let kept = Consumes-kept _ (g.R.Read.remaining c.loop-reader.reader.device) (g.R.Read.remaining c.take_piece.new.self.device) c.loop-reader.line.items
    inv.taken none.1 in
    let short : length c.loop-reader.line.items < 65537 = omega (arith, c.loop-reader-test.true, c.len.ensures) in
    let byte = rw (some.field-0-is, some.field-0-0-test) at some.ensures.next in
    with_feed _ (g.R.Read.remaining c.take_piece.new.self.device) _ c.loop-reader.line.items kept byte inv.clean short

pub returns-then-is_err-clause-front : goal.returns-then-is_err-clause-front
returns-then-is_err-clause-front g c =
    let some = c.in-Ok-Some in
    let inv = c.loop-reader.invariant in
    let none = rw c.in-Ok-Nothing.field-0-is at c.in-Ok-Nothing.ensures.taken in
    let kept = Consumes-kept _ (g.R.Read.remaining c.loop-reader.reader.device) (g.R.Read.remaining c.take_piece.new.self.device) c.loop-reader.line.items
    inv.taken none.1 in
    let short : length c.loop-reader.line.items < 65537 = omega (arith, c.loop-reader-test.true, c.len.ensures) in
    let byte = rw some.field-0-is at some.ensures.next in
    with_byte _ (g.R.Read.remaining c.take_piece.new.self.device) _ c.loop-reader.line.items some.byte kept byte some.byte-test.1 inv.clean short
