use Rattle.std.proofs.Common.{arith, ◌≡◌, ◌+◌, ◌-◌, take, drop, ap, sym, ◌∙◌}
use Rattle.std.proofs.Math.ListN.{drop_of_length-le}
use Rattle.std.proofs.lemmas.List.{length-drop}
use Rattle.jg_lines.proofs.Unread.{gives_front}
use Rattle.jg_lines.proofs.faulty.FaultyRead.read.Goals as goal

pub returns-clause-unread : goal.returns-clause-unread
returns-clause-unread c =
    let bytes = c.self.inside.bytes.items in
    let read = c.self.inside.read in
    let n = c.min-n.result in
    let fits = c.min-n.ensures in
    let count : (read + n) - read ≡ n = omega arith in
    let given : c.copy_from_slice.new.self ≡ take n (drop read bytes) =
    c.copy_from_slice.ensures.after ∙ (ap (λ k. take k (drop read c.deref.result.now)) count ∙ ap (λ xs. take n (drop read xs)) c.deref.ensures.value) in
    let front = gives_front bytes c.args.buf.now c.copy_from_slice.new.self read n given (omega (arith, fits, c.len.ensures, c.self.invariant.0)) in
    let left = length-drop read bytes in
    (sym (ap (λ d. d.unread) c.self.view_is) ∙ front, λ none some. drop_of_length-le bytes {i = read + n} (omega (arith, fits, none, some)))
