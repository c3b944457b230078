use Rattle.std.proofs.Common.{◌≡◌, ◌<◌, ◌∙◌, length, get_or, refl, sym, ap, arith, inr}
use Rattle.std.proofs.lemmas.List.{get_or_read}
use Rattle.jg_lists.specs.Searches.{following}
use Rattle.jg_lists.proofs.slots.mark_at.Goals as goal

-- the next slot is free
pub returns-then-index-eq0 : goal.returns-then-index-eq0
returns-then-index-eq0 g c =
    let slots = c.args.slots.now.items in
    let many : c.len.result ≡ length slots = omega (arith, c.len.ensures, c.args.slots.now.ok) in
    let next : c.following-next.result ≡ following (length slots) c.args.slot = c.following-next.ensures.value ∙ ap (λ k. following k c.args.slot) many in
    let inside : c.following-next.result < length slots = omega (arith, many, c.following-next.ensures.within) in
    let read : c.index.result.now ≡ get_or slots c.following-next.result 0 =
    get_or_read slots c.following-next.result c.index.result.now inside c.index.ensures 0 in
    inr (refl, ap (λ u. get_or slots u 0) (sym next) ∙ (sym read ∙ c.if-index-eq0.true))
