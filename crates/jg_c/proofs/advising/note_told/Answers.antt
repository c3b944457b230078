use Rattle.std.proofs.Common.{◌++◌, ◌∙◌, OnOk, ap, subst}
use Rattle.std.proofs.lemmas.Result.{on_ok_weaker}
use Rattle.jg_advice.specs.Moments.{Told}
use Rattle.jg_c.specs.Advisers.{NotedHeld}
use Rattle.jg_c.specs.Advising.{Advises, Shows}
use Rattle.jg_c.proofs.Noting.{noted}
use Rattle.jg_c.proofs.Seeing.{sees}
use Rattle.jg_c.proofs.advising.note_told.Goals as goal

pub returns : goal.returns
returns c =
    let old : NotedHeld = record { adviser = c.noted.inside.adviser; waiting = c.noted.inside.waiting.items } in
    let new : NotedHeld = record { adviser = c.told.new.self; waiting = c.put_all.new.waiting.items } in
    let seen = sees _ _ c.args.core.now c.view-view.ensures.tells in
    subst (λ (x : NotedHeld). OnOk c.put_all.result (Advises x new c.args.place (Told c.args.fact) (Shows c.args.core.now))) c.noted.view_is
    (on_ok_weaker c.put_all.result (λ put. noted old new c.args.place (Told c.args.fact) (Shows c.args.core.now) c.told.new.out.items
    c.told.ensures.most
    (λ h p stood shown. c.in_ok-told.ensures.stands h p stood (seen p shown))
    (λ h p stood shown.
    let a = c.in_ok-told.ensures.advised h p stood (seen p shown) in
    (a.0, a.1, a.2 ∙ ap (λ l. l ++ a.0) c.clear.ensures.items))
    (put ∙ ap (λ l. c.noted.inside.waiting.items ++ l) c.as_slice.ensures.value)) c.put_all.ensures)
