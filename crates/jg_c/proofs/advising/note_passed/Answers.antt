use Rattle.std.proofs.Common.{◌++◌, ◌∙◌, OnOk, refl, ap, subst}
use Rattle.std.proofs.lemmas.Result.{on_ok_weaker}
use Rattle.jg_policy.specs.Stated.{StatedSetup}
use Rattle.jg_advice.specs.Advised.{on_call}
use Rattle.jg_c.specs.Advisers.{NotedHeld}
use Rattle.jg_c.specs.Advising.{Advises, Shows, call_of}
use Rattle.jg_c.proofs.Noting.{noted}
use Rattle.jg_c.proofs.Seeing.{tells_shown}
use Rattle.jg_c.proofs.advising.note_passed.Goals as goal

pub returns : goal.returns
returns c =
    let old : NotedHeld = record { adviser = c.noted.inside.adviser; waiting = c.noted.inside.waiting.items } in
    let new : NotedHeld = record { adviser = c.called.new.self; waiting = c.put_all.new.waiting.items } in
    let call = λ (s : StatedSetup). call_of s c.args.head c.args.arguments.now c.args.name.now in
    let on = on_call c.args.place c.args.head.tid c.args.head.function c.args.arguments.now c.args.name.now in
    let tells = tells_shown _ c.view-view.result c.args.core.now c.view-view.ensures.tells in
    subst (λ (s : StatedSetup). OnOk c.put_all.result (Advises c.args.noted.now new c.args.place (call s) (Shows c.args.core.now))) c.view-view.ensures.setup
    (subst (λ (x : NotedHeld). OnOk c.put_all.result (Advises x new c.args.place (call c.view-view.result.setup.now) (Shows c.args.core.now))) c.noted.view_is
    (on_ok_weaker c.put_all.result (λ put. noted old new c.args.place (call c.view-view.result.setup.now) (Shows c.args.core.now) c.called.new.out.items
    c.called.ensures.most
    (λ h p stood shown. c.in_ok-called.ensures.stands h p stood (tells p shown))
    (λ h p stood shown. (
      on p h,
      refl,
      c.in_ok-called.ensures.advised h p stood (tells p shown) ∙ ap (λ l. l ++ on p h) c.clear.ensures.items,
    ))
    (put ∙ ap (λ l. c.noted.inside.waiting.items ++ l) c.as_slice.ensures.value)) c.put_all.ensures))
