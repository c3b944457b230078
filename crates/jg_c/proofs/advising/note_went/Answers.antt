use Rattle.std.proofs.Common.{[], OnOk, refl, sym, subst}
use Rattle.std.proofs.lemmas.List.{append-nil}
use Rattle.std.proofs.lemmas.Result.{on_ok_weaker}
use Rattle.jg_c.specs.Advisers.{NotedHeld}
use Rattle.jg_c.specs.Advising.{NotesGone}
use Rattle.jg_c.proofs.Noting.{any_went}
use Rattle.jg_c.proofs.advising.note_went.Goals as goal

pub returns : goal.returns
returns c =
    let new : NotedHeld = record { adviser = c.went.new.self; waiting = c.noted.inside.waiting.items } in
    subst (λ (x : NotedHeld). OnOk c.went.result (NotesGone x new c.args.place)) c.noted.view_is
    (on_ok_weaker c.went.result (λ stands. record {
      notes = λ objects. record {
        most = c.went.ensures.most;
        stands = λ h p stood shown. any_went c.went.new.self h c.args.place p [] objects (stands h p stood);
        waiting = λ h p stood shown. ([], refl, sym (append-nil c.noted.inside.waiting.items));
      };
    }) c.went.ensures.stands)
