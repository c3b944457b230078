use Rattle.std.proofs.Common.{◌<◌, ◌^◌, ◌∙◌, ◌++◌, ap, subst, arith}
use Rattle.std.specs.Prelude.{string_bytes}
use Rattle.jg_text.specs.Words.{tid_text, FitsTid}
use Rattle.jg_record.proofs.Written.{writes}
use Rattle.jg_record.proofs.write.push_text.Goals as goal

pub returns : goal.returns
returns c =
    let tid : c.teller.result.0 < 2 ^ 16 = omega arith in
    writes c.args.setup.now c.args.by c.args.event.now c.args.lists.now.arguments.items c.args.lists.now.objects.items (string_bytes c.args.out.now) _ _
    c.requires (subst FitsTid c.teller.ensures tid) c.in_ok-push_words.ensures.fits
    (c.in_ok-push_tid.ensures ∙ ap (λ t. string_bytes c.args.out.now ++ tid_text t) c.teller.ensures) c.in_ok-push_words.ensures.written
