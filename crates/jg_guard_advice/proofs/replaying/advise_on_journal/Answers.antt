use Rattle.std.proofs.Common.{List, sym, subst}
use Rattle.jg_words.specs.Entry.{Entry}
use Rattle.jg_guard_advice.specs.Logged.{Logged}
use Rattle.jg_guard_advice.proofs.replaying.advise_on_journal.Goals as goal

pub loop-place-init : goal.loop-place-init
loop-place-init g c = record {
  front = c.in_ok-again.ensures;
  logged = subst (λ (h : List Entry). Logged c.in-Ok.advising.log c.in_ok-again.again.setup h) (sym c.in_ok-again.ensures.journal)
      (c.in-Ok.ensures.logged c.in_ok-again.again.setup);
  most = c.in-Ok.ensures.most;
  all = c.in-Ok.ensures.all;
}
