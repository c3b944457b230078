use Rattle.std.proofs.Common.{sym, ap, ◌∙◌}
use Rattle.std.specs.Prelude.{Option}
use Rattle.std.specs.Option.{option_map}
use Rattle.std.proofs.lemmas.List.Elements.{All-weaker}
use Rattle.jg_words.specs.Entry.{Entry}
use Rattle.jg_shell.specs.Receipts.{told_of}
use Rattle.jg_shell.specs.Work.{Work}
use Rattle.jg_shell.specs.Finish.{IsRightWorker, PlacesRise}
use Rattle.jg_shell.proofs.Right.{Stand-rise}
use Rattle.jg_shell.proofs.compare.first_untold_entry.Goals as goal

pub is_told-requires : goal.is_told-requires
is_told-requires g c =
    All-weaker (IsRightWorker c.args.guard.now.journal) (λ (w : Work). PlacesRise w.receipts)
    (λ w right. Stand-rise c.args.guard.now.journal 0 w.receipts right.stand) c.args.workers.now c.requires

pub returns-then-not-is_told : goal.returns-then-not-is_told
returns-then-not-is_told g c = record {
  right = c.requires;
  told = told_of c.in-Some.entry.now;
  told_is = ap (λ (o : Option Entry). option_map told_of o) (sym c.in-Some.ensures.entry);
  tid_is = c.tid-tid.ensures;
  told_below = c.loop-place.invariant;
  untold = sym c.is_told.ensures ∙ c.if-not-is_told.true;
}
