use Rattle.std.proofs.Common.{◌<◌, ◌-◌, ◌^◌, ◌∙◌, ℕ, List, Option, Ok, Err, ap, arith, refl, subst, sym}
use Rattle.jg_policy.specs.Stated.{StatedSetup}
use Rattle.jg_core.specs.Kernel.{CoreStands, CoreState}
use Rattle.jg_advice.specs.Moments.{Moment, What, facts_of}
use Rattle.jg_watch.specs.Logged.{LogStandsIf, with_moment}
use Rattle.jg_watch.specs.Lines.{what_of}
use Rattle.jg_watch.specs.Told.{Watching}
use Rattle.std.specs.Prelude.{slice_index_or}
use Rattle.jg_watch.proofs.Counting.{denied_fits, fits}
use Rattle.jg_watch.proofs.Lasting.{begins, ended_at, goes_on, still}
use Rattle.jg_watch.proofs.run.watch_lines.Goals as goal

pub loop-line-init : goal.loop-line-init
loop-line-init g c = record {
  watched = begins _ c.args.shown _ _ _ _ _ c.requires.new c.requires.none c.requires.denied c.requires.explained c.requires.advised;
  setup = refl;
  most = refl;
  advising = refl;
  reads = refl;
  writes = refl;
}

pub count-requires-clause-tally : goal.count-requires-clause-tally
count-requires-clause-tally g c k =
    let h = c.loop-line.invariant.watched in
    subst (λ (t : List ℕ). slice_index_or t k 0 < 2 ^ 64 - 1) (sym c.answer_next.ensures.tally)
    (fits h.lines _ k h.counted (omega (arith, h.number, c.loop-line-test.true, c.loop-line.auto.line-end)))

pub count-requires-clause-denied : goal.count-requires-clause-denied
count-requires-clause-denied g c =
    let h = c.loop-line.invariant.watched in
    denied_fits h.lines _ (c.answer_next.ensures.denied ∙ h.denied) (omega (arith, h.number, c.loop-line-test.true, c.loop-line.auto.line-end))

pub returns-in-Ok-Ended-clause-watches : goal.returns-in-Ok-Ended-clause-watches
returns-in-Ok-Ended-clause-watches g c =
    let inv = c.loop-line.invariant in
    let h = still _ c.args.shown _ _ _ _ _ _ _ _ _ inv.watched c.hand_over.ensures.kept in
    let ends = rw c.in-Ok-Ended.field-0-is at (c.in-Ok-Ended.ensures.answers h.told h.stands) in
    ended_at _ _ c.args.shown _ _ _ _ _ _ _ c.loop-line.watch _ _ _ _ (Ok c.in-Ok-Ended.ended) h inv.setup c.answer_next.ensures.tally
    c.answer_next.ensures.denied ends.0 ends.1

pub returns-in-Err-clause-watches : goal.returns-in-Err-clause-watches
returns-in-Err-clause-watches g c =
    let inv = c.loop-line.invariant in
    let h = still _ c.args.shown _ _ _ _ _ _ _ _ _ inv.watched c.hand_over.ensures.kept in
    ended_at _ _ c.args.shown _ _ _ _ _ _ _ c.loop-line.watch _ _ _ _ (Err c.in-Err.stop) h inv.setup c.answer_next.ensures.tally c.answer_next.ensures.denied
    (c.in-Err.ensures.answers h.told h.stands) tt

pub loop-line-preserved : goal.loop-line-preserved
loop-line-preserved g c =
    let inv = c.loop-line.invariant in
    let h = still _ c.args.shown _ _ _ _ _ _ _ _ _ inv.watched c.hand_over.ensures.kept in
    let answers = rw c.in-Ok-Answered.field-0-is at (c.in-Ok-Answered.ensures.answers h.told h.stands) in
    let what : StatedSetup → List ℕ
    → Option What = λ s text. what_of s text c.in-Ok-Answered.replied.event c.in-Ok-Answered.replied.reply c.answer_next.new.room.lists.arguments.items
    c.answer_next.new.room.lists.objects.items in
    let setup = ap (λ (w : Watching). w.core.setup) c.watch.view_is ∙ c.answer_next.ensures.setup in
    let advised = subst (λ (s : StatedSetup). (hist : List Moment) → LogStandsIf c.loop-line.log hist
    → CoreStands c.watch.inside.core (facts_of (with_moment c.loop-line.line (what s c.answer_next.new.text.items) hist))
    → LogStandsIf c.advise.new.log (with_moment c.loop-line.line (what s c.answer_next.new.text.items) hist)) setup
    (subst (λ (text : List ℕ). (hist : List Moment) → LogStandsIf c.loop-line.log hist
    → CoreStands c.watch.inside.core (facts_of (with_moment c.loop-line.line (what c.watch.inside.core.setup text) hist))
    → LogStandsIf c.advise.new.log (with_moment c.loop-line.line (what c.watch.inside.core.setup text) hist))
    c.deref.ensures.value c.advise.ensures.logs) in
    record {
      watched = goes_on _ _ c.args.shown _ _ _ _ _ _ _ c.loop-line.watch c.answer_next.new.watch _ _ _ _ c.in-Ok-Answered.replied _ _ _ _ h inv.setup answers
          c.answer_next.ensures.tally
          c.answer_next.ensures.denied (rw c.denied.ensures at c.note.ensures) c.count.ensures.tally c.count.ensures.denied c.count.ensures.core
          c.count.ensures.bounds
          (λ hist logs stands. advised hist logs
          (subst (λ (k : CoreState). CoreStands k
          (facts_of (with_moment c.loop-line.line (what c.loop-line.watch.core.setup c.answer_next.new.text.items) hist)))
          (sym (ap (λ (w : Watching). w.core) c.watch.view_is)) stands));
      setup = ap (λ (x : CoreState). x.setup) c.count.ensures.core ∙ c.answer_next.ensures.setup ∙ inv.setup;
      most = c.note.ensures.most ∙ inv.most;
      advising = c.advise.ensures.advising ∙ inv.advising;
      reads = c.in-Ok-Answered.ensures.reader ∙ inv.reads;
      writes = c.in-Ok-Answered.ensures.writer ∙ (c.hand_over.ensures.failed ∙ inv.writes);
    }
