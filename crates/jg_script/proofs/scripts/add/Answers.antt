use Rattle.std.proofs.Common.{refl, inr, rules, arith}
use Rattle.jg_script.proofs.Threads.{in_no_gap, script_of-absent, added, begun}
use Rattle.jg_script.proofs.scripts.add.Goals as goal

pub returns-then-len-eq-MAX_THREADS-clause-err : goal.returns-then-len-eq-MAX_THREADS-clause-err
returns-then-len-eq-MAX_THREADS-clause-err c =
    let xs = c.args.threads.now.items in
    let t = c.args.tid.0 in
    inr (refl, search rules, script_of-absent xs t (in_no_gap xs t c.in-Err.place (search rules)))

pub returns-in-Ok-push-clause-ok : goal.returns-in-Ok-push-clause-ok
returns-in-Ok-push-clause-ok c =
    added c.args.threads.now.items c.args.tid.0 c.in-Ok.place c.args.line c.index_mut.result.now
    (record { tid = c.index_mut.result.now.tid; calls = c.push.new.self }) c.requires.ascend c.requires.few
    (search rules) c.index_mut.ensures.value refl c.in-Ok-push.ensures.items

pub returns-in-Ok-insert-clause-ok : goal.returns-in-Ok-insert-clause-ok
returns-in-Ok-insert-clause-ok c =
    begun c.args.threads.now.items c.insert.new.self.items c.args.tid.0 c.in-Err.place c.args.line c.in-Ok-begin.script c.in-Ok-insert.ensures.items
    c.requires.ascend
    (omega (arith, c.requires.few, c.if-len-eq-MAX_THREADS.false, c.len.ensures, c.args.threads.now.ok)) (search rules) (search rules) (search rules)
