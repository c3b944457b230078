use lib.Utf8.{encode}
use Rattle.jg_text.proofs.Writing.{entry_written}
use Rattle.jg_text.proofs.write.push_entry.Goals as goal

pub returns-clause-written : goal.returns-clause-written
unfolding lib.Utf8.encode
returns-clause-written c =
    entry_written c.args.entry.now c.tid.result c.env.result c.call-call.result.now c.fun.result c.name.result.now _ _ _ _ _ _ _ _ c.tid.ensures c.env.ensures
    c.call-call.ensures c.name.ensures c.fun.ensures
    c.in_ok-push_tid.ensures c.in_ok-push.ensures.bytes c.in_ok-push_env.ensures.written c.in_ok-push-2.ensures.bytes c.in_ok-push_str.ensures.bytes
    c.in_ok-write.ensures
    c.in_ok-push_answer.ensures.written
