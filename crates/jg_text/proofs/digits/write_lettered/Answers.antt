use Rattle.std.proofs.Common.{arith, rules}
use Rattle.std.proofs.lemmas.Fmt.{length-decimal-le}
use Rattle.std.proofs.lemmas.List.{drop_all}
use Rattle.jg_text.proofs.Writing.{lettered}
use Rattle.jg_text.proofs.digits.write_lettered.Goals as goal

pub write_digits-second-requires : goal.write_digits-second-requires
write_digits-second-requires c = (omega (arith, length-decimal-le 20 c.args.b (omega arith) (omega arith) (omega arith)), search rules)

pub put_before-stop-requires : goal.put_before-stop-requires
put_before-stop-requires c =
    let long = length-decimal-le 20 c.args.b (omega arith) (omega arith) (omega arith) in
    (omega (arith, long), omega (arith, long))

pub write_digits-first-requires : goal.write_digits-first-requires
write_digits-first-requires c =
    let long = length-decimal-le 20 c.args.b (omega arith) (omega arith) (omega arith) in
    let longer = length-decimal-le 20 c.args.a (omega arith) (omega arith) (omega arith) in
    (omega (arith, long, longer), omega (arith, long, longer))

pub put_before-requires : goal.put_before-requires
put_before-requires c =
    let long = length-decimal-le 20 c.args.b (omega arith) (omega arith) (omega arith) in
    let longer = length-decimal-le 20 c.args.a (omega arith) (omega arith) (omega arith) in
    (omega (arith, long, longer), omega (arith, long, longer))

pub returns-clause-written : goal.returns-clause-written
returns-clause-written c =
    lettered c.args.letter c.args.a c.args.b _ _ _ _ _ (drop_all 42 c.args.buffer.now (omega arith)) c.write_digits-second.ensures.written
    c.put_before-stop.ensures.written
    c.write_digits-first.ensures.written c.put_before.ensures.written
