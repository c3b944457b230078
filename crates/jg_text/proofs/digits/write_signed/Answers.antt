use Rattle.std.proofs.Common.{arith, rules}
use Rattle.std.proofs.lemmas.Fmt.{length-decimal-le}
use Rattle.jg_text.proofs.digits.write_signed.Goals as goal

pub write_digits-digits-requires : goal.write_digits-digits-requires
write_digits-digits-requires c = (omega (arith, length-decimal-le 19 c.unsigned_abs.result (omega arith) (omega arith) (omega arith)), search rules)

pub put_before-requires : goal.put_before-requires
put_before-requires c =
    let long = length-decimal-le 19 c.unsigned_abs.result (omega arith) (omega arith) (omega arith) in
    (omega (arith, long), omega (arith, long))

pub returns-then-n-lt0-clause-room : goal.returns-then-n-lt0-clause-room
returns-then-n-lt0-clause-room c = omega (arith, length-decimal-le 19 c.unsigned_abs.result (omega arith) (omega arith) (omega arith))

pub returns-else-n-lt0-clause-room : goal.returns-else-n-lt0-clause-room
returns-else-n-lt0-clause-room c = omega (arith, length-decimal-le 19 c.unsigned_abs.result (omega arith) (omega arith) (omega arith))
