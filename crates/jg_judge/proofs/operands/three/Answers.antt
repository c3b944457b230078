use Rattle.std.proofs.Common.{rules, ◌≡◌, length}
use Rattle.jg_judge.proofs.Room.{three_put}
use Rattle.jg_judge.proofs.operands.three.Goals as goal

pub returns-clause-listed : goal.returns-clause-listed
returns-clause-listed c =
    let full : length c.args.out.now ≡ 3 = search rules in
    three_put c.args.out.now c.args.first c.args.second c.args.third full
