use Rattle.std.proofs.Common.{rules, ◌≡◌, length}
use Rattle.jg_judge.proofs.Room.{two_put}
use Rattle.jg_judge.proofs.operands.two.Goals as goal

pub returns-clause-listed : goal.returns-clause-listed
returns-clause-listed c =
    let full : length c.args.out.now ≡ 3 = search rules in
    two_put c.args.out.now c.args.first c.args.second full
