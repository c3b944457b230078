use Rattle.std.proofs.Common.{◌≡◌, ◌+◌, length}
use Rattle.jg_rules.specs.Parts.{Parts}
use Rattle.jg_rules.specs.View.{ViewTells}
use Rattle.jg_judge.specs.Question.{beside_of}
use Rattle.jg_judge.specs.Suits.{suits}
use Rattle.jg_judge.proofs.Looked.{AreSoFar}
use Rattle.jg_judge.proofs.pass.look_over.Given as goal

abbrev pub invariant-loop-argument : goal.invariant-loop-argument
invariant-loop-argument g l = (l.place + length l.rest ≡ length l.arguments) × (suits l.wanted l.rest ≡ suits l.takes l.arguments)
    × ((p : Parts) → ViewTells g.S.Store.Tells l.view p
    → AreSoFar l.view.setup.now p l.tid.0 (beside_of l.bounds p l.arguments) l.takes l.arguments l.first l.broken l.place l.wanted l.rest)

abbrev pub decreases-loop-argument : goal.decreases-loop-argument
decreases-loop-argument g l = length l.rest
