use Rattle.std.proofs.Common.{rules, ◌≡◌, [], ◌∷◌, Some, refl}
use Rattle.std.specs.Prelude.{slice_get}
use Rattle.jg_rows.specs.Columns.{columns}
use Rattle.jg_rows.specs.Table.{functions}
use Rattle.jg_breaches.proofs.Meant.{is_meant}
use Rattle.jg_breaches.proofs.operands.operand_meant.Goals as goal

pub returns-in-Empty : goal.returns-in-Empty
returns-in-Empty g c = λ p stands.
    let here : slice_get functions c.function_of.result ≡ Some (columns c.in-Some.row.now) = search rules in
    is_meant c.args.view.now.setup.now p c.args.tid.0 c.args.call.now c.args.rule (columns c.in-Some.row.now) _ ([]) _ here c.function_of.ensures
    (c.in-Empty.ensures p stands) refl

pub returns-in-One : goal.returns-in-One
returns-in-One g c = λ p stands.
    let here : slice_get functions c.function_of.result ≡ Some (columns c.in-Some.row.now) = search rules in
    is_meant c.args.view.now.setup.now p c.args.tid.0 c.args.call.now c.args.rule (columns c.in-Some.row.now) _ (c.in-One.first ∷ []) _ here
    c.function_of.ensures (c.in-One.ensures p stands) (c.first_of.ensures p stands)

pub returns-in-Two : goal.returns-in-Two
returns-in-Two g c = λ p stands.
    let here : slice_get functions c.function_of.result ≡ Some (columns c.in-Some.row.now) = search rules in
    is_meant c.args.view.now.setup.now p c.args.tid.0 c.args.call.now c.args.rule (columns c.in-Some.row.now) _ (c.in-Two.first ∷ c.in-Two.second ∷ []) _ here
    c.function_of.ensures (c.in-Two.ensures p stands) (c.first_of-in-Two.ensures p stands)

pub returns-in-Three : goal.returns-in-Three
returns-in-Three g c = λ p stands.
    let here : slice_get functions c.function_of.result ≡ Some (columns c.in-Some.row.now) = search rules in
    is_meant c.args.view.now.setup.now p c.args.tid.0 c.args.call.now c.args.rule (columns c.in-Some.row.now) _
    (c.in-Three.first ∷ c.in-Three.second ∷ c.in-Three.third ∷ []) _ here c.function_of.ensures (c.in-Three.ensures p stands)
    (c.first_of-in-Three.ensures p stands)
