use Rattle.std.proofs.Common.{◌≡◌, ◌+◌, Bool, Some, None, rules, refl, ◌∙◌, ap, sym, subst}
use Rattle.std.specs.Prelude.{◌&&◌, if◌then◌else◌, slice_get}
use Rattle.jg_lists.specs.ByMaker.{Name, same_name}
use Rattle.jg_rows.specs.Columns.{columns}
use Rattle.jg_rows.specs.Table.{functions}
use Rattle.jg_advice.specs.Advised.{lost, unchecked}
use Rattle.jg_advice.specs.Buffers.{commits, is_copy, is_named, released_by}
use Rattle.jg_advice.specs.Doing.{doing_after, source}
use Rattle.jg_advice.specs.Moments.{depth}
use Rattle.jg_advice.specs.Standing.{AdviserState, Sees, Stands, kept}
use Rattle.jg_advice.proofs.Standings.{call_advised, call_stands, found}
use Rattle.jg_advice.proofs.adviser.Adviser.called.Goals as goal

pub returns-clause-advised : goal.returns-clause-advised
returns-clause-advised g c = λ h p stands tells.
    let row = columns c.in-Some.row.now in
    let is : slice_get functions c.args.function ≡ Some row = search rules in
    call_advised _ h p c.args.line c.args.view.now.setup.now c.args.tid c.args.function row c.args.arguments.now c.args.name.now is
    (subst (λ (v : AdviserState). Stands v h) (sym c.self.view_is) stands)
    c.unchecked.result c.lost.result c.misnamed.result
    c.args.out.now.items c.push_if.new.out.items c.push_if-2.new.out.items c.push_if-3.new.out.items
    (c.unchecked.ensures ∙ ap (unchecked c.args.line c.args.tid c.args.function (Some row))
    (c.in_ok-before.ensures.before ∙ ap (λ d. kept c.self.inside.doings (c.args.tid.0, d)) (c.depth.ensures.history p.locals tells.locals)))
    (c.lost.ensures ∙ ap (lost c.args.line c.args.tid c.args.function (found c.self.inside.written)) c.released_by-release.ensures)
    c.misnamed.ensures
    c.in_ok-push_if.ensures c.in_ok-push_if-2.ensures c.in_ok-push_if-3.ensures

pub returns-clause-stands : goal.returns-clause-stands
returns-clause-stands g c = λ h p stands tells.
    let row = columns c.in-Some.row.now in
    let is : slice_get functions c.args.function ≡ Some row = search rules in
    let call = source c.args.line c.args.tid c.args.function in
    let buffer = c.written_by-buffer.result in
    let release = released_by (Some row) c.args.arguments.now in
    let sees : Sees c.args.view.now p = record { locals = tells.locals; buffers = tells.buffers; monitors = tells.monitors } in
    call_stands _ h p c.args.line c.args.view.now.setup.now c.args.tid c.args.function row c.args.arguments.now c.args.name.now is
    (subst (λ (v : AdviserState). Stands v h) (sym c.self.view_is) stands) _
    (subst (λ (throws : Bool). (q : Name) → kept c.note_call.new.doings q
    ≡ (if same_name (c.args.tid.0, depth p c.args.tid.0) q then doing_after (Some row) throws call (kept c.self.inside.doings q)
    else kept c.self.inside.doings q))
    (c.may_throw-throws.ensures p tells)
    (subst (λ (name : Name). (q : Name) → kept c.note_call.new.doings q
    ≡ (if same_name name q then doing_after (Some row) c.may_throw-throws.result call (kept c.self.inside.doings q) else kept c.self.inside.doings q))
    (ap (λ d. (c.args.tid.0, d)) (c.depth.ensures.history p.locals tells.locals)) c.in_ok-before.ensures.noted))
    (λ q. c.in_ok-note_written.ensures p sees q
    ∙ ap (λ r. if commits q r then None else (if is_named q buffer && is_copy p buffer then Some call else found c.self.inside.written q))
    c.released_by-release.ensures
    ∙ ap (λ b. if commits q release then None else (if is_named q b && is_copy p b then Some call else found c.self.inside.written q))
    c.written_by-buffer.ensures)
    (λ q. c.in_ok-note_committed.ensures.found q ∙ ap (λ r. if commits q r then Some call else found c.self.inside.committed q) c.released_by-release.ensures)
    c.in_ok-note_committed.ensures.once
    refl refl
    (c.in_ok-self-inside.ensures ∙ ap (λ b. if b then c.self.inside.counts.calls + 1 else c.self.inside.counts.calls) c.is_jni.ensures)
    (c.in_ok-self-inside-2.ensures ∙ ap (λ b. if b then c.self.inside.counts.collections + 1 else c.self.inside.counts.collections) c.collects.ensures)
