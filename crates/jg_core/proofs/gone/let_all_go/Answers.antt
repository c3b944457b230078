use Rattle.std.proofs.Common.{rules, ◌∙◌, ap, sym, refl, []}
use Rattle.jg_table_objects.proofs.Callers.{marks_law}
use Rattle.jg_table_objects.specs.Rows.{Rows}
use Rattle.jg_rules.specs.Parts.{Parts, RowsBeside}
use Rattle.jg_core.proofs.Going.{are_marked, gone_stand, holders_beside, numbers_of, set_where_listed, unfit_among, unmarked_after}
use Rattle.jg_core.proofs.gone.let_all_go.Goals as goal

pub returns-in-None-clause-all : goal.returns-in-None-clause-all
returns-in-None-clause-all g c = λ p stand.
    let marks = are_marked p c.args.tables.now.objects c.args.objects.now _ _ c.requires.unmarked c.give_marks.ensures.marks
    (c.mark_held.ensures.marks p (holders_beside c.args.setup.now _ _ _ p stand refl)) in
    sym (c.in-None.ensures.first ∙ unfit_among c.args.setup.now p c.args.tables.now.objects c.args.objects.now _ stand.heap marks)

pub returns-in-None-clause-unmarked : goal.returns-in-None-clause-unmarked
returns-in-None-clause-unmarked g c =
    let p : Parts = c.requires.stands.0 in
    let stand = c.requires.stands.1 in
    let marks = are_marked p c.args.tables.now.objects c.args.objects.now _ _ c.requires.unmarked c.give_marks.ensures.marks
    (c.mark_held.ensures.marks p (holders_beside c.args.setup.now _ _ _ p stand refl)) in
    unmarked_after p c.args.tables.now.objects c.args.objects.now _ _ _ marks c.in-None.ensures.others c.go.ensures.marks

pub returns-in-None-clause-ok : goal.returns-in-None-clause-ok
returns-in-None-clause-ok g c = λ p stand.
    let objects = c.args.objects.now in
    let marks = are_marked p c.args.tables.now.objects c.args.objects.now _ _ c.requires.unmarked c.give_marks.ensures.marks
    (c.mark_held.ensures.marks p (holders_beside c.args.setup.now _ _ _ p stand refl)) in
    let same = marks_law _ _ p.heap c.in-None.ensures.same
    (marks_law _ _ p.heap c.mark_held.ensures.same (marks_law _ _ p.heap c.give_marks.ensures.same stand.heap.stands)) in
    gone_stand c.args.setup.now _ _ objects p stand (search rules)
    (c.clear_marked.ensures p.globals (numbers_of objects []) (search rules)
    (set_where_listed p c.args.tables.now.objects objects _ _ marks (c.in-None.ensures.set refl)))
    (record { stands = c.go.ensures.stands p.heap same; classes = search rules })

pub returns-in-Some-clause-place : goal.returns-in-Some-clause-place
returns-in-Some-clause-place g c = λ p stand.
    let marks = are_marked p c.args.tables.now.objects c.args.objects.now _ _ c.requires.unmarked c.give_marks.ensures.marks
    (c.mark_held.ensures.marks p (holders_beside c.args.setup.now _ _ _ p stand refl)) in
    sym (c.in-Some.ensures.first ∙ unfit_among c.args.setup.now p c.args.tables.now.objects c.args.objects.now _ stand.heap marks)

pub returns-in-Some-clause-unmarked : goal.returns-in-Some-clause-unmarked
returns-in-Some-clause-unmarked g c =
    let p : Parts = c.requires.stands.0 in
    let stand = c.requires.stands.1 in
    let marks = are_marked p c.args.tables.now.objects c.args.objects.now _ _ c.requires.unmarked c.give_marks.ensures.marks
    (c.mark_held.ensures.marks p (holders_beside c.args.setup.now _ _ _ p stand refl)) in
    unmarked_after p c.args.tables.now.objects c.args.objects.now _ _ _ marks c.in-Some.ensures.others c.take_marks.ensures.marks

pub returns-in-Some-clause-by : goal.returns-in-Some-clause-by
returns-in-Some-clause-by g c = λ p stand.
    c.holder_of-by.ensures p (holders_beside c.args.setup.now _ _ _ p stand
    (ap (λ (rows : RowsBeside Rows). record rows { heap = c.take_marks.new.self }) c.mark_held.ensures.rows))
