use Rattle.std.proofs.Common.{◌≡◌, ◌∙◌, sym, ap, map, true, false, []}
use Rattle.toml.specs.View.{table_view}
use Rattle.jg_policy.specs.Stated.{setup_stated, each_item, class_stated}
use Rattle.jg_policy.specs.Findings.{states_twice, shape_faults, tree_faults}
use Rattle.jg_policy.specs.Kept.{grant_view, class_view}
use Rattle.jg_policy.proofs.Spelt.{setup_spelt}
use Rattle.jg_policy.proofs.Sizes.{large_kept, few_classes}
use Rattle.jg_policy.proofs.Trees.{shape_answers, repeat_answers, size_answers, clean_answers, first_found, none_found}
use Rattle.jg_policy.proofs.setup.Setup.from_tree.Goals as goal

pub returns-in-Some-clause-refused : goal.returns-in-Some-clause-refused
returns-in-Some-clause-refused c _ =
    first_found (tree_faults (table_view c.args.table.now)) _ (shape_answers (table_view c.args.table.now) _ (sym c.in-Some.ensures))

pub returns-in-Ok-true-clause-refused : goal.returns-in-Ok-true-clause-refused
returns-in-Ok-true-clause-refused c _ =
    let twice : states_twice (setup_stated (table_view c.args.table.now)).classes ≡ true =
    ap (λ items. states_twice (each_item class_stated items)) (sym c.items_at-stated.ensures) ∙ sym c.in-Ok-true.ensures ∙ c.in-Ok-true.field-0-test in
    first_found (tree_faults (table_view c.args.table.now)) _ (repeat_answers (table_view c.args.table.now) (sym c.in_default.ensures) twice)

pub returns-then-is_too_large-clause-refused : goal.returns-then-is_too_large-clause-refused
returns-then-is_too_large-clause-refused c _ =
    let once : states_twice (setup_stated (table_view c.args.table.now)).classes ≡ false =
    ap (λ items. states_twice (each_item class_stated items)) (sym c.items_at-stated.ensures) ∙ sym c.in-Ok-false.ensures ∙ c.in-Ok-false.field-0-test in
    first_found (tree_faults (table_view c.args.table.now)) _
    (size_answers (table_view c.args.table.now) (sym c.in_default.ensures) once (sym c.if-is_too_large.ensures))

pub settle_classes-requires : goal.settle_classes-requires
settle_classes-requires c =
    let stated = setup_stated (table_view c.args.table.now) in
    let classes : map class_view c.in-Ok.classes.entries ≡ stated.classes = c.in-Ok.ensures ∙ ap (each_item class_stated) c.items_at-stated.ensures in
    few_classes c.in-Ok-grants_of.grants.items c.in-Ok.classes.entries
    (large_kept stated c.in-Ok-grants_of.grants.items c.in-Ok.classes.entries c.in-Ok-grants_of.ensures classes ∙ sym c.if-is_too_large.ensures)

pub invariant_of-result : goal.invariant_of-result
invariant_of-result c =
    let stated = setup_stated (table_view c.args.table.now) in
    let classes : map class_view c.in-Ok.classes.entries ≡ stated.classes = c.in-Ok.ensures ∙ ap (each_item class_stated) c.items_at-stated.ensures in
    let grants : map grant_view c.in-Ok-grants_of.grants.items ≡ stated.grants = c.in-Ok-grants_of.ensures in
    let none : shape_faults (table_view c.args.table.now) ≡ [] = none_found (shape_faults (table_view c.args.table.now)) (sym c.in_default.ensures) in
    record {
      fit = record {
        sized = large_kept stated _ _ grants classes ∙ sym c.if-is_too_large.ensures;
        distinct = ap states_twice c.in-Ok.ensures ∙ sym c.in-Ok-false.ensures ∙ c.in-Ok-false.field-0-test;
        spelt = rw (grants, classes) (setup_spelt (table_view c.args.table.now) none);
      };
      settled = rw (← c.as_slice.ensures.value) c.in-Ok-settle_classes.ensures;
    }

pub returns-clause-clean : goal.returns-clause-clean
returns-clause-clean c =
    let once : states_twice (setup_stated (table_view c.args.table.now)).classes ≡ false =
    ap (λ items. states_twice (each_item class_stated items)) (sym c.items_at-stated.ensures) ∙ sym c.in-Ok-false.ensures ∙ c.in-Ok-false.field-0-test in
    none_found (tree_faults (table_view c.args.table.now))
    (clean_answers (table_view c.args.table.now) (sym c.in_default.ensures) once (sym c.if-is_too_large.ensures))
