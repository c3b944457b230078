use Rattle.std.proofs.Common.{◌≡◌, ◌<◌, ◌∙◌, false, sym, refl, length, arith}
use Rattle.std.proofs.lemmas.List.{map-append}
use Rattle.std.specs.List.{list_any}
use Rattle.std.specs.Str.{bytes_eq}
use Rattle.toml.specs.View.{view}
use Rattle.jg_policy.specs.BaseClasses.{base_names}
use Rattle.jg_policy.specs.Stated.{StatedClass, class_stated}
use Rattle.jg_policy.proofs.Places.{position-any}
use Rattle.jg_policy.proofs.Repeats.{twice_base, twice_name, twice_member, once_stated, nothing_twice, false_not, true_not}
use Rattle.jg_policy.proofs.Seen.{text, name_put, twice_here}
use Rattle.jg_policy.proofs.Stating.{each_item-more}
use Rattle.jg_policy.proofs.limits.states_twice.Goals as goal

pub loop-class-init : goal.loop-class-init
loop-class-init c = rw c.new-seen.ensures.empty (record { seen = λ name. refl; once = nothing_twice })

pub returns-then-is_some : goal.returns-then-is_some
returns-then-is_some c =
    let i = c.loop-class.class-index in
    let below : i < length c.args.classes.now = omega arith in
    let base = sym (position-any (bytes_eq c.text_in-name.result.now) base_names) ∙ rw (← c.base_class.ensures.number) (sym c.if-is_some.ensures) in
    sym (twice_here c.args.classes.now i c.class-item.result below c.class-item.is
    (λ rest. twice_base _ (class_stated (view c.class-item.result)) rest (rw (← c.text_in-name.ensures) base)))

pub returns-then-not-branch : goal.returns-then-not-branch
returns-then-not-branch c =
    let i = c.loop-class.class-index in
    let below : i < length c.args.classes.now = omega arith in
    let old = sym (c.loop-class.invariant.seen c.text_in-name.result.now) ∙ false_not _ (sym c.if-not-branch.true ∙ c.in_ok-insert.ensures.added) in
    sym (twice_here c.args.classes.now i c.class-item.result below c.class-item.is
    (λ rest. twice_name _ (class_stated (view c.class-item.result)) rest (rw (← c.text_in-name.ensures) old)))

pub returns-then-branch : goal.returns-then-branch
returns-then-branch c =
    let i = c.loop-class.class-index in
    let below : i < length c.args.classes.now = omega arith in
    sym (twice_here c.args.classes.now i c.class-item.result below c.class-item.is
    (λ rest. twice_member _ (class_stated (view c.class-item.result)) rest (sym c.in_ok-repeats_member.ensures ∙ c.if-branch.true)))

pub loop-class-preserved : goal.loop-class-preserved
loop-class-preserved c =
    let i = c.loop-class.class-index in
    let below : i < length c.args.classes.now = omega arith in
    let more = each_item-more class_stated c.args.classes.now i c.class-item.result below in
    let base : list_any (bytes_eq c.text_in-name.result.now) base_names ≡ false =
    sym (position-any (bytes_eq c.text_in-name.result.now) base_names) ∙ rw (← c.base_class.ensures.number) (sym c.if-is_some.ensures) in
    let new = sym (c.loop-class.invariant.seen c.text_in-name.result.now) ∙ true_not _ (sym c.if-not-branch.false ∙ c.in_ok-insert.ensures.added) in
    record {
      seen = λ name. c.in_ok-insert.ensures.updates.0 (text name)
          ∙ rw (more, ← c.class-item.is, map-append (λ (d : StatedClass). d.name) _ _, ← c.text_in-name.ensures)
          (name_put c.text_in-name.result name _ _ (c.loop-class.invariant.seen name));
      once = rw (more, ← c.class-item.is)
          (once_stated _ (class_stated (view c.class-item.result)) (rw (← c.text_in-name.ensures) base) (rw (← c.text_in-name.ensures) new)
          (sym c.in_ok-repeats_member.ensures ∙ c.if-branch.false) c.loop-class.invariant.once);
    }
