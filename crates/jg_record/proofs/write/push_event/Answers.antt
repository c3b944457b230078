use Rattle.std.proofs.Common.{sym, ◌∙◌, ◌∷◌, ap, arith, length}
use Rattle.jg_record.proofs.Written.{no_text, longer, cut_place, cut_off}
use Rattle.jg_record.proofs.write.push_event.Goals as goal

pub returns-then-not-has_text-clause-unwritten : goal.returns-then-not-has_text-clause-unwritten
returns-then-not-has_text-clause-unwritten c =
    no_text c.args.setup.now c.args.event.now c.args.lists.now.arguments.items c.args.lists.now.objects.items (sym c.has_text.ensures ∙ c.if-not-has_text.true)

pub overflow_sub-as_str : goal.overflow_sub-as_str
overflow_sub-as_str c =
    let long = longer _ _ _ _ _ _ _ c.in-Ok.ensures in
    omega (arith, long, ap length c.as_str-start.ensures.value, ap length c.as_str.ensures.value)

pub truncate-requires : goal.truncate-requires
truncate-requires c = λ _. cut_place _ _ c.in-Ok.ensures.tail _ c.in-Ok.ensures.appended (ap length c.as_str-start.ensures.value)

pub returns-then-as_str-start-gt-MAX_LINE-clause-unwritten : goal.returns-then-as_str-start-gt-MAX_LINE-clause-unwritten
returns-then-as_str-start-gt-MAX_LINE-clause-unwritten c =
    let long = longer _ _ _ _ _ _ _ c.in-Ok.ensures in (
      84 ∷ c.in-Ok.ensures.tail,
      omega
          (arith, long, ap length c.as_str-start.ensures.value, ap length c.as_str.ensures.value, c.if-as_str-start-gt-MAX_LINE.true),
      c.in-Ok.ensures.is,
    )

pub returns-then-as_str-start-gt-MAX_LINE-clause-kept : goal.returns-then-as_str-start-gt-MAX_LINE-clause-kept
returns-then-as_str-start-gt-MAX_LINE-clause-kept c =
    λ _. c.truncate.ensures.bytes ∙ cut_off _ _ c.in-Ok.ensures.tail _ c.in-Ok.ensures.appended (ap length c.as_str-start.ensures.value)

pub returns-clause-written : goal.returns-clause-written
returns-clause-written c =
    let long = longer _ _ _ _ _ _ _ c.in-Ok.ensures in (
      84 ∷ c.in-Ok.ensures.tail,
      omega (arith, long, ap length c.as_str-start.ensures.value, ap length c.as_str.ensures.value, c.if-as_str-start-gt-MAX_LINE.false),
      c.in-Ok.ensures.is,
      c.in-Ok.ensures.appended,
    )
