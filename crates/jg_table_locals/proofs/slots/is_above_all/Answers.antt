use Rattle.std.proofs.Common.{rules, ◌≡◌, ◌∙◌, sym, Some}
use Rattle.jg_table_locals.specs.Seen.{last}
use Rattle.jg_table_locals.proofs.Invariant.{above_none, above_newest, newest_below, less_true, true_less}
use Rattle.jg_table_locals.proofs.slots.is_above_all.Goals as goal

pub returns-in-None : goal.returns-in-None
returns-in-None c = ((λ _. above_none c.args.slots.now c.args.n (search rules)), (λ _. search rules))

pub returns-in-Some : goal.returns-in-Some
returns-in-Some c =
    let is : last c.args.slots.now ≡ Some c.in-Some.slot = sym c.newest_slot.ensures ∙ c.in-Some.is in (
      (λ lt. above_newest c.args.slots.now c.in-Some.slot c.args.n c.requires.rises is (true_less _ _ lt)),
      (λ all. less_true _ _ (newest_below c.args.slots.now c.in-Some.slot c.args.n c.requires.rises c.requires.ends is all)),
    )
