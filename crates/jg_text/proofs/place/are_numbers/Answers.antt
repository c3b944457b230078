use Rattle.std.proofs.Common.{[], refl}
use Rattle.std.specs.Option.{option_copied}
use Rattle.jg_text.proofs.Bad.{numbers_left, no_numbers, none_left}
use Rattle.jg_text.proofs.place.are_numbers.Goals as goal

pub returns-in_default-first_number : goal.returns-in_default-first_number
returns-in_default-first_number c =
    let so_far = rw c.in-Some.is at c.loop-left.invariant.so_far in
    (λ t. absurd (cc), λ all. absurd (no_numbers c.in-Some.rest.now c.in_default-first_number.ensures.none (so_far.0 all)))

pub loop-left-preserved : goal.loop-left-preserved
loop-left-preserved c =
    let so_far = rw c.in-Some.is at c.loop-left.invariant.so_far in
    record {
      so_far = numbers_left c.args.text.now c.in-Some.rest.now _ (option_copied c.in-Some-first_number.behind) c.in-Some-first_number.ensures.some so_far;
    }

pub returns : goal.returns
returns c =
    let so_far = rw c.in_default.is at c.loop-left.invariant.so_far in
    (λ t. so_far.1 (none_left [] refl), λ all. refl)
