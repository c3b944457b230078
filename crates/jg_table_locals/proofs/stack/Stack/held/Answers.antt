use Rattle.std.proofs.Common.{◌≡◌, ◌∙◌, ◌≤◌, ◌<◌, ◌^◌, length, ap, sym, arith, rules, Some, None}
use Rattle.jg_table_locals.specs.Seen.{last, held_in, StackRows}
use Rattle.jg_table_locals.proofs.Keeping.{newest_holds, none_holds, held_most}
use Rattle.jg_table_locals.proofs.stack.Stack.held.Goals as goal

pub returns-in-None-clause-held : goal.returns-in-None-clause-held
returns-in-None-clause-held g c =
    let is : last c.self.inside.frames.items ≡ None = ap last (sym c.deref.ensures.value) ∙ (sym c.newest.ensures ∙ c.in-None.is) in
    none_holds c.self.inside.slots.items c.self.inside.frames.items is ∙ ap (λ (r : StackRows). held_in (last r.frames) r.locals) c.self.view_is

pub returns-in-Some-clause-held : goal.returns-in-Some-clause-held
returns-in-Some-clause-held g c =
    let is : last c.self.inside.frames.items ≡ Some c.in-Some.opened = ap last (sym c.deref.ensures.value) ∙ (sym c.newest.ensures ∙ c.in-Some.is) in
    newest_holds c.self.inside.slots.items c.self.inside.frames.items c.in-Some.opened c.self.invariant.0 is ∙ ap (λ (r : StackRows). held_in (last r.frames) r.locals) c.self.view_is

pub returns-in-Some-clause-small : goal.returns-in-Some-clause-small
returns-in-Some-clause-small g c =
    let is : last c.self.inside.frames.items ≡ Some c.in-Some.opened = ap last (sym c.deref.ensures.value) ∙ (sym c.newest.ensures ∙ c.in-Some.is) in
    let most : c.in-Some.opened.held ≤ length c.self.inside.slots.items = held_most c.self.inside.slots.items c.self.inside.frames.items c.in-Some.opened c.self.invariant.0 is in
    let fits : length c.self.inside.slots.items < 2 ^ 63 = search rules in
    omega (arith, most, fits)
