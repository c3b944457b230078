use Rattle.std.proofs.Common.{rules, ap, ◌∙◌, ◌++◌, ◌≡◌, List, map, subst}
use Rattle.std.specs.Prelude.{IsPermutation}
use Rattle.std.proofs.lemmas.Fn.{always_returns_same}
use Rattle.jg_words.specs.declared.reference.Ref.{Ref}
use Rattle.jg_table_locals.specs.Rows.{local_ref}
use Rattle.jg_table_globals.specs.Rows.{strong_ref, weak_ref}
use Rattle.jg_leaks.specs.Left.{ref_key}
use Rattle.jg_rules.specs.View.{rows_in}
use Rattle.jg_leaks.proofs.Once.{refs_of, listed_in_order}
use Rattle.jg_leaks.proofs.listing.list_refs.Goals as goal

pub returns-clause-listed : goal.returns-clause-listed
returns-clause-listed g c = λ p stands.
    let locals = map local_ref c.args.view.now.locals.now.rows.locals in
    let globals = map strong_ref c.args.view.now.globals.now.strong ++ map weak_ref c.args.view.now.globals.now.weak in
    let all : c.list-2.new.refs.items ≡ refs_of (rows_in c.args.view.now) =
    c.in_ok-list-2.ensures.ok ∙ ap (λ (xs : List Ref). xs ++ globals) (c.in_ok-list.ensures.ok ∙ ap (λ (xs : List Ref). xs ++ locals) c.new-refs.ensures.items)
    in
    listed_in_order (rows_in c.args.view.now) p stands c.sort_unstable_by_key.new.self.items
    (subst (λ (xs : List Ref). IsPermutation xs c.sort_unstable_by_key.new.self.items) all c.sort_unstable_by_key.ensures.permutation)

pub returns-clause-ascending : goal.returns-clause-ascending
returns-clause-ascending g c = c.sort_unstable_by_key.ensures.sorted ref_key (always_returns_same _ (λ a r. r ≡ ref_key a.0.now) _ (λ a r f' k. search rules))
