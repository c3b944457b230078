use Rattle.std.proofs.Common.{rules, ap, ◌∙◌, ◌++◌, ◌≡◌, List, map, subst}
use Rattle.std.specs.Prelude.{IsPermutation}
use Rattle.std.proofs.lemmas.Fn.{always_returns_same}
use Rattle.jg_words.specs.declared.buffer.BufId.{BufId}
use Rattle.jg_table_buffers.specs.Rows.{name_of}
use Rattle.jg_table_buffers.specs.Ordered.{buffer_key}
use Rattle.jg_rules.specs.View.{rows_in}
use Rattle.jg_leaks.proofs.Once.{buffers_in_order}
use Rattle.jg_leaks.proofs.listing.list_buffers.Goals as goal

pub returns-clause-listed : goal.returns-clause-listed
returns-clause-listed g c = λ p stands.
    let names = map name_of c.args.view.now.buffers.now.lent in
    let all : c.list.new.buffers.items ≡ names = c.in_ok-list.ensures.ok ∙ ap (λ (xs : List BufId). xs ++ names) c.new-lent.ensures.items in
    buffers_in_order (rows_in c.args.view.now) p stands c.sort_unstable_by_key.new.self.items
    (subst (λ (xs : List BufId). IsPermutation xs c.sort_unstable_by_key.new.self.items) all c.sort_unstable_by_key.ensures.permutation)

pub returns-clause-ascending : goal.returns-clause-ascending
returns-clause-ascending g c =
    c.sort_unstable_by_key.ensures.sorted buffer_key (always_returns_same _ (λ a r. r ≡ buffer_key a.0.now) _ (λ a r f' k. search rules))
