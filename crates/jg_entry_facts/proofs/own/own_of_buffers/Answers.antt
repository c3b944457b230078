use Rattle.std.proofs.Common.{◌≡◌, ◌∙◌, ap, sym, rules, to_z, of_z, w32}
use Rattle.jg_rules.specs.Names.{length_of, the_object}
use Rattle.jg_entry_facts.proofs.Made.{many_items, lent_so}
use Rattle.jg_entry_facts.proofs.own.own_of_buffers.Goals as goal

pub returns-in_ok-lent-in-GetArrayElements : goal.returns-in_ok-lent-in-GetArrayElements
returns-in_ok-lent-in-GetArrayElements g c = λ p stands.
    let setup = c.args.view.now.setup.now in
    let same = c.the_object-object.ensures p stands in
    rw c.in-GetArrayElements.is (lent_so c.args.tid _ _ c.the_object-object.result _ _ _ _ c.in_ok-lent-in-GetArrayElements.ensures same
    (c.length_of.ensures.told p stands ∙ (ap (length_of setup p) same ∙ sym (many_items setup p (the_object p c.args.tid.0 c.in-GetArrayElements.array)))))

pub returns-in-ReleaseArrayElements : goal.returns-in-ReleaseArrayElements
returns-in-ReleaseArrayElements g c = λ p stands.
    let plain : to_z w32 (of_z w32 c.in-ReleaseArrayElements.mode) ≡ c.in-ReleaseArrayElements.mode = search rules in
    rw c.in-ReleaseArrayElements.is (rw plain at (c.giving_back.ensures c.args.tid))
