-- Facts in the order in which they are told.
use Rattle.std.proofs.Common.{◌≡◌, ℕ, List, [], ◌∷◌, ◌++◌, map, refl, ap, ◌∙◌, append_assoc}
use Rattle.std.specs.Prelude.{reverse}
use Rattle.std.proofs.lemmas.List.{reverse-append}
use Rattle.jg_core.specs.declared.fact.Fact.{Fact}
use Rattle.jg_core.specs.declared.fact.Fact.TheVariants.{Gone}
use Rattle.jg_entry_facts_laws.specs.Entries.{gone_facts}

-- objects go in the order of the list
pub gone_in_order : (gone : List ℕ) → reverse (gone_facts gone) ≡ map (λ o. Gone (record { 0 = o })) gone
gone_in_order [] = refl
gone_in_order (o ∷ gone) =
    reverse-append (gone_facts gone) (Gone (record { 0 = o }) ∷ [])
    ∙ ap (λ (facts : List Fact). Gone (record { 0 = o }) ∷ facts) (gone_in_order gone)

-- what is of a call's own comes first, then what its answer brings, then the warning
pub all_in_order : (before own answer warning : List Fact)
    → ((before ++ reverse own) ++ reverse answer) ++ reverse warning ≡ before ++ reverse (warning ++ (answer ++ own))
all_in_order before own answer warning = rw (reverse-append warning (answer ++ own), reverse-append answer own) (simp append_assoc)
