use Rattle.std.proofs.Common.{◌≡◌, ◌≢◌, ℕ, List, Some, None, rules, subst}
use Rattle.jg_text.specs.declared.fault.ScriptFault.TheVariants.{NoMemory}
use Rattle.jg_text.specs.Faults.{HasFault}
use Rattle.jg_text.proofs.Laws.{spelt_faultless}
use Rattle.jg_text.proofs.Fronts.{begins_with_none}
use Rattle.jg_text.proofs.begun.read_begun.Goals as goal

pub returns-in_default-clause-none : goal.returns-in_default-clause-none
returns-in_default-clause-none c = begins_with_none c.args.text.now None c.in_default.ensures.all (λ line none. absurd (cc))

pub returns-in-Err-clause-none : goal.returns-in-Err-clause-none
returns-in-Err-clause-none c =
    let ne : c.in-Err.field-0 ≢ NoMemory = search rules in
    begins_with_none c.args.text.now (Some c.in-Some.front.now) c.in-Some.ensures.all
    (λ line is t e call spelt. let same : c.in-Some.front.now ≡ line = cc in
    spelt_faultless line t e call c.in-Err.field-0 spelt (subst (λ (l : List ℕ). HasFault c.in-Err.field-0 l) same (c.in-Err.ensures.fault ne).fault))
