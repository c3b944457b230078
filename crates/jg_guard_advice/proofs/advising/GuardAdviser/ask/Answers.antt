use Rattle.std.proofs.Common.{◌≡◌, ◌∙◌, ◌++◌, ◌∷◌, List, ap, refl, subst, sym}
use Rattle.jg_judge.specs.declared.argument.Argument.{Argument}
use Rattle.jg_judge.specs.Written.{arguments_of}
use Rattle.jg_advice.specs.Moments.{Called}
use Rattle.jg_advice.specs.Told.{LogStands}
use Rattle.jg_guard_advice.specs.Logged.{name_handed}
use Rattle.jg_guard_advice.specs.Operands.{operands_seen}
use Rattle.jg_guard_advice.proofs.Operands.{with_all}
use Rattle.jg_guard_advice.proofs.Standing.{lost_stands, question, unless_err}
use Rattle.jg_guard_advice.proofs.advising.GuardAdviser.ask.Goals as goal

-- memory ran out
pub returns-then-is_err-clause-logs : goal.returns-then-is_err-clause-logs
returns-then-is_err-clause-logs g c = λ p h stands logs.
    let s = c.args.view.now.setup.now in
    let call = c.args.call.now in (
      record {
        line = c.args.line;
        what = Called s c.args.tid c.function_of-function.result (arguments_of s p c.args.tid.0 call) (name_handed call);
        parts =
            p;
      },
      question s p c.args.line c.args.tid call c.function_of-function.result (name_handed call) c.function_of-function.ensures refl,
      lost_stands c.lose.new.self _ c.lose.ensures.lost,
    )

pub returns-clause-logs : goal.returns-clause-logs
returns-clause-logs g c = λ p h stands logs.
    let s = c.args.view.now.setup.now in
    let call = c.args.call.now in
    let function = c.function_of-function.result in
    let name = c.name_handed-name.result.now in
    let listed : c.list_operands-listed.new.out.items ≡ operands_seen s p c.args.tid.0 call =
    unless_err c.list_operands-listed.result (sym c.is_err.ensures.value ∙ c.if-is_err.false) c.list_operands-listed.ensures p stands
    ∙ ap (λ xs. xs ++ operands_seen s p c.args.tid.0 call) c.clear.ensures.items in (
      record { line = c.args.line; what = Called s c.args.tid function (arguments_of s p c.args.tid.0 call) name; parts = p },
      question s p c.args.line c.args.tid call function name c.function_of-function.ensures c.name_handed-name.ensures,
      with_all s p c.args.line c.args.tid call function name h c.called.new.self c.function_of-function.ensures
          (subst (λ (xs : List Argument). LogStands c.called.new.self
          (record { line = c.args.line; what = Called s c.args.tid function xs name; parts = p } ∷ h))
          (c.deref.ensures.value ∙ listed) (c.called.ensures.logs h p logs stands)),
    )
