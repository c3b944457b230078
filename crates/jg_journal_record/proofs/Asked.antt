-- The line of a question.
use Rattle.std.proofs.Common.{◌≡◌, ◌∙◌, ℕ, List, [], ◌++◌, Option, Some, ap}
use Rattle.std.specs.Prelude.{slice_get}
use Rattle.jg_words.specs.Call.{fun_of}
use Rattle.jg_words.specs.Entry.{Entry}
use Rattle.jg_words.specs.declared.thread.Tid.{Tid}
use Rattle.jg_words.specs.declared.thread.EnvId.{EnvId}
use Rattle.jg_words.specs.declared.object.ObjId.{ObjId}
use Rattle.jg_words.specs.declared.call.Call.{Call}
use Rattle.jg_policy.specs.Stated.{StatedSetup}
use Rattle.jg_rows.specs.Table.{functions}
use Rattle.jg_rules.specs.Parts.{Parts}
use Rattle.jg_judge.specs.declared.argument.Argument.{Argument}
use Rattle.jg_judge.specs.Written.{arguments_of, row_for}
use Rattle.jg_record.specs.declared.event.Event.TheVariants.{Question}
use Rattle.jg_journal_record.specs.Retold.{IsQuestion}

-- it is made of what the entry's readers answered
pub asked_so : (s : StatedSetup) (p : Parts) (x : Entry) (t : Tid) (env : Option EnvId) (call : Call) (place : ℕ) (before arguments : List Argument)
    (gone : List ObjId)
    → t ≡ x.tid → env ≡ x.env → call ≡ x.call → slice_get functions place ≡ Some (row_for (fun_of call)) → before ≡ []
    → arguments ≡ before ++ arguments_of s p t.0 call
    → IsQuestion s p x (record { by = t; event = Question t env place; arguments = arguments; gone = gone })
asked_so s p x t env call place before arguments gone t_is env_is call_is function none operands = record {
  place = place;
  function = function ∙ ap (λ (c : Call). Some (row_for (fun_of c))) call_is;
  by = t_is;
  asks = ap (λ (u : Tid). Question u env place) t_is ∙ ap (λ (e : Option EnvId). Question x.tid e place) env_is;
  operands = operands
      ∙ (ap (λ (xs : List Argument). xs ++ arguments_of s p t.0 call) none
      ∙ (ap (λ (u : Tid). arguments_of s p u.0 call) t_is ∙ ap (arguments_of s p x.tid.0) call_is));
}
