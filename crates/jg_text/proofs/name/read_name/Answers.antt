use Rattle.std.proofs.Common.{refl, arith, subst, sym}
use Rattle.std.proofs.lemmas.Str.{IsUtf8-from_ascii}
use Rattle.std.proofs.lemmas.Str.Ascii.{IsAscii-from_all}
use Rattle.jg_words.specs.Name.{IsName}
use Rattle.jg_text.proofs.name.read_name.Goals as goal

pub returns-in_default-clause-err : goal.returns-in_default-clause-err
returns-in_default-clause-err c = λ _. (
  refl,
  λ spelt. (let name : IsName c.args.text.now = subst IsName (sym spelt.2) spelt.1 in
      c.in_default.ensures.cases.0
      (IsUtf8-from_ascii c.args.text.now (IsAscii-from_all c.args.text.now (λ k d within. let v = name.2 k d within in omega (arith, v))))),
)
