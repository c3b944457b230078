use Rattle.std.proofs.Common.{Some, None, Option, ◌≡◌, ◌∙◌, refl, sym, ap, subst}
use Rattle.std.specs.Option.{MatchOption}
use Rattle.jg_c.specs.declared.session.Session.{Session}
use Rattle.jg_c.specs.Sessions.{witness_of}
use Rattle.jg_c.proofs.handle.Handle.witness.Goals as goal

pub returns-in-Some : goal.returns-in-Some
returns-in-Some c = let there = sym c.slot.ensures.value ∙ c.in-Some.ensures.value in (
  (refl, λ w old is. ap Some (c.own_witness.follows.holds w old (ap witness_of (sym there) ∙ is)), ap Some c.own_witness.follows.holds-at-none ∙ sym there),
  record {
    writes_back = tt;
    value = subst (λ (v : Option Session). MatchOption c.own_witness.result (witness_of v ≡ None) (λ a. witness_of v ≡ Some a.now))
        (sym there) c.own_witness.ensures.value;
  },
)
