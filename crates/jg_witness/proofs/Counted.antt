-- What is given has a number that its maker was given.
use Rattle.std.proofs.Common.{ℕ, ◌≡◌, ◌<◌, ◌∷◌, Option, Some, None, refl, ◌∙◌, arith}
use Rattle.jg_words.specs.declared.reference.Kind.{Kind}
use Rattle.jg_words.specs.declared.reference.Kind.TheVariants.{Local, Global, Weak}
use Rattle.jg_policy.specs.Stated.{StatedSetup}
use Rattle.jg_table_threads.specs.History as threads
use Rattle.jg_table_locals.specs.History as locals
use Rattle.jg_rules.specs.Parts.{Parts}
use Rattle.jg_rules.specs.Names.{next_ref}
use Rattle.jg_laws.proofs.Kept.{next_more, next_same}
use Rattle.jg_core.specs.declared.fact.Fact.{Fact}
use Rattle.jg_core.specs.declared.fact.Fact.TheVariants.{Leave, Pop, Hand}
use Rattle.jg_core.specs.declared.expected.Expected.{Expected}
use Rattle.jg_core.specs.declared.expected.Expected.TheVariants.{Attached}
use Rattle.jg_core.specs.declared.asking.Ticket.{Ticket}
use Rattle.jg_core.specs.Facts.{on, handed_on}
use Rattle.jg_core.specs.Implied.{given_by, given_with}
use Rattle.jg_core.specs.Asking.{given_for, given_by_expected}
use Rattle.jg_witness.specs.Words.{GivesCounted}

pub handed_counts : (t : ℕ) (kind : Kind) (o : ℕ) (p : Parts) → next_ref p t < next_ref (handed_on t kind o p) t
handed_counts t Local o p = omega (arith, next_more p t)
handed_counts t Global o p = omega (arith, next_more p t)
handed_counts t Weak o p = omega (arith, next_more p t)

next_left : (t : ℕ) (p : Parts)
    → next_ref (record p { threads = threads.by t threads.Calm ∷ threads.by t threads.Leave ∷ p.threads; locals = locals.by t locals.Leave ∷ p.locals }) t
    ≡ next_ref p t
next_left t p = next_same (record p { threads = threads.by t threads.Leave ∷ p.threads }) t threads.Calm refl t ∙ next_same p t threads.Leave refl t

given_counted : (s : StatedSetup) (p : Parts) (x : Fact) → GivesCounted (on x p) (given_by s p x)
given_counted s p (Hand t kind o) = handed_counts t.0 kind o.0 p
given_counted s p (Leave t (Some o)) =
    let q : Parts = record p {
      threads = threads.by t.0 threads.Calm ∷ threads.by t.0 threads.Leave ∷ p.threads;
      locals = locals.by t.0 locals.Leave ∷ p.locals;
    } in
    omega (arith, handed_counts t.0 Local o.0 q, next_left t.0 p)
given_counted s p (Leave t None) = tt
given_counted s p (Pop t (Some o)) =
    let q : Parts = record p { locals = locals.by t.0 locals.Pop ∷ p.locals } in
    handed_counts t.0 Local o.0 q
given_counted s p (Pop t None) = tt
given_counted s p x = tt

-- the parts once the fact was told, if there is one
abbrev pub on_told : Option Fact → Parts → Parts
on_told None p = p
on_told (Some x) p = on x p

with_counted : (s : StatedSetup) (p : Parts) (fact : Option Fact) → GivesCounted (on_told fact p) (given_with s p fact)
with_counted s p None = tt
with_counted s p (Some x) = given_counted s p x

pub ticket_counted : (s : StatedSetup) (p : Parts) (ticket : Ticket) (fact : Option Fact) → GivesCounted (on_told fact p) (given_for s p ticket fact)
ticket_counted s p ticket fact = by_expected ticket.expected
  where
    by_expected : (expected : Expected) → GivesCounted (on_told fact p) (given_by_expected s p ticket.tid expected fact)
    by_expected (Attached begun) = tt
    by_expected expected = with_counted s p fact
