-- What the laws say of a thread's acts.
use Rattle.std.proofs.Common.{◌≡◌, ℕ, ◌+◌, ◌≤◌, Bool, true, false, List, [], ◌∷◌, ◌++◌, length, Option, Some, None, refl, ◌∙◌, ap, sym, arith}
use Rattle.std.specs.Prelude.{◌==◌, if◌then◌else◌}
use Rattle.std.proofs.lemmas.Bool.Decides.{nat_tests}
use Rattle.jg_table_monitors.specs.History.{Act, Enter, Exit, ReleaseAll, Event, acts_of, since, enters, how_many, count, count_of, owner, owner_count}
use Rattle.jg_table_monitors.specs.Laws.{releases, SplitsAtRelease}
use Rattle.jg_table_monitors.specs.Rows.{Rows}
use Rattle.jg_table_monitors.specs.Standing.{Stands}
use Rattle.jg_table_monitors.proofs.Counting.{entries_in, exits_in, exits_at_most}

one_more : (a : Act) (acts : List Act) → releases a ≡ false → since (a ∷ acts) ≡ a ∷ since acts → SplitsAtRelease acts → SplitsAtRelease (a ∷ acts)
one_more a acts other more split = record {
  before = split.before;
  whole = ap (λ l. a ∷ l) split.whole ∙ ap (λ l. l ++ split.before) (sym more);
  none_since = rw (more, other) split.none_since;
  begins = split.begins;
  newest = split.newest;
}

first_is : (a b : Act) (as' bs : List Act) → a ∷ as' ≡ b ∷ bs → a ≡ b
first_is a b as' bs is = cc

pub splits : (acts : List Act) → SplitsAtRelease acts
splits [] = record { before = []; whole = refl; none_since = refl; begins = λ is. refl; newest = λ a older is. cc }
splits (ReleaseAll ∷ acts) =
    record { before = ReleaseAll ∷ acts; whole = refl; none_since = refl; begins = λ is. cc; newest = λ a older is. sym (first_is ReleaseAll a acts older is) }
splits (Enter o ∷ acts) = one_more (Enter o) acts refl refl (splits acts)
splits (Exit o ∷ acts) = one_more (Exit o) acts refl refl (splits acts)

pub count_and_exits : (rows : Rows) (e : List Event) (t o : ℕ) → Stands rows e → count e t o + exits_in e t o ≡ entries_in e t o
count_and_exits rows e t o stands =
    let most = exits_at_most e t o stands.allowed in
    omega (arith, most)

act_bounded : (o : ℕ) (a : Act) (acts : List Act) (n : ℕ) → how_many (enters o) (since acts) ≤ n → how_many (enters o) (since (a ∷ acts)) ≤ n + 1
act_bounded o (Enter p) acts n below = grind (arith, nat_tests, below)
act_bounded o (Exit p) acts n below = omega (arith, below)
act_bounded o ReleaseAll acts n below = omega arith

step_bounded : (t o : ℕ) (ev : Event) (acts : List Act) (n : ℕ) (b : Bool) → how_many (enters o) (since acts) ≤ n
    → how_many (enters o) (since (if b then ev.act ∷ acts else acts)) ≤ n + 1
step_bounded t o ev acts n true below = act_bounded o ev.act acts n below
step_bounded t o ev acts n false below = omega (arith, below)

entries_bounded : (e : List Event) (t o : ℕ) → entries_in e t o ≤ length e
entries_bounded [] t o = omega arith
entries_bounded (ev ∷ e) t o =
    let below = step_bounded t o ev (acts_of t e) (length e) (ev.tid == t) (entries_bounded e t o) in
    omega (arith, below)

bounded_by : (e : List Event) (o : ℕ) (was : Option ℕ) → count_of e o was ≤ length e
bounded_by e o None = omega arith
bounded_by e o (Some t) =
    let below = entries_bounded e t o in
    omega (arith, below)

pub bounded : (e : List Event) (o : ℕ) → owner_count e o ≤ length e
bounded e o = bounded_by e o (owner e o)
