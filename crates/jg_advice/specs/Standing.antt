-- What an adviser keeps, and when it stands for a history.
use Rattle.std.specs.Prelude.{ℕ, ◌≡◌, List}
use Rattle.std.specs.Map.{lookup}
use Rattle.std.specs.Option.{unwrap_or}
use Rattle.jg_lists.specs.ByThread.{at}
use Rattle.jg_lists.specs.ByMaker.{Name, same_name, named, IsThereOnce}
use Rattle.jg_table_locals.specs.Standing as local_standing
use Rattle.jg_table_buffers.specs.Standing as buffer_standing
use Rattle.jg_table_monitors.specs.Standing as monitor_standing
use Rattle.jg_rules.specs.declared.view.View.{View}
use Rattle.jg_rules.specs.Parts.{Parts}
use Rattle.jg_advice.specs.declared.advice.Source.{Source}
use Rattle.jg_advice.specs.declared.doing.Doing.{Doing}
use Rattle.jg_advice.specs.declared.regions.Region.{Region}
use Rattle.jg_advice.specs.Moments.{Moment}
use Rattle.jg_advice.specs.Doing.{doing, idle}
use Rattle.jg_advice.specs.Buffers.{committed, written}
use Rattle.jg_advice.specs.Monitors.{entered}
use Rattle.jg_advice.specs.Regions.{calls_in, collections_in, region}

-- the tables of locals, buffers and monitors that a view lends stand for these events
pub record Sees {A S I : Type 0} (view : View A S I) (p : Parts) : Type 0 where
  pub locals : local_standing.Stands view.locals.now.rows p.locals
  pub buffers : buffer_standing.Stands view.buffers.now p.buffers
  pub monitors : monitor_standing.Stands view.monitors.now p.monitors

-- by a maker and a number
abbrev pub Table : Type 0 → Type 0
Table V = List (ℕ × List (ℕ × V))

-- what contracts see of an adviser
pub record AdviserState : Type 0 where
  pub most : ℕ
  pub doings : Table Doing
  pub written : Table Source
  pub committed : Table Source
  pub entered : Table Source
  pub regions : List (ℕ × Region)
  pub calls : ℕ
  pub collections : ℕ

-- what the table tells of an activation
abbrev pub kept : Table Doing → Name → Doing
kept doings q = unwrap_or (lookup (same_name q) (named doings)) idle

pub record Stands (x : AdviserState) (h : List Moment) : Type 0 where
  pub doings : (q : Name) → kept x.doings q ≡ doing q h
  pub written : (q : Name) → lookup (same_name q) (named x.written) ≡ written q h
  pub committed : (q : Name) → lookup (same_name q) (named x.committed) ≡ committed q h
  pub once : (q : Name) → IsThereOnce q (named x.committed)
  pub entered : (q : Name) → lookup (same_name q) (named x.entered) ≡ entered q h
  pub regions : (t : ℕ) → at t x.regions ≡ region t h
  pub calls : x.calls ≡ calls_in h
  pub collections : x.collections ≡ collections_in h
