use Rattle.std.proofs.Common.{◌≡◌, Some, ◌∙◌, ap, is_some, refl, subst, sym, IfSome}
use Rattle.std.specs.Prelude.{◌==◌, map}
use Rattle.jg_lists.specs.ByMaker.{Name, named}
use Rattle.jg_lists.proofs.Found.{any_found}
use Rattle.jg_words.specs.declared.object.ObjId.{ObjId}
use Rattle.jg_table_globals.specs.History.{strong}
use Rattle.jg_table_globals.specs.Standing.{Stands}
use Rattle.jg_table_globals.specs.Seen.{strong_seen, weak_seen}
use Rattle.jg_table_globals.proofs.Lookups.{reopened, holds_law, named_law}
use Rattle.jg_table_globals.proofs.globals.Globals.holder_of.Goals as goal

pub returns-in-None-clause-held : goal.returns-in-None-clause-held
returns-in-None-clause-held g c e stands =
    let was : Stands (record { strong = map strong_seen (named c.self.inside.strong); weak = map weak_seen (named c.self.inside.weak) }) e =
    reopened _ _ e c.self.view_is stands in
    ap is_some c.in-None.ensures
    ∙ any_found (λ (entry : Name × ObjId). entry.0) (λ entry. entry.1.0 == c.args.object.0) (named c.self.inside.strong)
    ∙ holds_law _ e (named c.self.inside.strong) c.args.object.0 refl was

pub returns-in-Some-clause-held : goal.returns-in-Some-clause-held
returns-in-Some-clause-held g c e stands =
    let was : Stands (record { strong = map strong_seen (named c.self.inside.strong); weak = map weak_seen (named c.self.inside.weak) }) e =
    reopened _ _ e c.self.view_is stands in
    ap is_some c.in-Some.ensures
    ∙ any_found (λ (entry : Name × ObjId). entry.0) (λ entry. entry.1.0 == c.args.object.0) (named c.self.inside.strong)
    ∙ holds_law _ e (named c.self.inside.strong) c.args.object.0 refl was

pub returns-in-Some-clause-names : goal.returns-in-Some-clause-names
returns-in-Some-clause-names g c e stands =
    let was : Stands (record { strong = map strong_seen (named c.self.inside.strong); weak = map weak_seen (named c.self.inside.weak) }) e =
    reopened _ _ e c.self.view_is stands in
    subst (λ found. IfSome found (λ (name : Name). strong e name.0 name.1 ≡ Some c.args.object.0)) (sym c.in-Some.ensures)
    (named_law _ e (named c.self.inside.strong) c.args.object.0 refl was)
