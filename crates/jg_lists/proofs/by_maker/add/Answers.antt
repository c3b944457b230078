use Rattle.std.proofs.Common.{List, ◌∙◌, ap, sym, subst}
use Rattle.std.proofs.lemmas.Result.{on_ok_weaker}
use Rattle.std.specs.Map.{lookup}
use Rattle.jg_lists.specs.ByMaker.{Name, same_name, named, Adds}
use Rattle.jg_lists.proofs.Named.{found_more, once_more}
use Rattle.jg_lists.proofs.Tables.{lookup-named}
use Rattle.jg_lists.proofs.by_maker.add.Goals as goal

pub put-requires-clause-absent : goal.put-requires-clause-absent
put-requires-clause-absent g c =
    sym (lookup-named c.args.name c.open.new.self c.open.ensures.once) ∙ (ap (lookup (same_name c.args.name)) c.open.ensures.same ∙ c.requires)

-- what the other names have stays
pub returns-clause-found : goal.returns-clause-found
returns-clause-found g c = on_ok_weaker c.put.result
    (λ adds. found_more c.args.name c.args.value (named c.args.tables.now) (named c.put.new.tables) c.requires
    (subst (λ (es : List (Name × g.row.V.Denot)). Adds c.args.name c.args.value es (named c.put.new.tables)) c.open.ensures.same adds)) c.put.ensures.ok

pub returns-clause-once : goal.returns-clause-once
returns-clause-once g c = on_ok_weaker c.put.result
    (λ adds. once_more c.args.name c.args.value (named c.args.tables.now) (named c.put.new.tables) c.requires
    (subst (λ (es : List (Name × g.row.V.Denot)). Adds c.args.name c.args.value es (named c.put.new.tables)) c.open.ensures.same adds)) c.put.ensures.ok
