-- What contracts see of the tables that the code keeps.
use Rattle.jg_words.specs.declared.object.ObjId.{ObjId}
use Rattle.jg_words.specs.declared.reference.Ref.{Ref}
use Rattle.jg_words.specs.declared.reference.Ref.TheVariants.{To}
use Rattle.jg_words.specs.declared.reference.Kind.{Kind}
use Rattle.jg_lists.specs.ByMaker.{Name}
use Rattle.jg_table_globals.specs.declared.target.Target.{Target}
use Rattle.jg_table_globals.specs.Rows.{Strong, Weak}

abbrev pub strong_seen : Name × ObjId → Strong
strong_seen entry = record { maker = entry.0.0; n = entry.0.1; object = entry.1.0 }

abbrev pub weak_seen : Name × Target → Weak
weak_seen entry = record { maker = entry.0.0; n = entry.0.1; target = entry.1 }

-- the reference of that kind and name
abbrev pub ref_named : Kind → Name → Ref
ref_named kind name = To kind (record { 0 = name.0 }) name.1
