use Rattle.std.proofs.Common.{◌≡◌, ◌<◌, ◌++◌, ◌∷◌, [], ◌∙◌, false, sym, ap, length, map, take, arith, None, String, Global, string_bytes}
use Rattle.std.specs.List.{list_any}
use Rattle.std.specs.Str.{bytes_eq}
use Rattle.std.specs.String.{string_eq}
use Rattle.indexmap.specs.IndexMap.{get}
use Rattle.indexmap.proofs.CallerLemmas.{insert_entry-new}
use Rattle.std.proofs.option.Match.{None-if_not_some}
use Rattle.toml.specs.View.{view, items_view}
use Rattle.jg_policy.specs.declared.class.Class.{Class}
use Rattle.jg_policy.specs.Stated.{StatedClass, each_item, class_stated}
use Rattle.jg_policy.specs.Kept.{class_view}
use Rattle.jg_policy.proofs.Repeats.{names, twice_member, twice_name, any_named}
use Rattle.jg_policy.proofs.Seen.{refuted, twice_here}
use Rattle.jg_policy.proofs.Stating.{kept_more}
use Rattle.jg_policy.proofs.class.classes_from.Goals as goal

pub from_value-requires : goal.from_value-requires
from_value-requires c =
    let i = c.loop-value.value-index in
    let below : i < length c.args.values.now = omega arith in
    refuted _ _ c.requires
    (λ own. twice_here c.args.values.now i c.value-item.result below c.value-item.is
    (λ rest. twice_member _ (class_stated (view c.value-item.result)) rest own))

pub loop-value-preserved : goal.loop-value-preserved
loop-value-preserved c =
    let i = c.loop-value.value-index in
    let es = c.loop-value.classes.entries in
    let e : String Global × Class = (c.in_ok-name.name, c.in_ok-name.class) in
    let below : i < length c.args.values.now = omega arith in
    let done = each_item class_stated (items_view (take i c.args.values.now)) in
    let new : list_any (bytes_eq (string_bytes e.0)) (names (map class_view es)) ≡ false =
    rw (c.loop-value.invariant)
    (refuted _ _ c.requires
    (λ old. twice_here c.args.values.now i c.value-item.result below c.value-item.is
    (λ rest. twice_name _ (class_stated (view c.value-item.result)) rest
    (ap (λ (d : StatedClass). list_any (bytes_eq d.name) (names done)) (sym c.in_ok-name.ensures) ∙ old)))) in
    let none : get string_eq c.loop-value.classes e.0 ≡ None = None-if_not_some _ (sym (any_named (string_bytes e.0) es) ∙ new) in
    let put : c.insert.new.self.entries ≡ es ++ e ∷ [] = c.in_ok-insert.ensures.entries ∙ insert_entry-new string_eq c.loop-value.classes e.0 e.1 none in
    rw put (kept_more class_view class_stated es e c.args.values.now i c.value-item.result below c.value-item.is c.in_ok-name.ensures c.loop-value.invariant)
