-- What the lists of references have.
use Rattle.std.proofs.Common.{◌≡◌, List, ◌++◌, ◌∙◌, ap, sym, subst}
use Rattle.std.specs.Prelude.{map}
use Rattle.std.proofs.lemmas.List.{append_assoc}
use mathlib.Core.List.{map-map}
use Rattle.jg_words.specs.declared.object.ObjId.{ObjId}
use Rattle.jg_words.specs.declared.reference.Ref.{Ref}
use Rattle.jg_words.specs.declared.reference.Kind.TheVariants.{Global}
use Rattle.jg_words.specs.declared.reference.Kind.TheVariants as kind
use Rattle.jg_lists.specs.ByMaker.{Name}
use Rattle.jg_table_globals.specs.declared.target.Target.{Target}
use Rattle.jg_table_globals.specs.Rows.{Rows, strong_ref, weak_ref}
use Rattle.jg_table_globals.specs.Seen.{strong_seen, weak_seen, ref_named}

-- the references of the entries of one kind and then of the other are those that the table shows
pub listed_law : (rows : Rows) (strong : List (Name × ObjId)) (weak : List (Name × Target)) (old mid new : List Ref)
    → record { strong = map strong_seen strong; weak = map weak_seen weak } ≡ rows
    → mid ≡ old ++ map (λ e. ref_named Global e.0) strong
    → new ≡ mid ++ map (λ e. ref_named kind.Weak e.0) weak
    → new ≡ old ++ (map strong_ref rows.strong ++ map weak_ref rows.weak)
listed_law rows strong weak old mid new seen first second =
    let P : Rows → Type 0 = λ r. new ≡ old ++ (map strong_ref r.strong ++ map weak_ref r.weak) in
    let strongs : List Ref = map (λ (e : Name × ObjId). ref_named Global e.0) strong in
    let weaks : List Ref = map (λ (e : Name × Target). ref_named kind.Weak e.0) weak in
    let listed = second
    ∙ ap (λ l. l ++ weaks) first
    ∙ append_assoc old strongs weaks
    ∙ ap (λ l. old ++ (l ++ weaks)) (sym (map-map strong_ref strong_seen strong))
    ∙ ap (λ l. old ++ (map strong_ref (map strong_seen strong) ++ l)) (sym (map-map weak_ref weak_seen weak)) in
    subst P seen listed
