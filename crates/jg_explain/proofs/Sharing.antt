-- The watches of several causes stand one after the other: those of the next one, and what is left.
use Rattle.std.proofs.Common.{◌≡◌, ◌<◌, ◌+◌, ℕ, List, [], ◌∷◌, ◌++◌, length, map, take, drop, get_or, inl, inr, ap, sym, ◌∙◌, arith}
use Rattle.std.specs.Prelude.{flat_map, min}
use Rattle.std.proofs.lemmas.List.{append_assoc, append-nil, drop_more, get_or-map, length-append, length-map, take_more}
use Rattle.std.proofs.lemmas.List.Concat.{flat_map-cons}
use Rattle.std.proofs.lemmas.Grind.{flat_map-append}
use Rattle.std.proofs.lemmas.Option.{slice_get_cases}
use Rattle.std.proofs.Math.Seq.{take-append_seam, drop-append_seam}
use Rattle.jg_words.specs.Entry.{Entry}
use Rattle.jg_policy.specs.Stated.{StatedSetup}
use Rattle.jg_explain.specs.declared.denials.Denial.{Denial}
use Rattle.jg_explain.specs.declared.watching.Watch.{Watch}
use Rattle.jg_explain.specs.Explained.{Cause, all_known, denial_of}
use Rattle.jg_explain.specs.Texts.{cause_text, explanation_text}

module _ (s : StatedSetup) (h : List Entry) (told : List Cause) (i : ℕ) (c : Cause) (below : i < length told) (is : get_or told i c ≡ c) where
  rest_from : flat_map (all_known s h) (drop i told) ≡ all_known s h c ++ flat_map (all_known s h) (drop (i + 1) told)
  rest_from =
      ap (flat_map (all_known s h)) (drop_more told i c below) ∙ ap (λ x. flat_map (all_known s h) (x ∷ drop (i + 1) told)) is
      ∙ flat_map-cons (all_known s h) c (drop (i + 1) told)

  text_to : flat_map (cause_text s h) (take (i + 1) told) ≡ flat_map (cause_text s h) (take i told) ++ cause_text s h c
  text_to =
      let before : List ℕ = flat_map (cause_text s h) (take i told) in
      ap (flat_map (cause_text s h)) (take_more told i c below) ∙ ap (λ x. flat_map (cause_text s h) (take i told ++ x ∷ [])) is
      ∙ flat_map-append (cause_text s h) (take i told) (c ∷ []) ∙ ap (λ l. before ++ l) (flat_map-cons (cause_text s h) c [] ∙ append-nil (cause_text s h c))

  record Shared (d : Denial) (rest own later : List Watch) (start old new : List ℕ) : Type 0 where
    denial : d ≡ denial_of c
    rest_is : rest ≡ flat_map (all_known s h) (drop i told)
    own_is : own ≡ take (min d.asked (length rest)) rest
    later_is : later ≡ drop (min d.asked (length rest)) rest
    so_far : old ≡ start ++ flat_map (cause_text s h) (take i told)
    told_is : new ≡ old ++ explanation_text s h d.place d.rule d.breach own

  module _ (d : Denial) (rest own later : List Watch) (start old new : List ℕ) (known : Shared d rest own later start old new) where
    abbrev theirs : List Watch
    theirs = all_known s h c

    abbrev others : List Watch
    others = flat_map (all_known s h) (drop (i + 1) told)

    rest_parts : rest ≡ theirs ++ others
    rest_parts = known.rest_is ∙ rest_from

    as_many : min d.asked (length rest) ≡ length theirs
    as_many =
        let asked : d.asked ≡ length c.asked = ap (λ x. x.asked) known.denial in
        let own_long : length theirs ≡ length c.asked = length-map c.asked _ in
        let long : length rest ≡ length theirs + length others = ap length rest_parts ∙ length-append theirs others in
        omega (arith, asked, own_long, long)

    own_are : own ≡ theirs
    own_are = known.own_is ∙ ap (λ n. take n rest) as_many ∙ ap (take (length theirs)) rest_parts ∙ take-append_seam theirs others

    later_are : later ≡ others
    later_are = known.later_is ∙ ap (λ n. drop n rest) as_many ∙ ap (drop (length theirs)) rest_parts ∙ drop-append_seam theirs others

    new_is : new ≡ start ++ flat_map (cause_text s h) (take (i + 1) told)
    new_is =
        let before : List ℕ = flat_map (cause_text s h) (take i told) in
        let text : explanation_text s h d.place d.rule d.breach own ≡ cause_text s h c =
        ap (λ x. explanation_text s h x.place x.rule x.breach own) known.denial ∙ ap (λ w. explanation_text s h c.place c.rule c.breach w) own_are in
        known.told_is ∙ ap (λ l. l ++ explanation_text s h d.place d.rule d.breach own) known.so_far ∙ ap (λ l. start ++ before ++ l) text
        ∙ append_assoc start before (cause_text s h c) ∙ ap (λ l. start ++ l) (sym text_to)

pub one_told : (s : StatedSetup) (h : List Entry) (told : List Cause) (denials : List Denial) (i : ℕ) (d : Denial) (rest own later : List Watch)
    (start old new : List ℕ)
    → i < length denials → denials ≡ map denial_of told → d ≡ get_or denials i d → rest ≡ flat_map (all_known s h) (drop i told)
    → own ≡ take (min d.asked (length rest)) rest → later ≡ drop (min d.asked (length rest)) rest → old ≡ start ++ flat_map (cause_text s h) (take i told)
    → new ≡ old ++ explanation_text s h d.place d.rule d.breach own
    → (later ≡ flat_map (all_known s h) (drop (i + 1) told)) × (new ≡ start ++ flat_map (cause_text s h) (take (i + 1) told))
one_told s h told denials i d rest own later start old new below are item rest_is own_is later_is so_far told_is =
    let long : length denials ≡ length told = ap length are ∙ length-map told denial_of in
    elim (slice_get_cases told i).1 [
      | inl found ↦
          let c = found.0 in
          let denial : d ≡ denial_of c = item ∙ ap (λ l. get_or l i d) are ∙ get_or-map denial_of told i c d found.1 ∙ ap denial_of found.3 in
          let known : Shared s h told i c found.1 found.3 d rest own later start old new = record {
            denial = denial;
            rest_is = rest_is;
            own_is = own_is;
            later_is = later_is;
            so_far = so_far;
            told_is = told_is;
          } in (
            later_are s h told i c found.1 found.3 d rest own later start old new known,
            new_is s h told i c found.1 found.3 d rest own later start old new
                known,
          )
      | inr past ↦ absurd (omega (arith, past.0, below, long))
    ]
