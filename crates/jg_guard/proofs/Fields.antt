-- The fields of a new object, one more.
use Rattle.std.proofs.Common.{ℕ, ◌≡◌, ◌+◌, ◌-◌, ◌<◌, false, List, [], ◌∷◌, ◌++◌, length, map, take, get_or, Option, Some, refl, ap, sym, ◌∙◌, arith}
use Rattle.std.specs.Prelude.{◌==◌, slice_get}
use Rattle.std.specs.Option.{option_map}
use Rattle.std.proofs.lemmas.Bool.Decides.{nat_tests}
use Rattle.std.proofs.lemmas.List.{map_more}
use Rattle.std.proofs.lemmas.Option.{slice_get-get_or}
use Rattle.jg_table_heap.specs.declared.object.Slot.{Slot}
use Rattle.jg_policy.specs.Stated.{StatedMember}
use Rattle.jg_policy.specs.Classes.{member_type}
use Rattle.jg_rules.specs.Effects.{first_value}

type_at : (fields : List StatedMember) (i : ℕ) → member_type fields (i + 1) ≡ option_map (λ (m : StatedMember). m.signature) (slice_get fields i)
type_at fields i =
    let some : ((i + 1) == 0) ≡ false = grind (arith, nat_tests) in
    let back : (i + 1) - 1 ≡ i = omega arith in
    rw (some, back) refl

pub next_slot : (fields : List StatedMember) (i n : ℕ) (slots slots' : List Slot) (slot : Slot) (signature : Option (List ℕ)) → n ≡ length fields → i < n
    → slots ≡ map first_value (take i fields) → signature ≡ member_type fields (i + 1)
    → ((field : StatedMember) → signature ≡ Some field.signature → slot ≡ first_value field)
    → slots' ≡ slots ++ slot ∷ [] → slots' ≡ map first_value (take (i + 1) fields)
next_slot fields i n slots slots' slot signature size inside old told value more =
    let d : StatedMember = record { name = []; signature = [] } in
    let here : i < length fields = omega (arith, size, inside) in
    let field : StatedMember = get_or fields i d in
    let found : slice_get fields i ≡ Some field = slice_get-get_or fields i d here in
    let same : slot ≡ first_value field = value field (told ∙ (type_at fields i ∙ ap (option_map (λ (m : StatedMember). m.signature)) found)) in
    more ∙ (ap (λ (xs : List Slot). xs ++ slot ∷ []) old
    ∙ (ap (λ (v : Slot). map first_value (take i fields) ++ v ∷ []) same ∙ sym (map_more first_value fields i d here)))
