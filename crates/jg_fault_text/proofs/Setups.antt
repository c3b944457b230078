-- A fault of a setup is told in a line.
use Rattle.std.proofs.Common.{◌≡◌, ◌++◌, ℕ, List, ◌∙◌, ap, append_assoc, codes, refl, OnOk, Result, if◌then◌else◌}
use Rattle.std.specs.Fmt.{decimal}
use Rattle.std.specs.Result.{is_ok}
use Rattle.std.specs.declared.result.Result.TheVariants.{Ok, Err}
use Rattle.jg_policy.specs.declared.fault.SetupFault.TheVariants.{NotToml}
use Rattle.jg_fault_text.specs.Setups.{AddsAt, AddsLine, AddsSetupFault, column_behind, line_behind, position_text}

-- words with a line feed, written at once
line_added : {T E : Type 0} (r : Result T E) (old words : List ℕ) {line new : List ℕ} → line ≡ words ++ codes "\n"
    → new ≡ (if is_ok r then old ++ line else old) → OnOk r (AddsLine old new)
line_added (Ok _) old words ended written = (words, written ∙ ap (λ it. old ++ it) ended)
line_added (Err _) old words ended written = tt

-- a position, words and a line feed, written one after the other
pub at_added : {T E : Type 0} (r : Result T E) (front words old : List ℕ) {middle more new : List ℕ} → middle ≡ old ++ position_text front
    → more ≡ middle ++ words
    → new ≡ (if is_ok r then more ++ codes "\n" else more) → OnOk r (AddsAt front words old new)
at_added (Err _) front words old first second last = tt
at_added (Ok _) front words old first second last =
    last ∙ ap (λ it. it ++ codes "\n") (second ∙ ap (λ it. it ++ words) first ∙ append_assoc old (position_text front) words)
    ∙ append_assoc old (position_text front ++ words) (codes "\n")

pub position_is : (front : List ℕ) (line column : ℕ) → line ≡ line_behind front → column ≡ column_behind front
    → codes "line " ++ decimal line ++ codes ", column " ++ decimal column ++ codes ": " ≡ position_text front
position_is front line column is_line is_column =
    ap (λ n. codes "line " ++ decimal n ++ codes ", column " ++ decimal column ++ codes ": ") is_line
    ∙ ap (λ n. codes "line " ++ decimal (line_behind front) ++ codes ", column " ++ decimal n ++ codes ": ") is_column

-- of bytes with this front
pub toml_told : {T E : Type 0} (r : Result T E) (bytes front rest words old new : List ℕ) → bytes ≡ front ++ rest
    → OnOk r (AddsAt front words old new) → OnOk r (AddsSetupFault NotToml bytes old new)
toml_told (Err _) bytes front rest words old new parts added = tt
toml_told (Ok _) bytes front rest words old new parts added = (position_text front ++ words ++ codes "\n", (front, rest, parts, words, refl), added)
