-- The keys of a table, against a list of those that are known.
use Rattle.std.proofs.Common.{◌≡◌, ℕ, Bool, not, true, false, ◌||◌, ◌&&◌, List, [], ◌∷◌, string_bytes, refl}
use Rattle.std.specs.List.{list_all}
use Rattle.std.specs.Map.{keys_of}
use Rattle.std.proofs.Math.Bool.{not-not}
use Rattle.toml.proofs.Views.{Entry}
use Rattle.toml.specs.View.{members_view}
use Rattle.jg_policy.specs.Findings.{has_unknown_key, is_among}

de_morgan : (a b : Bool) → (not a || not b) ≡ not (a && b)
de_morgan true b = refl
de_morgan false b = refl

has_unknown_key-keys : (known : List (List ℕ)) (es : List Entry)
    → has_unknown_key known (members_view es) ≡ not (list_all (λ k. is_among known (string_bytes k)) (keys_of es))
has_unknown_key-keys known [] = refl
has_unknown_key-keys known (e ∷ es) =
    rw (has_unknown_key-keys known es) (de_morgan (is_among known (string_bytes e.0)) _)

pub not_unknown : (known : List (List ℕ)) (es : List Entry)
    → not (has_unknown_key known (members_view es)) ≡ list_all (λ k. is_among known (string_bytes k)) (keys_of es)
not_unknown known es = rw (has_unknown_key-keys known es) (not-not _)

pub ruleset key_rules = (not_unknown)
