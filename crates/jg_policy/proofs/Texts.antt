-- From what a setup keeps to the text of its tree.
use Rattle.std.proofs.Common.{◌≡◌, ℕ, List, [], map, Some, String, Global, sym, ◌∙◌, ap, subst, arith}
use Rattle.std.proofs.lemmas.Option.{same_Some}
use Rattle.jg_policy.specs.declared.fault.SetupFault.{SetupFault}
use Rattle.jg_policy.specs.Faults.{IsFirstFault}
use Rattle.toml.specs.Parse.{parse_document}
use Rattle.jg_policy.specs.declared.class.Class.{Class}
use Rattle.jg_policy.specs.declared.grant.Grant.{Grant}
use Rattle.jg_policy.specs.Stated.{StatedSetup, setup_stated}
use Rattle.jg_policy.specs.Findings.{text_faults_of, States}
use Rattle.jg_policy.specs.Kept.{grant_view, class_view, AreFit}
use Rattle.jg_policy.specs.Written.{setup_tree}
use Rattle.jg_policy.proofs.Sizes.{large_kept}
use Rattle.jg_policy.proofs.Backs.{setup_back}
use Rattle.jg_policy.proofs.Clean.{tree_clean}

-- a text that reads as the tree of a setup states the setup
pub stated_back : (s : StatedSetup) (gs : List Grant) (es : List (String Global × Class)) → map grant_view gs ≡ s.grants → map class_view es ≡ s.classes
    → AreFit gs es
    → (text : List ℕ) → parse_document text ≡ Some (setup_tree s) → States text s
stated_back s gs es grants classes fit text is = (
  setup_tree s,
  is,
  tree_clean s (rw (← grants, ← classes) fit.spelt) (rw (← classes) fit.distinct) (sym (large_kept s gs es grants classes) ∙ fit.sized),
  sym (setup_back s),
)

pub one_setup : (text : List ℕ) (s t : StatedSetup) → States text s → States text t → s ≡ t
one_setup text s t (tree, is, clean, stated) (other, same, fine, told) =
    let one : tree ≡ other = same_Some tree other (sym is ∙ same) in
    stated ∙ ap setup_stated one ∙ sym told

pub nothing_first : (fault : SetupFault) → IsFirstFault [] fault → ⊥
nothing_first fault h = let (k, below, at) = h.among in omega arith

pub no_fault : (text : List ℕ) (s : StatedSetup) (fault : SetupFault) → States text s → IsFirstFault (text_faults_of (parse_document text)) fault → ⊥
no_fault text s fault (tree, is, clean, stated) h =
    nothing_first fault (subst (λ found. IsFirstFault found fault) (ap text_faults_of is ∙ clean) h)
