-- The entries of the lines that don't differ.
use Rattle.std.proofs.Common.{◌≡◌, ◌+◌, ◌≤◌, ℕ, List, [], ◌∷◌, ◌++◌, length, take, inl, inr, Option, Ok, Err, ap, ◌∙◌, subst, arith}
use Rattle.std.specs.Prelude.{◌-◌, ◌⊎◌, min, reverse, Result}
use Rattle.std.proofs.Math.Seq.{take-append_seam}
use Rattle.std.proofs.lemmas.List.{take_all, length-reverse, reverse-append, reverse-reverse}
use Rattle.jg_words.specs.Entry.{Entry}
use Rattle.jg_policy.specs.Stated.{StatedSetup}
use Rattle.jg_script.specs.declared.run_fault.RunFault.{RunFault}
use Rattle.jg_script.specs.declared.run_fault.RunFault.TheVariants.{Script, Limit, NoMemory, Read, Write}
use Rattle.jg_script.specs.declared.replay.Difference.TheVariants.{NoLineFeed, NoCall, OtherOutcome}
use Rattle.jg_script.specs.declared.replay.Replayed.{Replayed}
use Rattle.jg_script.specs.declared.replay.Replayed.TheVariants.{Legal, Differs}
use Rattle.jg_script.specs.Replayed.{Finds, Leaves, verdict_in}
use Rattle.jg_explain.specs.Explained.{as_it_was}
use Rattle.jg_journal_record.specs.Retold.{entries_alike}

-- these are the oldest entries, and no more than there are
pub record AreAlike (g after : List Entry) (count : ℕ) : Type 0 where
  pub within : count ≤ length after
  pub same : as_it_was count after ≡ g

all_of : (g : List Entry) → as_it_was (length g) g ≡ g
all_of g = ap reverse (take_all (length g) (reverse g) (omega (arith, length-reverse g))) ∙ reverse-reverse g

all_but_last : (x : Entry) (g : List Entry) → as_it_was (length g) (x ∷ g) ≡ g
all_but_last x g =
    let last : reverse (x ∷ g) ≡ reverse g ++ x ∷ [] = reverse-append (x ∷ []) g in
    let seam : take (length g) (reverse g ++ x ∷ []) ≡ reverse g =
    subst (λ (n : ℕ). take n (reverse g ++ x ∷ []) ≡ reverse g) (length-reverse g) (take-append_seam (reverse g) (x ∷ [])) in
    ap reverse (ap (take (length g)) last ∙ seam) ∙ reverse-reverse g

are_alike : (g after : List Entry) (line : ℕ) → (after ≡ g) ⊎ ((x : Entry) × (after ≡ x ∷ g)) → line ≡ length g + 1
    → AreAlike g after (min (length after) (line - 1))
are_alike g after line (inl is) long =
    let many : length after ≡ length g = ap length is in
    let count : min (length after) (line - 1) ≡ length g = omega (arith, many, long) in
    record {
      within = omega (arith, many, count);
      same = ap (λ (n : ℕ). as_it_was n after) count ∙ (ap (as_it_was (length g)) is ∙ all_of g);
    }
are_alike g after line (inr (x, is)) long =
    let many : length after ≡ length (x ∷ g) = ap length is in
    let count : min (length after) (line - 1) ≡ length g = omega (arith, many, long) in
    record {
      within = omega (arith, many, count);
      same = ap (λ (n : ℕ). as_it_was n after) count ∙ (ap (as_it_was (length g)) is ∙ all_but_last x g);
    }

pub alike : (input input' : Option (List ℕ)) (s : StatedSetup) (limit : ℕ) (g after : List Entry) (text : List ℕ) (result : Result Replayed RunFault)
    → Finds input input' s limit g (verdict_in result)
    → Leaves input input' g after text result → AreAlike g after (entries_alike result (length after))
alike input input' s limit g after text (Ok Legal) finds leaves = record { within = omega arith; same = all_of after ∙ leaves }
alike input input' s limit g after text (Ok (Differs line NoLineFeed)) finds leaves = are_alike g after line (inl leaves.0) finds.2
alike input input' s limit g after text (Ok (Differs line NoCall)) finds leaves = are_alike g after line (inl leaves.0) finds.2
alike input input' s limit g after text (Ok (Differs line OtherOutcome)) finds leaves = are_alike g after line (inr (leaves.0, leaves.1)) finds.2
alike input input' s limit g after text (Err (Script line fault)) finds leaves = absurd finds
alike input input' s limit g after text (Err (Limit line)) finds leaves = are_alike g after line (inl leaves) finds.2
alike input input' s limit g after text (Err (NoMemory line)) finds leaves = are_alike g after line leaves finds.1
alike input input' s limit g after text (Err (Read line)) finds leaves = are_alike g after line (inl leaves) finds.1
alike input input' s limit g after text (Err (Write line)) finds leaves = absurd finds
