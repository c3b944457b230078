-- A journal whose oldest entries are written.
use Rattle.std.proofs.Common.{◌≡◌, ◌+◌, ℕ, suc, List, drop, Option, Some, Err, sym, subst, arith}
use Rattle.std.specs.Prelude.{reverse, slice_get}
use Rattle.std.specs.Io.KnownBytes.{Appends}
use Rattle.std.proofs.KnownBytes.{Appends-trans}
use Rattle.std.proofs.lemmas.List.{length-reverse}
use Rattle.std.proofs.lemmas.Option.{slice_get_within}
use Rattle.jg_words.specs.Entry.{Entry}
use Rattle.jg_text.specs.Journal.{entry_text}
use Rattle.jg_script.specs.Checked.{WritesAll}
use Rattle.jg_script.specs.Written.{WritesLine, WritesJournal}
use Rattle.jg_script.specs.declared.run_fault.RunFault.{RunFault}
use Rattle.jg_script.specs.declared.run_fault.RunFault.TheVariants.{Script, Limit, NoMemory, Read, Write}
use Rattle.jg_lists.proofs.Oldest.{oldest, oldest_more, oldest_before, length-oldest}

module _ (bytes mid bytes' : Option (List ℕ)) (h : List Entry) (n : ℕ) (e : Entry) (at : slice_get (reverse h) n ≡ Some e) where
  pub one_line : WritesAll bytes mid (oldest n h) → Appends mid bytes' (entry_text e) → WritesAll bytes bytes' (oldest (n + 1) h)
  one_line before line = subst (WritesAll bytes bytes') (sym (oldest_more h n e at)) (Appends-trans bytes mid bytes' _ _ before line)

  pub not_written : (fault : RunFault) → WritesAll bytes mid (oldest n h) → WritesLine mid bytes' e (n + 1) (Err fault)
      → WritesJournal bytes bytes' h (Err fault)
  not_written (NoMemory l) before (is, same) =
      let long = length-oldest h n (omega (arith, slice_get_within (reverse h) n e at, length-reverse h)) in (
        reverse (drop (suc n) (reverse h)),
        e,
        oldest n h,
        oldest_before h n e at,
        omega arith,
        subst (λ (b : Option (List ℕ)). WritesAll bytes b (oldest n h))
            (sym same) before,
      )
  not_written (Write l) before (is, front) =
      let long = length-oldest h n (omega (arith, slice_get_within (reverse h) n e at, length-reverse h)) in
      (reverse (drop (suc n) (reverse h)), e, oldest n h, oldest_before h n e at, omega arith, (mid, before, front))
  not_written (Script l f) before none = absurd none
  not_written (Limit l) before none = absurd none
  not_written (Read l) before none = absurd none
