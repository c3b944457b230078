-- What the lines of a file taken so far, and the next one, say of the whole.
use Rattle.std.proofs.Common.{◌≡◌, ℕ, ◌+◌, ◌≤◌, ◌==◌, Bool, true, false, List, [], ◌∷◌, ◌++◌, length, map, Option, Ok, Err, ap, sym, ◌∙◌, subst, append_assoc, append-nil, length-append, refl, arith, inl, inr, if◌then◌else◌}
use Rattle.std.specs.Io.KnownBytes.{Consumes, IsAtEnd}
use Rattle.std.proofs.KnownBytes.{Consumes-trans}
use Rattle.std.proofs.lemmas.List.{map-append}
use Rattle.jg_text.specs.declared.fault.ScriptFault.{ScriptFault}
use Rattle.jg_text.specs.declared.fault.ScriptFault.TheVariants.{LineTooLong}
use Rattle.jg_text.specs.Spelling.{Spells}
use Rattle.jg_script.specs.Checked.{IsWellFormed}
use Rattle.jg_lines.specs.Devices.{TakesFront}
use Rattle.jg_lines.specs.TextLines.{LinesTaken, BeginsTooLong}
use Rattle.jg_script.specs.ScriptFile.{CallLine, text_of, file_text, AreSpelt, lines_by, HoldsRefused, IsFile, IsRefused, ReadsScripts}
use Rattle.jg_script.specs.Threads.{Adds, TakesLine}
use Rattle.jg_script.specs.declared.run_fault.RunFault.{RunFault}
use Rattle.jg_script.specs.declared.run_fault.RunFault.TheVariants.{Script, Limit, NoMemory, Read, Write}
use Rattle.jg_script.specs.declared.scripts.Line.{Line}
use Rattle.jg_script.specs.declared.scripts.Lines.{Lines}
use Rattle.jg_lines.proofs.TextLines.{lines_more, followed, followed_by_more, begun, ended, one_more}
use Rattle.jg_script.proofs.Known.{followed_by_long}

-- what is known before line number `line`: the lines taken are a file's, with these scripts
pub record HasRead (input input' : Option (List ℕ)) (line : ℕ) (scripts : List Lines) : Type 0 where
  pub file : List CallLine
  pub is_file : IsFile file scripts
  pub read : LinesTaken input input' (map text_of file)
  pub taken : Consumes input input' (file_text file)
  pub counted : line ≡ length file + 1

-- one line more, of each thread
line_in : CallLine → Line
line_in x = record { env = x.env; call = x.call }

lines_by-last : (t : ℕ) (file : List CallLine) (x : CallLine)
    → lines_by t (file ++ x ∷ []) ≡ (if x.tid.0 == t then lines_by t file ++ line_in x ∷ [] else lines_by t file)
unfolding line_in
lines_by-last t [] x = refl
lines_by-last t (y ∷ file) x = by (y.tid.0 == t) (x.tid.0 == t) (lines_by-last t file x)
  where
    by : (b c : Bool) → lines_by t (file ++ x ∷ []) ≡ (if c then lines_by t file ++ line_in x ∷ [] else lines_by t file)
        → (if b then line_in y ∷ lines_by t (file ++ x ∷ []) else lines_by t (file ++ x ∷ []))
        ≡ (if c then (if b then line_in y ∷ lines_by t file else lines_by t file) ++ line_in x ∷ []
        else (if b then line_in y ∷ lines_by t file else lines_by t file))
    by true true e = ap (λ ls. line_in y ∷ ls) e
    by true false e = ap (λ ls. line_in y ∷ ls) e
    by false true e = e
    by false false e = e

file_text-last : (file : List CallLine) (x : CallLine) → file_text (file ++ x ∷ []) ≡ file_text file ++ (text_of x ++ 10 ∷ [])
file_text-last [] x = append-nil (text_of x ++ 10 ∷ [])
file_text-last (y ∷ file) x =
    ap (λ rest. (text_of y ++ 10 ∷ []) ++ rest) (file_text-last file x) ∙ sym (append_assoc (text_of y ++ 10 ∷ []) (file_text file) (text_of x ++ 10 ∷ []))

spelt_more : (file : List CallLine) (x : CallLine) → AreSpelt file → AreSpelt (x ∷ []) → AreSpelt (file ++ x ∷ [])
spelt_more [] x all one = one
spelt_more (y ∷ file) x (first, rest) one = (first, spelt_more file x rest one)

-- a line that was taken is the file's next
file_more : (file : List CallLine) (n : ℕ) (old new : List Lines) (text : List ℕ) (x : CallLine) → IsFile file old → n ≡ length file + 1 → n ≤ 1000000
    → Spells text x.tid x.env x.call
    → Adds x.tid.0 (record { env = x.env; call = x.call }) old new → IsFile (file ++ x ∷ []) new
unfolding line_in
file_more file n old new text x f counted within spelt adds = record {
  spelt = spelt_more file x f.spelt ((spelt.tid, spelt.env, spelt.call), tt);
  by_thread = record {
    lines = λ t. adds.scripts t ∙ ap (λ ls. if x.tid.0 == t then ls ++ line_in x ∷ [] else ls) (f.by_thread.lines t) ∙ sym (lines_by-last t file x);
    some = adds.some f.by_thread.some;
    ascend = adds.ascend;
  };
  few_lines = omega (arith, length-append file (x ∷ []));
  few_threads = adds.few;
}

module _ (input mid input' : Option (List ℕ)) (n : ℕ) (old : List Lines) (h : HasRead input mid n old) where
  read_more : (text : List ℕ) (x : CallLine) → Spells text x.tid x.env x.call → LinesTaken mid input' (text ∷ [])
      → LinesTaken input input' (map text_of (h.file ++ x ∷ []))
  read_more text x spelt line =
      subst (λ (ls : List (List ℕ)). LinesTaken input input' ls)
      (ap (λ (t : List ℕ). map text_of h.file ++ t ∷ []) spelt.text ∙ sym (map-append text_of h.file (x ∷ [])))
      (lines_more input mid input' _ _ h.read line)

  pub goes_on : (new : List Lines) (text : List ℕ) → TakesLine text n old new (Ok tt) → LinesTaken mid input' (text ∷ [])
      → Consumes mid input' (text ++ 10 ∷ []) → HasRead input input' (n + 1) new
  goes_on new text (within, (x, spelt, adds)) line bytes =
      let counted = h.counted in
      record {
        file = h.file ++ x ∷ [];
        is_file = file_more h.file n old new text x h.is_file h.counted within spelt adds;
        read = read_more text x spelt line;
        taken = subst (Consumes input input') (ap (λ (t : List ℕ). file_text h.file ++ (t ++ 10 ∷ [])) spelt.text ∙ sym (file_text-last h.file x))
            (Consumes-trans input mid input' _ _ h.taken bytes);
        counted = omega (arith, length-append h.file (x ∷ []));
      }

  pub last_read : (new : List Lines) (text : List ℕ) → TakesLine text n old new (Ok tt) → LinesTaken mid input' (text ∷ []) → IsAtEnd input'
      → ReadsScripts input input' (Ok new)
  last_read new text (within, (x, spelt, adds)) line done =
      (h.file ++ x ∷ [], file_more h.file n old new text x h.is_file h.counted within spelt adds, ended input input' _ (read_more text x spelt line) done, done)

  pub all_read : LinesTaken mid input' [] → IsAtEnd input' → ReadsScripts input input' (Ok old)
  all_read none done = (
    h.file,
    h.is_file,
    ended input input' _
        (subst (λ (ls : List (List ℕ)). LinesTaken input input' ls) (append-nil (map text_of h.file)) (lines_more input mid input' _ _ h.read none)) done,
    done,
  )

  is_refused : (new : List Lines) (text : List ℕ) (l : ℕ) (f : ScriptFault) → TakesLine text n old new (Err (Script l f)) → IsRefused h.file old f text
  is_refused new text l f (is, inl first) = inl first
  is_refused new text l f (is, inr (many, all, within, new_thread)) =
      let counted = h.counted in
      inr (many, all, omega arith, new_thread)

  pub refused : (new : List Lines) (text : List ℕ) (fault : RunFault) → TakesLine text n old new (Err fault) → LinesTaken mid input' (text ∷ [])
      → TakesFront mid input'
      → ReadsScripts input input' (Err fault)
  refused new text (Script l f) takes line front = (
    h.file,
    (old, h.is_file, followed input input' _ text (IsRefused h.file old f) (lines_more input mid input' _ _ h.read line) (is_refused new text l f takes)),
    takes.0 ∙ h.counted,
    one_more input mid input' _ h.taken front,
  )
  refused new text (Limit l) (is, past, well) line front =
      let counted = h.counted in
      let few = h.is_file.few_lines in (
        h.file,
        (old, h.is_file),
        followed input input' _ text IsWellFormed (lines_more input mid input' _ _ h.read line) well,
        omega arith,
        omega arith,
        one_more input mid input' _ h.taken front,
      )
  refused new text (NoMemory l) is line front = (h.file, (old, h.is_file), begun input mid _ h.read, is ∙ h.counted, one_more input mid input' _ h.taken front)
  refused new text (Read l) none line front = absurd none
  refused new text (Write l) none line front = absurd none

  pub holds_refused : (new : List Lines) (text : List ℕ) (fault : RunFault) → TakesLine text n old new (Err fault) → LinesTaken mid input' (text ∷ [])
      → HoldsRefused input text (Err fault)
  holds_refused new text (Script l f) takes line =
      λ short. (
        h.file,
        (
          old,
          h.is_file,
          followed input input' _ text (λ next. next ≡ text) (lines_more input mid input' _ _ h.read line) refl,
          is_refused new
              text l f takes,
        ),
        takes.0 ∙ h.counted,
      )
  holds_refused new text (Limit l) takes line = tt
  holds_refused new text (NoMemory l) takes line = tt
  holds_refused new text (Read l) takes line = tt
  holds_refused new text (Write l) takes line = tt

  pub too_long : BeginsTooLong mid → TakesFront mid input' → ReadsScripts input input' (Err (Script n LineTooLong))
  too_long long front = (
    h.file,
    (old, h.is_file, followed_by_more input _ _ (IsRefused h.file old LineTooLong) (λ next first. inl first) (followed_by_long input mid _ h.read long)),
    h.counted,
    one_more input mid input' _ h.taken front,
  )

  pub no_memory : TakesFront mid input' → ReadsScripts input input' (Err (NoMemory n))
  no_memory front = (h.file, (old, h.is_file), begun input mid _ h.read, h.counted, one_more input mid input' _ h.taken front)

  pub not_read : TakesFront mid input' → ReadsScripts input input' (Err (Read n))
  not_read front = (h.file, (old, h.is_file), begun input mid _ h.read, h.counted, one_more input mid input' _ h.taken front)
