-- A record grows entry by entry.
use Rattle.std.proofs.Common.{◌≡◌, ◌+◌, ℕ, Bool, List, [], ◌∷◌, ◌++◌, Option, Some, refl, ap, sym, ◌∙◌, subst, append_assoc}
use Rattle.std.specs.Prelude.{reverse, slice_get}
use Rattle.std.specs.Io.KnownBytes.{Appends}
use Rattle.std.proofs.KnownBytes.{Appends-trans}
use Rattle.std.proofs.lemmas.List.{append-nil}
use Rattle.jg_words.specs.declared.thread.Tid.{Tid}
use Rattle.jg_words.specs.Entry.{Entry}
use Rattle.jg_policy.specs.Stated.{StatedSetup}
use Rattle.jg_rules.specs.Parts.{Parts}
use Rattle.jg_rules.specs.Effects.{parts}
use Rattle.jg_core.specs.declared.fact.Fact.{Fact}
use Rattle.jg_lists.proofs.Oldest.{oldest_more}
use Rattle.jg_explain.specs.Explained.{as_it_was}
use Rattle.jg_journal_record.specs.Lines.{Line, AddsLine, AddsFacts}
use Rattle.jg_journal_record.specs.declared.fault.RetellFault.{RetellFault}
use Rattle.jg_journal_record.specs.declared.fault.RetellFault.TheVariants.{Unwritten, Write}
use Rattle.jg_journal_record.specs.Retold.{AddsEntry, FailsAt, WritesBounds, WritesEntry, WritesRecord}

line_behind : (s : StatedSetup) (line : Line) (front old new : List ℕ) → AddsLine s line old new → AddsLine s line (front ++ old) (front ++ new)
line_behind s line front old new (own, is, text) = (own, is, ap (λ (t : List ℕ). front ++ t) text ∙ sym (append_assoc front old (own ++ 10 ∷ [])))

facts_behind : (s : StatedSetup) (by : Tid) (facts : List Fact) (front old new : List ℕ) → AddsFacts s by facts old new
    → AddsFacts s by facts (front ++ old) (front ++ new)
facts_behind s by facts front old new (lines, tell, text, are, is) =
    (lines, tell, text, are, ap (λ (t : List ℕ). front ++ t) is ∙ sym (append_assoc front old text))

-- what is an entry's on its own is so behind anything
entry_behind : (s : StatedSetup) (p : Parts) (x : Entry) (front text : List ℕ) → AddsEntry s p x [] text → AddsEntry s p x front (front ++ text)
entry_behind s p x front text (asked, (line, question, adds), told) = (
  front ++ asked,
  (line, question, subst (λ (t : List ℕ). AddsLine s line t (front ++ asked)) (append-nil front) (line_behind s line front [] asked adds)),
  facts_behind s x.tid _ front asked text told,
)

-- one entry more
pub one_written : (s : StatedSetup) (h : List Entry) (n : ℕ) (x : Entry) (bytes mid bytes' : Option (List ℕ)) → slice_get (reverse h) n ≡ Some x
    → WritesRecord s (as_it_was n h) bytes mid
    → WritesEntry s (parts s (as_it_was n h)) x mid bytes' → WritesRecord s (as_it_was (n + 1) h) bytes bytes'
one_written s h n x bytes mid bytes' at (first, rest, is, before, written) (text, entry, appended) =
    let all : Appends bytes bytes' ((first ++ 10 ∷ []) ++ (rest ++ text)) =
    subst (λ (t : List ℕ). Appends bytes bytes' t) (append_assoc (first ++ 10 ∷ []) rest text) (Appends-trans bytes mid bytes' _ _ written appended) in
    subst (λ (g : List Entry). WritesRecord s g bytes bytes') (sym (oldest_more h n x at))
    (first, rest ++ text, is, (rest, before, entry_behind s (parts s (as_it_was n h)) x rest text entry), all)

-- the bounds alone
pub none_written : (s : StatedSetup) (bytes bytes' : Option (List ℕ)) → WritesBounds s bytes bytes' → WritesRecord s [] bytes bytes'
none_written s bytes bytes' (first, is, written) =
    (first, [], is, refl, subst (λ (t : List ℕ). Appends bytes bytes' t) (sym (append-nil (first ++ 10 ∷ []))) written)

-- a fault of a later writing, where the writer was sound before it
pub still_fails : (old mid new : Bool) (fault : RetellFault) → mid ≡ old → FailsAt mid new fault → FailsAt old new fault
still_fails old mid new (Write line) sound fails = fails
still_fails old mid new (Unwritten line why) sound fails = fails ∙ sound
