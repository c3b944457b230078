-- A reference or a buffer comes to be there at the entry at which its number is given.
use Rattle.std.proofs.Common.{◌≡◌, ◌+◌, ◌<◌, ◌≤◌, ◌++◌, ◌∙◌, ℕ, Bool, true, false, List, ◌∷◌, Option, Some, None, inl, ap, sym, arith}
use Rattle.std.specs.Prelude.{nat_lt}
use Rattle.std.proofs.lemmas.Bool.Decides.{nat_tests}
use Rattle.jg_words.specs.Entry.{Entry}
use Rattle.jg_words.specs.declared.buffer.BufId.{BufId}
use Rattle.jg_words.specs.declared.thread.Tid.{Tid}
use Rattle.jg_words.specs.declared.thread.EnvId.{EnvId}
use Rattle.jg_words.specs.declared.object.ObjId.{ObjId}
use Rattle.jg_words.specs.declared.reference.Ref.TheVariants.{Null, To}
use Rattle.jg_words.specs.declared.reference.Kind.{Kind}
use Rattle.jg_words.specs.declared.reference.Kind.TheVariants.{Local, Global, Weak}
use Rattle.jg_words.specs.declared.value.Value.{Value}
use Rattle.jg_words.specs.declared.value.Value.TheVariants.{Reference, Buffer as Lent}
use Rattle.jg_words.specs.declared.rule.Rule.{Rule}
use Rattle.jg_words.specs.declared.call.Call.{Call}
use Rattle.jg_policy.specs.Stated.{StatedSetup}
use Rattle.jg_table_buffers.specs.History.{Buffer, opened}
use Rattle.jg_rules.specs.Parts.{Parts}
use Rattle.jg_rules.specs.Names.{next_ref, next_buffer}
use Rattle.jg_rules.specs.Effects.{parts}
use Rattle.jg_rules.specs.Rules.{verdict}
use Rattle.jg_rules.specs.Answers.{answer}
use Rattle.jg_rules.specs.Legal.{Legal, entry_by}
use Rattle.jg_laws.specs.Histories.{reference_in, reference_of}
use Rattle.jg_laws.specs.Proper.{IsProper}
use Rattle.jg_laws.proofs.Fresh.{references_counted, no_reference}
use Rattle.jg_laws.proofs.Kept.{AtLeast, at_least_steps}
use Rattle.jg_laws.proofs.Lending.{lent_below_next}
use Rattle.jg_laws.proofs.Proper.{proper}
use Rattle.jg_laws.proofs.Steps.{each_since}
use Rattle.jg_explain.proofs.Closing.{IsGiven, below_by, given_steps}
use Rattle.jg_explain.proofs.Opening.{buffer_in, buffer_of}

no_buffer : {b : BufId} → None ≡ Some b → ⊥
no_buffer is = cc

same_number : (p : Parts) (t m maker : Tid) (is_kind kind : Kind) (k n : ℕ) → m ≡ t → k ≡ next_ref p t.0 → Some (To is_kind m k) ≡ Some (To kind maker n)
    → n ≡ next_ref p maker.0
same_number p t m maker is_kind kind k n own next is = cc

same_buffer : (p : Parts) (t : Tid) (c b : BufId) → c.maker ≡ t → c.n ≡ next_buffer p t.0 → Some c ≡ Some b → b.n ≡ next_buffer p b.maker.0
same_buffer p t c b own next is = cc

module _ (s : StatedSetup) (p : Parts) (t : Tid) (call : Call) where
  by_reference : (v : Value) (warned : Bool) (o : Option ObjId) (kind : Kind) (maker : Tid) (n : ℕ) → IsProper s p t call v warned o
      → reference_in v ≡ Some (To kind maker n) → n ≡ next_ref p maker.0
  by_reference (Reference v) warned None kind maker n own is = absurd own
  by_reference (Reference Null) warned (Some o) kind maker n own is = absurd own
  by_reference (Reference (To Local m k)) warned (Some o) kind maker n own is = same_number p t m maker Local kind k n own.1 own.2 is
  by_reference (Reference (To Global m k)) warned (Some o) kind maker n own is = same_number p t m maker Global kind k n own.1 own.2 is
  by_reference (Reference (To Weak m k)) warned (Some o) kind maker n own is = same_number p t m maker Weak kind k n own.1 own.2 is
  by_reference v warned o kind maker n own is = absurd (no_reference is)

  by_buffer : (v : Value) (warned : Bool) (o : Option ObjId) (b : BufId) → IsProper s p t call v warned o → buffer_in v ≡ Some b → b.n ≡ next_buffer p b.maker.0
  by_buffer (Lent c) warned o b own is = same_buffer p t c b own.1 own.2 is
  by_buffer v warned o b own is = absurd (no_buffer is)

ref_by_verdict : (s : StatedSetup) (p : Parts) (u : Tid) (env : Option EnvId) (call : Call) (kind : Kind) (maker : Tid) (n : ℕ) (verdict : Option Rule)
    (y : Entry)
    → y ≡ entry_by verdict (answer s p u call) u env call → reference_of y.outcome ≡ Some (To kind maker n) → n ≡ next_ref p maker.0
ref_by_verdict s p u env call kind maker n (Some rule) y is handed = absurd (no_reference (sym (ap (λ (x : Entry). reference_of x.outcome) is) ∙ handed))
ref_by_verdict s p u env call kind maker n None y is handed =
    let a = answer s p u call in
    by_reference s p u call a.reply.value a.reply.warned a.object kind maker n (proper s p u call)
    (sym (ap (λ (x : Entry). reference_of x.outcome) is) ∙ handed)

buffer_by_verdict : (s : StatedSetup) (p : Parts) (u : Tid) (env : Option EnvId) (call : Call) (b : BufId) (verdict : Option Rule) (y : Entry)
    → y ≡ entry_by verdict (answer s p u call) u env call
    → buffer_of y.outcome ≡ Some b → b.n ≡ next_buffer p b.maker.0
buffer_by_verdict s p u env call b (Some rule) y is lent = absurd (no_buffer (sym (ap (λ (x : Entry). buffer_of x.outcome) is) ∙ lent))
buffer_by_verdict s p u env call b None y is lent =
    let a = answer s p u call in
    by_buffer s p u call a.reply.value a.reply.warned a.object b (proper s p u call) (sym (ap (λ (x : Entry). buffer_of x.outcome) is) ∙ lent)

-- its number is the next one before the entry that hands it out, and is given then
pub ref_numbered : (s : StatedSetup) (h : List Entry) (x : Entry) (kind : Kind) (maker : Tid) (n : ℕ) → Legal s (x ∷ h)
    → reference_of x.outcome ≡ Some (To kind maker n)
    → (nat_lt n (next_ref (parts s h) maker.0) ≡ false) × (nat_lt n (next_ref (parts s (x ∷ h)) maker.0) ≡ true)
ref_numbered s h x kind maker n legal handed =
    let p = parts s h in
    let next = ref_by_verdict s p x.tid x.env x.call kind maker n (verdict s p x.tid.0 x.env x.call) x legal.0 handed in
    let given = references_counted s (x ∷ h) kind maker n legal (inl handed) in
    (grind (arith, nat_tests, next), grind (arith, nat_tests, given))

pub buffer_numbered : (s : StatedSetup) (h : List Entry) (x : Entry) (b : BufId) (c : Buffer) → Legal s (x ∷ h) → buffer_of x.outcome ≡ Some b
    → opened (parts s (x ∷ h)).buffers b.maker.0 b.n ≡ Some c
    → (nat_lt b.n (next_buffer (parts s h) b.maker.0) ≡ false) × (nat_lt b.n (next_buffer (parts s (x ∷ h)) b.maker.0) ≡ true)
buffer_numbered s h x b c legal lent is =
    let p = parts s h in
    let q = parts s (x ∷ h) in
    let next = buffer_by_verdict s p x.tid x.env x.call b (verdict s p x.tid.0 x.env x.call) x legal.0 lent in
    let given = below_by b.maker.0 b.n (next_buffer q b.maker.0) q.buffers c (lent_below_next s (x ∷ h) legal b.maker.0) is in
    (grind (arith, nat_tests, next), grind (arith, nat_tests, given))

-- a number that was given stays given
pub ref_still_given : (s : StatedSetup) (newer h : List Entry) (m n : ℕ) → Legal s (newer ++ h) → nat_lt n (next_ref (parts s h) m) ≡ true
    → nat_lt n (next_ref (parts s (newer ++ h)) m) ≡ true
ref_still_given s newer h m n legal given =
    let below : n + 1 ≤ next_ref (parts s h) m = grind (arith, nat_tests, given) in
    let still : n + 1 ≤ next_ref (parts s (newer ++ h)) m = each_since (AtLeast m (n + 1)) s (at_least_steps s m (n + 1)) newer h legal below in
    grind (arith, nat_tests, still)

pub buffer_still_given : (s : StatedSetup) (newer h : List Entry) (m n : ℕ) → Legal s (newer ++ h) → nat_lt n (next_buffer (parts s h) m) ≡ true
    → nat_lt n (next_buffer (parts s (newer ++ h)) m) ≡ true
buffer_still_given s newer h m n legal given =
    let below : n < next_buffer (parts s h) m = grind (arith, nat_tests, given) in
    let still : n < next_buffer (parts s (newer ++ h)) m = each_since (IsGiven m n) s (given_steps m n s) newer h legal below in
    grind (arith, nat_tests, still)
