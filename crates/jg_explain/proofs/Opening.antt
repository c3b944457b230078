-- A buffer comes to be open at the entry alone that lends it.
use Rattle.std.proofs.Common.{◌≡◌, ◌++◌, ◌∙◌, ℕ, Bool, true, false, List, ◌∷◌, Option, Some, None, refl, ap, sym, arith}
use Rattle.std.specs.Prelude.{if◌then◌else◌}
use Rattle.std.proofs.lemmas.Bool.Decides.{nat_tests}
use Rattle.jg_words.specs.Entry.{Entry}
use Rattle.jg_words.specs.declared.buffer.BufId.{BufId}
use Rattle.jg_words.specs.declared.thread.Tid.{Tid}
use Rattle.jg_words.specs.declared.thread.EnvId.{EnvId}
use Rattle.jg_words.specs.declared.rule.Rule.{Rule}
use Rattle.jg_words.specs.declared.call.Call.{Call}
use Rattle.jg_words.specs.declared.call.Call.TheVariants.{Vm, Refs, Frames, Exceptions, Objects, Strings, Arrays, Monitors, Buffers}
use Rattle.jg_words.specs.declared.call.buffers.BuffersCall.{BuffersCall}
use Rattle.jg_words.specs.declared.call.buffers.BuffersCall.TheVariants.{GetArrayElements, ReleaseArrayElements, GetStringChars, ReleaseStringChars, GetStringUTFChars, ReleaseStringUTFChars, GetPrimitiveArrayCritical, ReleasePrimitiveArrayCritical, GetStringCritical, ReleaseStringCritical, BufferRead, BufferWrite}
use Rattle.jg_words.specs.declared.entry.Outcome.{Outcome}
use Rattle.jg_words.specs.declared.entry.Outcome.TheVariants.{Passed, Denied}
use Rattle.jg_words.specs.declared.value.Value.{Value}
use Rattle.jg_words.specs.declared.value.Value.TheVariants.{Buffer as Lent}
use Rattle.jg_policy.specs.Stated.{StatedSetup}
use Rattle.jg_table_heap.specs.Reading.{natural}
use Rattle.jg_table_buffers.specs.History.{Buffer, Event, opened, is_same}
use Rattle.jg_rules.specs.Parts.{Parts}
use Rattle.jg_rules.specs.Names.{next_buffer}
use Rattle.jg_rules.specs.Buffers.{buffer_named, is_commit}
use Rattle.jg_rules.specs.Rules.{verdict}
use Rattle.jg_rules.specs.Effects.{parts, after, call_buffers, if_effective, is_effective}
use Rattle.jg_rules.specs.Answers.{answer}
use Rattle.jg_rules.specs.Legal.{Legal, entry_by}
use Rattle.jg_laws.specs.Proper.{opens_one}
use Rattle.jg_laws.proofs.Steps.{closes_none, writes_none}
use Rattle.jg_explain.proofs.Closing.{closed_still}

-- the buffer that an answer lends
abbrev pub buffer_in : Value → Option BufId
buffer_in (Lent b) = Some b
buffer_in value = None

abbrev pub buffer_of : Outcome → Option BufId
buffer_of (Passed reply) = buffer_in reply.value
buffer_of (Denied rule) = None

clash : (found : Option Buffer) (b : Buffer) → found ≡ None → found ≡ Some b → ⊥
clash found b none some = cc

opens_none_if : (t : Bool) (e : List Event) → opens_one e ≡ false → opens_one (if_effective t e) ≡ false
opens_none_if true e none = none
opens_none_if false e none = refl

module _ (s : StatedSetup) (p : Parts) (t : Tid) (m n : ℕ) (b : Buffer) (none : opened p.buffers m n ≡ None) where
  abbrev now : Call → List Event
  now call = if_effective (is_effective (answer s p t call).reply.value) (call_buffers s p t.0 call) ++ p.buffers

  abbrev LendsIt : Call → Type 0
  LendsIt call = buffer_in (answer s p t call).reply.value ≡ Some (record { maker = record { 0 = m }; n = n })

  silent : (call : Call) → opens_one (call_buffers s p t.0 call) ≡ false → opened (now call) m n ≡ Some b → LendsIt call
  silent call none_opened some =
      let e = if_effective (is_effective (answer s p t call).reply.value) (call_buffers s p t.0 call) in
      absurd (clash (opened (now call) m n) b
      (closed_still m n e p.buffers (opens_none_if (is_effective (answer s p t call).reply.value) (call_buffers s p t.0 call) none_opened) none) some)

  by_number : (k : Bool) → is_same m n t.0 (next_buffer p t.0) ≡ k → (c : Buffer) → (if k then Some c else opened p.buffers m n) ≡ Some b
      → buffer_in (Lent (record { maker = t; n = next_buffer p t.0 })) ≡ Some (record { maker = record { 0 = m }; n = n })
  by_number true same c some =
      let maker : t.0 ≡ m = grind (arith, nat_tests, same) in
      let number : next_buffer p t.0 ≡ n = grind (arith, nat_tests, same) in
      ap (λ (k : ℕ). Some (record { maker = record { 0 = k }; n = next_buffer p t.0 })) maker
      ∙ ap (λ (k : ℕ). Some (record { maker = record { 0 = m }; n = k })) number
  by_number false other c some = absurd (clash (opened p.buffers m n) b none some)

  by_buffers : (call : BuffersCall) → opened (now (Buffers call)) m n ≡ Some b → LendsIt (Buffers call)
  by_buffers (GetArrayElements element r) some = by_number (is_same m n t.0 (next_buffer p t.0)) refl _ some
  by_buffers (ReleaseArrayElements element r c mode) some = silent (Buffers (ReleaseArrayElements element r c mode)) (closes_none (is_commit mode) c) some
  by_buffers (GetStringChars r) some = by_number (is_same m n t.0 (next_buffer p t.0)) refl _ some
  by_buffers (ReleaseStringChars r c) some = silent (Buffers (ReleaseStringChars r c)) refl some
  by_buffers (GetStringUTFChars r) some = by_number (is_same m n t.0 (next_buffer p t.0)) refl _ some
  by_buffers (ReleaseStringUTFChars r c) some = silent (Buffers (ReleaseStringUTFChars r c)) refl some
  by_buffers (GetPrimitiveArrayCritical r) some = by_number (is_same m n t.0 (next_buffer p t.0)) refl _ some
  by_buffers (ReleasePrimitiveArrayCritical r c mode) some = silent (Buffers (ReleasePrimitiveArrayCritical r c mode)) (closes_none (is_commit mode) c) some
  by_buffers (GetStringCritical r) some = by_number (is_same m n t.0 (next_buffer p t.0)) refl _ some
  by_buffers (ReleaseStringCritical r c) some = silent (Buffers (ReleaseStringCritical r c)) refl some
  by_buffers (BufferRead c index) some = silent (Buffers (BufferRead c index)) refl some
  by_buffers (BufferWrite c index value) some = silent (Buffers (BufferWrite c index value)) (writes_none c (natural index) value (buffer_named p c)) some

  by_call : (call : Call) → opened (now call) m n ≡ Some b → LendsIt call
  by_call (Vm call) some = silent (Vm call) refl some
  by_call (Refs call) some = silent (Refs call) refl some
  by_call (Frames call) some = silent (Frames call) refl some
  by_call (Exceptions call) some = silent (Exceptions call) refl some
  by_call (Objects call) some = silent (Objects call) refl some
  by_call (Strings call) some = silent (Strings call) refl some
  by_call (Arrays call) some = silent (Arrays call) refl some
  by_call (Monitors call) some = silent (Monitors call) refl some
  by_call (Buffers call) some = by_buffers call some

by_verdict : (s : StatedSetup) (p : Parts) (u : Tid) (env : Option EnvId) (call : Call) (m n : ℕ) (b : Buffer) (verdict : Option Rule) (y : Entry)
    → y ≡ entry_by verdict (answer s p u call) u env call
    → opened p.buffers m n ≡ None → opened (after s y.tid.0 y.call y.outcome y.object p).buffers m n ≡ Some b
    → buffer_of y.outcome ≡ Some (record { maker = record { 0 = m }; n = n })
by_verdict s p u env call m n b (Some rule) y is none some =
    absurd (clash (opened p.buffers m n) b none (sym (ap (λ (x : Entry). opened (after s x.tid.0 x.call x.outcome x.object p).buffers m n) is) ∙ some))
by_verdict s p u env call m n b None y is none some =
    let here = sym (ap (λ (x : Entry). opened (after s x.tid.0 x.call x.outcome x.object p).buffers m n) is) ∙ some in
    ap (λ (x : Entry). buffer_of x.outcome) is ∙ by_call s p u m n b none call here

-- at no other entry of a legal history
pub opened_by_its_answer : (s : StatedSetup) (h : List Entry) (x : Entry) (m n : ℕ) (b : Buffer) → Legal s (x ∷ h) → opened (parts s h).buffers m n ≡ None
    → opened (parts s (x ∷ h)).buffers m n ≡ Some b
    → buffer_of x.outcome ≡ Some (record { maker = record { 0 = m }; n = n })
opened_by_its_answer s h x m n b legal none some =
    by_verdict s (parts s h) x.tid x.env x.call m n b (verdict s (parts s h) x.tid.0 x.env x.call) x legal.0 none some
