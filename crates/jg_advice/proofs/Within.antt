-- In the written machine no call throws whose part lies within what is known of its string or array.
use Rattle.std.proofs.Common.{◌≡◌, ◌∙◌, ℕ, ℤ, pos, ◌+◌, Bool, true, false, length, Option, Some, None, refl, ap, sym, arith}
use Rattle.std.specs.Prelude.{◌||◌, if◌then◌else◌, int_lt, nat_lt, option_and_then}
use Rattle.std.specs.Option.{unwrap_or}
use Rattle.std.proofs.lemmas.Bool.Decides.{nat_tests}
use Rattle.jg_words.specs.declared.thread.Tid.{Tid}
use Rattle.jg_words.specs.declared.reference.Ref.{Ref}
use Rattle.jg_words.specs.declared.reference.Ref.TheVariants.{Null, To}
use Rattle.jg_words.specs.declared.reference.Kind.{Kind}
use Rattle.jg_words.specs.declared.value.Thrown.{Thrown}
use Rattle.jg_words.specs.declared.call.Call.{Call}
use Rattle.jg_words.specs.declared.call.Call.TheVariants as call
use Rattle.jg_words.specs.declared.call.vm.VmCall.{VmCall}
use Rattle.jg_words.specs.declared.call.vm.VmCall.TheVariants.{AttachCurrentThread}
use Rattle.jg_words.specs.declared.call.refs.RefsCall.{RefsCall}
use Rattle.jg_words.specs.declared.call.refs.RefsCall.TheVariants.{NewLocalRef}
use Rattle.jg_words.specs.declared.call.frames.FramesCall.{FramesCall}
use Rattle.jg_words.specs.declared.call.frames.FramesCall.TheVariants.{PushLocalFrame}
use Rattle.jg_words.specs.declared.call.exceptions.ExceptionsCall.{ExceptionsCall}
use Rattle.jg_words.specs.declared.call.exceptions.ExceptionsCall.TheVariants.{ExceptionOccurred}
use Rattle.jg_words.specs.declared.call.objects.ObjectsCall.{ObjectsCall}
use Rattle.jg_words.specs.declared.call.objects.ObjectsCall.TheVariants.{FindClass}
use Rattle.jg_words.specs.declared.call.strings.StringsCall.{StringsCall}
use Rattle.jg_words.specs.declared.call.strings.StringsCall.TheVariants.{GetStringRegion}
use Rattle.jg_words.specs.declared.call.arrays.ArraysCall.{ArraysCall}
use Rattle.jg_words.specs.declared.call.arrays.ArraysCall.TheVariants.{GetArrayRegion, SetArrayRegion, GetObjectArrayElement, SetObjectArrayElement}
use Rattle.jg_words.specs.declared.call.monitors.MonitorsCall.{MonitorsCall}
use Rattle.jg_words.specs.declared.call.monitors.MonitorsCall.TheVariants.{MonitorEnter}
use Rattle.jg_words.specs.declared.call.buffers.BuffersCall.{BuffersCall}
use Rattle.jg_words.specs.declared.call.buffers.BuffersCall.TheVariants.{BufferRead}
use Rattle.jg_policy.specs.Stated.{StatedSetup, class_count}
use Rattle.jg_table_heap.specs.History.{is_there, making_at}
use Rattle.jg_table_heap.specs.Making.{length_in}
use Rattle.jg_table_heap.specs.Reading.{natural}
use Rattle.jg_rules.specs.declared.answer.Answer.{Answer}
use Rattle.jg_rules.specs.Answers.{answer, handed, is_outside, or_outside}
use Rattle.jg_rules.specs.Names.{length_of, object_named, slot_of, target_in, the_object}
use Rattle.jg_rules.specs.Parts.{Parts}
use Rattle.jg_judge.specs.Written.{arguments_of}
use Rattle.jg_advice.specs.Laws.{HasCharacters, WithinThrowsNothing, is_exception}
use Rattle.jg_advice.specs.Throwing.{is_up_to, is_within, length_here, part_by, part_of, so_many}

-- ---- what lies within isn't outside

here : (b : Bool) (end whole : ℕ) → is_up_to end (if b then Some whole else None) ≡ true → nat_lt whole end ≡ false
here true end whole up_to = grind (arith, nat_tests, up_to)
here false end whole up_to = absurd cc

known : (s : StatedSetup) (p : Parts) (end : ℕ) (found : Option ℕ) → is_up_to end (option_and_then (length_here (class_count s) p.heap) found) ≡ true
    → nat_lt (length_of s p (unwrap_or found 0)) end ≡ false
known s p end None up_to = absurd cc
known s p end (Some o) up_to = here (is_there (class_count s) p.heap o) end (length_in (making_at (class_count s) p.heap o)) up_to

inside : (s : StatedSetup) (p : Parts) (t : ℕ) (r : Ref) (start n : ℕ) (a b : Bool)
    → is_within s p t (part_by r (if a then None else Some start) (if b then None else Some n)) ≡ true
    → (a || (b || nat_lt (length_of s p (the_object p t r)) (start + n))) ≡ false
inside s p t r start n true b within = absurd cc
inside s p t r start n false true within = absurd cc
inside s p t r start n false false within = known s p (start + n) (object_named p t r) within

not_below : (n : ℕ) → int_lt (pos n) (pos 0) ≡ false
not_below n = grind (arith, nat_tests)

not_outside : (s : StatedSetup) (p : Parts) (t : ℕ) (r : Ref) (start : ℤ) (n : ℕ) → is_within s p t (part_by r (so_many start) (Some n)) ≡ true
    → is_outside start (pos n) (length_of s p (the_object p t r)) ≡ false
not_outside s p t r start n within =
    ap (λ b. int_lt start (pos 0) || (b || nat_lt (length_of s p (the_object p t r)) (natural start + n))) (not_below n)
    ∙ inside s p t r (natural start) n (int_lt start (pos 0)) false within

-- ---- and so throws nothing

calm : (s : StatedSetup) (p : Parts) (kind : Thrown) (b : Bool) (a : Answer) → b ≡ false → is_exception a.reply.value ≡ false
    → is_exception (or_outside s p kind b a).reply.value ≡ false
calm s p kind true a is other = absurd cc
calm s p kind false a is other = other

hands : (p : Parts) (t : Tid) (kind : Kind) (o : Option ℕ) → is_exception (handed p t kind o).reply.value ≡ false
hands p t kind None = refl
hands p t kind (Some o) = refl

strings : (s : StatedSetup) (p : Parts) (t : Tid) (c : StringsCall) → HasCharacters s p t.0 (call.Strings c)
    → is_within s p t.0 (part_of (arguments_of s p t.0 (call.Strings c))) ≡ true → is_exception (answer s p t (call.Strings c)).reply.value ≡ false
strings s p t (GetStringRegion r start n) has within =
    calm s p _ _ _ (ap (is_outside start n) has ∙ inside s p t.0 r (natural start) (natural n) (int_lt start (pos 0)) (int_lt n (pos 0)) within) refl
strings s p t c has within = absurd cc

arrays : (s : StatedSetup) (p : Parts) (t : Tid) (c : ArraysCall) → is_within s p t.0 (part_of (arguments_of s p t.0 (call.Arrays c))) ≡ true
    → is_exception (answer s p t (call.Arrays c)).reply.value ≡ false
arrays s p t (GetArrayRegion element r start n) within =
    calm s p _ _ _ (inside s p t.0 r (natural start) (natural n) (int_lt start (pos 0)) (int_lt n (pos 0)) within) refl
arrays s p t (SetArrayRegion element r start values) within = calm s p _ _ _ (not_outside s p t.0 r start (length values) within) refl
arrays s p t (GetObjectArrayElement r index) within =
    calm s p _ _ _ (not_outside s p t.0 r index 1 within) (hands p t _ (target_in (slot_of s p (the_object p t.0 r) (natural index))))
arrays s p t (SetObjectArrayElement r index Null) within = calm s p _ _ _ (not_outside s p t.0 r index 1 within) refl
arrays s p t (SetObjectArrayElement r index (To kind maker n)) within = absurd (no_part (so_many index) within)
  where
    no_part : (start : Option ℕ) → is_within s p t.0 (part_by r start None) ≡ true → ⊥
    no_part None is = absurd cc
    no_part (Some start) is = absurd cc
arrays s p t c within = absurd cc

-- ---- no other call says a part

abbrev NoPart : Call → Type 0
NoPart c = (s : StatedSetup) (p : Parts) (t : ℕ) → is_within s p t (part_of (arguments_of s p t c)) ≡ false

vm : (c : VmCall) → NoPart (call.Vm c)
vm AttachCurrentThread s p t = refl
vm c s p t = refl

refs : (c : RefsCall) → NoPart (call.Refs c)
refs (NewLocalRef r) s p t = refl
refs c s p t = refl

frames : (c : FramesCall) → NoPart (call.Frames c)
frames (PushLocalFrame capacity) s p t = refl
frames c s p t = refl

exceptions : (c : ExceptionsCall) → NoPart (call.Exceptions c)
exceptions ExceptionOccurred s p t = refl
exceptions c s p t = refl

objects : (c : ObjectsCall) → NoPart (call.Objects c)
objects (FindClass name) s p t = refl
objects c s p t = refl

monitors : (c : MonitorsCall) → NoPart (call.Monitors c)
monitors (MonitorEnter r) s p t = refl
monitors c s p t = refl

buffers : (c : BuffersCall) → NoPart (call.Buffers c)
buffers (BufferRead b index) s p t = refl
buffers c s p t = refl

none : {P : Type 0} (b : Bool) → b ≡ false → b ≡ true → P
none b untrue is = absurd (let clash : false ≡ true = sym untrue ∙ is in cc)

pub within_throws_nothing : WithinThrowsNothing
within_throws_nothing s p t (call.Strings c) has within = strings s p t c has within
within_throws_nothing s p t (call.Arrays c) has within = arrays s p t c within
within_throws_nothing s p t (call.Vm c) has within = none _ (vm c s p t.0) within
within_throws_nothing s p t (call.Refs c) has within = none _ (refs c s p t.0) within
within_throws_nothing s p t (call.Frames c) has within = none _ (frames c s p t.0) within
within_throws_nothing s p t (call.Exceptions c) has within = none _ (exceptions c s p t.0) within
within_throws_nothing s p t (call.Objects c) has within = none _ (objects c s p t.0) within
within_throws_nothing s p t (call.Monitors c) has within = none _ (monitors c s p t.0) within
within_throws_nothing s p t (call.Buffers c) has within = none _ (buffers c s p t.0) within
