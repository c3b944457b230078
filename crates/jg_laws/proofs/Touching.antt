-- In every legal history what a call touches is named by a live reference, and so it isn't gone: what it writes or
-- pins is its first operand's object, and a critical buffer that it uses is its thread's own.
use Rattle.std.proofs.Common.{ℕ, ℤ, ◌≡◌, ◌+◌, ◌<◌, Bool, true, false, zero, suc, List, [], ◌∷◌, length, Option, Some, None, refl, subst, inl, inr, arith, ap, sym}
use Rattle.std.specs.Prelude.{◌==◌, ◌&&◌, not, if◌then◌else◌, Any, slice_index_or}
use Rattle.std.specs.List.{list_any, AllByRecursion}
use Rattle.std.specs.Option.{option_map}
use Rattle.std.proofs.lemmas.Bool.Decides.{nat_tests}
use Rattle.jg_words.specs.declared.thread.EnvId.{EnvId}
use Rattle.jg_words.specs.declared.reference.Ref.{Ref}
use Rattle.jg_words.specs.declared.buffer.BufId.{BufId}
use Rattle.jg_words.specs.declared.value.Value.{Value}
use Rattle.jg_words.specs.Entry.{Entry}
use Rattle.jg_words.specs.declared.call.Call.{Call}
use Rattle.jg_words.specs.declared.call.Call.TheVariants.{Vm, Objects, Strings, Arrays, Buffers}
use Rattle.jg_words.specs.declared.call.vm.VmCall.TheVariants.{Collect}
use Rattle.jg_words.specs.declared.call.objects.ObjectsCall.TheVariants.{AllocObject, SetField, SetObjectField}
use Rattle.jg_words.specs.declared.call.strings.StringsCall.TheVariants.{NewString, NewStringUTF}
use Rattle.jg_words.specs.declared.call.arrays.ArraysCall.TheVariants.{NewArray, SetArrayRegion, NewObjectArray, SetObjectArrayElement}
use Rattle.jg_words.specs.declared.call.buffers.BuffersCall.TheVariants.{GetArrayElements, ReleaseArrayElements, GetStringChars, ReleaseStringChars, GetStringUTFChars, ReleaseStringUTFChars, GetPrimitiveArrayCritical, ReleasePrimitiveArrayCritical, GetStringCritical, ReleaseStringCritical, BufferRead, BufferWrite}
use Rattle.jg_words.specs.declared.object.ItemType.TheVariants.{Of}
use Rattle.jg_policy.specs.Stated.{StatedSetup}
use Rattle.jg_table_heap.specs.Reading.{natural}
use Rattle.jg_table_heap.specs.History as heap
use Rattle.jg_table_heap.specs.declared.object.Slot.TheVariants.{Number}
use Rattle.jg_table_buffers.specs.declared.family.Family.{Family}
use Rattle.jg_table_buffers.specs.declared.family.Family.TheVariants.{Elements, Chars, UtfChars, ArrayCritical, StringCritical}
use Rattle.jg_table_buffers.specs.declared.info.Info.{Info}
use Rattle.jg_table_buffers.specs.History.{Buffer, Event, Opened, Wrote, Closed, ReleaseAll, opened, contents, info_of, is_critical}
use Rattle.jg_rules.specs.declared.operand.ObjectType.{ObjectType}
use Rattle.jg_rules.specs.declared.operand.ObjectType.TheVariants.{AnyObject, StringObject, PrimitiveArray, ArrayOf, ObjectArray}
use Rattle.jg_rules.specs.declared.operand.Operand.{Operand}
use Rattle.jg_rules.specs.Parts.{Parts}
use Rattle.jg_rules.specs.Names.{names, object_named, the_object}
use Rattle.jg_rules.specs.Operands.{required, optional}
use Rattle.jg_rules.specs.Buffers.{buffer_named, is_open_and, is_of_family, is_of_object, is_anothers, is_of_array, is_commit, writes_back}
use Rattle.jg_rules.specs.Effects.{parts, call_heap, call_buffers, closed_by, wrote_back, wrote_copy, wrote_pinned, is_effective, if_effective}
use Rattle.jg_rules.specs.Rules.{verdict, bad_buffer, is_nothing, is_null, is_releasable}
use Rattle.jg_rules.specs.Legal.{Legal}
use Rattle.jg_rules.specs.Unbroken.{Unbroken}
use Rattle.jg_laws.specs.Laws.{HasPin, Reaches, TouchesLive, TouchesNothingGone, is_gone}
use Rattle.jg_laws.specs.Proper.{opens_one}
use Rattle.jg_laws.specs.Touching.{WritesSlotOf, OpensPinOf, buffer_used, TouchesAt}
use Rattle.jg_laws.proofs.Makings.{all_append}
use Rattle.jg_laws.proofs.Steps.{closes_none, writes_none}
use Rattle.jg_laws.proofs.Fresh.{Legal-before}
use Rattle.jg_laws.proofs.Natives.{passed_unbroken}
use Rattle.jg_laws.proofs.HandsHere.{the_named}
use Rattle.jg_laws.proofs.Releasing.{released}
use Rattle.jg_laws.proofs.HandedHere.{live_is_not_gone}
use Rattle.jg_laws.proofs.Pinning.{PinsLive, pins_are_live}

-- ---- lists of events

item_has : {X : Type 0} (Q : X → Type 0) (xs : List X) (k : ℕ) (x : X) → AllByRecursion Q xs → k < length xs
    → slice_index_or xs k x ≡ x → Q x
item_has Q [] k x all within is = absurd (omega (arith, within))
item_has Q (y ∷ xs) zero x all within is = subst Q is all.0
item_has Q (y ∷ xs) (suc k) x all within is = item_has Q xs k x all.1 (omega (arith, within)) is

-- where each item has Q, and P of an item with Q says R, some item with P says R
some_says : {X : Type 0} (P Q : X → Type 0) (R : Type 0) → ((x : X) → Q x → P x → R) → (b : Bool) (xs : List X)
    → AllByRecursion Q xs → Any P (if_effective b xs) → R
some_says P Q R says true xs all some = says some.1 (item_has Q xs some.0 some.1 all some.2 some.3) some.4
some_says P Q R says false xs all some = absurd (let within = some.2 in omega (arith, within))

-- ---- a critical buffer that is used

abbrev IsOpen : Parts → BufId → Buffer → Type 0
IsOpen p id b = opened p.buffers id.maker.0 id.n ≡ Some b

last_false : (a b c : Bool) → not (a && (b && not c)) ≡ false → c ≡ false
last_false true true true is = absurd cc
last_false true true false is = refl
last_false true false c is = absurd cc
last_false false b c is = absurd cc

own_maker : (b : Bool) (m t : ℕ) → b ≡ true → (b && not (m == t)) ≡ false → m ≡ t
own_maker true m t pins own = grind (arith, nat_tests, own)
own_maker false m t pins own = absurd cc

-- an open critical buffer that isn't another thread's is the thread's own pin
own_pin : (p : Parts) (t : ℕ) (id : BufId) (b : Buffer) → PinsLive p → IsOpen p id b → is_critical b.family ≡ true
    → is_anothers t (info_of b) ≡ false → HasPin p t b.object
own_pin p t id b live is_open pins own =
    let mine : b.maker ≡ t = own_maker (is_critical b.family) b.maker t pins own in
    let lent : object_named p b.maker b.via ≡ Some b.object = live id.maker.0 id.n b is_open pins in
    record {
      maker = id.maker.0;
      n = id.n;
      buffer = b;
      is_open = is_open;
      critical = pins;
      holds = (mine, refl, subst (λ (u : ℕ). object_named p u b.via ≡ Some b.object) mine lent);
    }

same_id : (c id : BufId) → Some c ≡ Some id → c ≡ id
same_id c id same = cc

-- the open buffer passes the test that the call's buffer passes
passes : (test : Info → Bool) (p : Parts) (c id : BufId) (b : Buffer)
    → not (is_open_and test (buffer_named p c)) ≡ false → Some c ≡ Some id → IsOpen p id b
    → not (test (info_of b)) ≡ false
passes test p c id b right same is =
    let P : BufId → Type 0 = λ x. not (is_open_and test (buffer_named p x)) ≡ false in
    let Q : Option Buffer → Type 0 = λ found. not (is_open_and test (option_map info_of found)) ≡ false in
    subst Q is (subst P (same_id c id same) right)

released_own : (p : Parts) (t : ℕ) (family : Family) (r : Ref) (c id : BufId) (b : Buffer)
    → not (is_releasable p t family r c) ≡ false → Some c ≡ Some id → IsOpen p id b → is_anothers t (info_of b) ≡ false
released_own p t family r c id b right same is =
    let test : Info → Bool = λ x.
    is_of_family family x && (is_of_object (object_named p t r) x && not (is_anothers t x)) in
    last_false (is_of_family family (info_of b)) (is_of_object (object_named p t r) (info_of b)) _
    (passes test p c id b right same is)

-- a critical buffer that the call uses is no other thread's
used_own : (p : Parts) (t : ℕ) (call : Call) (id : BufId) (b : Buffer) → bad_buffer p t call ≡ false
    → buffer_used call ≡ Some id → IsOpen p id b → is_anothers t (info_of b) ≡ false
used_own p t (Buffers (ReleaseArrayElements element r c mode)) id b right same is =
    released_own p t (Elements (Of element)) r c id b right same is
used_own p t (Buffers (ReleaseStringChars r c)) id b right same is = released_own p t Chars r c id b right same is
used_own p t (Buffers (ReleaseStringUTFChars r c)) id b right same is =
    released_own p t UtfChars r c id b right same is
used_own p t (Buffers (ReleasePrimitiveArrayCritical r c mode)) id b right same is =
    released_own p t ArrayCritical r c id b right same is
used_own p t (Buffers (ReleaseStringCritical r c)) id b right same is =
    released_own p t StringCritical r c id b right same is
used_own p t (Buffers (BufferRead c index)) id b right same is =
    last_false true true (is_anothers t (info_of b)) (passes (λ x. not (is_anothers t x)) p c id b right same is)
used_own p t (Buffers (BufferWrite c index value)) id b right same is =
    last_false (is_of_array b.family) true (is_anothers t (info_of b))
    (passes (λ x. is_of_array x.family && not (is_anothers t x)) p c id b right same is)
used_own p t call id b right none is = absurd cc

-- ---- what is written

-- the first operand, where it must name an object, names one
first_named : (p : Parts) (t : ℕ) (r : Ref) (type : ObjectType) (rest : List Operand)
    → list_any (λ x. is_nothing (names p t x.reference)) (required r type ∷ rest) ≡ false
    → list_any (λ x. not x.nullable && is_null (names p t x.reference)) (required r type ∷ rest) ≡ false
    → Any (λ x. object_named p t x.reference ≡ Some (the_object p t r)) (required r type ∷ rest)
first_named p t r type rest alive there =
    let named = the_named (names p t r) (list_any (λ x. is_nothing (names p t x.reference)) rest)
    (list_any (λ x. not x.nullable && is_null (names p t x.reference)) rest) alive there in
    (0, required r type, omega arith, refl, named)

abbrev WriteMeets : (ℕ → Type 0) → heap.Event → Type 0
WriteMeets H (heap.Made m) = Unit {0}
WriteMeets H (heap.Wrote o j v) = H o
WriteMeets H (heap.Collected roots) = Unit {0}
WriteMeets H (heap.Went p) = Unit {0}

write_says : (H : ℕ → Type 0) (o : ℕ) (ev : heap.Event) → WriteMeets H ev → WritesSlotOf o ev → H o
write_says H o (heap.Made m) meets is = absurd is
write_says H o (heap.Wrote p j v) meets is = subst H is meets
write_says H o (heap.Collected roots) meets is = absurd is
write_says H o (heap.Went p) meets is = absurd is

region_meets : (H : ℕ → Type 0) (o j : ℕ) (values : List ℤ) → H o
    → AllByRecursion (WriteMeets H) (heap.region_writes o j values)
region_meets H o j [] has = tt
region_meets H o j (v ∷ values) has =
    all_append (WriteMeets H) (heap.region_writes o (j + 1) values) _ (region_meets H o (j + 1) values has) (has, tt)

found_meets : (H : ℕ → Type 0) (values : List ℤ) (found : Option Info) (info : Info) → found ≡ Some info → H info.object.0
    → AllByRecursion (WriteMeets H) (wrote_back values found)
found_meets H values found info is has = rw is (region_meets H info.object.0 0 values has)

back_meets : (b : Bool) (H : ℕ → Type 0) (values : List ℤ) (found : Option Info) (info : Info) → found ≡ Some info → H info.object.0
    → AllByRecursion (WriteMeets H) (if b then wrote_back values found else [])
back_meets true H values found info is has = found_meets H values found info is has
back_meets false H values found info is has = tt

pinned_if : (b : Bool) (H : ℕ → Type 0) (o index : ℕ) (v : ℤ) → (b ≡ true → H o)
    → AllByRecursion (WriteMeets H) (if b then heap.Wrote o index (Number v) ∷ [] else [])
pinned_if true H o index v has = (has refl, tt)
pinned_if false H o index v has = tt

pinned_meets : (p : Parts) (t : ℕ) (call : Call) (id : BufId) (index : ℕ) (v : ℤ) (found : Option Buffer)
    → PinsLive p → opened p.buffers id.maker.0 id.n ≡ found
    → not (is_open_and (λ x. is_of_array x.family && not (is_anothers t x)) (option_map info_of found)) ≡ false
    → AllByRecursion (WriteMeets (Reaches p t call)) (wrote_pinned index v (option_map info_of found))
pinned_meets p t call id index v None live is right = tt
pinned_meets p t call id index v (Some b) live is right =
    let own = last_false (is_of_array b.family) true (is_anothers t (info_of b)) right in
    pinned_if (is_critical b.family) (Reaches p t call) b.object index v
    (λ pins. inr (own_pin p t id b live is pins own))

-- what a call that breaks no rule writes, it reaches
writes_meet : (s : StatedSetup) (p : Parts) (t : ℕ) (env : Option EnvId) (call : Call) → Unbroken s p t env call
    → PinsLive p → AllByRecursion (WriteMeets (Reaches p t call)) (call_heap s p t call)
writes_meet s p t env (Vm Collect) kept live = (tt, tt)
writes_meet s p t env (Objects (AllocObject class)) kept live = (tt, tt)
writes_meet s p t env (Objects (SetField primitive r field value)) kept live =
    (inl (first_named p t r AnyObject [] kept.alive kept.not_null), tt)
writes_meet s p t env (Objects (SetObjectField r field value)) kept live =
    (inl (first_named p t r AnyObject (optional value ∷ []) kept.alive kept.not_null), tt)
writes_meet s p t env (Strings (NewString units)) kept live = (tt, tt)
writes_meet s p t env (Strings (NewStringUTF bytes)) kept live = (tt, tt)
writes_meet s p t env (Arrays (NewArray element n)) kept live = (tt, tt)
writes_meet s p t env (Arrays (SetArrayRegion element r start values)) kept live =
    region_meets (Reaches p t (Arrays (SetArrayRegion element r start values))) (the_object p t r) (natural start)
    values (inl (first_named p t r (ArrayOf element) [] kept.alive kept.not_null))
writes_meet s p t env (Arrays (NewObjectArray n class fill)) kept live = (tt, tt)
writes_meet s p t env (Arrays (SetObjectArrayElement r index value)) kept live =
    (inl (first_named p t r ObjectArray (optional value ∷ []) kept.alive kept.not_null), tt)
writes_meet s p t env (Buffers (ReleaseArrayElements element r b mode)) kept live =
    let it = released p t (Elements (Of element)) r b kept.alive kept.not_null kept.right_buffer in
    let H : ℕ → Type 0 = Reaches p t (Buffers (ReleaseArrayElements element r b mode)) in
    back_meets (writes_back mode) H (contents p.buffers b.maker.0 b.n) (buffer_named p b) (info_of it.buffer) (ap (option_map info_of) it.is_open)
    (subst H (sym it.object) (inl (first_named p t r (ArrayOf element) [] kept.alive kept.not_null)))
writes_meet s p t env (Buffers (BufferWrite b index value)) kept live =
    pinned_meets p t (Buffers (BufferWrite b index value)) b (natural index) value (opened p.buffers b.maker.0 b.n)
    live refl kept.right_buffer
writes_meet s p t env call kept live = tt

-- ---- what is pinned

abbrev OpeningMeets : (ℕ → Type 0) → Event → Type 0
OpeningMeets H (Opened b) = is_critical b.family ≡ true → H b.object
OpeningMeets H (Wrote maker n index v) = Unit {0}
OpeningMeets H (Closed maker n) = Unit {0}
OpeningMeets H (ReleaseAll maker) = Unit {0}

opening_says : (H : ℕ → Type 0) (o : ℕ) (ev : Event) → OpeningMeets H ev → OpensPinOf o ev → H o
opening_says H o (Opened b) meets is = subst H is.1 (meets is.0)
opening_says H o (Wrote maker n index v) meets is = absurd is
opening_says H o (Closed maker n) meets is = absurd is
opening_says H o (ReleaseAll maker) meets is = absurd is

none_opened : (H : ℕ → Type 0) (e : List Event) → opens_one e ≡ false → AllByRecursion (OpeningMeets H) e
none_opened H [] none = tt
none_opened H (Opened b ∷ e) none = absurd cc
none_opened H (Wrote maker n index v ∷ e) none = (tt, none_opened H e none)
none_opened H (Closed maker n ∷ e) none = (tt, none_opened H e none)
none_opened H (ReleaseAll maker ∷ e) none = (tt, none_opened H e none)

-- of what a call that breaks no rule opens a critical buffer, it reaches
openings_meet : (s : StatedSetup) (p : Parts) (t : ℕ) (env : Option EnvId) (call : Call) → Unbroken s p t env call
    → AllByRecursion (OpeningMeets (Reaches p t call)) (call_buffers s p t call)
openings_meet s p t env (Buffers (GetArrayElements element r)) kept = ((λ pins. absurd cc), tt)
openings_meet s p t env (Buffers (ReleaseArrayElements element r b mode)) kept =
    none_opened _ (closed_by mode b) (closes_none (is_commit mode) b)
openings_meet s p t env (Buffers (GetStringChars r)) kept = ((λ pins. absurd cc), tt)
openings_meet s p t env (Buffers (ReleaseStringChars r b)) kept = (tt, tt)
openings_meet s p t env (Buffers (GetStringUTFChars r)) kept = ((λ pins. absurd cc), tt)
openings_meet s p t env (Buffers (ReleaseStringUTFChars r b)) kept = (tt, tt)
openings_meet s p t env (Buffers (GetPrimitiveArrayCritical r)) kept =
    ((λ pins. inl (first_named p t r PrimitiveArray [] kept.alive kept.not_null)), tt)
openings_meet s p t env (Buffers (ReleasePrimitiveArrayCritical r b mode)) kept =
    none_opened _ (closed_by mode b) (closes_none (is_commit mode) b)
openings_meet s p t env (Buffers (GetStringCritical r)) kept =
    ((λ pins. inl (first_named p t r StringObject [] kept.alive kept.not_null)), tt)
openings_meet s p t env (Buffers (ReleaseStringCritical r b)) kept = (tt, tt)
openings_meet s p t env (Buffers (BufferWrite b index value)) kept =
    none_opened _ (wrote_copy b (natural index) value (buffer_named p b))
    (writes_none b (natural index) value (buffer_named p b))
openings_meet s p t env call kept = tt

-- ---- each legal history

reached : (s : StatedSetup) (p : Parts) (t : ℕ) (env : Option EnvId) (call : Call) (value : Value) (o : ℕ)
    → Unbroken s p t env call → PinsLive p → TouchesAt s p t call value o → Reaches p t call o
reached s p t env call value o kept live (inl named) = inl named
reached s p t env call value o kept live (inr (inl writes)) =
    let H : ℕ → Type 0 = Reaches p t call in
    some_says (WritesSlotOf o) (WriteMeets H) (H o) (write_says H o) (is_effective value) (call_heap s p t call)
    (writes_meet s p t env call kept live) writes
reached s p t env call value o kept live (inr (inr (inl pins))) =
    let H : ℕ → Type 0 = Reaches p t call in
    some_says (OpensPinOf o) (OpeningMeets H) (H o) (opening_says H o) (is_effective value) (call_buffers s p t call)
    (openings_meet s p t env call kept) pins
reached s p t env call value o kept live (inr (inr (inr uses))) =
    let own = used_own p t call uses.id uses.buffer kept.right_buffer uses.used uses.is_open in
    inr (subst (HasPin p t) uses.is_pin.1 (own_pin p t uses.id uses.buffer live uses.is_open uses.is_pin.0 own))

pub touches_are_live : TouchesLive
touches_are_live s later x before o legal touches =
    let p : Parts = parts s before in
    let own = Legal-before s later (x ∷ before) legal in
    let kept = passed_unbroken s p (verdict s p x.tid.0 x.env x.call) x touches.reply refl own.0 touches.passed in
    reached s p x.tid.0 x.env x.call touches.reply.value o kept
    (λ m n b is pins. pins_are_live s before m n b own.1 is pins) touches.touching

reached_stays : (s : StatedSetup) (h : List Entry) (t : ℕ) (call : Call) (o : ℕ) → Legal s h
    → Reaches (parts s h) t call o → is_gone s h o ≡ false
reached_stays s h t call o legal (inl named) = live_is_not_gone s h t o named.1.reference legal named.4
reached_stays s h t call o legal (inr pin) = live_is_not_gone s h t o pin.buffer.via legal pin.holds.2

pub nothing_gone_is_touched : TouchesNothingGone
nothing_gone_is_touched s later x before o legal touches =
    reached_stays s before x.tid.0 x.call o (Legal-before s later (x ∷ before) legal).1
    (touches_are_live s later x before o legal touches)
