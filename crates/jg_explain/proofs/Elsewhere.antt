-- What a call can turn: a denied one nothing, and any other what is asked of its own thread, or of what its function changes.
use Rattle.std.proofs.Common.{◌≡◌, ◌≢◌, ◌++◌, ◌∙◌, ℕ, Bool, true, false, List, [], ◌∷◌, map, Option, Some, None, refl, ap, arith}
use Rattle.std.specs.Prelude.{◌==◌}
use Rattle.std.proofs.lemmas.Bool.Decides.{nat_tests}
use Rattle.jg_words.specs.declared.call.Call.{Call}
use Rattle.jg_words.specs.declared.call.Call.TheVariants.{Vm, Refs, Frames, Exceptions, Objects, Strings, Arrays, Monitors, Buffers}
use Rattle.jg_words.specs.declared.call.vm.VmCall.TheVariants.{AttachCurrentThread, DetachCurrentThread, GetEnv, NativeEnter, NativeLeave, LoadLibrary, RegisterNatives, UnregisterNatives, Collect}
use Rattle.jg_words.specs.declared.entry.Outcome.{Outcome}
use Rattle.jg_words.specs.declared.entry.Outcome.TheVariants.{Passed, Denied}
use Rattle.jg_words.specs.declared.object.ObjId.{ObjId}
use Rattle.jg_words.specs.Entry.{Entry}
use Rattle.jg_policy.specs.Stated.{StatedSetup}
use Rattle.jg_policy.specs.Links as links
use Rattle.jg_table_monitors.specs.History as monitors
use Rattle.jg_rules.specs.Parts.{Parts}
use Rattle.jg_rules.specs.NativeUse.{native_class, home_of}
use Rattle.jg_rules.specs.Rules.{is_by}
use Rattle.jg_rules.specs.Effects.{after, parts, call_links, call_monitors, if_effective, is_effective, warning}
use Rattle.jg_breaches.specs.declared.condition.Condition.{Condition}
use Rattle.jg_breaches.specs.declared.condition.Condition.TheVariants.{IsAttached, IsPresent, HasPending, Names, NamesObject, IsOpen, Owns, IsOwned, HasFrame, InNative, IsLinked}
use Rattle.jg_breaches.specs.Conditions.{holds}
use Rattle.jg_explain.specs.Followed.{can_turn, may_turn, moves_links, moves_monitors, turns_by}
use Rattle.jg_explain.proofs.Others.{others_keep}

none_if : {E : Type 0} (b : Bool) → if_effective {E = E} b [] ≡ []
none_if true = refl
none_if false = refl

moves_none : (s : StatedSetup) (p : Parts) (t : ℕ) (call : Call) → moves_monitors call ≡ false → call_monitors s p t call ≡ []
moves_none s p t (Vm AttachCurrentThread) is = refl
moves_none s p t (Vm DetachCurrentThread) is = absurd cc
moves_none s p t (Vm GetEnv) is = refl
moves_none s p t (Vm (NativeEnter class method signature)) is = refl
moves_none s p t (Vm (NativeLeave kept)) is = refl
moves_none s p t (Vm (LoadLibrary class library)) is = refl
moves_none s p t (Vm (RegisterNatives class method signature)) is = refl
moves_none s p t (Vm (UnregisterNatives class)) is = refl
moves_none s p t (Vm Collect) is = refl
moves_none s p t (Refs call) is = refl
moves_none s p t (Frames call) is = refl
moves_none s p t (Exceptions call) is = refl
moves_none s p t (Objects call) is = refl
moves_none s p t (Strings call) is = refl
moves_none s p t (Arrays call) is = refl
moves_none s p t (Monitors call) is = absurd cc
moves_none s p t (Buffers call) is = refl

monitors_kept : (s : StatedSetup) (p : Parts) (t : ℕ) (call : Call) (o : Outcome) (object : Option ObjId) → moves_monitors call ≡ false
    → (after s t call o object p).monitors ≡ p.monitors
monitors_kept s p t call (Denied rule) object is = refl
monitors_kept s p t call (Passed reply) object is =
    ap (λ acts. map (monitors.by t) (if_effective (is_effective reply.value) acts) ++ p.monitors) (moves_none s p t call is)
    ∙ ap (λ acts. map (monitors.by t) acts ++ p.monitors) (none_if (is_effective reply.value))

links_none : (s : StatedSetup) (p : Parts) (t : ℕ) (call : Call) → moves_links call ≡ false → call_links s p t call ≡ []
links_none s p t (Vm AttachCurrentThread) is = refl
links_none s p t (Vm DetachCurrentThread) is = refl
links_none s p t (Vm GetEnv) is = refl
links_none s p t (Vm (NativeEnter class method signature)) is = refl
links_none s p t (Vm (NativeLeave kept)) is = refl
links_none s p t (Vm (LoadLibrary class library)) is = refl
links_none s p t (Vm (RegisterNatives class method signature)) is = absurd cc
links_none s p t (Vm (UnregisterNatives class)) is = absurd cc
links_none s p t (Vm Collect) is = refl
links_none s p t (Refs call) is = refl
links_none s p t (Frames call) is = refl
links_none s p t (Exceptions call) is = refl
links_none s p t (Objects call) is = refl
links_none s p t (Strings call) is = refl
links_none s p t (Arrays call) is = refl
links_none s p t (Monitors call) is = refl
links_none s p t (Buffers call) is = refl

-- a warning links nothing
warned : (b : Bool) (home : Option ℕ) (e : List links.Event) (class native : ℕ) → links.linked (warning b home ++ e) class native ≡ links.linked e class native
warned false home e class native = refl
warned true None e class native = refl
warned true (Some home) e class native = refl

links_kept : (s : StatedSetup) (p : Parts) (t : ℕ) (call : Call) (o : Outcome) (object : Option ObjId) (class native : ℕ) → moves_links call ≡ false
    → links.linked (after s t call o object p).links class native ≡ links.linked p.links class native
links_kept s p t call (Denied rule) object class native is = refl
links_kept s p t call (Passed reply) object class native is =
    warned reply.warned (home_of s (native_class s p t call)) (if_effective (is_effective reply.value) (call_links s p t call) ++ p.links) class native
    ∙ ap (λ e. links.linked (if_effective (is_effective reply.value) e ++ p.links) class native) (links_none s p t call is)
    ∙ ap (λ e. links.linked (e ++ p.links) class native) (none_if (is_effective reply.value))

differs : (t u : ℕ) → (t == u) ≡ false → t ≢ u
differs t u is = grind (arith, nat_tests, is)

kept : (s : StatedSetup) (p : Parts) (u : ℕ) (call : Call) (o : Outcome) (object : Option ObjId) (c : Condition) → may_turn c u call ≡ false
    → holds (after s u call o object p) c ≡ holds p c
kept s p u call o object (IsAttached t) is = others_keep s p u call o object t (IsAttached t) refl (differs t.0 u is)
kept s p u call o object (IsPresent env) is = others_keep s p u call o object env.tid (IsPresent env) refl (differs env.tid.0 u is)
kept s p u call o object (HasPending t) is = others_keep s p u call o object t (HasPending t) refl (differs t.0 u is)
kept s p u call o object (HasFrame t) is = others_keep s p u call o object t (HasFrame t) refl (differs t.0 u is)
kept s p u call o object (InNative t) is = others_keep s p u call o object t (InNative t) refl (differs t.0 u is)
kept s p u call o object (Owns t i) is = ap (λ e. is_by t.0 (monitors.owner e i.0)) (monitors_kept s p u call o object is)
kept s p u call o object (IsOwned i) is = ap (λ e. monitors.held e i.0) (monitors_kept s p u call o object is)
kept s p u call o object (IsLinked class native) is = links_kept s p u call o object class native is
kept s p u call o object (Names t r) is = absurd cc
kept s p u call o object (NamesObject t r) is = absurd cc
kept s p u call o object (IsOpen b) is = absurd cc

at_outcome : (s : StatedSetup) (p : Parts) (u : ℕ) (call : Call) (o : Outcome) (object : Option ObjId) (c : Condition) → turns_by o c u call ≡ false
    → holds (after s u call o object p) c ≡ holds p c
at_outcome s p u call (Denied rule) object c is = refl
at_outcome s p u call (Passed reply) object c is = kept s p u call (Passed reply) object c is

-- an entry that can't turn it leaves it as it was
pub unturned : (s : StatedSetup) (h : List Entry) (x : Entry) (c : Condition) → can_turn c x ≡ false → holds (parts s (x ∷ h)) c ≡ holds (parts s h) c
unturned s h x c is = at_outcome s (parts s h) x.tid.0 x.call x.outcome x.object c is
