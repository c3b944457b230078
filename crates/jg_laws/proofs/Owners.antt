-- What a legal history does to monitors was allowed at its time, so that none has two owners.
use Rattle.std.proofs.Common.{ℕ, zero, suc, ◌≡◌, ◌≢◌, ◌<◌, ◌∙◌, ◌++◌, Bool, true, false, List, [], ◌∷◌, map, Option, Some, None, refl, ap, arith, eqb-true}
use Rattle.std.specs.Prelude.{◌==◌, ◌||◌, ◌&&◌, not, if◌then◌else◌}
use Rattle.std.specs.Option.{unwrap_or}
use Rattle.std.proofs.lemmas.Bool.Decides.{nat_tests}
use Rattle.jg_words.specs.declared.thread.Tid.{Tid}
use Rattle.jg_words.specs.declared.thread.EnvId.{EnvId}
use Rattle.jg_words.specs.declared.rule.Rule.{Rule}
use Rattle.jg_words.specs.Entry.{Entry}
use Rattle.jg_words.specs.declared.call.Call.{Call}
use Rattle.jg_words.specs.declared.call.Call.TheVariants.{Vm, Monitors}
use Rattle.jg_words.specs.declared.call.vm.VmCall.TheVariants.{DetachCurrentThread}
use Rattle.jg_words.specs.declared.call.monitors.MonitorsCall.TheVariants.{MonitorEnter, MonitorExit}
use Rattle.jg_policy.specs.Stated.{StatedSetup}
use Rattle.jg_table_monitors.specs.declared.entering.Entering.{Entering}
use Rattle.jg_table_monitors.specs.declared.entering.Entering.TheVariants.{Entered, Busy}
use Rattle.jg_table_monitors.specs.History.{Event, by, Enter, count, owner, entering}
use Rattle.jg_table_monitors.specs.Standing.{IsAllowed, AllAllowed}
use Rattle.jg_table_monitors.proofs.Callers.{one_owner as one_owner_of, owner_has, all_free}
use Rattle.jg_rules.specs.declared.named.Named.{Named}
use Rattle.jg_rules.specs.declared.named.Named.TheVariants.{Nothing, Null as NamesNull, Object}
use Rattle.jg_rules.specs.Parts.{Parts}
use Rattle.jg_rules.specs.Names.{names, object_in, the_object}
use Rattle.jg_rules.specs.Effects.{parts, after, call_monitors, is_effective, if_effective}
use Rattle.jg_rules.specs.Rules.{verdict, is_nothing, is_null, is_not_owned, is_by}
use Rattle.jg_rules.specs.Answers.{answer, entered}
use Rattle.jg_rules.specs.Legal.{Legal, entry_by}
use Rattle.jg_rules.specs.Unbroken.{Unbroken}
use Rattle.jg_rules.proofs.Kept.{unbroken}
use Rattle.jg_laws.specs.Laws.{OneOwner}

-- ---- entering

entered_is : (e : Entering) → is_effective (entered e) ≡ true → e ≡ Entered
entered_is Entered is = refl
entered_is Busy is = absurd cc

own_if : (b : Bool) → (if b then Entered else Busy) ≡ Entered → b ≡ true
own_if true is = refl
own_if false is = absurd cc

none_else : (e : List Event) (t u o n : ℕ) → count e u o ≡ n → AllAllowed e → 0 < count e t o → u ≢ t → count e u o ≡ 0
none_else e t u o zero is all mine differ = is
none_else e t u o (suc n) is all mine differ =
    let some : 0 < count e u o = omega (arith, is) in
    absurd (differ (one_owner_of e u t o all some mine))

pub alone : (e : List Event) (t o : ℕ) (found : Option ℕ) → owner e o ≡ found → AllAllowed e → entering t found ≡ Entered → IsAllowed t (Enter o) e
alone e t o None is all may = λ u differ. all_free e u o all is
alone e t o (Some v) is all may =
    let same : v ≡ t = eqb-true v t (own_if (v == t) may) in
    let mine : 0 < count e t o = owner_has e t o (is ∙ ap Some same) in
    λ u differ. none_else e t u o (count e u o) refl all mine differ

-- ---- exiting

by_me : (t v : ℕ) → not (v == t) ≡ false → v ≡ t
by_me t v is = grind (arith, nat_tests, is)

mine_by : (e : List Event) (t o : ℕ) (found : Option ℕ) → owner e o ≡ found → not (is_by t found) ≡ false → 0 < count e t o
mine_by e t o None is owned = absurd cc
mine_by e t o (Some v) is owned = owner_has e t o (is ∙ ap Some (by_me t v owned))

-- the object is the one that the operand names, which is neither dead nor null
mine : (p : Parts) (t : ℕ) (named : Named) (a b : Bool) → (is_nothing named || a) ≡ false → ((true && is_null named) || b) ≡ false
    → is_not_owned p t (object_in named) ≡ false
    → 0 < count p.monitors t (unwrap_or (object_in named) 0)
mine p t Nothing a b alive there owned = absurd cc
mine p t NamesNull a b alive there owned = absurd cc
mine p t (Object x) a b alive there owned = mine_by p.monitors t x.0 (owner p.monitors x.0) refl owned

-- ---- a call

done_allowed : (s : StatedSetup) (p : Parts) (t : Tid) (env : Option EnvId) (call : Call) → Unbroken s p t.0 env call
    → is_effective (answer s p t call).reply.value ≡ true → AllAllowed p.monitors
    → AllAllowed (map (by t.0) (call_monitors s p t.0 call) ++ p.monitors)
done_allowed s p t env (Vm DetachCurrentThread) kept done old = (old, tt)
done_allowed s p t env (Monitors (MonitorEnter r)) kept done old =
    let o : ℕ = the_object p t.0 r in
    (old, alone p.monitors t.0 o (owner p.monitors o) refl old (entered_is (entering t.0 (owner p.monitors o)) done))
done_allowed s p t env (Monitors (MonitorExit r)) kept done old =
    (old, mine p t.0 (names p t.0 r) false false kept.alive kept.not_null kept.owned)
done_allowed s p t env call kept done old = old

allowed_if : (b : Bool) (s : StatedSetup) (p : Parts) (t : Tid) (env : Option EnvId) (call : Call)
    → is_effective (answer s p t call).reply.value ≡ b → Unbroken s p t.0 env call → AllAllowed p.monitors
    → AllAllowed (map (by t.0) (if_effective b (call_monitors s p t.0 call)) ++ p.monitors)
allowed_if true s p t env call is kept old = done_allowed s p t env call kept is old
allowed_if false s p t env call is kept old = old

allowed_by : (s : StatedSetup) (v : Option Rule) (p : Parts) (x : Entry) → verdict s p x.tid.0 x.env x.call ≡ v
    → x ≡ entry_by v (answer s p x.tid x.call) x.tid x.env x.call → AllAllowed p.monitors
    → (y : Entry) → y ≡ entry_by v (answer s p x.tid x.call) x.tid x.env x.call → AllAllowed (after s y.tid.0 y.call y.outcome y.object p).monitors
allowed_by s (Some rule) p x denied is old y same = rw same old
allowed_by s None p x none is old y same =
    rw same (allowed_if (is_effective (answer s p x.tid x.call).reply.value) s p x.tid x.env x.call refl (unbroken s p x.tid.0 x.env x.call none) old)

pub all_allowed : (s : StatedSetup) (h : List Entry) → Legal s h → AllAllowed (parts s h).monitors
all_allowed s [] legal = tt
all_allowed s (x ∷ h) legal =
    allowed_by s (verdict s (parts s h) x.tid.0 x.env x.call) (parts s h) x refl legal.0 (all_allowed s h legal.1) x legal.0

pub one_owner : OneOwner
one_owner s h t u o legal one other = one_owner_of (parts s h).monitors t u o (all_allowed s h legal) one other
