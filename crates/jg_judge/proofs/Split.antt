-- The rules on the caller come first, then those on operands, then those on what the function does.
use Rattle.std.proofs.Common.{◌≡◌, ◌∙◌, ℕ, Bool, true, false, List, Option, Some, None, refl, ap, sym}
use Rattle.std.specs.Prelude.{if◌then◌else◌}
use Rattle.std.specs.Option.{is_some, option_map, option_or}
use Rattle.jg_words.specs.declared.thread.EnvId.{EnvId}
use Rattle.jg_words.specs.declared.reference.Ref.{Ref}
use Rattle.jg_words.specs.declared.rule.Rule.{Rule}
use Rattle.jg_words.specs.declared.rule.Rule.TheVariants.{ForeignLocal, DeadReference, WrongRefKind, NullReference, WrongType, BadField, BadBuffer, BadArgument, Pinned, NotOwner, BadFrame, NoNativeAccess, NotLinked}
use Rattle.jg_policy.specs.Stated.{StatedSetup}
use Rattle.jg_rules.specs.Parts.{Parts}
use Rattle.jg_rows.specs.Columns.{Columns}
use Rattle.jg_rows.specs.declared.row.Takes.{Takes}
use Rattle.jg_judge.specs.declared.argument.Argument.{Argument}
use Rattle.jg_judge.specs.declared.argument.Bounds.{Bounds}
use Rattle.jg_judge.specs.Asked.{paired, first_reference, first_buffer}
use Rattle.jg_judge.specs.Broken.{by_caller, verdict, wrong_thread, detached, in_critical, while_pending, wrong_kind, buffer_meant, of_effect, pinned, not_owner, bad_frame, no_access, not_linked}
use Rattle.jg_judge.specs.declared.judge.Broken.{Broken}
use Rattle.jg_judge.specs.Culprit.{first_broken, with_culprit, with_operand}
use Rattle.jg_judge.specs.Faults.{Beside, Faults, faults_in, first_that, places_from, of_operands}
use Rattle.jg_judge.specs.Question.{beside_of}
use Rattle.jg_judge.proofs.Callers.{caller_passes}
use Rattle.jg_judge.proofs.Found.{told, each_found, there_is_first}

-- the first of rules 5 to 12, where operands break these
abbrev of_faults : Faults → Bool → Option Rule
of_faults faults is_wrong_kind =
    if faults.foreign_local then Some ForeignLocal
    else if faults.dead_reference then Some DeadReference
    else if is_wrong_kind then Some WrongRefKind
    else if faults.null_reference then Some NullReference
    else if faults.wrong_type then Some WrongType
    else if faults.bad_field then Some BadField
    else if faults.bad_buffer then Some BadBuffer
    else if faults.bad_argument then Some BadArgument
    else None

nested : (a b c d e f g h : Bool) (later : Option Rule)
    → (if a then Some ForeignLocal else if b then Some DeadReference else if c then Some WrongRefKind else if d then Some NullReference else if e
    then Some WrongType
    else if f then Some BadField else if g then Some BadBuffer else if h then Some BadArgument else later)
    ≡ option_or (if a then Some ForeignLocal else if b then Some DeadReference else if c then Some WrongRefKind else if d then Some NullReference else if e
    then Some WrongType
    else if f then Some BadField else if g then Some BadBuffer else if h then Some BadArgument else None) later
nested true b c d e f g h later = refl
nested false true c d e f g h later = refl
nested false false true d e f g h later = refl
nested false false false true e f g h later = refl
nested false false false false true f g h later = refl
nested false false false false false true g h later = refl
nested false false false false false false true h later = refl
nested false false false false false false false true later = refl
nested false false false false false false false false later = refl

-- a question that breaks none of the first four rules
after_four : (bounds : Bounds) (s : StatedSetup) (p : Parts) (t : ℕ) (env : Option EnvId) (row : Columns) (xs : List Argument)
    → wrong_thread t env row ≡ false → detached p t env row ≡ false → in_critical p t row ≡ false → while_pending p t row ≡ false
    → verdict bounds s p t env row xs
    ≡ option_or (of_faults (faults_in s p t (record { bounds = bounds; via = first_reference xs; info = buffer_meant p (first_buffer xs) })
    (paired row.takes xs))
    (wrong_kind row.effect (first_reference xs))) (of_effect s p t row.effect (first_reference xs) xs)
after_four bounds s p t env row xs own attached outside calm =
    let beside : Beside = record { bounds = bounds; via = first_reference xs; info = buffer_meant p (first_buffer xs) } in
    let f = told s p t beside (paired row.takes xs) in
    rw (own, attached, outside, calm)
    (nested f.foreign_local f.dead_reference (wrong_kind row.effect (first_reference xs)) f.null_reference f.wrong_type f.bad_field f.bad_buffer f.bad_argument
    (of_effect s p t row.effect (first_reference xs) xs)
    ∙ ap (λ (x : Faults). option_or (of_faults x (wrong_kind row.effect (first_reference xs))) (of_effect s p t row.effect (first_reference xs) xs))
    (sym (each_found s p t beside (paired row.takes xs))))

-- ---- with the operand that breaks it

placed : (named : Rule → Broken) (a b d e f g h : Option ℕ) (c : Bool)
    → named ForeignLocal ≡ (record { rule = ForeignLocal; operand = a }) → named DeadReference ≡ (record { rule = DeadReference; operand = b })
    → named WrongRefKind ≡ (record { rule = WrongRefKind; operand = Some 0 }) → named NullReference ≡ (record { rule = NullReference; operand = d })
    → named WrongType ≡ (record { rule = WrongType; operand = e }) → named BadField ≡ (record { rule = BadField; operand = f })
    → named BadBuffer ≡ (record { rule = BadBuffer; operand = g }) → named BadArgument ≡ (record { rule = BadArgument; operand = h })
    → of_operands (record { foreign_local = a; dead_reference = b; null_reference = d; wrong_type = e; bad_field = f; bad_buffer = g; bad_argument = h }) c
    ≡ option_map named (of_faults (record {
      foreign_local = is_some a;
      dead_reference = is_some b;
      null_reference = is_some d;
      wrong_type = is_some e;
      bad_field = is_some f;
      bad_buffer = is_some g;
      bad_argument = is_some h;
    }) c)
placed named (Some n) b d e f g h c na nb nc nd ne nf ng nh = ap Some (sym na)
placed named None (Some n) d e f g h c na nb nc nd ne nf ng nh = ap Some (sym nb)
placed named None None d e f g h true na nb nc nd ne nf ng nh = ap Some (sym nc)
placed named None None (Some n) e f g h false na nb nc nd ne nf ng nh = ap Some (sym nd)
placed named None None None (Some n) f g h false na nb nc nd ne nf ng nh = ap Some (sym ne)
placed named None None None None (Some n) g h false na nb nc nd ne nf ng nh = ap Some (sym nf)
placed named None None None None None (Some n) h false na nb nc nd ne nf ng nh = ap Some (sym ng)
placed named None None None None None None (Some n) false na nb nc nd ne nf ng nh = ap Some (sym nh)
placed named None None None None None None None false na nb nc nd ne nf ng nh = refl

-- what the pass over the operands finds is the first rule on operands, with its culprit
operands_named : (bounds : Bounds) (s : StatedSetup) (p : Parts) (t : ℕ) (takes : List Takes) (xs : List Argument) (wrong : Bool)
    → of_operands (places_from s p t (record { bounds = bounds; via = first_reference xs; info = buffer_meant p (first_buffer xs) }) 0 (paired takes xs)) wrong
    ≡ option_map (with_culprit bounds s p t takes xs)
    (of_faults (faults_in s p t (record { bounds = bounds; via = first_reference xs; info = buffer_meant p (first_buffer xs) }) (paired takes xs)) wrong)
operands_named bounds s p t takes xs wrong =
    let beside : Beside = record { bounds = bounds; via = first_reference xs; info = buffer_meant p (first_buffer xs) } in
    let x : List (Takes × Argument) = paired takes xs in
    let found = placed (with_culprit bounds s p t takes xs) (first_that s p t beside ForeignLocal 0 x) (first_that s p t beside DeadReference 0 x)
    (first_that s p t beside NullReference 0 x) (first_that s p t beside WrongType 0 x) (first_that s p t beside BadField 0 x)
    (first_that s p t beside BadBuffer 0 x)
    (first_that s p t beside BadArgument 0 x) wrong refl refl refl refl refl refl refl refl in
    found ∙ rw (
      there_is_first s p t beside ForeignLocal 0 x,
      there_is_first s p t beside DeadReference 0 x,
      there_is_first s p t beside NullReference 0 x,
      there_is_first s p t beside WrongType 0 x,
      there_is_first s p t beside BadField 0 x,
      there_is_first s p t beside BadBuffer 0 x,
      there_is_first s p t beside BadArgument 0 x,
    ) refl

effect_named : (named : Rule → Broken) (a b c d e : Bool)
    → named Pinned ≡ with_operand Pinned → named NotOwner ≡ with_operand NotOwner → named BadFrame ≡ with_operand BadFrame
    → named NoNativeAccess ≡ with_operand NoNativeAccess → named NotLinked ≡ with_operand NotLinked
    → option_map named (if a then Some Pinned else if b then Some NotOwner else if c then Some BadFrame else if d then Some NoNativeAccess else if e
    then Some NotLinked else None)
    ≡ option_map with_operand (if a then Some Pinned else if b then Some NotOwner else if c then Some BadFrame else if d then Some NoNativeAccess else if e
    then Some NotLinked else None)
effect_named named true b c d e na nb nc nd ne = ap Some na
effect_named named false true c d e na nb nc nd ne = ap Some nb
effect_named named false false true d e na nb nc nd ne = ap Some nc
effect_named named false false false true e na nb nc nd ne = ap Some nd
effect_named named false false false false true na nb nc nd ne = ap Some ne
effect_named named false false false false false na nb nc nd ne = refl

first_named : (named : Rule → Broken) (found later : Option Rule)
    → option_map named (option_or found later) ≡ option_or (option_map named found) (option_map named later)
first_named named (Some rule) later = refl
first_named named None later = refl

-- a question that breaks none of the first four rules
pub broken_after_four : (bounds : Bounds) (s : StatedSetup) (p : Parts) (t : ℕ) (env : Option EnvId) (row : Columns) (xs : List Argument)
    → by_caller p t env row ≡ None
    → first_broken bounds s p t env row xs
    ≡ option_or (of_operands (places_from s p t (beside_of bounds p xs) 0 (paired row.takes xs)) (wrong_kind row.effect (first_reference xs)))
    (option_map with_operand (of_effect s p t row.effect (first_reference xs) xs))
broken_after_four bounds s p t env row xs passes =
    let caller = caller_passes p t env row passes in
    let beside : Beside = record { bounds = bounds; via = first_reference xs; info = buffer_meant p (first_buffer xs) } in
    let r : Ref = first_reference xs in
    let named : Rule → Broken = with_culprit bounds s p t row.takes xs in
    let found : Option Rule = of_faults (faults_in s p t beside (paired row.takes xs)) (wrong_kind row.effect r) in
    let later : Option Rule = of_effect s p t row.effect r xs in
    ap (option_map named) (after_four bounds s p t env row xs caller.own caller.attached caller.outside caller.calm)
    ∙ (first_named named found later
    ∙ (ap (λ b. option_or b (option_map named later)) (sym (operands_named bounds s p t row.takes xs (wrong_kind row.effect r)))
    ∙ ap (option_or (of_operands (places_from s p t beside 0 (paired row.takes xs)) (wrong_kind row.effect r)))
    (effect_named named (pinned p row.effect r) (not_owner p t row.effect r) (bad_frame p t row.effect) (no_access s p t row.effect r xs)
    (not_linked s p row.effect xs)
    refl refl refl refl refl)))
