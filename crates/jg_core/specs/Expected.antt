-- What comes of a call whose question was answered, by the row of its function: what is to be told once the machine
-- says what it answered. It is found when the question is asked, since an operand may end before the function returns.
-- Where the question breaks a rule, see Denied.
use Rattle.std.specs.Prelude.{ℕ, ℤ, if◌then◌else◌, List, Option, Some, None}
use Rattle.std.specs.Option.{option_map}
use Rattle.jg_words.specs.declared.thread.Tid.{Tid}
use Rattle.jg_words.specs.declared.object.ObjId.{ObjId}
use Rattle.jg_words.specs.declared.reference.Ref.{Ref}
use Rattle.jg_words.specs.declared.reference.Ref.TheVariants.{Null}
use Rattle.jg_words.specs.declared.buffer.BufId.{BufId}
use Rattle.jg_policy.specs.Stated.{StatedSetup}
use Rattle.jg_table_buffers.specs.declared.family.Family.{Family}
use Rattle.jg_table_buffers.specs.History.{is_critical}
use Rattle.jg_table_heap.specs.Reading.{natural}
use Rattle.jg_rules.specs.Parts.{Parts}
use Rattle.jg_rules.specs.Names.{object_named, class_meant}
use Rattle.jg_rows.specs.declared.row.Section.{Section}
use Rattle.jg_rows.specs.declared.row.Section.TheVariants.{InvocationApiFunctions}
use Rattle.jg_rows.specs.declared.row.Effect.{Effect}
use Rattle.jg_rows.specs.declared.row.Effect.TheVariants.{Nothing as NothingDone, Hands, Ends, Lends, GivesBack, Pushes, Pops, Ensures, Raises, Calms, Owns, Frees, Attaches, Detaches, Enters, Leaves, Loads, Links, Unlinks, Collects}
use Rattle.jg_rows.specs.Columns.{Columns}
use Rattle.jg_judge.specs.declared.argument.Argument.{Argument}
use Rattle.jg_judge.specs.Asked.{first_reference, first_buffer, first_number}
use Rattle.jg_judge.specs.Broken.{native_by_name}
use Rattle.jg_core.specs.declared.fact.Fact.{Fact}
use Rattle.jg_core.specs.declared.fact.Fact.TheVariants.{Enter, Leave, Push, Pop, Ensure, Raise, Calm, Own, Free}
use Rattle.jg_core.specs.declared.says.Says.{Says}
use Rattle.jg_core.specs.declared.says.Says.TheVariants.{Null as SaysNull, Threw}
use Rattle.jg_core.specs.declared.expected.Expected.{Expected}
use Rattle.jg_core.specs.declared.expected.Expected.TheVariants.{Done, Undone, Quiet, Attached, Handed, Lent, Left, Popped, Never, Nothing, Thrown, IfEnded}
use Rattle.jg_core.specs.Facts.{is_attached}
use Rattle.jg_core.specs.Implied.{doing, done_only, handing, lending, kept_by, attaching, detaching, linking, unlinking, losing, giving_back}

-- it threw, or nothing is told
abbrev pub thrown_only : Tid → Says → Option Fact
thrown_only t (Threw o) = Some (Raise t o)
thrown_only t says = None

-- the machine says by null that it has ended
abbrev pub if_ended : Tid → Option Fact → Says → Option Fact
if_ended t fact SaysNull = fact
if_ended t fact says = thrown_only t says

-- what the machine's answer implies, where so much was expected
abbrev pub told : Tid → Expected → Says → Option (Option Fact)
told t (Done fact) says = doing t (Some fact) says
told t Undone says = doing t None says
told t (Quiet fact) says = done_only fact says
told t (Attached fact) says = done_only fact says
told t (Handed kind) says = handing t kind says
told t (Lent family object via) says = lending t family (option_map (λ o. o.0) object) via says
told t Left says = option_map (λ kept. Some (Leave t kept)) (kept_by says)
told t Popped says = option_map (λ kept. Some (Pop t kept)) (kept_by says)
told t Never says = None
told t Nothing says = Some None
told t Thrown says = Some (thrown_only t says)
told t (IfEnded fact) says = Some (if_ended t fact says)

-- of an object that an operand names: without one it can't be done
abbrev pub done_to : (ObjId → Fact) → Option ℕ → Expected
done_to fact None = Undone
done_to fact (Some o) = Done (Some (fact (record { 0 = o })))

-- a buffer that is given back, where an operand is one
abbrev pub back : ℤ → Option BufId → Option Fact
back mode None = None
back mode (Some b) = giving_back mode b

-- the functions of the invocation interface throw nothing
abbrev pub nothing_done : Section → Expected
nothing_done InvocationApiFunctions = Quiet None
nothing_done section = Done None

-- the reference that a buffer is asked for by; a copy has none
abbrev pub via_for : Family → Ref → Ref
via_for family r = if is_critical family then r else Null

abbrev pub expected_of : StatedSetup → Parts → Tid → Columns → Effect → List Argument → Expected
expected_of s p t row NothingDone xs = nothing_done row.section
expected_of s p t row (Hands kind) xs = Handed kind
expected_of s p t row (Ends kind) xs = Done (losing (first_reference xs))
expected_of s p t row (Lends family) xs =
    Lent family (option_map (λ o. record { 0 = o }) (object_named p t.0 (first_reference xs)))
    (via_for family (first_reference xs))
expected_of s p t row GivesBack xs = Done (back (first_number xs) (first_buffer xs))
expected_of s p t row Pushes xs = Done (Some (Push t (natural (first_number xs))))
expected_of s p t row Pops xs = Popped
expected_of s p t row Ensures xs = Done (Some (Ensure t (natural (first_number xs))))
expected_of s p t row Raises xs = done_to (λ o. Raise t o) (object_named p t.0 (first_reference xs))
expected_of s p t row Calms xs = Done (Some (Calm t))
expected_of s p t row Owns xs = done_to (λ o. Own t o) (object_named p t.0 (first_reference xs))
expected_of s p t row Frees xs = done_to (λ o. Free t o) (object_named p t.0 (first_reference xs))
expected_of s p t row Attaches xs = Attached (attaching (is_attached p t.0) t)
expected_of s p t row Detaches xs = Quiet (detaching (is_attached p t.0) t)
expected_of s p t row Enters xs = Quiet (Some (Enter t))
expected_of s p t row Leaves xs = Left
expected_of s p t row Loads xs = Done None
expected_of s p t row Links xs = Done (linking (class_meant s p t.0 (first_reference xs)) (native_by_name xs))
expected_of s p t row Unlinks xs = Done (unlinking (class_meant s p t.0 (first_reference xs)))
expected_of s p t row Collects xs = Never
