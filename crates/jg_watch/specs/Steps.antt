-- What the steps of answering a line say to one another. No public contract stands on this.
use Rattle.std.specs.Prelude.{◌≡◌, ◌<◌, ◌+◌, ◌^◌, ◌++◌, ◌⊎◌, ℕ, Bool, true, false, if◌then◌else◌, List, [], ◌∷◌, length, slice_index_or, slice_set, take, Option, Some, None, Result, Ok, Err}
use Rattle.std.specs.Io.KnownBytes.{Appends, Consumes, Keeps}
use Rattle.jg_words.specs.declared.object.ObjId.{ObjId}
use Rattle.jg_policy.specs.Stated.{StatedSetup}
use Rattle.jg_core.specs.Facts.{made_in}
use Rattle.jg_core.specs.declared.kernel.Untold.{Untold}
use Rattle.jg_core.specs.declared.kernel.Untold.TheVariants as untold
use Rattle.jg_judge.specs.declared.argument.Argument.{Argument}
use Rattle.jg_record.specs.declared.event.Event.{Event}
use Rattle.jg_record.specs.declared.reply.Reply.{Reply}
use Rattle.jg_watch.specs.declared.ending.Stop.{Stop}
use Rattle.jg_watch.specs.declared.ending.Stop.TheVariants.{NoMemory, Read, Write}
use Rattle.jg_watch.specs.declared.line.Step.{Step}
use Rattle.jg_watch.specs.declared.line.Step.TheVariants as step
use Rattle.jg_watch.specs.declared.event.Replied.{Replied}
use Rattle.jg_watch.specs.declared.watch.Shown.{Shown}
use Rattle.jg_watch.specs.Told.{Told, Stands, Watching, after, can_be_told, operand_denied, replied}
use Rattle.jg_watch.specs.Lines.{Agrees, Answered, IsAnswered, is_denial, what_of}
use Rattle.jg_watch.specs.Ends.{EndsAt, IsWhole, StopsAt}
use Rattle.jg_watch.specs.Explained.{Explaining}

-- the reply to what is no question
abbrev pub unasked : Option Event → Reply → Replied
unasked e reply = record { event = e; reply = reply; operand = None }

-- an event was asked or told, and answered
pub record Replies (old new : Watching) (e : Event) (xs : List Argument) (gone : List ObjId) (x : Replied)
    : Type 0 where
  pub setup : new.core.setup ≡ old.core.setup
  pub event : x.event ≡ Some e
  pub can : (told : Told) → Stands old told → can_be_told old.core.setup told e gone ≡ true
  pub is : (told : Told) → Stands old told → x.reply ≡ replied old.core.setup told e xs
  pub operand : (told : Told) → Stands old told → x.operand ≡ operand_denied old.core.setup told e xs
  pub stands : (told : Told) → Stands old told → Stands new (after e gone told)

-- it was refused
pub record Refused (old new : Watching) (e : Event) (gone : List ObjId) (why : Untold) : Type 0 where
  pub setup : new.core.setup ≡ old.core.setup
  pub impossible : why ≡ untold.Impossible → (told : Told) → Stands old told
      → can_be_told old.core.setup told e gone ≡ false
  pub full : why ≡ untold.Full → (told : Told) → Stands old told → made_in told.facts ≡ 2 ^ 60

-- the text of line number n was written, or a front of it; or memory ran out before
abbrev pub WritesLine : List ℕ → Option (List ℕ) → Option (List ℕ) → ℕ → Result (Unit {0}) Stop → Type 0
WritesLine text bytes bytes' n (Ok done) = Appends bytes bytes' text
WritesLine text bytes bytes' n (Err (NoMemory number)) = Keeps bytes bytes' × (number ≡ n)
WritesLine text bytes bytes' n (Err (Write number)) =
    ((k : ℕ) × (k < length text) × Appends bytes bytes' (take k text)) × (number ≡ n)
WritesLine text bytes bytes' n result = ⊥

-- the answer that line number n tells was compared with the reply, and where it agrees, the text was written
abbrev pub WritesReply : Option (List ℕ) → Reply → List ℕ → Option (List ℕ) → Option (List ℕ) → ℕ
    → Result Bool Stop → Type 0
WritesReply told reply text bytes bytes' n (Ok true) = Agrees told reply × Appends bytes bytes' text
WritesReply told reply text bytes bytes' n (Ok false) = (¬ Agrees told reply) × Keeps bytes bytes'
WritesReply told reply text bytes bytes' n (Err (NoMemory number)) = Keeps bytes bytes' × (number ≡ n)
WritesReply told reply text bytes bytes' n (Err (Write number)) = Agrees told reply
    × ((k : ℕ) × (k < length text) × Appends bytes bytes' (take k text)) × (number ≡ n)
WritesReply told reply text bytes bytes' n result = ⊥

-- the line was answered so under the setup, it lists these, and that is written of it
abbrev pub answered : StatedSetup → List ℕ → Replied → List Argument → List ObjId → List ℕ → Answered
answered s line x xs gone out = record {
  line = line;
  reply = x.reply;
  operand = x.operand;
  what = what_of s line x.event x.reply xs gone;
  out = out;
}

-- line number n was answered, or the record ends at it
abbrev pub AnswersLine : StatedSetup → Shown → Told → Watching → List Argument → List ObjId → List ℕ
    → Option (List ℕ) → Option (List ℕ) → ℕ → Result Step Stop → Type 0
AnswersLine s shown told new xs gone line bytes bytes' n (Ok (step.Answered x)) =
    (out : List ℕ) × (told' : Told) × IsAnswered s shown told (answered s line x xs gone out) told'
    × Stands new told' × Appends bytes bytes' out
AnswersLine s shown told new xs gone line bytes bytes' n (Ok (step.Ended ended)) =
    StopsAt s shown told line bytes bytes' n (Ok ended)
AnswersLine s shown told new xs gone line bytes bytes' n (Err stop) =
    StopsAt s shown told line bytes bytes' n (Err stop)

-- no reader failed
abbrev pub IsNoRead : {N : Type 0} → Result N Stop → Type 0
IsNoRead (Err (Read line)) = ⊥
IsNoRead result = Unit {0}

-- the next line, whose number is n, was read and answered, or the record ends there
abbrev pub AnswersNext : StatedSetup → Shown → Told → Watching → List Argument → List ObjId → Option (List ℕ)
    → Option (List ℕ) → List ℕ → Option (List ℕ) → Option (List ℕ) → ℕ → Result Step Stop → Type 0
AnswersNext s shown told new xs gone input input' line bytes bytes' n (Ok (step.Answered x)) =
    Consumes input input' (line ++ 10 ∷ []) × ((out : List ℕ) × (told' : Told)
    × IsAnswered s shown told (answered s line x xs gone out) told' × Stands new told' × Appends bytes bytes' out)
AnswersNext s shown told new xs gone input input' line bytes bytes' n (Ok (step.Ended ended)) =
    EndsAt s shown told input input' line bytes bytes' n (Ok ended) × IsWhole new told (Ok ended)
AnswersNext s shown told new xs gone input input' line bytes bytes' n (Err stop) =
    EndsAt s shown told input input' line bytes bytes' n (Err stop)

-- the reply was counted, if it is a question's
abbrev pub counted_at : Option ℕ → List ℕ → List ℕ
counted_at None tally = tally
counted_at (Some k) tally = slice_set tally k (slice_index_or tally k 0 + 1)

abbrev pub denied_after : Reply → ℕ → ℕ
denied_after reply denied = if is_denial reply then denied + 1 else denied

-- the text was added to the explanations, or memory ran out for it or before
pub record Adds (old new : Explaining) (more : List ℕ) : Type 0 where
  pub most : new.most ≡ old.most
  pub text : ((new.text ≡ None) × ((old.text ≡ None) ⊎ (0 < old.most)))
      ⊎ ((so_far : List ℕ) × (old.text ≡ Some so_far) × (new.text ≡ Some (so_far ++ more)))
