-- What the steps of answering a line say of the line.
use Rattle.std.proofs.Common.{◌≡◌, ◌++◌, ℕ, Bool, true, false, List, [], ◌∷◌, Option, Some, None, Result, Ok, Err, ap, if◌then◌else◌, inl, inr, refl, subst, sym, ◌∙◌}
use Rattle.std.specs.Io.KnownBytes.{Appends, Consumes}
use Rattle.jg_lines.specs.Devices.{IsOneLine}
use Rattle.jg_policy.specs.Stated.{StatedSetup}
use Rattle.jg_words.specs.declared.object.ObjId.{ObjId}
use Rattle.jg_judge.specs.declared.argument.Argument.{Argument}
use Rattle.jg_record.specs.declared.event.Event.{Event}
use Rattle.jg_record.specs.Events.{SpellsEvent}
use Rattle.jg_record.specs.Parts.{AreParts}
use Rattle.jg_record.specs.declared.reply.Reply.{Reply}
use Rattle.jg_record.specs.declared.reply.Reply.TheVariants.{Nothing}
use Rattle.jg_watch.specs.declared.ending.Ended.{Ended}
use Rattle.jg_watch.specs.declared.ending.Ended.TheVariants.{All, CutOff, Differs, Impossible}
use Rattle.jg_watch.specs.declared.ending.Stop.{Stop}
use Rattle.jg_watch.specs.declared.ending.Stop.TheVariants.{Faulty, Limit, NoMemory, Read, Write}
use Rattle.jg_watch.specs.declared.event.Replied.{Replied}
use Rattle.jg_watch.specs.declared.line.Step.{Step}
use Rattle.jg_watch.specs.declared.line.Step.TheVariants as step
use Rattle.jg_watch.specs.declared.watch.Shown.{Shown}
use Rattle.jg_watch.specs.Ends.{IsWhole, ReaderFails, StopsAt}
use Rattle.jg_watch.specs.Lines.{Agrees, Said, Says, answer_of, comment_text, is_comment, is_shown, line_text, shown_text, what_of}
use Rattle.jg_watch.specs.Steps.{AnswersLine, AnswersNext, IsNoRead, Replies, WritesLine, WritesReply, answered, unasked}
use Rattle.jg_watch.specs.Told.{Stands, Told, Watching, after, can_be_told, operand_denied, replied}

-- what a line says, by its parts
abbrev pub said : List ℕ → Option (List ℕ) → Option (List ℕ) → Event → List Argument → List ObjId → Said
said event told noted e xs gone = record { event = event; answer = told; note = noted; says = e; operands = xs; gone = gone }

pub says_line : (s read : StatedSetup) (line event : List ℕ) (told noted : Option (List ℕ)) (e : Event) (xs : List Argument) (gone : List ObjId)
    → is_comment line ≡ false
    → AreParts line event told noted → read ≡ s → SpellsEvent read event e xs gone → Says s line (said event told noted e xs gone)
says_line s read line event told noted e xs gone comment parts same spelt = record {
  event = comment;
  parts = parts;
  spelt = subst (λ (r : StatedSetup). SpellsEvent r event e xs gone) same spelt;
}

-- a line that wasn't written
pub reply_stops : (told : Option (List ℕ)) (reply : Reply) (text : List ℕ) (bytes bytes' : Option (List ℕ)) (n : ℕ) (stop : Stop) → Agrees told reply
    → WritesLine text bytes bytes' n (Err stop) → WritesReply told reply text bytes bytes' n (Err stop)
reply_stops told reply text bytes bytes' n (NoMemory number) agrees wrote = wrote
reply_stops told reply text bytes bytes' n (Write number) agrees (front, is) = (agrees, front, is)
reply_stops told reply text bytes bytes' n (Faulty number fault) agrees wrote = absurd wrote
reply_stops told reply text bytes bytes' n (Limit number) agrees wrote = absurd wrote
reply_stops told reply text bytes bytes' n (Read number) agrees wrote = absurd wrote

-- no write is a failed read
pub line_unread : (text : List ℕ) (bytes bytes' : Option (List ℕ)) (n : ℕ) (stop : Stop) → WritesLine text bytes bytes' n (Err stop)
    → IsNoRead {N = Step} (Err stop)
line_unread text bytes bytes' n (NoMemory number) wrote = tt
line_unread text bytes bytes' n (Write number) wrote = tt
line_unread text bytes bytes' n (Faulty number fault) wrote = tt
line_unread text bytes bytes' n (Limit number) wrote = tt
line_unread text bytes bytes' n (Read number) wrote = wrote

pub reply_unread : (told : Option (List ℕ)) (reply : Reply) (text : List ℕ) (bytes bytes' : Option (List ℕ)) (n : ℕ) (stop : Stop)
    → WritesReply told reply text bytes bytes' n (Err stop)
    → IsNoRead {N = Step} (Err stop)
reply_unread told reply text bytes bytes' n (NoMemory number) wrote = tt
reply_unread told reply text bytes bytes' n (Write number) wrote = tt
reply_unread told reply text bytes bytes' n (Faulty number fault) wrote = tt
reply_unread told reply text bytes bytes' n (Limit number) wrote = tt
reply_unread told reply text bytes bytes' n (Read number) wrote = wrote

pub reads_on : (old new : Bool) (result : Result Step Stop) → IsNoRead result → new ≡ old → ReaderFails old new result
reads_on old new (Ok step) unread same = same
reads_on old new (Err (NoMemory number)) unread same = same
reads_on old new (Err (Write number)) unread same = same
reads_on old new (Err (Faulty number fault)) unread same = same
reads_on old new (Err (Limit number)) unread same = same
reads_on old new (Err (Read number)) unread same = absurd unread

-- what the line does, by whether its answer agrees
abbrev step_by : ℕ → Replied → Result Bool Stop → Result Step Stop
step_by n x (Ok true) = Ok (step.Answered x)
step_by n x (Ok false) = Ok (step.Ended (Differs n))
step_by n x (Err stop) = Err stop

pub replied_line : (s : StatedSetup) (shown : Shown) (told : Told) (old new : Watching) (line : List ℕ) (bytes bytes' : Option (List ℕ)) (n : ℕ) (x : Said)
    (r : Replied)
    (result : Result Bool Stop) → old.core.setup ≡ s → Says s line x → Stands old told → Replies old new x.says x.operands x.gone r
    → WritesReply x.answer r.reply (shown_text shown x.event x.note r.reply) bytes bytes' n result
    → AnswersLine s shown told new x.operands x.gone line bytes bytes' n (step_by n r result)
replied_line s shown told old new line bytes bytes' n x r result same says stands replies wrote = by result wrote
  where
    can : can_be_told s told x.says x.gone ≡ true
    can = subst (λ (z : StatedSetup). can_be_told z told x.says x.gone ≡ true) same (replies.can told stands)

    is : r.reply ≡ replied s told x.says x.operands
    is = subst (λ (z : StatedSetup). r.reply ≡ replied z told x.says x.operands) same (replies.is told stands)

    operand : r.operand ≡ operand_denied s told x.says x.operands
    operand = subst (λ (z : StatedSetup). r.operand ≡ operand_denied z told x.says x.operands) same (replies.operand told stands)

    now : Stands new (after x.says x.gone told)
    now = replies.stands told stands

    what : what_of s line r.event r.reply x.operands x.gone ≡ what_of s line (Some x.says) r.reply x.operands x.gone
    what = ap (λ e. what_of s line e r.reply x.operands x.gone) replies.event

    by : (result : Result Bool Stop) → WritesReply x.answer r.reply (shown_text shown x.event x.note r.reply) bytes bytes' n result
        → AnswersLine s shown told new x.operands x.gone line bytes bytes' n (step_by n r result)
    by (Ok true) (agrees, written) = (
      shown_text shown x.event x.note r.reply,
      after x.says x.gone told,
      inr (x, says, record { can = can; is = is }, agrees, operand, what, refl, refl),
      now,
      written,
    )
    by (Ok false) (differs, kept) = ((x, r.reply, says, record { can = can; is = is }, differs), kept, refl)
    by (Err (NoMemory number)) wrote = wrote
    by (Err (Write number)) (agrees, front, is_n) = (
      (
        answered s line r x.operands x.gone (shown_text shown x.event x.note r.reply),
        after x.says x.gone told,
        refl,
        inr (x, says, record { can = can; is = is }, agrees, operand, what, refl, refl),
        front,
      ),
      is_n,
    )
    by (Err (Faulty number fault)) wrote = absurd wrote
    by (Err (Limit number)) wrote = absurd wrote
    by (Err (Read number)) wrote = absurd wrote

-- the same of a comment
abbrev step_of : Result (Unit {0}) Stop → Result Step Stop
step_of (Ok done) = Ok (step.Answered (unasked None Nothing))
step_of (Err stop) = Err stop

pub comment_line : (s : StatedSetup) (shown : Shown) (told : Told) (new : Watching) (xs : List Argument) (gone : List ObjId) (line : List ℕ)
    (bytes bytes' : Option (List ℕ)) (n : ℕ) (result : Result (Unit {0}) Stop)
    → is_comment line ≡ true → Stands new told → WritesLine (comment_text shown line) bytes bytes' n result
    → AnswersLine s shown told new xs gone line bytes bytes' n (step_of result)
comment_line s shown told new xs gone line bytes bytes' n (Ok done) comment stands written =
    (comment_text shown line, told, inl (comment, refl, refl, refl, refl, refl), stands, written)
comment_line s shown told new xs gone line bytes bytes' n (Err (NoMemory number)) comment stands wrote = wrote
comment_line s shown told new xs gone line bytes bytes' n (Err (Write number)) comment stands (front, is) =
    ((answered s line (unasked None Nothing) xs gone (comment_text shown line), told, refl, inl (comment, refl, refl, refl, refl, refl), front), is)
comment_line s shown told new xs gone line bytes bytes' n (Err (Faulty number fault)) comment stands wrote = absurd wrote
comment_line s shown told new xs gone line bytes bytes' n (Err (Limit number)) comment stands wrote = absurd wrote
comment_line s shown told new xs gone line bytes bytes' n (Err (Read number)) comment stands wrote = absurd wrote

pub comment_answered : (s : StatedSetup) (shown : Shown) (told : Told) (new : Watching) (xs : List Argument) (gone : List ObjId) (line : List ℕ)
    (bytes bytes' : Option (List ℕ)) (n : ℕ) (x : Replied)
    → is_comment line ≡ true → Stands new told → Appends bytes bytes' (comment_text shown line) → x ≡ unasked None Nothing
    → AnswersLine s shown told new xs gone line bytes bytes' n (Ok (step.Answered x))
comment_answered s shown told new xs gone line bytes bytes' n x comment stands written is =
    subst (λ (y : Replied). AnswersLine s shown told new xs gone line bytes bytes' n (Ok (step.Answered y))) (sym is)
    (comment_line s shown told new xs gone line bytes bytes' n (Ok tt) comment stands written)

-- no line ends a record as its end does
line_whole : (s : StatedSetup) (shown : Shown) (told : Told) (new : Watching) (line : List ℕ) (bytes bytes' : Option (List ℕ)) (n : ℕ) (ended : Ended)
    → StopsAt s shown told line bytes bytes' n (Ok ended) → IsWhole new told (Ok ended)
line_whole s shown told new line bytes bytes' n (All lines) stops = absurd stops
line_whole s shown told new line bytes bytes' n (CutOff number) stops = absurd stops
line_whole s shown told new line bytes bytes' n (Differs number) stops = tt
line_whole s shown told new line bytes bytes' n (Impossible number) stops = tt

-- a line that was read whole is the next
pub next_line : (s : StatedSetup) (shown : Shown) (told : Told) (new : Watching) (xs : List Argument) (gone : List ObjId) (input input' : Option (List ℕ))
    (line : List ℕ) (bytes bytes' : Option (List ℕ)) (n : ℕ)
    (result : Result Step Stop) → IsOneLine line → Consumes input input' (line ++ 10 ∷ []) → AnswersLine s shown told new xs gone line bytes bytes' n result
    → AnswersNext s shown told new xs gone input input' line bytes bytes' n result
next_line s shown told new xs gone input input' line bytes bytes' n (Ok (step.Answered reply)) one taken answers = (taken, answers)
next_line s shown told new xs gone input input' line bytes bytes' n (Ok (step.Ended ended)) one taken stops =
    (inl (one, taken, stops), line_whole s shown told new line bytes bytes' n ended stops)
next_line s shown told new xs gone input input' line bytes bytes' n (Err stop) one taken stops = inl (one, taken, stops)

-- what is shown of an answered line
pub shown_is : (shown : Shown) (event : List ℕ) (noted answer : Option (List ℕ)) (reply : Reply) → is_shown shown reply ≡ true → answer ≡ answer_of reply
    → line_text event answer noted ≡ shown_text shown event noted reply
shown_is shown event noted answer reply seen is =
    ap (λ (a : Option (List ℕ)). line_text event a noted) is ∙ sym (ap (λ (b : Bool). if b then line_text event (answer_of reply) noted else []) seen)
