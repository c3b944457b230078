-- The operands that a text spells suit the row of their function.
use Rattle.std.proofs.Common.{◌≡◌, ◌⊎◌, ◌∙◌, ℕ, Bool, true, false, List, [], ◌∷◌, Option, Some, None, slice_get, if◌then◌else◌, ap, inl, inr, refl, sym, subst}
use Rattle.std.specs.Prelude.{◌&&◌}
use Rattle.jg_words.specs.declared.object.ObjId.{ObjId}
use Rattle.jg_words.specs.declared.rule.Rule.{Rule}
use Rattle.jg_words.specs.declared.thread.EnvId.{EnvId}
use Rattle.jg_words.specs.declared.thread.Tid.{Tid}
use Rattle.jg_policy.specs.Stated.{StatedSetup}
use Rattle.jg_rules.specs.Parts.{Parts}
use Rattle.jg_rows.specs.declared.row.Takes.{Takes}
use Rattle.jg_rows.specs.declared.row.Takes.TheVariants as takes
use Rattle.jg_rows.specs.Columns.{Columns}
use Rattle.jg_rows.specs.Table.{functions}
use Rattle.jg_judge.specs.declared.argument.Argument.{Argument}
use Rattle.jg_judge.specs.declared.argument.Bounds.{Bounds}
use Rattle.jg_judge.specs.Asked.{is_last}
use Rattle.jg_judge.specs.Broken.{verdict}
use Rattle.jg_judge.specs.Suits.{suits, suits_one}
use Rattle.jg_core.specs.Asking.{by_row, by_verdict}
use Rattle.jg_core.specs.declared.asking.Answer.TheVariants.{Misfit}
use Rattle.jg_core.specs.Facts.{parts_of}
use Rattle.jg_record.specs.declared.event.Event.{Event}
use Rattle.jg_record.specs.declared.event.Event.TheVariants.{Question}
use Rattle.jg_record.specs.declared.reply.Reply.{Reply}
use Rattle.jg_record.specs.declared.reply.Reply.TheVariants.{Denied, Passed}
use Rattle.jg_record.specs.declared.verb.Verb.{Verb}
use Rattle.jg_record.specs.declared.verb.Verb.TheVariants as verb
use Rattle.jg_record.specs.Events.{SpellsEvent, Tells}
use Rattle.jg_record.specs.Operands.{Asks, Spells, sort_of}
use Rattle.jg_watch.specs.Told.{Told, replied, reply_of}

-- one operand is of its sort
one : (t : Takes) (word : List ℕ) (x : Argument) → Spells (sort_of t) word x → suits_one t x ≡ true
one (takes.Reference kind) word x (r, fits, is, same) = ap (suits_one (takes.Reference kind)) same
one takes.Nullable word x (r, fits, is, same) = ap (suits_one takes.Nullable) same
one takes.Unjudged word x (r, fits, is, same) = ap (suits_one takes.Unjudged) same
one takes.Arguments word x (r, fits, is, same) = ap (suits_one takes.Arguments) same
one (takes.Buffer family) word x (r, fits, is, same) = ap (suits_one (takes.Buffer family)) same
one takes.Readable word x (r, fits, is, same) = ap (suits_one takes.Readable) same
one takes.Writable word x (r, fits, is, same) = ap (suits_one takes.Writable) same
one takes.Number word x (inl (n, fits, is, same)) = ap (suits_one takes.Number) same
one takes.Number word x (inr (v, fits, long, is, same)) = ap (suits_one takes.Number) same
one takes.Capacity word x (n, fits, is, same) = ap (suits_one takes.Capacity) same
one takes.Length word x (n, fits, is, same) = ap (suits_one takes.Length) same
one takes.Count word x (n, fits, is, same) = ap (suits_one takes.Count) same
one takes.Mode word x (n, fits, is, same) = ap (suits_one takes.Mode) same
one takes.Place word x (n, fits, is, same) = ap (suits_one takes.Place) same
one takes.Item word x (n, fits, is, same) = ap (suits_one takes.Item) same
one (takes.Value item) word x (n, fits, is, same) = ap (suits_one (takes.Value item)) same
one (takes.Field member type) word x (fits, is, same) = ap (suits_one (takes.Field member type)) same
one takes.AnyField word x (fits, is, same) = ap (suits_one takes.AnyField) same
one (takes.Method member type) word x (fits, is, same) = ap (suits_one (takes.Method member type)) same
one takes.Constructor word x (fits, is, same) = ap (suits_one takes.Constructor) same
one takes.AnyMethod word x (fits, is, same) = ap (suits_one takes.AnyMethod) same
one takes.ClassName word x (stated, fits, is, same) = ap (suits_one takes.ClassName) same
one takes.NativeName word x (stated, fits, is, same) = ap (suits_one takes.NativeName) same
one takes.Name word x (name, mark, same) = ap (suits_one takes.Name) same
one (takes.Items item) word x (count, fits, small, is, same) = ap (suits_one (takes.Items item)) same
one takes.Utf8 word x (count, fits, small, is, same) = ap (suits_one takes.Utf8) same

-- all are, and they are as many as the function takes
all_suit : (wanted : List Takes) (words : List (List ℕ)) (xs : List Argument) → Asks wanted words xs → suits wanted xs ≡ true
all_suit wanted [] [] asks = asks
all_suit wanted [] (x ∷ xs) asks = absurd asks
all_suit [] (word ∷ words) xs asks = absurd asks
all_suit (t ∷ wanted) (word ∷ words) [] asks = absurd asks
all_suit (t ∷ wanted) (word ∷ words) (x ∷ xs) (spells, asks) =
    ap (λ b. b && suits (if is_last t then t ∷ wanted else wanted) xs) (one t word x spells) ∙ all_suit (if is_last t then t ∷ wanted else wanted) words xs asks

-- so is what is asked then
answered : (bounds : Bounds) (s : StatedSetup) (p : Parts) (t : Tid) (env : Option EnvId) (row : Columns) (xs : List Argument) (found : Option Rule)
    → (reply_of (by_verdict bounds s p t env row xs found) ≡ Passed) ⊎ ((rule : Rule) × (reply_of (by_verdict bounds s p t env row xs found) ≡ Denied rule))
answered bounds s p t env row xs None = inl refl
answered bounds s p t env row xs (Some rule) = inr (rule, refl)

asked_of : (s : StatedSetup) (told : Told) (t : Tid) (env : Option EnvId) (function : ℕ) (row : Columns) (xs : List Argument)
    → slice_get functions function ≡ Some row → suits row.takes xs ≡ true
    → replied s told (Question t env function) xs
    ≡ reply_of (by_verdict told.bounds s (parts_of told.facts) t env row xs (verdict told.bounds s (parts_of told.facts) t.0 env row xs))
asked_of s told t env function row xs at suit =
    let p = parts_of told.facts in
    ap (λ r. reply_of (by_row told.bounds s p t env xs r)) at
    ∙ ap (λ b. reply_of (if b then by_verdict told.bounds s p t env row xs (verdict told.bounds s p t.0 env row xs) else Misfit)) suit

-- no fact is a question
abbrev is_question : Event → Bool
is_question (Question t env function) = true
is_question e = false

told_is : (s : StatedSetup) (v : Verb) (t : Tid) (words : List (List ℕ)) (e : Event) (gone : List ObjId) → Tells s v t words e gone → is_question e ≡ false
told_is s verb.Begins t words e gone (ws, is) = ap is_question is
told_is s verb.Ends t words e gone (ws, is) = ap is_question is
told_is s verb.Enters t words e gone (ws, is) = ap is_question is
told_is s verb.Leaves t words e gone (kept, fits, ws, is) = ap is_question is
told_is s verb.Pushed t words e gone (room, small, ws, is) = ap is_question is
told_is s verb.Popped t words e gone (kept, fits, ws, is) = ap is_question is
told_is s verb.Ensured t words e gone (room, small, ws, is) = ap is_question is
told_is s verb.Raised t words e gone (o, fits, ws, is) = ap is_question is
told_is s verb.Calmed t words e gone (ws, is) = ap is_question is
told_is s verb.Got t words e gone (word, kind, named, o, fits, ws, is) = ap is_question is
told_is s verb.Lost t words e gone (r, fits, ws, is) = ap is_question is
told_is s verb.Lent t words e gone (word, family, named, o, fits, via, fit, n, small, ws, is) = ap is_question is
told_is s verb.Gave t words e gone (b, fits, ws, is) = ap is_question is
told_is s verb.Owns t words e gone (o, fits, ws, is) = ap is_question is
told_is s verb.Freed t words e gone (o, fits, ws, is) = ap is_question is
told_is s verb.Met t words e gone (word, class, means, n, small, ws, is) = ap is_question is
told_is s verb.Gone t words e gone (are, is) = ap is_question is
told_is s verb.Linked t words e gone (class, small, native, less, ws, is) = ap is_question is
told_is s verb.Unlinked t words e gone (class, small, ws, is) = ap is_question is
told_is s verb.Warned t words e gone (home, small, ws, is) = ap is_question is
told_is s verb.Local t words e gone (n, small, kept, fits, ws, is) = ap is_question is
told_is s verb.Pending t words e gone (kept, fits, ws, is) = ap is_question is
told_is s verb.Length t words e gone (o, fits, n, small, ws, is) = ap is_question is
told_is s verb.Bounds t words e gone (a, fits, b, fit, c, suit, ws, is) = ap is_question is

abbrev place_in : Event → ℕ
place_in (Question t env place) = place
place_in e = 0

pub is_judged : (s : StatedSetup) (told : Told) (text : List ℕ) (t : Tid) (env : Option EnvId) (function : ℕ) (xs : List Argument) (gone : List ObjId)
    → SpellsEvent s text (Question t env function) xs gone
    → (replied s told (Question t env function) xs ≡ Passed) ⊎ ((rule : Rule) × (replied s told (Question t env function) xs ≡ Denied rule))
is_judged s told text t env function xs gone (inl (t', env', place, row, words, asks_for, asks, same)) =
    let at : slice_get functions function ≡ Some row = ap (slice_get functions) (ap place_in same) ∙ asks_for.at in
    let p = parts_of told.facts in
    let found = verdict told.bounds s p t.0 env row xs in
    subst (λ (reply : Reply). (reply ≡ Passed) ⊎ ((rule : Rule) × (reply ≡ Denied rule)))
    (sym (asked_of s told t env function row xs at (all_suit row.takes words xs asks)))
    (answered told.bounds s p t env row xs found)
is_judged s told text t env function xs gone (inr (t', v, words, tells_of, tells)) =
    absurd (let no : ⊥ = cc (told_is s v t' words (Question t env function) gone tells) in no)
