-- One reply more, and how many lines have each number then.
use Rattle.std.proofs.Common.{◌≡◌, ◌+◌, ◌-◌, ◌<◌, ◌^◌, ◌∙◌, ℕ, Bool, true, false, if◌then◌else◌, List, [], ◌∷◌, length, refl, ap, sym, subst, arith, replicate, zero, suc, Option, Some, None}
use Rattle.std.specs.Prelude.{◌==◌, slice_index_or, slice_set}
use Rattle.std.proofs.lemmas.Bool.Decides.{nat_tests}
use Rattle.std.proofs.lemmas.List.{get_or-set_same, get_or-set_other, length-set}
use Rattle.jg_lists.proofs.Lists.{how_many-most}
use Rattle.jg_words.proofs.Common.{rule_number}
use Rattle.jg_record.specs.declared.reply.Reply.{Reply}
use Rattle.jg_record.specs.declared.reply.Reply.TheVariants.{Passed, Denied, Environment, Reference, Buffer, Object, Nothing}
use Rattle.jg_watch.specs.Lines.{Answered, IsTally, denials_in, is_denial, is_number, reply_number, tallied}
use Rattle.jg_watch.specs.Steps.{counted_at}

-- no count is greater than the lines are many
pub fits : (lines : List Answered) (tally : List ℕ) (k : ℕ) → IsTally lines tally → length lines + 1 < 2 ^ 64 → slice_index_or tally k 0 < 2 ^ 64 - 1
fits lines tally k is room =
    let some = how_many-most (λ (l : Answered). is_number k (reply_number l.reply)) lines in
    omega (arith, is.1 k, some, room)

pub denied_fits : (lines : List Answered) (denied : ℕ) → denied ≡ denials_in lines → length lines + 1 < 2 ^ 64 → denied < 2 ^ 64 - 1
denied_fits lines denied is room =
    let some = how_many-most (λ (l : Answered). is_denial l.reply) lines in
    omega (arith, is, some, room)

-- the number is one of the list's
abbrev IsInside : Option ℕ → Type 0
IsInside None = Unit {0}
IsInside (Some n) = n < 18

inside : (reply : Reply) → IsInside (reply_number reply)
inside Passed = omega arith
inside (Denied rule) = (rule_number rule).1
inside (Environment env) = tt
inside (Reference r) = tt
inside (Buffer b) = tt
inside (Object o) = tt
inside Nothing = tt

one_more : (lines : List Answered) (l : Answered) (tally new : List ℕ) (m : Option ℕ) → reply_number l.reply ≡ m → IsInside m → IsTally lines tally
    → new ≡ counted_at m tally → IsTally (l ∷ lines) new
one_more lines l tally new None number small old now = (
  ap length now ∙ old.0,
  λ k. ap (λ (t : List ℕ). slice_index_or t k 0) now ∙ old.1 k
      ∙ sym (ap (λ (m : Option ℕ). if is_number k m then tallied k lines + 1 else tallied k lines) number),
)
one_more lines l tally new (Some n) number small old now =
    (ap length now ∙ length-set _ _ _ ∙ old.0, λ k. ap (λ (t : List ℕ). slice_index_or t k 0) now ∙ by k (n == k) refl)
  where
    counted : (k : ℕ) (b : Bool) → n == k ≡ b → tallied k (l ∷ lines) ≡ (if b then tallied k lines + 1 else tallied k lines)
    counted k b is = ap (λ (c : Bool). if c then tallied k lines + 1 else tallied k lines) (ap (is_number k) number ∙ is)

    by : (k : ℕ) (b : Bool) → n == k ≡ b → slice_index_or (slice_set tally n (slice_index_or tally n 0 + 1)) k 0 ≡ tallied k (l ∷ lines)
    by k true is =
        let same : k ≡ n = grind (arith, nat_tests, is) in
        let within : n < length tally = subst (λ (m : ℕ). n < m) (sym old.0) small in
        ap (λ i. slice_index_or (slice_set tally n (slice_index_or tally n 0 + 1)) i 0) same ∙ get_or-set_same tally n (slice_index_or tally n 0 + 1) 0 within
        ∙ ap (λ m. m + 1) (old.1 n) ∙ ap (λ i. tallied i lines + 1) (sym same) ∙ sym (counted k true is)
    by k false is =
        get_or-set_other tally n k (slice_index_or tally n 0 + 1) 0 (grind (arith, nat_tests, is)) ∙ old.1 k ∙ sym (counted k false is)

pub counts : (lines : List Answered) (l : Answered) (tally new : List ℕ) → IsTally lines tally → new ≡ counted_at (reply_number l.reply) tally
    → IsTally (l ∷ lines) new
counts lines l tally new old now = one_more lines l tally new (reply_number l.reply) refl (inside l.reply) old now

blank : (n k : ℕ) → slice_index_or (replicate {A = ℕ} n 0) k 0 ≡ 0
blank zero k = refl
blank (suc n) zero = refl
blank (suc n) (suc k) = blank n k

pub none_yet : IsTally [] (replicate {A = ℕ} 18 0)
none_yet = (refl, blank 18)
