-- What is told of a fact, as contracts say it, and that nothing is advised on the others.
use Rattle.std.proofs.Common.{◌≡◌, ℕ, List, [], ◌∷◌, ◌++◌, Option, refl, sym}
use Rattle.std.proofs.lemmas.List.{append-nil}
use Rattle.jg_words.specs.declared.thread.Tid.{Tid}
use Rattle.jg_words.specs.declared.object.ObjId.{ObjId}
use Rattle.jg_words.specs.declared.buffer.BufId.{BufId}
use Rattle.jg_words.specs.declared.reference.Ref.{Ref}
use Rattle.jg_words.specs.declared.reference.Kind.{Kind}
use Rattle.jg_table_buffers.specs.declared.family.Family.{Family}
use Rattle.jg_rules.specs.Parts.{Parts}
use Rattle.jg_core.specs.declared.fact.Fact.{Fact}
use Rattle.jg_core.specs.declared.fact.Fact.TheVariants.{Begin, End, Enter, Leave, Push, Pop, Ensure, Raise, Calm, Hand, Lost, Lend, Back, Own, Free, Meet, Gone, Link, Unlink, Warn, Checked}
use Rattle.jg_advice.specs.declared.advice.Advice.{Advice}
use Rattle.jg_advice.specs.Advised.{IsOnFact}
use Rattle.jg_advice.specs.Moments.{Moment, Told}
use Rattle.jg_advice.specs.Standing.{AdviserState, Stands}
use Rattle.jg_advice.proofs.Standings.{fact_stands}

abbrev pub IsTold : ℕ → List Moment → ℕ → Parts → List Advice → List Advice → Fact → Type 0
IsTold most h n p before after x =
    (told : List Advice) × IsOnFact most (record { line = n; what = Told x; parts = p }) h x told × (after ≡ before ++ told)

-- nothing is advised on the fact, and what stood for the history stands for it with the fact
pub record IsQuiet (x : Fact) : Type 0 where
  pub told : (most : ℕ) (h : List Moment) (n : ℕ) (p : Parts) (items : List Advice) → IsTold most h n p items items x
  pub stands : (old : AdviserState) (h : List Moment) (p : Parts) (n : ℕ) → Stands old h → Stands old (record { line = n; what = Told x; parts = p } ∷ h)

pub quiet : (x : Fact)
    → ((t : Tid) → x ≡ Begin t → ⊥)
    → ((t : Tid) → x ≡ End t → ⊥)
    → ((t : Tid) → x ≡ Enter t → ⊥)
    → ((t : Tid) (kept : Option ObjId) → x ≡ Leave t kept → ⊥)
    → ((t : Tid) (kept : Option ObjId) → x ≡ Pop t kept → ⊥)
    → ((t : Tid) (kind : Kind) (o : ObjId) → x ≡ Hand t kind o → ⊥)
    → ((t : Tid) (f : Family) (o : ObjId) (via : Ref) (k : ℕ) → x ≡ Lend t f o via k → ⊥)
    → ((b : BufId) → x ≡ Back b → ⊥)
    → ((t : Tid) (o : ObjId) → x ≡ Own t o → ⊥)
    → ((t : Tid) (o : ObjId) → x ≡ Free t o → ⊥)
    → ((o : ObjId) → x ≡ Gone o → ⊥)
    → IsQuiet x
quiet (Push t room) n1 n2 n3 n4 n5 n6 n7 n8 n9 n10 n11 = record {
  told = λ most h n p items. ([], ([], [], refl, refl, refl), sym (append-nil items));
  stands = λ old h p n stands. fact_stands old h p n (Push t room) stands old (λ u. refl) (λ q. refl) (λ q. refl) (λ q. refl) (λ q once. once)
      (λ q. refl) refl refl;
}
quiet (Ensure t room) n1 n2 n3 n4 n5 n6 n7 n8 n9 n10 n11 = record {
  told = λ most h n p items. ([], ([], [], refl, refl, refl), sym (append-nil items));
  stands = λ old h p n stands. fact_stands old h p n (Ensure t room) stands old (λ u. refl) (λ q. refl) (λ q. refl) (λ q. refl) (λ q once. once)
      (λ q. refl) refl refl;
}
quiet (Raise t o) n1 n2 n3 n4 n5 n6 n7 n8 n9 n10 n11 = record {
  told = λ most h n p items. ([], ([], [], refl, refl, refl), sym (append-nil items));
  stands = λ old h p n stands. fact_stands old h p n (Raise t o) stands old (λ u. refl) (λ q. refl) (λ q. refl) (λ q. refl) (λ q once. once)
      (λ q. refl) refl refl;
}
quiet (Calm t) n1 n2 n3 n4 n5 n6 n7 n8 n9 n10 n11 = record {
  told = λ most h n p items. ([], ([], [], refl, refl, refl), sym (append-nil items));
  stands = λ old h p n stands. fact_stands old h p n (Calm t) stands old (λ u. refl) (λ q. refl) (λ q. refl) (λ q. refl) (λ q once. once) (λ q. refl) refl refl;
}
quiet (Lost r) n1 n2 n3 n4 n5 n6 n7 n8 n9 n10 n11 = record {
  told = λ most h n p items. ([], ([], [], refl, refl, refl), sym (append-nil items));
  stands = λ old h p n stands. fact_stands old h p n (Lost r) stands old (λ u. refl) (λ q. refl) (λ q. refl) (λ q. refl) (λ q once. once) (λ q. refl) refl refl;
}
quiet (Meet class k) n1 n2 n3 n4 n5 n6 n7 n8 n9 n10 n11 = record {
  told = λ most h n p items. ([], ([], [], refl, refl, refl), sym (append-nil items));
  stands = λ old h p n stands. fact_stands old h p n (Meet class k) stands old (λ u. refl) (λ q. refl) (λ q. refl) (λ q. refl) (λ q once. once)
      (λ q. refl) refl refl;
}
quiet (Link class native) n1 n2 n3 n4 n5 n6 n7 n8 n9 n10 n11 = record {
  told = λ most h n p items. ([], ([], [], refl, refl, refl), sym (append-nil items));
  stands = λ old h p n stands. fact_stands old h p n (Link class native) stands old (λ u. refl) (λ q. refl) (λ q. refl) (λ q. refl) (λ q once. once)
      (λ q. refl) refl refl;
}
quiet (Unlink class) n1 n2 n3 n4 n5 n6 n7 n8 n9 n10 n11 = record {
  told = λ most h n p items. ([], ([], [], refl, refl, refl), sym (append-nil items));
  stands = λ old h p n stands. fact_stands old h p n (Unlink class) stands old (λ u. refl) (λ q. refl) (λ q. refl) (λ q. refl) (λ q once. once)
      (λ q. refl) refl refl;
}
quiet (Warn home) n1 n2 n3 n4 n5 n6 n7 n8 n9 n10 n11 = record {
  told = λ most h n p items. ([], ([], [], refl, refl, refl), sym (append-nil items));
  stands = λ old h p n stands. fact_stands old h p n (Warn home) stands old (λ u. refl) (λ q. refl) (λ q. refl) (λ q. refl) (λ q once. once)
      (λ q. refl) refl refl;
}
quiet (Checked check) n1 n2 n3 n4 n5 n6 n7 n8 n9 n10 n11 = record {
  told = λ most h n p items. ([], ([], [], refl, refl, refl), sym (append-nil items));
  stands = λ old h p n stands. fact_stands old h p n (Checked check) stands old (λ u. refl) (λ q. refl) (λ q. refl) (λ q. refl) (λ q once. once)
      (λ q. refl) refl refl;
}
quiet (Begin t) n1 n2 n3 n4 n5 n6 n7 n8 n9 n10 n11 = absurd (n1 t refl)
quiet (End t) n1 n2 n3 n4 n5 n6 n7 n8 n9 n10 n11 = absurd (n2 t refl)
quiet (Enter t) n1 n2 n3 n4 n5 n6 n7 n8 n9 n10 n11 = absurd (n3 t refl)
quiet (Leave t kept) n1 n2 n3 n4 n5 n6 n7 n8 n9 n10 n11 = absurd (n4 t kept refl)
quiet (Pop t kept) n1 n2 n3 n4 n5 n6 n7 n8 n9 n10 n11 = absurd (n5 t kept refl)
quiet (Hand t kind o) n1 n2 n3 n4 n5 n6 n7 n8 n9 n10 n11 = absurd (n6 t kind o refl)
quiet (Lend t f o via k) n1 n2 n3 n4 n5 n6 n7 n8 n9 n10 n11 = absurd (n7 t f o via k refl)
quiet (Back b) n1 n2 n3 n4 n5 n6 n7 n8 n9 n10 n11 = absurd (n8 b refl)
quiet (Own t o) n1 n2 n3 n4 n5 n6 n7 n8 n9 n10 n11 = absurd (n9 t o refl)
quiet (Free t o) n1 n2 n3 n4 n5 n6 n7 n8 n9 n10 n11 = absurd (n10 t o refl)
quiet (Gone o) n1 n2 n3 n4 n5 n6 n7 n8 n9 n10 n11 = absurd (n11 o refl)
