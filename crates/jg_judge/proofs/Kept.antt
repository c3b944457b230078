-- What is kept of the operands so far is the first rule that these break, and the first operand that breaks it.
use Rattle.std.proofs.Common.{◌≡◌, ℕ, Bool, true, false, Option, Some, None, refl}
use Rattle.jg_words.specs.declared.rule.Rule.TheVariants.{WrongRefKind}
use Rattle.jg_judge.specs.Faults.{Faults, Places, first_of, of_operands, or_here, sooner, with_one, with_rule}

-- one operand more: by the rule that it breaks first
merged : (n : ℕ) (a b c d e f g : Option ℕ) (s t u v w x y : Bool)
    → with_rule (of_operands (record {
      foreign_local = a;
      dead_reference = b;
      null_reference = c;
      wrong_type = d;
      bad_field = e;
      bad_buffer = f;
      bad_argument =
          g;
    }) false)
    (first_of (record { foreign_local = s; dead_reference = t; null_reference = u; wrong_type = v; bad_field = w; bad_buffer = x; bad_argument = y })) n
    ≡ of_operands (record {
      foreign_local = or_here a n s;
      dead_reference = or_here b n t;
      null_reference = or_here c n u;
      wrong_type = or_here d n v;
      bad_field = or_here e n w;
      bad_buffer = or_here f n x;
      bad_argument = or_here g n y;
    }) false
merged n (Some i) b c d e f g true t u v w x y = refl
merged n (Some i) b c d e f g false true u v w x y = refl
merged n (Some i) b c d e f g false false true v w x y = refl
merged n (Some i) b c d e f g false false false true w x y = refl
merged n (Some i) b c d e f g false false false false true x y = refl
merged n (Some i) b c d e f g false false false false false true y = refl
merged n (Some i) b c d e f g false false false false false false true = refl
merged n (Some i) b c d e f g false false false false false false false = refl
merged n None (Some i) c d e f g true t u v w x y = refl
merged n None None (Some i) d e f g true t u v w x y = refl
merged n None None None (Some i) e f g true t u v w x y = refl
merged n None None None None (Some i) f g true t u v w x y = refl
merged n None None None None None (Some i) g true t u v w x y = refl
merged n None None None None None None (Some i) true t u v w x y = refl
merged n None None None None None None None true t u v w x y = refl
merged n None (Some i) c d e f g false true u v w x y = refl
merged n None (Some i) c d e f g false false true v w x y = refl
merged n None (Some i) c d e f g false false false true w x y = refl
merged n None (Some i) c d e f g false false false false true x y = refl
merged n None (Some i) c d e f g false false false false false true y = refl
merged n None (Some i) c d e f g false false false false false false true = refl
merged n None (Some i) c d e f g false false false false false false false = refl
merged n None None (Some i) d e f g false true u v w x y = refl
merged n None None None (Some i) e f g false true u v w x y = refl
merged n None None None None (Some i) f g false true u v w x y = refl
merged n None None None None None (Some i) g false true u v w x y = refl
merged n None None None None None None (Some i) false true u v w x y = refl
merged n None None None None None None None false true u v w x y = refl
merged n None None (Some i) d e f g false false true v w x y = refl
merged n None None (Some i) d e f g false false false true w x y = refl
merged n None None (Some i) d e f g false false false false true x y = refl
merged n None None (Some i) d e f g false false false false false true y = refl
merged n None None (Some i) d e f g false false false false false false true = refl
merged n None None (Some i) d e f g false false false false false false false = refl
merged n None None None (Some i) e f g false false true v w x y = refl
merged n None None None None (Some i) f g false false true v w x y = refl
merged n None None None None None (Some i) g false false true v w x y = refl
merged n None None None None None None (Some i) false false true v w x y = refl
merged n None None None None None None None false false true v w x y = refl
merged n None None None (Some i) e f g false false false true w x y = refl
merged n None None None (Some i) e f g false false false false true x y = refl
merged n None None None (Some i) e f g false false false false false true y = refl
merged n None None None (Some i) e f g false false false false false false true = refl
merged n None None None (Some i) e f g false false false false false false false = refl
merged n None None None None (Some i) f g false false false true w x y = refl
merged n None None None None None (Some i) g false false false true w x y = refl
merged n None None None None None None (Some i) false false false true w x y = refl
merged n None None None None None None None false false false true w x y = refl
merged n None None None None (Some i) f g false false false false true x y = refl
merged n None None None None (Some i) f g false false false false false true y = refl
merged n None None None None (Some i) f g false false false false false false true = refl
merged n None None None None (Some i) f g false false false false false false false = refl
merged n None None None None None (Some i) g false false false false true x y = refl
merged n None None None None None None (Some i) false false false false true x y = refl
merged n None None None None None None None false false false false true x y = refl
merged n None None None None None (Some i) g false false false false false true y = refl
merged n None None None None None (Some i) g false false false false false false true = refl
merged n None None None None None (Some i) g false false false false false false false = refl
merged n None None None None None None (Some i) false false false false false true y = refl
merged n None None None None None None None false false false false false true y = refl
merged n None None None None None None (Some i) false false false false false false true = refl
merged n None None None None None None (Some i) false false false false false false false = refl
merged n None None None None None None None false false false false false false true = refl
merged n None None None None None None None false false false false false false false = refl

pub one_kept : (places : Places) (faults : Faults) (n : ℕ)
    → with_rule (of_operands places false) (first_of faults) n ≡ of_operands (with_one places n faults) false
one_kept places faults n =
    merged n places.foreign_local places.dead_reference places.null_reference places.wrong_type places.bad_field places.bad_buffer places.bad_argument
    faults.foreign_local faults.dead_reference faults.null_reference faults.wrong_type faults.bad_field faults.bad_buffer faults.bad_argument

-- the reference that is deleted stands first
with_kind : (a b c d e f g : Option ℕ)
    → Some (sooner (of_operands
    (record { foreign_local = a; dead_reference = b; null_reference = c; wrong_type = d; bad_field = e; bad_buffer = f; bad_argument = g }) false)
    (record { rule = WrongRefKind; operand = Some 0 }))
    ≡ of_operands (record { foreign_local = a; dead_reference = b; null_reference = c; wrong_type = d; bad_field = e; bad_buffer = f; bad_argument = g }) true
with_kind (Some i) b c d e f g = refl
with_kind None (Some i) c d e f g = refl
with_kind None None (Some i) d e f g = refl
with_kind None None None (Some i) e f g = refl
with_kind None None None None (Some i) f g = refl
with_kind None None None None None (Some i) g = refl
with_kind None None None None None None (Some i) = refl
with_kind None None None None None None None = refl

pub kind_kept : (places : Places) → Some (sooner (of_operands places false) (record { rule = WrongRefKind; operand = Some 0 })) ≡ of_operands places true
kind_kept places = with_kind places.foreign_local places.dead_reference places.null_reference places.wrong_type places.bad_field places.bad_buffer
    places.bad_argument
