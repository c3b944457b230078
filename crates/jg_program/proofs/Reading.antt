-- What the bytes that were read, at most one more than a setup file may have, tell of all of them.
use Rattle.std.proofs.Common.{◌≡◌, ◌≢◌, ◌∙◌, ◌⊎◌, inl, inr, ℕ, ◌<◌, ◌≤◌, List, [], ◌++◌, length, take, Option, Some, None, IfSome, unwrap_or, refl, ap, subst, arith, min, length-take, take_all}
use Rattle.std.specs.Prelude.{IsUtf8, option_map}
use Rattle.std.specs.declared.io.traits.Take.{Take}
use Rattle.std.specs.Io.Take.{take_limit, take_inner, take_remaining}
use Rattle.toml.specs.Parse.{parse_document}
use Rattle.jg_policy.specs.Faults.{IsFirstFault}
use Rattle.jg_policy.specs.Findings.{text_faults_of}
use Rattle.jg_policy.specs.declared.fault.SetupFault.{SetupFault}
use Rattle.jg_policy.specs.declared.fault.SetupFault.TheVariants.{NotToml, TooMany, NoMemory}
use Rattle.jg_program.specs.declared.stop.ProgramStop.{ProgramStop}
use Rattle.jg_program.specs.declared.stop.ProgramStop.TheVariants.{Setup, SetupRead}
use Rattle.jg_program.proofs.Closed.{memory_or_not}
use Rattle.jg_program.specs.StatedBy.{Gives, IsFront, HasNoText, HasFault, IsRefused}

pub gives_known : (known : Option (List ℕ)) → Gives known (unwrap_or known [])
gives_known None = tt
gives_known (Some bytes) = refl

pub told_long : (known : Option (List ℕ)) (told : ℕ) → 16777216 < told → IsRefused known told (Setup TooMany)
told_long known told long = (unwrap_or known [], gives_known known, inl (inr (inr (inl (refl, inl long)))))

pub failed : (known : Option (List ℕ)) (told : ℕ) (stop : ProgramStop) → (stop ≡ SetupRead) ⊎ (stop ≡ Setup NoMemory) → IsRefused known told stop
failed known told stop (inl read) = (unwrap_or known [], gives_known known, inl (inl read))
failed known told stop (inr memory) = (unwrap_or known [], gives_known known, inl (inr (inl memory)))

-- what a reader of a limit gives is the front of what the reader itself gives
pub of_take : {R : Type 0} (remaining : R → Option (List ℕ)) (t : Take R) (r : R) (old bytes : List ℕ) → take_limit t ≡ 16777217 → take_inner t ≡ r → old ≡ []
    → IfSome (take_remaining remaining t) (λ front. bytes ≡ old ++ front) → IsFront (remaining r) bytes
of_take {R = R} remaining t r old bytes limit inner none gives =
    front_of (remaining r) old bytes none
    (subst (λ (o : Option (List ℕ)). IfSome o (λ front. bytes ≡ old ++ front)) (ap (λ (n : ℕ). option_map (take n) (remaining t.inner)) limit ∙
    ap (λ (x : R). option_map (take 16777217) (remaining x)) inner) gives)
  where
    front_of : (known : Option (List ℕ)) (old bytes : List ℕ) → old ≡ [] → IfSome (option_map (take 16777217) known) (λ front. bytes ≡ old ++ front)
        → IsFront known bytes
    front_of None old bytes none gives = tt
    front_of (Some known) old bytes none gives = gives ∙ ap (λ (xs : List ℕ). xs ++ take 16777217 known) none

length_of_front : (known bytes : List ℕ) → IsFront (Some known) bytes → length bytes ≡ min 16777217 (length known)
length_of_front known bytes front = ap length front ∙ length-take 16777217 known

pub read_long : (known : Option (List ℕ)) (told : ℕ) (bytes : List ℕ) → IsFront known bytes → 16777216 < length bytes → IsRefused known told (Setup TooMany)
read_long None told bytes front long = (bytes, tt, inl (inr (inr (inl (refl, inr long)))))
read_long (Some known) told bytes front long = (known, refl, inl (inr (inr (inl (refl, inr (let read = length_of_front known bytes front in omega arith))))))

pub gives_all : (known : Option (List ℕ)) (bytes : List ℕ) → IsFront known bytes → length bytes ≤ 16777216 → Gives known bytes
gives_all None bytes front short = tt
gives_all (Some known) bytes front short = front ∙ take_all 16777217 known (let read = length_of_front known bytes front in omega arith)

pub no_text : (known : Option (List ℕ)) (told : ℕ) (bytes : List ℕ) → IsFront known bytes → told ≤ 16777216 → length bytes ≤ 16777216 → ¬ IsUtf8 bytes
    → IsRefused known told (Setup NotToml)
no_text known told bytes front low short no_utf8 = (bytes, gives_all known bytes front short, inl (inr (inr (inr (refl, low, short, no_utf8)))))

-- the first fault of the text, unless memory ran out
pub faulted : (known : Option (List ℕ)) (told : ℕ) (bytes : List ℕ) (fault : SetupFault) → Gives known bytes → told ≤ 16777216 → length bytes ≤ 16777216
    → (fault ≢ NoMemory → IsFirstFault (text_faults_of (parse_document bytes)) fault) → IsRefused known told (Setup fault)
faulted known told bytes fault gives low short first = (bytes, gives, why (memory_or_not fault))
  where
    why : (fault ≡ NoMemory) ⊎ (fault ≢ NoMemory) → HasNoText told bytes (Setup fault) ⊎ HasFault told bytes (Setup fault)
    why (inl memory) = inl (inr (inl (ap Setup memory)))
    why (inr other) = inr (fault, refl, low, short, first other)
