-- What is told of a stop, and how a setup's file is refused.
use Rattle.std.proofs.Common.{◌≡◌, ◌⊎◌, inl, inr, ℕ, Bool, true, false, List, [], Option, Result, Ok, Err, IfOk, OnErr, codes, unwrap_or, refl, sym, subst}
use Rattle.jg_fault_text.specs.Setups.{TellsSetup}
use Rattle.jg_policy.specs.declared.fault.SetupFault.{SetupFault}
use Rattle.jg_policy.specs.declared.fault.SetupFault.TheVariants.{TooMany, NoMemory as NoRoom}
use Rattle.jg_program.specs.declared.stop.ProgramEnd.{ProgramEnd}
use Rattle.jg_program.specs.declared.stop.Said.TheVariants.{NoMemory}
use Rattle.jg_program.specs.declared.stop.Status.{Status}
use Rattle.jg_program.specs.declared.stop.ProgramStop.{ProgramStop}
use Rattle.jg_program.specs.declared.stop.ProgramStop.TheVariants.{Setup, SetupRead}
use Rattle.jg_program.specs.About.{IsAboutSetup}
use Rattle.jg_program.specs.Ended.{EndsRefused, IsHandedOn}
use Rattle.jg_program.specs.Migrated.{Migrates}
use Rattle.jg_program.specs.Reported.{EndsTelling, IsToldIf, said_text}
use Rattle.jg_program.specs.StatedBy.{Gives, IsRefused}
use Rattle.jg_program.proofs.Reading.{gives_known}
use Rattle.jg_program.proofs.Refusing.{migrates_refused, refused_on}

-- a text was made, or memory ran out for it
pub ends_saying : {T E : Type 0} (bytes : T → List ℕ) (explained : Bool) (IsSuch : List ℕ → Type 0) (stop : ProgramStop) (told : Result T E)
    (ending : ProgramEnd)
    → ending.ended ≡ Err stop → IfOk told (λ text. said_text ending.said ≡ bytes text) → OnErr told (ending.said ≡ NoMemory)
    → IfOk told (λ text. IsToldIf explained IsSuch (bytes text)) → OnErr told (explained ≡ true) → EndsTelling explained IsSuch stop ending
ends_saying bytes explained IsSuch stop (Ok text) ending ended said memory such asked = inl (bytes text, such, ended, said)
ends_saying bytes explained IsSuch stop (Err fault) ending ended said memory such asked = inr (asked, (ended, memory))

-- there was nothing to tell
ends_quietly : (explained : Bool) (IsSuch : List ℕ → Type 0) (stop : ProgramStop) (ending : ProgramEnd) → IsSuch []
    → ending.ended ≡ Err stop → said_text ending.said ≡ [] → EndsTelling explained IsSuch stop ending
ends_quietly false IsSuch stop ending such ended said = inl ([], refl, ended, said)
ends_quietly true IsSuch stop ending such ended said = inl ([], such, ended, said)

-- what is said of the text holds in other words
in_other_words : (explained : Bool) (IsSuch IsOther : List ℕ → Type 0) (stop : ProgramStop) (ending : ProgramEnd)
    → ((text : List ℕ) → IsSuch text → IsOther text)
    → EndsTelling explained IsSuch stop ending → EndsTelling explained IsOther stop ending
in_other_words false IsSuch IsOther stop ending other (inl (about, none, ended, said)) = inl (about, none, ended, said)
in_other_words true IsSuch IsOther stop ending other (inl (about, such, ended, said)) = inl (about, other about such, ended, said)
in_other_words explained IsSuch IsOther stop ending other (inr lost) = inr lost

-- it ends by this all the same
ended_by : (explained : Bool) (IsSuch : List ℕ → Type 0) (stop : ProgramStop) (ending : ProgramEnd) → EndsTelling explained IsSuch stop ending
    → ending.ended ≡ Err stop
ended_by explained IsSuch stop ending (inl (about, such, ended, said)) = ended
ended_by explained IsSuch stop ending (inr (asked, (ended, said))) = ended

-- the bytes of the file have a fault
pub refused_for : (explained : Bool) (known : Option (List ℕ)) (told : ℕ) (bytes : List ℕ) (fault : SetupFault) (ending : ProgramEnd)
    → IsRefused known told (Setup fault) → Gives known bytes
    → EndsTelling explained (TellsSetup fault bytes) (Setup fault) ending → EndsRefused explained known told ending
refused_for explained known told bytes fault ending refused gives tells = (
  Setup fault,
  refused,
  in_other_words explained (TellsSetup fault bytes) (IsAboutSetup known (Setup fault)) (Setup fault) ending
      (λ text such. (bytes, gives, such)) tells,
)

-- the file is too long
pub refused_as_long : (explained : Bool) (known : Option (List ℕ)) (told : ℕ) (ending : ProgramEnd) → IsRefused known told (Setup TooMany)
    → EndsTelling explained (λ text. text ≡ codes "more than 16777216 bytes\n") (Setup TooMany) ending → EndsRefused explained known told ending
refused_as_long explained known told ending refused tells = (
  Setup TooMany,
  refused,
  in_other_words explained (λ text. text ≡ codes "more than 16777216 bytes\n") (IsAboutSetup known (Setup TooMany)) (Setup TooMany) ending
      (λ text such. (unwrap_or known [], gives_known known, (codes "more than 16777216 bytes", such))) tells,
)

nothing_about : (known : Option (List ℕ)) (stop : ProgramStop) → (stop ≡ SetupRead) ⊎ (stop ≡ Setup NoRoom) → IsAboutSetup known stop []
nothing_about known stop (inl read) = subst (λ (s : ProgramStop). IsAboutSetup known s []) (sym read) refl
nothing_about known stop (inr memory) = subst (λ (s : ProgramStop). IsAboutSetup known s []) (sym memory) (unwrap_or known [], gives_known known, refl)

-- the file can't be read, or memory ran out
pub refused_unread : (explained : Bool) (known : Option (List ℕ)) (told : ℕ) (stop : ProgramStop) (ending : ProgramEnd) → IsRefused known told stop
    → (stop ≡ SetupRead) ⊎ (stop ≡ Setup NoRoom)
    → ending.ended ≡ Err stop → said_text ending.said ≡ [] → EndsRefused explained known told ending
refused_unread explained known told stop ending refused either ended said =
    (stop, refused, ends_quietly explained (IsAboutSetup known stop) stop ending (nothing_about known stop either) ended said)

-- nothing was written by then
pub refusal_on : (holds_nothing : Type 0) (failed : Bool) (explained : Bool) (known : Option (List ℕ)) (told : ℕ) (ending : ProgramEnd)
    → EndsRefused explained known told ending
    → IsHandedOn {S = Status} holds_nothing failed ending.ended
refusal_on holds_nothing failed explained known told ending (stop, refused, tells) =
    let ended = sym (ended_by explained (IsAboutSetup known stop) stop ending tells) in
    subst (λ (e : Result Status ProgramStop). IsHandedOn holds_nothing failed e) ended (refused_on Status holds_nothing failed known told stop refused)

-- nor by a migration
pub migrates_refusal : (explained : Bool) (known : Option (List ℕ)) (told : ℕ) (bytes : Option (List ℕ)) (ending : ProgramEnd)
    → EndsRefused explained known told ending
    → Migrates known told bytes bytes ending.ended
migrates_refusal explained known told bytes ending (stop, refused, tells) =
    let ended = sym (ended_by explained (IsAboutSetup known stop) stop ending tells) in
    subst (λ (e : Result Status ProgramStop). Migrates known told bytes bytes e) ended (migrates_refused known told bytes stop refused)
