-- Which fault an event has of which so much is read.
use Rattle.std.proofs.Common.{◌≡◌, ◌≢◌, ℕ, ◌<◌, ◌≤◌, true, false, List, ◌∷◌, length, slice_get, Option, Some, None, All, sym, ◌∙◌, ap, subst, arith}
use Rattle.std.specs.Int.{IsInRange}
use Rattle.jg_words.specs.declared.thread.Tid.{Tid}
use Rattle.jg_words.specs.declared.thread.EnvId.{EnvId}
use Rattle.jg_words.specs.declared.object.ObjId.{ObjId}
use Rattle.jg_policy.specs.Stated.{StatedSetup}
use Rattle.jg_text.specs.Words.{tid_text, env_text, FitsTid, FitsEnv}
use Rattle.jg_text.specs.Faults.{fields}
use Rattle.jg_text.proofs.Laws.{tids_same}
use Rattle.jg_rows.specs.ByName.{name_at}
use Rattle.jg_rows.specs.Columns.{Columns}
use Rattle.jg_judge.specs.declared.argument.Argument.{Argument}
use Rattle.jg_record.specs.declared.event.Event.{Event}
use Rattle.jg_record.specs.declared.fault.RecordFault.{RecordFault}
use Rattle.jg_record.specs.declared.fault.RecordFault.TheVariants.{LineTooLong, NotAscii, NoThread, NoEvent, UnknownFunction, WrongCount, BadOperand, NoMemory}
use Rattle.jg_record.specs.declared.verb.Verb.{Verb}
use Rattle.jg_record.specs.Words.{verb_named}
use Rattle.jg_record.specs.Operands.{Asks, is_count}
use Rattle.jg_record.specs.Events.{Tells, is_told_count, AsksFor, TellsOf}
use Rattle.jg_record.specs.Faults.{HasFault, rank, IsFirstFault}
use Rattle.jg_record.specs.Pieces.{HasRow}

-- it isn't too long, and is printable
pub record IsPlain (text : List ℕ) : Type 0 where
  pub short : length text ≤ 65536
  pub printable : All (λ b. IsInRange 32 126 b) text

-- an environment is no fact's word
pub no_verb : (env : Option EnvId) (v : Verb) → verb_named (env_text env) ≢ Some v
no_verb None v = λ is. cc
no_verb (Some e) v = λ is. cc

module _ (s : StatedSetup) (text : List ℕ) (plain : IsPlain text) where
  early : (g : RecordFault) → rank g < 2 → ¬ HasFault g s text
  early LineTooLong low = λ long. let short : length text ≤ 65536 = plain.short in absurd (omega (arith, short, long))
  early NotAscii low = λ bad. bad plain.printable
  early NoThread low = absurd (omega (arith, low))
  early NoEvent low = absurd (omega (arith, low))
  early UnknownFunction low = absurd (omega (arith, low))
  early WrongCount low = absurd (omega (arith, low))
  early BadOperand low = absurd (omega (arith, low))
  early NoMemory low = absurd (omega (arith, low))

  pub no_thread : ((t : Tid) → FitsTid t → slice_get (fields text) 0 ≢ Some (tid_text t)) → IsFirstFault s text NoThread
  no_thread none = record { fault = none; first = early }

  module _ (t : Tid) (fits : FitsTid t) (rest : List (List ℕ)) (split : fields text ≡ tid_text t ∷ rest) where
    threaded : (g : RecordFault) → rank g < 3 → ¬ HasFault g s text
    threaded LineTooLong low = early LineTooLong (omega arith)
    threaded NotAscii low = early NotAscii (omega arith)
    threaded NoThread low = λ bad. bad t fits (ap (λ fs. slice_get fs 0) split)
    threaded NoEvent low = absurd (omega (arith, low))
    threaded UnknownFunction low = absurd (omega (arith, low))
    threaded WrongCount low = absurd (omega (arith, low))
    threaded BadOperand low = absurd (omega (arith, low))
    threaded NoMemory low = absurd (omega (arith, low))

    pub no_event : ((env : Option EnvId) → FitsEnv env → slice_get rest 0 ≢ Some (env_text env))
        → ((word : List ℕ) (v : Verb) → slice_get rest 0 ≡ Some word → verb_named word ≢ Some v)
        → IsFirstFault s text NoEvent
    no_event no_env none = record {
      fault = (
        λ env fits_env is. no_env env fits_env (ap (λ (fs : List (List ℕ)). slice_get fs 1) (sym split) ∙ is),
        λ word v is. none word v (ap (λ (fs : List (List ℕ)). slice_get fs 1) (sym split) ∙ is),
      );
      first = threaded;
    }

  -- ---- a question

  module _ (t : Tid) (fits : FitsTid t) (env : Option EnvId) (fits_env : FitsEnv env) (words : List (List ℕ))
      (split : fields text ≡ tid_text t ∷ env_text env ∷ words) where
    asked : (g : RecordFault) → rank g < 4 → ¬ HasFault g s text
    asked LineTooLong low = early LineTooLong (omega arith)
    asked NotAscii low = early NotAscii (omega arith)
    asked NoThread low = threaded t fits (env_text env ∷ words) split NoThread (omega arith)
    asked NoEvent low = λ bad. bad.0 env fits_env (ap (λ fs. slice_get fs 1) split)
    asked UnknownFunction low = absurd (omega (arith, low))
    asked WrongCount low = absurd (omega (arith, low))
    asked BadOperand low = absurd (omega (arith, low))
    asked NoMemory low = absurd (omega (arith, low))

    pub unknown_function : ((place : ℕ) → place < 243 → slice_get words 0 ≢ Some (name_at place)) → IsFirstFault s text UnknownFunction
    unknown_function none = record {
      fault = (
        env,
        fits_env,
        ap (λ fs. slice_get fs 1) split,
        λ place below is. none place below
            (ap (λ (fs : List (List ℕ)). slice_get fs 2) (sym split) ∙ is),
      );
      first = asked;
    }

    module _ (place : ℕ) (row : Columns) (rest : List (List ℕ)) (h : HasRow words place row rest) where
      whole : fields text ≡ tid_text t ∷ env_text env ∷ row.name ∷ rest
      whole = split ∙ ap (λ (ws : List (List ℕ)). tid_text t ∷ env_text env ∷ ws) h.split

      asks : AsksFor text t env place row rest
      asks = record { fits_tid = fits; fits_env = fits_env; at = h.at; split = whole }

      one_row : (t' : Tid) (env' : Option EnvId) (place' : ℕ) (row' : Columns) (words' : List (List ℕ)) → AsksFor text t' env' place' row' words'
          → (row' ≡ row) × (words' ≡ rest)
      one_row t' env' place' row' words' other =
          let both : tid_text t ∷ env_text env ∷ row.name ∷ rest ≡ tid_text t' ∷ env_text env' ∷ row'.name ∷ words' = sym whole ∙ other.split in
          let name : row'.name ≡ row.name = cc in
          let same : words' ≡ rest = cc in
          (h.one place' row' other.at name, same)

      no_fact : (t' : Tid) (v : Verb) (words' : List (List ℕ)) → ¬ TellsOf text t' v words'
      no_fact t' v words' told =
          let both : tid_text t ∷ env_text env ∷ row.name ∷ rest ≡ tid_text t' ∷ told.word ∷ words' = sym whole ∙ told.split in
          let word : env_text env ≡ told.word = cc in
          no_verb env v (ap verb_named word ∙ told.verb)

      known : (g : RecordFault) → rank g < 5 → ¬ HasFault g s text
      known LineTooLong low = asked LineTooLong (omega arith)
      known NotAscii low = asked NotAscii (omega arith)
      known NoThread low = asked NoThread (omega arith)
      known NoEvent low = asked NoEvent (omega arith)
      known UnknownFunction low = λ bad. bad.3 place h.below (ap (λ fs. slice_get fs 2) whole ∙ ap (λ (n : List ℕ). Some n) (sym h.name))
      known WrongCount low = absurd (omega (arith, low))
      known BadOperand low = absurd (omega (arith, low))
      known NoMemory low = absurd (omega (arith, low))

      pub wrong_count : is_count row.takes (length rest) ≡ false → IsFirstFault s text WrongCount
      wrong_count other = record {
        fault = (
          λ t' env' place' row' words' asked'. let same = one_row t' env' place' row' words' asked' in rw (same.0, same.1) other,
          λ t' v words' told. absurd (no_fact t' v words' told),
        );
        first = known;
      }

      counted : is_count row.takes (length rest) ≡ true → (g : RecordFault) → rank g < 6 → ¬ HasFault g s text
      counted count LineTooLong low = known LineTooLong (omega arith)
      counted count NotAscii low = known NotAscii (omega arith)
      counted count NoThread low = known NoThread (omega arith)
      counted count NoEvent low = known NoEvent (omega arith)
      counted count UnknownFunction low = known UnknownFunction (omega arith)
      counted count WrongCount low = λ bad. let not : is_count row.takes (length rest) ≡ false = bad.0 t env place row rest asks
          in absurd (let no : ⊥ = cc (not, count) in no)
      counted count BadOperand low = absurd (omega (arith, low))
      counted count NoMemory low = absurd (omega (arith, low))

      pub bad_operand : is_count row.takes (length rest) ≡ true → ((xs : List Argument) → ¬ Asks row.takes rest xs) → IsFirstFault s text BadOperand
      bad_operand count none = record {
        fault = (
          λ t' env' place' row' words' asked' xs asks'. let same = one_row t' env' place' row' words' asked' in
              none xs (subst (λ (r : Columns). Asks r.takes rest xs) same.0 (subst (λ (ws : List (List ℕ)). Asks row'.takes ws xs) same.1 asks')),
          λ t' v words' told. absurd (no_fact t' v words' told),
        );
        first = counted count;
      }

  -- ---- a fact

  module _ (t : Tid) (v : Verb) (words : List (List ℕ)) (told : TellsOf text t v words) where
    one_verb : (t' : Tid) (v' : Verb) (words' : List (List ℕ)) → TellsOf text t' v' words' → (t' ≡ t) × (v' ≡ v) × (words' ≡ words)
    one_verb t' v' words' other =
        let both : tid_text t ∷ told.word ∷ words ≡ tid_text t' ∷ other.word ∷ words' = sym told.split ∙ other.split in
        let word : other.word ≡ told.word = cc in
        let same : words' ≡ words = cc in
        let verbs : Some v' ≡ Some v = sym other.verb ∙ ap verb_named word ∙ told.verb in
        let verb : v' ≡ v = cc in
        let tids : tid_text t' ≡ tid_text t = cc in
        (tids_same t' t other.tid told.tid tids, verb, same)

    no_question : (t' : Tid) (env' : Option EnvId) (place' : ℕ) (row' : Columns) (words' : List (List ℕ)) → ¬ AsksFor text t' env' place' row' words'
    no_question t' env' place' row' words' other =
        let both : tid_text t ∷ told.word ∷ words ≡ tid_text t' ∷ env_text env' ∷ row'.name ∷ words' = sym told.split ∙ other.split in
        let word : env_text env' ≡ told.word = cc in
        no_verb env' v (ap verb_named word ∙ told.verb)

    second : slice_get (fields text) 1 ≡ Some told.word
    second = ap (λ fs. slice_get fs 1) told.split

    spoken : (g : RecordFault) → rank g < 5 → ¬ HasFault g s text
    spoken LineTooLong low = early LineTooLong (omega arith)
    spoken NotAscii low = early NotAscii (omega arith)
    spoken NoThread low = threaded t told.tid (told.word ∷ words) told.split NoThread (omega arith)
    spoken NoEvent low = λ bad. bad.1 told.word v second told.verb
    spoken UnknownFunction low = λ bad.
        let both : Some (env_text bad.0) ≡ Some told.word = sym bad.2 ∙ second in
        let word : env_text bad.0 ≡ told.word = cc in
        no_verb bad.0 v (ap verb_named word ∙ told.verb)
    spoken WrongCount low = absurd (omega (arith, low))
    spoken BadOperand low = absurd (omega (arith, low))
    spoken NoMemory low = absurd (omega (arith, low))

    pub wrong_words : is_told_count v (length words) ≡ false → IsFirstFault s text WrongCount
    wrong_words other = record {
      fault = (
        λ t' env' place' row' words' asks. absurd (no_question t' env' place' row' words' asks),
        λ t' v' words' told'. let same = one_verb t' v' words' told' in rw (same.1, same.2) other,
      );
      first = spoken;
    }

    spoken_whole : is_told_count v (length words) ≡ true → (g : RecordFault) → rank g < 6 → ¬ HasFault g s text
    spoken_whole count LineTooLong low = spoken LineTooLong (omega arith)
    spoken_whole count NotAscii low = spoken NotAscii (omega arith)
    spoken_whole count NoThread low = spoken NoThread (omega arith)
    spoken_whole count NoEvent low = spoken NoEvent (omega arith)
    spoken_whole count UnknownFunction low = spoken UnknownFunction (omega arith)
    spoken_whole count WrongCount low = λ bad. let not : is_told_count v (length words) ≡ false = bad.1 t v words told
        in absurd (let no : ⊥ = cc (not, count) in no)
    spoken_whole count BadOperand low = absurd (omega (arith, low))
    spoken_whole count NoMemory low = absurd (omega (arith, low))

    pub bad_words : is_told_count v (length words) ≡ true → ((e : Event) (gone : List ObjId) → ¬ Tells s v t words e gone) → IsFirstFault s text BadOperand
    bad_words count none = record {
      fault = (
        λ t' env' place' row' words' asks xs asks'. absurd (no_question t' env' place' row' words' asks),
        λ t' v' words' told' e gone tells. let same = one_verb t' v' words' told' in
            none e gone (subst (λ (u : Tid). Tells s v u words e gone) same.0
            (subst (λ (w : Verb). Tells s w t' words e gone) same.1 (subst (λ (ws : List (List ℕ)). Tells s v' t' ws e gone) same.2 tells))),
      );
      first = spoken_whole count;
    }
