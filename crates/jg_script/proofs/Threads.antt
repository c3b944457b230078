-- Scripts by thread: what a search finds among them, and what one line more does to them.
use Rattle.std.proofs.Common.{◌≡◌, ◌≢◌, ℕ, zero, suc, ◌+◌, ◌-◌, ◌<◌, ◌≤◌, ◌==◌, List, [], ◌∷◌, ◌++◌, length, get_or, set, if◌then◌else◌, Result, Ok, Err, IfOk, IfErr, sym, ap, subst, refl, inl, inr, ◌∙◌, arith, length-append, length-set}
use Rattle.std.specs.Prelude.{All, vec_len, Option, OnOk}
use Rattle.std.specs.List.{insert}
use Rattle.std.specs.List.Sorted.{IsSearchInRange, IsBinarySearchResult, IsNonDecreasingBy}
use Rattle.std.specs.Ordering.{nat_cmp, ordering_index}
use Rattle.std.proofs.lemmas.Cmp.{ranked}
use Rattle.std.proofs.lemmas.List.Elements.{All-cons, All-head, All-tail, All-set}
use Rattle.std.proofs.lemmas.List.Edits.{length-insert, get_or-insert_below, get_or-insert_at, get_or-insert_above}
use Rattle.std.proofs.lemmas.Bool.Decides.{nat_tests}
use Rattle.std.proofs.lemmas.Grind.{common_steps}
use Rattle.jg_words.specs.declared.thread.Tid.{Tid}
use Rattle.jg_words.specs.declared.thread.EnvId.{EnvId}
use Rattle.jg_words.specs.declared.call.Call.{Call}
use Rattle.jg_text.specs.Spelling.{Spells}
use Rattle.jg_script.specs.declared.run_fault.RunFault.{RunFault}
use Rattle.jg_script.specs.declared.scripts.Line.{Line}
use Rattle.jg_script.specs.declared.scripts.Lines.{Lines}
use Rattle.jg_script.specs.ScriptFile.{Ascend, script_of}
use Rattle.jg_script.specs.Threads.{IsAt, IsGap, Adds, NotAdded, TakesLine}

-- the thread of the script at a place
abbrev thread_at : List Lines → ℕ → Lines → ℕ
thread_at xs i d = (get_or xs i d).tid.0

-- no script before place i is of thread t
abbrev NoneBefore : List Lines → ℕ → ℕ → Type 0
NoneBefore xs t i = (j : ℕ) (d : Lines) → j < i → thread_at xs j d ≢ t

none_after_first : (x : Lines) (xs : List Lines) (t i : ℕ) → NoneBefore (x ∷ xs) t (suc i) → NoneBefore xs t i
none_after_first x xs t i none j d lt = none (suc j) d (omega arith)

is_at_rest : (x : Lines) (xs : List Lines) (t i : ℕ) → IsAt (x ∷ xs) t (suc i) → IsAt xs t i
is_at_rest x xs t i at = record { within = omega (arith, at.within); thread = λ d. at.thread d }

module _ (xs : List Lines) (up : Ascend xs) (t : ℕ) where
  -- the comparisons with t rise along the scripts, as a binary search asks
  rises : IsNonDecreasingBy (λ (s : Lines). ordering_index (nat_cmp s.tid.0 t)) xs
  rises i j d le within =
      let threads_rise : thread_at xs i d ≤ thread_at xs j d = grind (arith, up i j d, λ (same : i ≡ j). ap (λ k. thread_at xs k d) same) in
      grind (arith, nat_tests)

  -- a binary search ends at the thread's script, or where it would stand
  pub searched : (r : Result ℕ ℕ) → IsSearchInRange r (length xs) → IsBinarySearchResult (λ (s : Lines). nat_cmp s.tid.0 t) xs r
      → IfOk r (IsAt xs t) × IfErr r (IsGap xs t)
  searched (Ok i) within equal = (record { within = within; thread = λ d. ranked _ t _ (sym (equal d)) }, tt)
  searched (Err i) within parted = (
    tt,
    record {
      within = within;
      below = λ k d lt. ranked _ t _ (sym ((parted rises).0 k d (omega arith) lt));
      above = λ k d le lt. ranked _ t _ (sym ((parted rises).1 k d le lt));
    },
  )

  none_before : (i : ℕ) → IsAt xs t i → NoneBefore xs t i
  none_before i at j d lt same = omega (arith, up j i d lt at.within, at.thread d)

-- no script of the thread
pub script_of-absent : (xs : List Lines) (t : ℕ) → NoneBefore xs t (length xs) → script_of t xs ≡ []
script_of-absent [] t none = refl
script_of-absent (x ∷ xs) t none = grind (arith, nat_tests, none 0 x (omega arith), script_of-absent xs t (none_after_first x xs t _ none))

-- the first script of the thread
script_of-present : (xs : List Lines) (t i : ℕ) (d : Lines) → IsAt xs t i → NoneBefore xs t i → script_of t xs ≡ (get_or xs i d).calls.items
script_of-present [] t i d at none = absurd (omega (arith, at.within))
script_of-present (x ∷ xs) t zero d at none = grind (arith, nat_tests, at.thread d)
script_of-present (x ∷ xs) t (suc i) d at none =
    grind (arith, nat_tests, none 0 d (omega arith), script_of-present xs t i d (is_at_rest x xs t i at) (none_after_first x xs t i none))

-- a script in the place of the thread's first
script_of-set : (xs : List Lines) (t i : ℕ) (s : Lines) → IsAt xs t i → NoneBefore xs t i → s.tid.0 ≡ t → (u : ℕ)
    → script_of u (set xs i s) ≡ (if t == u then s.calls.items else script_of u xs)
script_of-set [] t i s at none is u = absurd (omega (arith, at.within))
script_of-set (x ∷ xs) t zero s at none is u = grind (arith, nat_tests, at.thread x, is)
script_of-set (x ∷ xs) t (suc i) s at none is u =
    grind (arith, nat_tests, none 0 x (omega arith), script_of-set xs t i s (is_at_rest x xs t i at) (none_after_first x xs t i none) is u)

-- a script before all of its thread
script_of-insert : (xs : List Lines) (t i : ℕ) (s : Lines) → NoneBefore xs t i → s.tid.0 ≡ t → (u : ℕ)
    → script_of u (insert xs i s) ≡ (if t == u then s.calls.items else script_of u xs)
script_of-insert xs t zero s none is u = grind (arith, nat_tests, is)
script_of-insert [] t (suc i) s none is u = grind (arith, nat_tests, is)
script_of-insert (x ∷ xs) t (suc i) s none is u =
    grind (arith, nat_tests, none 0 x (omega arith), script_of-insert xs t i s (none_after_first x xs t i none) is u)

-- a script in the place of one of its thread keeps the order
Ascend-set : (xs : List Lines) (t i : ℕ) (s : Lines) → Ascend xs → IsAt xs t i → s.tid.0 ≡ t → Ascend (set xs i s)
Ascend-set xs t i s up at is j k d lt within = grind (arith, common_steps, up j k d, up j i d, up i k d, at.within, at.thread d, is)

-- so does a script where its thread's would stand
Ascend-insert : (xs : List Lines) (t i : ℕ) (s : Lines) → Ascend xs → IsGap xs t i → s.tid.0 ≡ t → Ascend (insert xs i s)
Ascend-insert xs t i s up gap is j k d lt within =
    let new = insert xs i s in
    let long = length-insert xs i s gap.within in
    let at_below : (n : ℕ) → n < i → thread_at new n d ≡ thread_at xs n d =
    λ n below. ap (λ (x : Lines). x.tid.0) (get_or-insert_below xs i s d n below gap.within) in
    let at_here : (n : ℕ) → n ≡ i → thread_at new n d ≡ t = λ n here. rw here (ap (λ (x : Lines). x.tid.0) (get_or-insert_at xs i s d gap.within) ∙ is) in
    let at_above : (n : ℕ) → i < n → thread_at new n d ≡ thread_at xs (n - 1) d =
    λ n above. subst (λ (q : ℕ). thread_at new q d ≡ thread_at xs (n - 1) d) {x = n - 1 + 1} (omega arith)
    (ap (λ (x : Lines). x.tid.0) (get_or-insert_above xs i s d (n - 1) (omega arith) gap.within)) in
    grind (
      arith,
      at_below j,
      at_here j,
      at_above j,
      at_below k,
      at_here k,
      at_above k,
      up j k d,
      up j (k - 1) d,
      up (j - 1) (k - 1) d,
      gap.below j d,
      gap.above
          (k - 1) d,
    )

All-insert : {X : Type 0} (P : X → Type 0) (xs : List X) (i : ℕ) (x : X) → P x → All P xs → All P (insert xs i x)
All-insert P xs zero x p each = All-cons P x xs p each
All-insert P [] (suc i) x p each = All-cons P x [] p each
All-insert P (y ∷ ys) (suc i) x p each = All-cons P y (insert ys i x) (All-head P y ys each) (All-insert P ys i x p (All-tail P y ys each))

pub in_no_gap : (xs : List Lines) (t i : ℕ) → IsGap xs t i → NoneBefore xs t (length xs)
in_no_gap xs t i gap j d lt same = grind (arith, gap.below j d, gap.above j d)

by_thread : (t u : ℕ) (script : ℕ → List Line) (new : List Line) (line : Line) → new ≡ script t ++ line ∷ []
    → (if t == u then new else script u) ≡ (if t == u then script u ++ line ∷ [] else script u)
by_thread t u script new line more = grind (arith, nat_tests, more)

-- a line more in the script at a place
pub added : (xs : List Lines) (t i : ℕ) (line : Line) (v s : Lines) → Ascend xs → length xs ≤ 64 → IsAt xs t i → v ≡ get_or xs i v → s.tid ≡ v.tid
    → s.calls.items ≡ v.calls.items ++ line ∷ []
    → Adds t line xs (set xs i s)
added xs t i line v s up few at here same more =
    let none = none_before xs up t i at in
    let is : s.tid.0 ≡ t = ap (λ (u : Tid). u.0) (same ∙ ap (λ (w : Lines). w.tid) here) ∙ at.thread v in
    let old : script_of t xs ≡ v.calls.items = script_of-present xs t i v at none ∙ ap (λ (w : Lines). w.calls.items) (sym here) in
    record {
      scripts = λ u. script_of-set xs t i s at none is u
          ∙ by_thread t u (λ v. script_of v xs) s.calls.items line (more ∙ ap (λ (ls : List Line). ls ++ line ∷ []) (sym old));
      some = λ each. All-set (λ (script : Lines). 0 < vec_len script.calls) xs i s
          (omega (arith, s.calls.ok, ap length more, length-append v.calls.items (line ∷ []))) each;
      ascend = Ascend-set xs t i s up at is;
      few = omega (arith, length-set xs i s);
    }

-- a script of one line where its thread's would stand
pub begun : (xs new : List Lines) (t i : ℕ) (line : Line) (s : Lines) → new ≡ insert xs i s → Ascend xs → length xs < 64 → IsGap xs t i → s.tid.0 ≡ t
    → s.calls.items ≡ line ∷ [] → Adds t line xs new
begun xs new t i line s here up few gap is one =
    let none = in_no_gap xs t i gap in
    subst (λ (ys : List Lines). Adds t line xs ys) (sym here) (record {
      scripts = λ u. script_of-insert xs t i s (λ j d lt. none j d (omega (arith, gap.within))) is u ∙ by_thread t u (λ v. script_of v xs) s.calls.items line
          (one ∙ ap (λ (ls : List Line). ls ++ line ∷ []) (sym (script_of-absent xs t none)));
      some = λ each. All-insert (λ (script : Lines). 0 < vec_len script.calls) xs i s (omega (arith, ap length one)) each;
      ascend = Ascend-insert xs t i s up gap is;
      few = omega (arith, length-insert xs i s gap.within);
    })

-- a call that a line spells is taken as the line's
pub taken : (text : List ℕ) (n : ℕ) (old new : List Lines) (t : Tid) (env : Option EnvId) (call : Call) → Spells text t env call → n ≤ 1000000
    → (r : Result (Unit {0}) RunFault)
    → OnOk r (Adds t.0 (record { env = env; call = call }) old new) → IfErr r (NotAdded old t.0 n) → TakesLine text n old new r
taken text n old new t env call spelt within (Ok done) adds not = (within, (record { tid = t; env = env; call = call }, spelt, adds))
taken text n old new t env call spelt within (Err fault) adds (inl none) = subst (λ (f : RunFault). TakesLine text n old new (Err f)) (sym none) refl
taken text n old new t env call spelt within (Err fault) adds (inr (many, all, absent)) =
    subst (λ (f : RunFault). TakesLine text n old new (Err f)) (sym many)
    (refl, inr (refl, all, within, (record { tid = t; env = env; call = call }, spelt, absent)))
