-- What stands for a history stands for one moment more, and what is advised then.
use Rattle.std.proofs.Common.{◌≡◌, ℕ, ◌+◌, List, ◌∷◌, ◌++◌, Option, Some, None, ◌∙◌, ap, sym, subst}
use Rattle.std.specs.Prelude.{◌&&◌, if◌then◌else◌, option_to_list, slice_get}
use Rattle.std.specs.Map.{lookup}
use Rattle.std.proofs.lemmas.List.{append_assoc}
use Rattle.jg_words.specs.declared.thread.Tid.{Tid}
use Rattle.jg_policy.specs.Stated.{StatedSetup}
use Rattle.jg_lists.specs.ByThread.{at}
use Rattle.jg_lists.specs.ByMaker.{Name, same_name, named, IsThereOnce}
use Rattle.jg_rows.specs.Columns.{Columns}
use Rattle.jg_rows.specs.Table.{functions}
use Rattle.jg_rules.specs.Parts.{Parts}
use Rattle.jg_judge.specs.declared.argument.Argument.{Argument}
use Rattle.jg_core.specs.declared.fact.Fact.{Fact}
use Rattle.jg_advice.specs.declared.advice.Advice.{Advice}
use Rattle.jg_advice.specs.declared.advice.Kind.TheVariants.{CommittedAndKept, MonitorAtDetachment}
use Rattle.jg_advice.specs.declared.advice.Source.{Source}
use Rattle.jg_advice.specs.Advised.{AreEnded, IsOnFact, ended, ending, grown, handed, long, lost, misnamed, on_call, unchecked}
use Rattle.jg_advice.specs.Buffers.{commits, committed, is_copy, is_given_back, is_named, is_settled, released_by, written, written_by}
use Rattle.jg_advice.specs.Doing.{cause, cause_by, doing, doing_after, doing_now, idle, restarts, source}
use Rattle.jg_advice.specs.Functions.{collects, is_jni, meets}
use Rattle.jg_advice.specs.Moments.{Called, Moment, Told, depth}
use Rattle.jg_advice.specs.Monitors.{entered, entered_by}
use Rattle.jg_advice.specs.Regions.{bordered, calls_in, collections_in, is_gone, region, region_by}
use Rattle.jg_advice.specs.Standing.{AdviserState, Stands, kept}
use Rattle.jg_advice.specs.Throwing.{may_throw}

abbrev pub found : List (ℕ × List (ℕ × Source)) → Name → Option Source
found table q = lookup (same_name q) (named table)

-- ---- a call

module _ (old : AdviserState) (h : List Moment) (p : Parts) (n : ℕ) (s : StatedSetup) (t : Tid) (f : ℕ) (row : Columns) (xs : List Argument) (name : List ℕ)
    (is : slice_get functions f ≡ Some row)
    (stands : Stands old h) where
  pub call_stands : (new : AdviserState)
      → ((q : Name) → kept new.doings q
      ≡ (if same_name (t.0, depth p t.0) q then doing_after (Some row) (may_throw s p t.0 (Some row) xs) (source n t f) (kept old.doings q)
      else kept old.doings q))
      → ((q : Name) → found new.written q ≡ (if commits q (released_by (Some row) xs) then None
      else (if is_named q (written_by (Some row) xs) && is_copy p (written_by (Some row) xs) then Some (source n t f) else found old.written q)))
      → ((q : Name) → found new.committed q ≡ (if commits q (released_by (Some row) xs) then Some (source n t f) else found old.committed q))
      → ((q : Name) → IsThereOnce q (named old.committed) → IsThereOnce q (named new.committed))
      → new.entered ≡ old.entered → new.regions ≡ old.regions
      → new.calls ≡ (if is_jni row then old.calls + 1 else old.calls)
      → new.collections ≡ (if collects row then old.collections + 1 else old.collections)
      → Stands new (record { line = n; what = Called s t f xs name; parts = p } ∷ h)
  call_stands new doings writes commitments once entries regions calls collections = record {
    doings = λ q. doings q
        ∙ ap (λ o. if same_name (t.0, depth p t.0) q then doing_after o (may_throw s p t.0 o xs) (source n t f) (kept old.doings q) else kept old.doings q)
        (sym is)
        ∙ ap (λ d. if same_name (t.0, depth p t.0) q then doing_after (slice_get functions f) (may_throw s p t.0 (slice_get functions f) xs) (source n t f) d
        else d) (stands.doings q);
    written = λ q. writes q
        ∙ ap (λ o. if commits q (released_by o xs) then None
        else (if is_named q (written_by o xs) && is_copy p (written_by o xs) then Some (source n t f) else found old.written q)) (sym is)
        ∙ ap (λ s. if commits q (released_by (slice_get functions f) xs) then None
        else (if is_named q (written_by (slice_get functions f) xs) && is_copy p (written_by (slice_get functions f) xs) then Some (source n t f) else s))
        (stands.written q);
    committed = λ q. commitments q
        ∙ ap (λ o. if commits q (released_by o xs) then Some (source n t f) else found old.committed q) (sym is)
        ∙ ap (λ s. if commits q (released_by (slice_get functions f) xs) then Some (source n t f) else s) (stands.committed q);
    once = λ q. once q (stands.once q);
    entered = λ q. ap (λ table. found table q) entries ∙ stands.entered q;
    regions = λ u. ap (at u) regions ∙ stands.regions u;
    calls = calls ∙ ap (λ k. if is_jni row then k + 1 else k) stands.calls ∙ ap (λ o. if meets is_jni o then calls_in h + 1 else calls_in h) (sym is);
    collections = collections ∙ ap (λ k. if collects row then k + 1 else k) stands.collections
        ∙ ap (λ o. if meets collects o then collections_in h + 1 else collections_in h) (sym is);
  }

  -- what is pushed one after the other is what is advised
  pub call_advised : (a b c : Option Advice) (o0 o1 o2 o3 : List Advice)
      → a ≡ unchecked n t f (Some row) (kept old.doings (t.0, depth p t.0))
      → b ≡ lost n t f (found old.written) (released_by (Some row) xs)
      → c ≡ misnamed n t f name
      → o1 ≡ o0 ++ option_to_list a → o2 ≡ o1 ++ option_to_list b → o3 ≡ o2 ++ option_to_list c
      → o3 ≡ o0 ++ on_call n t f xs name p h
  call_advised a b c o0 o1 o2 o3 first second third is1 is2 is3 =
      let writes : found old.written ≡ (λ q. written q h) = λ i q. stands.written q i in
      is3 ∙ ap (λ l. l ++ option_to_list c) (is2 ∙ ap (λ l. l ++ option_to_list b) is1)
      ∙ ap (λ l. l ++ option_to_list c) (append_assoc o0 (option_to_list a) (option_to_list b))
      ∙ append_assoc o0 (option_to_list a ++ option_to_list b) (option_to_list c)
      ∙ ap (λ l. o0 ++ l) (append_assoc (option_to_list a) (option_to_list b) (option_to_list c))
      ∙ ap (λ a. o0 ++ (option_to_list a ++ (option_to_list b ++ option_to_list c)))
      (first ∙ ap (λ o. unchecked n t f o (kept old.doings (t.0, depth p t.0))) (sym is)
      ∙ ap (unchecked n t f (slice_get functions f)) (stands.doings (t.0, depth p t.0)))
      ∙ ap (λ b. o0 ++ (option_to_list (unchecked n t f (slice_get functions f) (doing_now t.0 p h)) ++ (option_to_list b ++ option_to_list c)))
      (second ∙ ap (λ o. lost n t f (found old.written) (released_by o xs)) (sym is) ∙ ap (λ w. lost n t f w (released_by (slice_get functions f) xs)) writes)
      ∙ ap (λ c. o0 ++ (option_to_list (unchecked n t f (slice_get functions f) (doing_now t.0 p h))
      ++ (option_to_list (lost n t f (λ q. written q h) (released_by (slice_get functions f) xs)) ++ option_to_list c))) third

-- ---- a fact

module _ (old : AdviserState) (h : List Moment) (p : Parts) (n : ℕ) (x : Fact) (stands : Stands old h) where
  abbrev m : Moment
  m = record { line = n; what = Told x; parts = p }

  done : kept old.doings ≡ (λ q. doing q h)
  done = λ i q. stands.doings q i

  pub fact_stands : (new : AdviserState)
      → ((u : ℕ) → at u new.regions
      ≡ region_by u p (λ t. record { source = cause_by (kept old.doings) p n t; calls = old.calls; collections = old.collections }) (bordered x)
      (at u old.regions))
      → ((q : Name) → found new.entered q ≡ entered_by q p (cause_by (kept old.doings) p n) x (found old.entered q))
      → ((q : Name) → found new.written q ≡ (if is_given_back q x then None else found old.written q))
      → ((q : Name) → found new.committed q ≡ (if is_settled q x then None else found old.committed q))
      → ((q : Name) → IsThereOnce q (named old.committed) → IsThereOnce q (named new.committed))
      → ((q : Name) → kept new.doings q ≡ (if restarts q p x then idle else kept old.doings q))
      → new.calls ≡ old.calls
      → new.collections ≡ (if is_gone x then old.collections + 1 else old.collections)
      → Stands new (m ∷ h)
  fact_stands new regions entries writes commitments once doings calls collections = record {
    doings = λ q. doings q ∙ ap (λ d. if restarts q p x then idle else d) (stands.doings q);
    written = λ q. writes q ∙ ap (λ s. if is_given_back q x then None else s) (stands.written q);
    committed = λ q. commitments q ∙ ap (λ s. if is_settled q x then None else s) (stands.committed q);
    once = λ q. once q (stands.once q);
    entered = λ q. entries q ∙ ap (entered_by q p (cause_by (kept old.doings) p n) x) (stands.entered q)
        ∙ ap (λ d. entered_by q p (cause_by d p n) x (entered q h)) done;
    regions = λ u. regions u
        ∙ ap (region_by u p (λ t. record { source = cause_by (kept old.doings) p n t; calls = old.calls; collections = old.collections }) (bordered x))
        (stands.regions u)
        ∙ ap (λ d. region_by u p (λ t. record { source = cause_by d p n t; calls = old.calls; collections = old.collections }) (bordered x) (region u h)) done
        ∙ ap (λ k. region_by u p (λ t. record { source = cause t m h; calls = k; collections = old.collections }) (bordered x) (region u h)) stands.calls
        ∙ ap (λ k. region_by u p (λ t. record { source = cause t m h; calls = calls_in h; collections = k }) (bordered x) (region u h)) stands.collections;
    calls = calls ∙ stands.calls;
    collections = collections ∙ ap (λ k. if is_gone x then k + 1 else k) stands.collections;
  }

  pub fact_advised : (buffers monitors : List (ℕ × Source)) (o0 o1 o2 o3 o4 : List Advice)
      → AreEnded (found old.committed) (ended x) buffers → AreEnded (found old.entered) (ended x) monitors
      → o1 ≡ o0 ++ ending CommittedAndKept n (ended x) buffers
      → o2 ≡ o1 ++ option_to_list (long old.most n p (λ t. at t old.regions) old.calls old.collections (bordered x))
      → o3 ≡ o2 ++ ending MonitorAtDetachment n (ended x) monitors
      → o4 ≡ o3 ++ option_to_list (grown n p (cause_by (kept old.doings) p n) (handed x))
      → (told : List Advice) × IsOnFact old.most m h x told × (o4 ≡ o0 ++ told)
  fact_advised buffers monitors o0 o1 o2 o3 o4 kept_now owned_now is1 is2 is3 is4 =
      let commitments : found old.committed ≡ (λ q. committed q h) = λ i q. stands.committed q i in
      let entries : found old.entered ≡ (λ q. entered q h) = λ i q. stands.entered q i in
      let regions : (λ (t : ℕ). at t old.regions) ≡ (λ t. region t h) = λ i t. stands.regions t i in
      let a : List Advice = ending CommittedAndKept n (ended x) buffers in
      let b : List Advice = option_to_list (long old.most n p (λ t. at t old.regions) old.calls old.collections (bordered x)) in
      let c : List Advice = ending MonitorAtDetachment n (ended x) monitors in
      let d : List Advice = option_to_list (grown n p (cause_by (kept old.doings) p n) (handed x)) in
      let b' : List Advice = option_to_list (long old.most n p (λ t. region t h) (calls_in h) (collections_in h) (bordered x)) in
      let d' : List Advice = option_to_list (grown n p (λ t. cause t m h) (handed x)) in
      let long_is : b ≡ b' =
      ap (λ r. option_to_list (long old.most n p r old.calls old.collections (bordered x))) regions
      ∙ ap (λ k. option_to_list (long old.most n p (λ t. region t h) k old.collections (bordered x))) stands.calls
      ∙ ap (λ k. option_to_list (long old.most n p (λ t. region t h) (calls_in h) k (bordered x))) stands.collections in
      let grown_is : d ≡ d' = ap (λ f. option_to_list (grown n p (cause_by f p n) (handed x))) done in (
        a ++ (b' ++ (c ++ d')),
        (
          buffers,
          monitors,
          subst (λ f. AreEnded f (ended x) buffers) commitments kept_now,
          subst (λ f. AreEnded f (ended x) monitors) entries owned_now,
          refl_of (a ++ (b' ++ (c ++ d'))),
        ),
        is4 ∙ ap (λ l. l ++ d) (is3 ∙ ap (λ l. l ++ c) (is2 ∙ ap (λ l. l ++ b) is1))
            ∙ all_in_one o0 a b c d
            ∙ ap (λ b. o0 ++ (a ++ (b ++ (c ++ d)))) long_is
            ∙ ap (λ d. o0 ++ (a ++ (b' ++ (c ++ d)))) grown_is,
      )
    where
      refl_of : (l : List Advice) → l ≡ l
      refl_of l = λ i. l

      all_in_one : (o a b c d : List Advice) → ((((o ++ a) ++ b) ++ c) ++ d) ≡ o ++ (a ++ (b ++ (c ++ d)))
      all_in_one o a b c d =
          append_assoc ((o ++ a) ++ b) c d ∙ append_assoc (o ++ a) b (c ++ d) ∙ append_assoc o a (b ++ (c ++ d))
