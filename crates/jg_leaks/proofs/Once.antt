-- What the tables list is what a history leaves behind.
use Rattle.std.proofs.Common.{ℕ, ◌≡◌, ◌+◌, ◌++◌, ◌∙◌, Bool, true, false, if◌then◌else◌, List, [], ◌∷◌, map, filter, length, Option, Some, None, refl, ap, arith}
use Rattle.std.specs.Prelude.{◌==◌, IsPermutation}
use Rattle.std.specs.Option.{is_some}
use Rattle.jg_lists.specs.Acts.{how_many, once_if}
use Rattle.jg_lists.proofs.Lists.{how_many-map}
use Rattle.jg_words.specs.declared.reference.Ref.{Ref}
use Rattle.jg_words.specs.declared.reference.Ref.TheVariants.{Null, To}
use Rattle.jg_words.specs.declared.reference.Kind.TheVariants.{Local, Global, Weak}
use Rattle.jg_words.specs.declared.buffer.BufId.{BufId}
use Rattle.jg_policy.proofs.Counting.{how_many-reordered}
use Rattle.jg_table_locals.specs.History as locals
use Rattle.jg_table_locals.specs.Rows.{is_local, local_ref}
use Rattle.jg_table_locals.specs.Standing as local_standing
use Rattle.jg_table_globals.specs.History as globals
use Rattle.jg_table_globals.specs.declared.target.Target.{Target}
use Rattle.jg_table_globals.specs.Rows.{is_strong, is_weak, strong_ref, weak_ref}
use Rattle.jg_table_globals.specs.Standing as global_standing
use Rattle.jg_table_buffers.specs.History.{Buffer, same_ref, is_same, opened}
use Rattle.jg_table_buffers.specs.Rows.{is_buffer, name_of}
use Rattle.jg_table_buffers.specs.Standing as buffer_standing
use Rattle.jg_table_monitors.specs.History as monitors
use Rattle.jg_table_monitors.specs.Rows.{is_of, owned_monitor}
use Rattle.jg_table_monitors.specs.declared.owned_monitor.OwnedMonitor.{OwnedMonitor}
use Rattle.jg_table_monitors.specs.Standing as monitor_standing
use Rattle.jg_rules.specs.Parts.{HoldersStand, Parts, RowsBeside}
use Rattle.jg_leaks.specs.Left.{ListsRefs, ListsBuffers, ListsMonitors, monitor_owned}

-- ---- counting

module _ {A : Type 0} (p : A → Bool) where
  counted_append : (xs ys : List A) → how_many p (xs ++ ys) ≡ how_many p xs + how_many p ys
  counted_append [] ys = omega arith
  counted_append (x ∷ xs) ys = by (p x) (counted_append xs ys)
    where
      by : (b : Bool) → how_many p (xs ++ ys) ≡ how_many p xs + how_many p ys
          → (if b then how_many p (xs ++ ys) + 1 else how_many p (xs ++ ys)) ≡ (if b then how_many p xs + 1 else how_many p xs) + how_many p ys
      by true h = omega arith
      by false h = h

  counted_filter : (xs : List A) → how_many p xs ≡ length (filter p xs)
  counted_filter [] = refl
  counted_filter (x ∷ xs) = by (p x) (counted_filter xs)
    where
      by : (b : Bool) → how_many p xs ≡ length (filter p xs)
          → (if b then how_many p xs + 1 else how_many p xs) ≡ length (if b then x ∷ filter p xs else filter p xs)
      by true h = omega arith
      by false h = h

counted_none : {A : Type 0} (xs : List A) → how_many (λ x. false) xs ≡ 0
counted_none [] = refl
counted_none (x ∷ xs) = counted_none xs

sums : {k l m n : ℕ} → k ≡ l → m ≡ n → k + m ≡ l + n
sums first second = λ t. first t + second t

-- ---- references

-- of each kind, how often the rows' names have the reference
local_rows_once : (t : ℕ) (l : Option locals.Local) → length (local_standing.rows_of_local t l) ≡ once_if (is_some (locals.object_of l))
local_rows_once t None = refl
local_rows_once t (Some l) = refl

strong_rows_once : (m n : ℕ) (o : Option ℕ) → length (global_standing.strong_rows m n o) ≡ once_if (is_some (globals.strong_target o))
strong_rows_once m n None = refl
strong_rows_once m n (Some o) = refl

weak_rows_once : (m n : ℕ) (t : Option Target) → length (global_standing.weak_rows m n t) ≡ once_if (is_some t)
weak_rows_once m n None = refl
weak_rows_once m n (Some t) = refl

-- the names of all rows, each table's in its order
abbrev pub refs_of : {Store : Type 0} → RowsBeside Store → List Ref
refs_of rows = map local_ref rows.locals.locals ++ (map strong_ref rows.globals.strong ++ map weak_ref rows.globals.weak)

module _ {Store : Type 0} (rows : RowsBeside Store) (p : Parts) (stands : HoldersStand rows p) where
  in_three : (r : Ref) (k i j : ℕ) → how_many (λ row. same_ref (local_ref row) r) rows.locals.locals ≡ k
      → how_many (λ row. same_ref (strong_ref row) r) rows.globals.strong ≡ i
      → how_many (λ row. same_ref (weak_ref row) r) rows.globals.weak ≡ j
      → how_many (λ q. same_ref q r) (refs_of rows) ≡ k + (i + j)
  in_three r k i j a b c =
      let q = λ (q : Ref). same_ref q r in
      let first = how_many-map q local_ref rows.locals.locals ∙ a in
      let second = how_many-map q strong_ref rows.globals.strong ∙ b in
      let third = how_many-map q weak_ref rows.globals.weak ∙ c in
      counted_append q (map local_ref rows.locals.locals) (map strong_ref rows.globals.strong ++ map weak_ref rows.globals.weak)
      ∙ sums first (counted_append q (map strong_ref rows.globals.strong) (map weak_ref rows.globals.weak) ∙ sums second third)

  pub all_listed : ListsRefs p (refs_of rows)
  all_listed Null = in_three Null 0 0 0 (counted_none rows.locals.locals) (counted_none rows.globals.strong) (counted_none rows.globals.weak)
  all_listed (To Local m n) =
      let one = counted_filter (is_local m.0 n) rows.locals.locals ∙ ap length (stands.locals.locals m.0 n)
      ∙ local_rows_once m.0 (locals.live_local n (locals.acts_of m.0 p.locals)) in
      let all = in_three (To Local m n) _ 0 0 one (counted_none rows.globals.strong) (counted_none rows.globals.weak) in
      omega arith
  all_listed (To Global m n) =
      let one = counted_filter (is_strong m.0 n) rows.globals.strong ∙ ap length (stands.globals.strong m.0 n)
      ∙ strong_rows_once m.0 n (globals.strong p.globals m.0 n) in
      let all = in_three (To Global m n) 0 _ 0 (counted_none rows.locals.locals) one (counted_none rows.globals.weak) in
      omega arith
  all_listed (To Weak m n) =
      let one = counted_filter (is_weak m.0 n) rows.globals.weak ∙ ap length (stands.globals.weak m.0 n)
      ∙ weak_rows_once m.0 n (globals.weak_target p.globals m.0 n) in
      let all = in_three (To Weak m n) 0 0 _ (counted_none rows.locals.locals) (counted_none rows.globals.strong) one in
      omega arith

  -- in whatever order
  pub listed_in_order : (refs : List Ref) → IsPermutation (refs_of rows) refs → ListsRefs p refs
  listed_in_order refs moved r = how_many-reordered (λ q. same_ref q r) (refs_of rows) refs moved ∙ all_listed r

  -- ---- buffers

  pub buffers_listed : ListsBuffers p (map name_of rows.buffers.lent)
  buffers_listed m n =
      how_many-map (λ (b : BufId). is_same m n b.maker.0 b.n) name_of rows.buffers.lent ∙ counted_filter (is_buffer m n) rows.buffers.lent
      ∙ ap length (stands.buffers m n)
      ∙ once (opened p.buffers m n)
    where
      once : (b : Option Buffer) → length (buffer_standing.rows_of p.buffers m n b) ≡ once_if (is_some b)
      once None = refl
      once (Some b) = refl

  pub buffers_in_order : (lent : List BufId) → IsPermutation (map name_of rows.buffers.lent) lent → ListsBuffers p lent
  buffers_in_order lent moved m n =
      how_many-reordered (λ (b : BufId). is_same m n b.maker.0 b.n) (map name_of rows.buffers.lent) lent moved ∙ buffers_listed m n

  -- ---- monitors

  -- each list that has of each object what the rows have
  pub monitors_listed : (listed : List OwnedMonitor)
      → ((o : ℕ) → filter (λ m. m.object.0 == o) listed ≡ map owned_monitor (filter (is_of o) rows.monitors.owned))
      → ListsMonitors p listed
  monitors_listed listed same o = same o ∙ ap (map owned_monitor) (stands.monitors.owned o) ∙ one (monitors.owner p.monitors o)
    where
      one : (t : Option ℕ) → map owned_monitor (monitor_standing.rows_of p.monitors o t) ≡ monitor_owned p o t
      one None = refl
      one (Some t) = refl
