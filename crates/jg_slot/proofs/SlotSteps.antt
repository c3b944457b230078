-- A struct whose one field is a raw pointer, and what it owns beside it: nothing, or a box. Assumes `Logic`.
--     one, one_typed, ptr_typed     the struct's machine value at a pointer, and that it has its type
--     Ones, one_in, one_out         the struct's row, its field alone
--     either_held                   what a slot owns, by cases
--     held_keyless                  it says the same to every thread, if the value does
use Rattle.std.proofs.Common.{◌≡◌, ℕ, List, [], ◌∷◌, ◌++◌, refl, subst, lit<}
use lib.Dec.{T}
use seplogic.Ra.Ura.{Ura}
use base.Fraction.{full_share}
use mir.Syntax.{Sym, ty_ptr, ty_struct, tnil, tcons}
use mir.Raw.{raw as bare}
use mir.Val.{Val, vstruct, vcons, vnil, of_list, has_ty, WT}
use base.Shift.{Keyless}
use base.Logic.{SProp, ent, via, snd∗, fst∗, never, guard, guard_i}
use types.Logic.{Logic, sem}
use types.Kit.{Item, Goal, Seq, Step, step, ‵, given, ◌$◌, drop, use1, learn, fsplit, fjoin, fpick, fpack, feq_i, feq_l}
use contract.Monad.{fact_use}
use denote.RattleType.{RattleType, Valss}
use denote.Builtin.{RawPtr}
use denote.Memory.{lone}
use denote.Param.Send.{IsSend, part_keyless}
use denote.RawPtr.{Ptr, block_ptr, null_ptr, ptr_val, in_a_block, lies_at, Testable}
use denote.Steps.{nothing}
use denote.Struct.Struct.{Struct, within}
use Rattle.std.specs.Prelude.{Option, Some, None}
use Rattle.std.specs.Box.Ownership.{box_owns}
use Rattle.std.proofs.GlobalToken.{dealloc_token-Testable}
use Rattle.std.proofs.Crossing.{frees}
use Rattle.jg_slot.specs.Held.{held, the_heap, to_free}

abbrev pub one : Ptr → Val
one p = vstruct (vcons (ptr_val p) vnil)

pub one_typed : (ν : Sym) (p : Ptr) → T (has_ty (ty_struct ν (tcons ty_ptr tnil)) (one p)) × WT (one p)
one_typed ν (block_ptr b o) = (tt, (tt, tt))
one_typed ν null_ptr = (tt, (record { fits = lit< tt }, tt))

pub ptr_typed : (p : Ptr) → T (has_ty ty_ptr (ptr_val p)) × WT (ptr_val p)
ptr_typed (block_ptr b o) = (tt, tt)
ptr_typed null_ptr = (tt, record { fits = lit< tt })

abbrev pub Ones : RattleType
Ones = Struct (record { name = []; args = []; types = []; fields = RawPtr ∷ [] })

module _ {M : Type 1} {𝓤 : Ura M} {𝓛 : Logic 𝓤} {K : Type 0} {Γ : List (Item 𝓤)} {G : Goal 𝓤 𝓛.H} where
  pub one_in : K → (p : Ptr) → Step K 𝓛 (‵ (Ones.own_val (p, tt) (one p ∷ [])) ∷ Γ) G Γ G
  one_in t p = step (λ s. nothing t $ feq_i t (List Val) (ptr_val p ∷ []) (ptr_val p ∷ []) refl $ fjoin t $ feq_i t (List Val) (one p ∷ [])
      (one p ∷ []) refl $ fjoin t $
      fpack t (Valss (RawPtr ∷ [])) (within (record { name = []; args = []; types = []; fields = RawPtr ∷ [] }) (p, tt) (one p ∷ [])) (ptr_val p ∷ [], tt) $ s)

  pub one_out : K → (p : Ptr) (vs : List Val) → (vs ≡ one p ∷ [] → Seq K 𝓛 Γ G) → Seq K 𝓛 (‵ (Ones.own_val (p, tt) vs) ∷ Γ) G
  one_out t p vs k = fpick t (λ vss. fsplit t $ feq_l t (λ ev. fsplit t $ feq_l t (λ ep. drop t $
      k (subst (λ (ps : List Val). vs ≡ vstruct (of_list (ps ++ [])) ∷ []) ep ev))))

module _ {M : Type 1} {𝓤 : Ura M} (𝓛 : Logic 𝓤) (R : RattleType) where
  tested : (p : Ptr) (x : R.Denot) → ent 𝓤 (sem 𝓛 (box_owns to_free R p x)) (guard 𝓤 (Testable p) (sem 𝓛 (box_owns to_free R p x)))
  tested p x = let B : SProp 𝓤 = sem 𝓛 (box_owns to_free R p x) in
      fact_use 𝓤 (Testable p) (via 𝓤 _ (snd∗ 𝓤 (sem 𝓛 (lies_at R full_share p x)) (sem 𝓛 (to_free (bare (lone R.mir)) p)))
      (dealloc_token-Testable 𝓛 the_heap (bare (lone R.mir)) p)) (guard_i 𝓤 (Testable p) B)

module _ (R : RattleType) {M : Type 1} {𝓤 : Ura M} {𝓛 : Logic 𝓤} {K : Type 0} {Γ : List (Item 𝓤)} {G : Goal 𝓤 𝓛.H} where
  pub either_held : K → (p : Ptr) (v : Option R.Denot) → (p ≡ null_ptr → v ≡ None → Seq K 𝓛 Γ G)
      → ((b o : ℕ) (x : R.Denot) → p ≡ block_ptr b o → v ≡ Some x → Testable (block_ptr b o) → Seq K 𝓛 (‵ (box_owns to_free R (block_ptr b o) x) ∷ Γ) G)
      → Seq K 𝓛 (‵ (held R p v) ∷ Γ) G
  either_held t p None none some = feq_l t (λ e. none e refl)
  either_held t p (Some x) none some = in_a_block t p (λ p. box_owns to_free R p x) (fst∗ 𝓤 (never 𝓤) (sem 𝓛 (to_free (bare (lone R.mir)) null_ptr))) (λ b o e.
      use1 𝓛 (given (Testable (block_ptr b o)) (‵ (box_owns to_free R (block_ptr b o) x))) (tested 𝓛 R (block_ptr b o) x) $ learn t
      (λ may. some b o x e refl may))

pub held_keyless : (R : RattleType) → IsSend R → (p : Ptr) (v : Option R.Denot) → Keyless (held R p v)
held_keyless R s p None = tt
held_keyless R s (block_ptr b o) (Some x) = (part_keyless R s full_share x b o, frees.frees the_heap (bare (lone R.mir)) (block_ptr b o))
held_keyless R s null_ptr (Some x) = (tt, frees.frees the_heap (bare (lone R.mir)) null_ptr)
