-- The value is lent where there is one, and the slot follows it.
use Rattle.std.proofs.Common.{◌≡◌, ℕ, List, [], ◌∷◌, ◌++◌, refl, sym, ap, subst, lit<}
use seplogic.Ra.Ura.{Ura}
use mir.Syntax.{a_type, named}
use mir.MapTy.{inst_fn}
use mir.Raw.{raw as bare}
use mir.Val.{Val, vptr, vcons, vnil}
use base.Fraction.{full_share}
use base.Logic.{SProp, ent, sep, id⊢}
use base.Fml.{Fml, GName, ftrue, fsep, flft, fres}
use prog.Wp.{WpFn}
use types.Logic.{Logic, sem}
use types.Kit.{‵, raw, ◌⊛◌, some, later, at_ret, ◌$◌, ◌∵◌, !, qed, move, keep, join, split, split3, group, fsplit, fsplit3, fjoin, fpack, pick, feq_i, frame, rewrite, await, use0, use1, suffices, done}
use types.Run.{stop, fld, load, addr, lit, of_opd, bin, no_more, and_then, first, blocks, branches, skips, exec, returns, returns_within, enter}
use types.ByLocal.{alloc_all, pass_all, free_all, look_at, get, through, sets, sets_last, is, env}
use types.Part.{agg, sub, whole, look_in}
use types.Match.{live}
use contract.Running.{tables}
use denote.Exit.{no}
use denote.Memory.{mem, lone, cell_at, part_at, part_of}
use denote.Param.{param, layouts}
use denote.RattleType.{RattleType}
use denote.RawPtr.{Ptr, block_ptr, null_ptr, ptr_val, tests_null}
use denote.Ref.{MutRef, MutBor, mut_Tells}
use denote.Signature.{plain, mut_ref_to}
use denote.Steps.{nothing, opens, closes}
use denote.Follow.{follows, follows_by, lends_Part}
use denote.Triple.Walked.{says, Stays, stay_dropped, Goes-spent_ref, walk_of, ends_at}
use Rattle.std.proofs.alloc.Shapes.{after}
use Rattle.std.proofs.option.Made.{Some-of, none_of}
use Rattle.std.proofs.raw_atomic.Walks.{proved_at}
use Rattle.std.specs.Prelude.{Option, Some, None}
use Rattle.std.specs.contracts.option.Option as OP
use Rattle.jg_slot.specs.Held.{held, to_free}
use Rattle.jg_slot.specs.LendingSlot.{with_value}
use Rattle.jg_slot.specs.contracts.slot.Slot as slot
use Rattle.jg_slot.proofs.SlotSteps.{one, ptr_typed, one_in, one_out, either_held}
use Rattle.jg_slot.specs.contracts.slot.Slot.get_mut.{ended, clauses}
use Rattle.jg_slot.specs.contracts.slot.Slot.get_mut.Key.{name as #self}
use Rattle.jg_slot.proofs.slot.Slot.get_mut.Statement.{statement}
use Rattle.jg_slot.proofs.slot.Slot.get_mut.Code as code

-- all of the slot but its value
module _ (X : RattleType) where
  abbrev R : RattleType
  R = param 0 X

  abbrev H : RattleType
  H = slot.the_row R

  abbrev Rest : H.Denot → ℕ → ℕ → ℕ → ℕ → Fml
  Rest h rb ro b o = fsep (to_free (bare (lone R.mir)) (block_ptr b o)) (cell_at full_share H.mir (one h.at ∷ []) rb ro)

  back : {M : Type 1} {𝓤 : Ura M} (𝓛 : Logic 𝓤) (h : H.Denot) (rb ro b o : ℕ) → h.at ≡ block_ptr b o → (w : R.Denot)
      → ent 𝓤 (sep 𝓤 (sem 𝓛 ((mem R).own_at w b o)) (sem 𝓛 (Rest h rb ro b o))) (sem 𝓛 ((mem H).own_at (with_value h w) rb ro))
  unfolding part_of
  back {𝓤 = 𝓤} 𝓛 h rb ro b o e w =
      qed 𝓛 (‵ (part_at R full_share w b o) ∷ ‵ (Rest h rb ro b o) ∷ []) ∵ move ! (1 ∷ []) $ fsplit ! $ move ! (2 ∷ 0 ∷ []) $ fjoin ! $
      use1 𝓛 (‵ (held R (block_ptr b o) (Some w))) (id⊢ 𝓤 _) $ rewrite ! 0 (λ (p : Ptr). ‵ (held R p (Some w))) (sym e) refl $ one_in ! h.at $ fjoin ! $ move !
      (1 ∷ 0 ∷ []) $ fjoin ! $
      fpack ! (List Val) (λ us. fsep (cell_at full_share H.mir us rb ro) (H.own_val (with_value h w) us)) (one h.at ∷ []) $ done !

pub get_mut_spec : {M : Type 1} → statement M
unfolding follows_by
get_mut_spec 𝓤 𝓛 𝓜 𝓡 wired X L =
    let inst = layouts (a_type ∷ []) (X, tt) in let fn = inst_fn inst code.function in let c = clauses X 𝓛 𝓜.mem 𝓡.returns in let 𝓣 = tables 𝓤 𝓛.H 𝓜 𝓡 𝓡.env in
    let R : RattleType = param 0 X in let H : RattleType = slot.the_row R in let En = ended X in let hs : Stays En.signature.params En.kept =
    (stay_dropped (mut_ref_to (0 ∷ []) tt (plain (λ _. H))) no, tt) in
    proved_at 𝓛 En hs c 𝓜 𝓡 (Goes-spent_ref 𝓛 2 (0 ∷ []) tt (plain (λ _. H)), tt) (#self inst) fn (code.unfolded 𝓤 𝓛.H 𝓜 𝓡 wired (X, tt)) (λ z are.
    let κ = z.0.0.0 in let q = z.0.1.0 in let a = z.0.3.0 in let rb = a.ref_ptr.0 in let ro = a.ref_ptr.1 in let h = a.now in let γ = a.ghost_name in
    let Post : Val → SProp 𝓤 = (walk_of 𝓛 En hs c).post z in let Run : List Val → SProp 𝓤 = λ ws. WpFn 𝓤 𝓛.H 𝓣.C 𝓣.Λ fn ws Post in
    let Cell = λ (ws : List Val). ‵ (cell_at full_share H.mir ws rb ro) in let Lent : RattleType = MutRef (named 0) κ R in
    let es = mut_Tells (named 0) κ H a z.0.4.0 are.0 in
    qed 𝓛 (((‵ (flft κ q) ⊛ ‵ (flft z.0.0.1.0 z.0.1.1.0) ⊛ ‵ ftrue) ⊛ ‵ (fsep ((MutRef (named 0) κ H).own_val a z.0.4.0) ftrue))
    ∷ raw ((c z.0.0 z.0.3).requires z.1) ∷ []) ∵
    split ! $ split ! $ move ! (2 ∷ []) $ fsplit ! $ keep ! (0 ∷ 2 ∷ 3 ∷ []) $
    -- [the reference; its token; the other tokens]
    suffices ! (Run (vptr rb ro ∷ []))
    (subst (λ (ws : List Val). ent 𝓤 (Run (vptr rb ro ∷ [])) (Run ws)) (sym (λ i. es i ++ [])) (id⊢ 𝓤 (Run (vptr rb ro ∷ [])))) $
    enter ! 𝓣.C 𝓣.Λ fn (vptr rb ro ∷ []) Post $ alloc_all ! (λ l. pass_all ! refl ((tt, tt), tt) $ let Ev = env fn.locals l in
    fsplit3 ! $ move ! (1 ∷ 2 ∷ 3 ∷ []) $ opens ! tt H {h = h} rb ro (λ ms. move ! (1 ∷ []) $ fsplit ! $ one_out ! h.at ms (λ ev. rewrite ! 1 Cell ev refl $
    -- [what the handle owns; its cell; the open borrow, in three entries; the reference's first part]
    either_held R ! h.at h.value
    (λ e eq.
    sets ! (is ! (of_opd ! (load ! (through ! refl (fld ! refl (stop !))) (look_in ! 0 (sub ! 0 refl (whole !))))) (ap ptr_val e)) refl (ptr_typed null_ptr) $
    sets ! (bin ! (get ! refl) (lit ! tt) tt) refl (tt, tt) $ first ! $ branches ! (get ! refl)
    (λ _. sets ! (agg ! (and_then ! (lit ! tt) (no_more !))) refl (tt, (record { fits = lit< tt }, tt)) $
    feq_i ! Ptr h.at null_ptr e $ use1 𝓛 (‵ (held R h.at None)) (id⊢ 𝓤 _) $ rewrite ! 0 (λ (v : Option R.Denot). ‵ (held R h.at v))
    (sym eq) refl $ one_in ! h.at $ fjoin ! $
    move ! (1 ∷ 0 ∷ []) $ closes ! tt H h (one h.at ∷ []) rb ro $
    use1 𝓛 (‵ (fres γ (H.coded.code h))) (𝓛.names.obs-res γ (H.coded.code h)) $ use0 𝓛 (‵ ((OP.the_row Lent).own_val None (live 0 vnil ∷ [])))
    (none_of 𝓛 Lent) $
    returns_within ! Post refl (look_at ! 0 refl) $ free_all ! refl $ keep ! (0 ∷ 1 ∷ 3 ∷ 5 ∷ []) $
    suffices ! _ (ends_at 𝓛 En hs c z (live 0 vnil) None (tt, tt) (tt, tt)) $
    nothing ! $ nothing ! $ fjoin ! $ join ! $ move ! (2 ∷ 3 ∷ []) $ join ! $ join ! $ frame ! $ says ! eq $ done !)
    (λ wrong. absurd wrong))
    (λ b o x e eq may.
    let v₁ : Val = live 1 (vcons (vptr b o) vnil) in
    sets ! (is ! (of_opd ! (load ! (through ! refl (fld ! refl (stop !))) (look_in ! 1 (sub ! 0 refl (whole !))))) (ap ptr_val e)) refl (tt, tt) $
    sets ! (bin ! (get ! refl) (lit ! tt) (tests_null (block_ptr b o) may)) refl (tt, tt) $ first ! $ branches ! (get ! refl) (λ wrong. absurd wrong)
    (λ _. skips ! $ exec ! 𝓣.C 𝓣.Λ Ev (after 3 fn.body) (at_ret Ev Post) $ first ! $ blocks ! $ sets_last ! (addr ! (through ! refl (stop !))) refl (tt, tt) $
    exec ! 𝓣.C 𝓣.Λ Ev (after 4 fn.body) (at_ret Ev Post) $ sets ! (of_opd ! (get ! refl)) refl (tt, tt) $ sets ! (addr ! (through ! refl (stop !))) refl
    (tt, tt) $
    sets ! (agg ! (and_then ! (lit ! tt) (and_then ! (get ! refl) (no_more !)))) refl (tt, (record { fits = lit< tt }, (tt, tt))) $
    fsplit ! $ move ! (1 ∷ 2 ∷ []) $ fjoin ! $ move ! (2 ∷ 3 ∷ 4 ∷ 1 ∷ 0 ∷ []) $ group ! 5 $
    use1 𝓛 (later (some (λ (γ' : GName). ‵ (Lent.own_val (record { ref_ptr = (b, o); ghost_name = γ'; now = x }) (vptr b o ∷ [])) ⊛ ‵ (flft κ q) ⊛ ‵
    (follows H R γ γ' (with_value h)))))
    (lends_Part 𝓛 H R (with_value h) (named 0) κ q rb ro b o γ (sem 𝓛 (Rest X h rb ro b o)) (back X 𝓛 h rb ro b o e) (H.coded.code h) (H.coded.code h) x) $
    await ! tt $ pick ! (λ γ'.
    let r : MutBor R.Denot = record { ref_ptr = (b, o); ghost_name = γ'; now = x } in
    split3 ! $ use1 𝓛 (‵ ((OP.the_row Lent).own_val (Some r) (v₁ ∷ []))) (Some-of 𝓛 Lent r (vptr b o)) $
    returns ! (look_at ! 0 refl) $ free_all ! refl $ keep ! (0 ∷ 2 ∷ 1 ∷ 4 ∷ []) $
    suffices ! _ (ends_at 𝓛 En hs c z v₁ (Some r) (tt, tt) (tt, tt)) $
    nothing ! $ nothing ! $ fjoin ! $ join ! $ move ! (2 ∷ 3 ∷ []) $ join ! $ join ! $ frame ! $ says ! eq $ done !)))))))
