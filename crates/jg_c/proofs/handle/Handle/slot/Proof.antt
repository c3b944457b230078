-- A handle and a slot of a session are one in memory.
use Rattle.std.proofs.Common.{ℕ, List, [], ◌∷◌, ◌++◌, refl, sym, subst}
use seplogic.Ra.Ura.{Ura}
use mir.Syntax.{named}
use mir.Val.{Val, vptr}
use base.Fraction.{full_share}
use base.Logic.{SProp, ent, sep, id⊢, fst∗}
use base.Fml.{GName, ftrue, fsep, flft}
use prog.Wp.{WpFn}
use types.Logic.{Logic, sem}
use types.Kit.{‵, raw, ◌⊛◌, some, later, at_ret, ◌$◌, ◌∵◌, !, qed, move, keep, join, split, split3, group, fsplit, fsplit3, fjoin, fpack, pick, frame, await, use1, suffices, done}
use types.Run.{stop, addr, of_opd, first, blocks, exec, returns, enter}
use types.ByLocal.{alloc_all, pass_all, free_all, look_at, get, through, sets, sets_last, env}
use contract.Running.{tables}
use denote.Exit.{no}
use denote.Memory.{mem, cell_at, part_of}
use denote.RattleType.{RattleType}
use denote.Ref.{MutRef, mut_Tells}
use denote.Signature.{plain, mut_ref_to}
use denote.Steps.{nothing, opens}
use denote.Follow.{follows, lends_Part}
use denote.Triple.Walked.{says, Stays, stay_dropped, Goes-spent_ref, walk_of, ends_at}
use Rattle.std.proofs.alloc.Shapes.{after}
use Rattle.std.proofs.raw_atomic.Walks.{proved_at}
use Rattle.jg_c.specs.Lending.{of_slot}
use Rattle.jg_c.specs.contracts.session.Session as session
use Rattle.jg_slot.specs.contracts.slot.Slot as slot
use Rattle.jg_c.specs.contracts.handle.Handle as handle
use Rattle.jg_c.specs.contracts.handle.Handle.slot as f
use Rattle.jg_c.proofs.handle.Handle.slot.Statement.{statement}
use Rattle.jg_c.proofs.handle.Handle.slot.Code as code

abbrev H : RattleType
H = handle.the_row

abbrev S : RattleType
S = slot.the_row session.the_row

abbrev stayed : Stays f.ended.signature.params f.ended.kept
stayed = (stay_dropped (mut_ref_to (0 ∷ []) tt (plain (λ _. H))) no, tt)

back : {M : Type 1} {𝓤 : Ura M} (𝓛 : Logic 𝓤) (b o : ℕ) (w : S.Denot)
    → ent 𝓤 (sep 𝓤 (sem 𝓛 ((mem S).own_at w b o)) (sem 𝓛 ftrue)) (sem 𝓛 ((mem H).own_at (of_slot w) b o))
unfolding part_of
back {𝓤 = 𝓤} 𝓛 b o w = fst∗ 𝓤 (sem 𝓛 ((mem H).own_at (of_slot w) b o)) (sem 𝓛 ftrue)

pub slot_spec : {M : Type 1} → statement M
unfolding part_of
slot_spec 𝓤 𝓛 𝓜 𝓡 wired =
    let c = f.clauses 𝓛 𝓜.mem 𝓡.returns in let 𝓣 = tables 𝓤 𝓛.H 𝓜 𝓡 𝓡.env in let fn = code.function in
    proved_at 𝓛 f.ended stayed c 𝓜 𝓡 (Goes-spent_ref 𝓛 1 (0 ∷ []) tt (plain (λ _. H)), tt) f.Key.name fn (code.unfolded 𝓤 𝓛.H 𝓜 𝓡 wired) (λ z are.
    let κ = z.0.0.0 in let q = z.0.1.0 in let a = z.0.3.0 in let b = a.ref_ptr.0 in let o = a.ref_ptr.1 in let h = a.now in let γ = a.ghost_name in
    let Post : Val → SProp 𝓤 = (walk_of 𝓛 f.ended stayed c).post z in let Run : List Val → SProp 𝓤 = λ ws. WpFn 𝓤 𝓛.H 𝓣.C 𝓣.Λ fn ws Post in
    let s : S.Denot = record { at = h.at; value = h.value } in let Lent : RattleType = MutRef (named 0) κ S in let es = mut_Tells (named 0) κ H a z.0.4.0 are.0
    in
    qed 𝓛 (((‵ (flft κ q) ⊛ ‵ ftrue) ⊛ ‵ (fsep ((MutRef (named 0) κ H).own_val a z.0.4.0) ftrue)) ∷ raw ((c z.0.0 z.0.3).requires z.1) ∷ []) ∵
    split ! $ split ! $ move ! (2 ∷ []) $ fsplit ! $ keep ! (0 ∷ 2 ∷ []) $
    -- [the reference; its token]
    suffices ! (Run (vptr b o ∷ [])) (subst (λ (ws : List Val). ent 𝓤 (Run (vptr b o ∷ [])) (Run ws)) (sym (λ i. es i ++ [])) (id⊢ 𝓤 (Run (vptr b o ∷ [])))) $
    enter ! 𝓣.C 𝓣.Λ fn (vptr b o ∷ []) Post $ alloc_all ! (λ l. pass_all ! refl ((tt, tt), tt) $ let Ev = env fn.locals l in
    sets ! (addr ! (through ! refl (stop !))) refl (tt, tt) $ first ! $ blocks ! $ sets ! (of_opd ! (get ! refl)) refl (tt, tt) $ sets_last !
    (addr ! (through ! refl (stop !))) refl (tt, tt) $
    exec ! 𝓣.C 𝓣.Λ Ev (after 2 fn.body) (at_ret Ev Post) $ sets ! (of_opd ! (get ! refl)) refl (tt, tt) $
    fsplit3 ! $ move ! (1 ∷ 2 ∷ 3 ∷ []) $ opens ! tt H {h = h} b o
    (λ ms. fjoin ! $ fpack ! (List Val) (λ us. fsep (cell_at full_share S.mir us b o) (S.own_val s us)) ms $
    nothing ! $ move ! (2 ∷ 3 ∷ 4 ∷ 1 ∷ 0 ∷ []) $ group ! 5 $
    use1 𝓛 (later (some (λ (γ' : GName). ‵ (Lent.own_val (record { ref_ptr = (b, o); ghost_name = γ'; now = s }) (vptr b o ∷ [])) ⊛ ‵ (flft κ q) ⊛ ‵
    (follows H S γ γ' of_slot))))
    (lends_Part 𝓛 H S of_slot (named 0) κ q b o b o γ (sem 𝓛 ftrue) (back 𝓛 b o) (H.coded.code h) (H.coded.code h) s) $ await ! tt $ pick ! (λ γ'.
    split3 ! $ sets ! (addr ! (through ! refl (stop !))) refl (tt, tt) $ returns ! (look_at ! 0 refl) $ free_all ! refl $ keep ! (0 ∷ 2 ∷ 1 ∷ []) $
    suffices ! _ (ends_at 𝓛 f.ended stayed c z (vptr b o) (record { ref_ptr = (b, o); ghost_name = γ'; now = s }) (tt, tt) (tt, tt)) $
    nothing ! $ nothing ! $ fjoin ! $ join ! $ nothing ! $ move ! (3 ∷ 0 ∷ []) $ join ! $ join ! $ frame ! $ says ! refl $ done !))))
