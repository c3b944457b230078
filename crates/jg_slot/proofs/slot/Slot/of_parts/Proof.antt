-- A slot takes over what the parts own.
use Rattle.std.proofs.Common.{List, [], ◌∷◌, ◌++◌, refl, sym, subst}
use mir.Syntax.{a_type, impl, tnil, dnil}
use mir.Val.{Val}
use mir.MapTy.{inst_fn}
use base.Logic.{SProp, ent, id⊢}
use base.Fml.{ftrue, fsep, flft}
use prog.Wp.{WpFn}
use types.Kit.{‵, raw, ◌⊛◌, ◌$◌, ◌∵◌, !, qed, move, keep, join, split, fsplit, fjoin, use1, suffices, done}
use types.Run.{stop, fld, of_opd, no_more, and_then, returns, enter}
use types.ByLocal.{alloc_all, pass_all, free_all, look_at, get, get_in, sets}
use types.Part.{agg, sub, whole}
use contract.Running.{tables}
use denote.Exit.{no}
use denote.RattleType.{RattleType}
use denote.RawPtr.{block_ptr}
use denote.Signature.{plain}
use denote.Steps.{nothing}
use denote.Param.{param, layouts}
use denote.Triple.Walked.{says, Stays, stay_dropped, Goes-dropped, walk_of, ends_at}
use Rattle.std.proofs.raw_atomic.Walks.{proved_at}
use Rattle.std.specs.Prelude.{Some}
use Rattle.std.proofs.BoxSteps.Form.{Bx, D, B, word, box_typed}
use Rattle.std.proofs.BoxSteps.Steps.{box_out}
use Rattle.std.specs.contracts.alloc.Global as heap
use Rattle.std.proofs.alloc.Global.TheLaws as heap_laws
use Rattle.std.specs.contracts.impls.GlobalAllocator.TheImpl.{ghosts}
use Rattle.jg_slot.specs.Held.{held}
use Rattle.jg_slot.specs.contracts.slot.Slot as slot
use Rattle.jg_slot.specs.contracts.parts.Parts as parts
use Rattle.jg_slot.proofs.SlotSteps.{one, one_typed, one_in}
use Rattle.jg_slot.specs.contracts.slot.Slot.of_parts.{ended, clauses}
use Rattle.jg_slot.specs.contracts.slot.Slot.of_parts.Key.{name as #self}
use Rattle.jg_slot.proofs.slot.Slot.of_parts.Statement.{statement}
use Rattle.jg_slot.proofs.slot.Slot.of_parts.Code as code

pub of_parts_spec : {M : Type 1} → statement M
of_parts_spec 𝓤 𝓛 𝓜 𝓡 wired X L =
    let 𝓣 = tables 𝓤 𝓛.H 𝓜 𝓡 𝓡.env in let R : RattleType = param 0 X in let En = ended X in let c = clauses X 𝓛 𝓜.mem 𝓡.returns in
    let inst = layouts (a_type ∷ []) (X, tt) in let fn = inst_fn inst code.function in let S : RattleType = slot.the_row R in
    let E : Bx = record {
      row = X;
      laws = L;
      al =
          record { row = heap.the_row; laws = heap_laws.the_row_laws; g = ghosts; d = impl [] tnil dnil; drops = impl [] tnil dnil };
    } in
    let From : RattleType = parts.the_row R heap.the_row ghosts in
    let hs : Stays En.signature.params En.kept = (stay_dropped (plain (λ _. From)) no, tt) in
    proved_at 𝓛 En hs c 𝓜 𝓡 (Goes-dropped 𝓛 1 (plain (λ _. From)) no (λ κs x f. refl), tt) (#self inst) fn (code.unfolded 𝓤 𝓛.H 𝓜 𝓡 wired (X, tt)) (λ z are.
    let κs = z.0.0 in let qs = z.0.1 in let Post : Val → SProp 𝓤 = (walk_of 𝓛 En hs c).post z in let Run : List Val
    → SProp 𝓤 = λ ws. WpFn 𝓤 𝓛.H 𝓣.C 𝓣.Λ fn ws Post in
    let v = z.0.3.0 in let d : D E = record { ptr = v.ptr; alloc = v.alloc; value = v.value } in
    qed 𝓛 (((‵ (flft κs.0 qs.0) ⊛ ‵ ftrue) ⊛ ‵ (fsep ((B E).own_val d z.0.4.0) ftrue)) ∷ raw ((c κs z.0.3).requires z.1) ∷ []) ∵ split ! $ move !
    (1 ∷ []) $ fsplit ! $
    box_out E ! d z.0.4.0 (λ b o hv e ws fa. fjoin ! $ keep ! (0 ∷ 3 ∷ []) $
    let w = word E hv b o in let made : S.Denot = record { at = block_ptr b o; value = Some v.value } in
    suffices ! (Run (w ∷ [])) (subst (λ (us : List Val). ent 𝓤 (Run (w ∷ [])) (Run us)) (sym (λ i. ws i ++ [])) (id⊢ 𝓤 (Run (w ∷ [])))) $
    enter ! 𝓣.C 𝓣.Λ fn (w ∷ []) Post $ alloc_all ! (λ l. pass_all ! refl (box_typed E hv b o fa, tt) $
    sets ! (of_opd ! (get_in ! (fld ! refl (stop !)) (sub ! 0 refl (whole !)))) refl (tt, tt) $
    sets ! (agg ! (and_then ! (get ! refl) (no_more !))) refl (one_typed [] (block_ptr b o)) $ returns ! (look_at ! 0 refl) $ free_all ! refl $
    suffices ! _ (ends_at 𝓛 En hs c z (one (block_ptr b o)) made (tt, tt) (tt, tt)) $ says ! refl $
    use1 𝓛 (‵ (held R (block_ptr b o) (Some v.value))) (id⊢ 𝓤 _) $ one_in ! (block_ptr b o) $ fjoin ! $
    nothing ! $ nothing ! $ fjoin ! $ join ! $ move ! (1 ∷ 0 ∷ []) $ join ! $ done !)))
