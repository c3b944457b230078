-- What is noted of one moment more.
use Rattle.std.proofs.Common.{◌≡◌, List, ◌∷◌, ◌++◌, refl, sym, subst}
use Rattle.std.specs.Prelude.{reverse}
use Rattle.jg_advice.specs.declared.advice.Advice.{Advice}
use Rattle.jg_advice.specs.Advised.{IsAdvised}
use Rattle.jg_advice.specs.Moments.{Moment}
use Rattle.jg_advice.specs.Noted.{IsNoted, Noting}
use Rattle.jg_advice.specs.Standing.{AdviserState}
use Rattle.jg_advice.specs.Told.{AreAdvised, Notes}

pub notes_more : (old new : AdviserState) (x y : Noting) (h : List Moment) (m : Moment) (newer given : List Advice) → new.most ≡ old.most
    → given ≡ newer → IsAdvised old.most m h newer → Notes old.most h x
    → ((older : List Advice) → IsNoted x older → IsNoted y (reverse given ++ older)) → Notes new.most (m ∷ h) y
notes_more old new x y h m newer given most is advised notes noted = record {
  advices = reverse newer ++ notes.advices;
  advised = subst (λ k. AreAdvised k (m ∷ h) (reverse newer ++ notes.advices)) (sym most) (newer, notes.advices, advised, notes.advised, refl);
  noted = subst (λ (l : List Advice). IsNoted y (reverse l ++ notes.advices)) is (noted notes.advices notes.noted);
}
