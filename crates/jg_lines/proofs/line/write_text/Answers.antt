use Rattle.std.proofs.Common.{◌≡◌, ◌≤◌, ◌+◌, ◌++◌, ℕ, List, ◌∙◌, sym, ap, arith, take, drop, length}
use Rattle.std.proofs.KnownBytes.{Appends-trans}
use Rattle.std.proofs.Math.Seq.{take-append-add}
use Rattle.std.proofs.lemmas.List.{take-append-drop, length-take-le}
use Rattle.jg_lines.proofs.line.write_text.Goals as goal

take_step : (text : List ℕ) (i n : ℕ) → i ≤ length text → take i text ++ take n (drop i text) ≡ take (i + n) text
take_step text i n within =
    sym (take-append-add (take i text) (drop i text) n)
    ∙ ap (λ k. take (k + n) (take i text ++ drop i text)) (length-take-le i text within)
    ∙ ap (take (i + n)) (take-append-drop i text)

pub loop-done-preserved : goal.loop-done-preserved
loop-done-preserved g c =
    let wrote = c.in-Ok.ensures in
    let inv = c.loop-done.invariant in
    record {
      written = rw (← take_step c.args.text.now c.loop-done.done c.in-Ok.n inv.within, ← c.split_at.ensures.back)
          (Appends-trans _ _ _ _ _ inv.written wrote.written);
      within = omega (arith, wrote.some, c.split_at.ensures.back_len);
      sound = wrote.sound ∙ inv.sound;
    }
