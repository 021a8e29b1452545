-- `study_step::play` meets its contract: a sum of bytes cut at the largest number still reaches past the piece, so the
-- bytes at hand are the same; a refusal's line stands behind the text and has room. Assumes nothing.
use Rattle.std.proofs.Common.{◌≡◌, ℕ, List, ◌+◌, min, length, length-append, take, sym, ap, ◌∙◌, arith}
use Rattle.log_writes.proofs.Writing.{also, wrote_count, wrote_taken}
use Rattle.study_text.proofs.Keeping.{take_min}
use Rattle.study_step.proofs.AtHand.{leaves}
use Rattle.study_step.proofs.Told.{told_length}
use Rattle.study_pieces.specs.Pieces.{study_state}
use Rattle.study_pieces.specs.Parts.{advanced}
use Rattle.study_pieces.specs.declared.Study.{Study}
use Rattle.study_step.specs.Step.{end_by}
use Rattle.study_step.proofs.play.Goals as goal

-- no place is past the piece's end
same_bytes : (piece : List ℕ) (m n : ℕ) → min m (length piece) ≡ min n (length piece) → take m piece ≡ take n piece
same_bytes piece m n e = sym (take_min m piece) ∙ ap (λ (k : ℕ). take k piece) e ∙ take_min n piece

pub returns : goal.returns
returns c =
    let a = c.args in
    let n = a.run.now.held + a.count in
    let end = c.saturating_add-end.result in
    let cut : min end (length a.piece.now) ≡ min n (length a.piece.now) = omega (arith, c.saturating_add-end.ensures, c.told-piece) in
    let g = rw (same_bytes a.piece.now end n cut) at c.advance-made.ensures in
    let p = advanced a.run.now.ended (study_state a.run.now.study a.log.now (take n a.piece.now)) in
    record {
      next = leaves g.study g.log (wrote_taken g.kept g.kept_fits);
      held = wrote_count g.kept g.kept_fits;
      kept = g.kept;
      texts = also g.text (rw (← ap (λ (s : Study). s.place) g.study, ← g.refusal) c.put_told.ensures);
      printed = wrote_count g.text (omega (arith, g.text_fits, c.told-out));
      fits = rw length-append (omega (arith, g.text_fits, told_length p.place p.refusal, c.told-out));
      end = c.end_of.ensures ∙ ap (λ (s : Study). end_by s.over) g.study;
    }
