-- `study_step::step` meets its contract, by what was read: of the bytes as many as there is room for, or none; where
-- the read failed the kept bytes stay and one line is put. Assumes nothing.
use Rattle.std.proofs.Common.{◌≡◌, ℕ, ◌+◌, ◌-◌, min, length, length-take, refl, arith}
use Rattle.study_step.specs.Step.{stepped}
use Rattle.study_step.proofs.AtHand.{at_hand, how_many_read, kept_there, kept_again, leaves}
use Rattle.study_step.proofs.step.Goals as goal

all_kept : (n : ℕ) → n + 0 ≡ n
all_kept n = omega arith

pub returns-in-Bytes : goal.returns-in-Bytes
unfolding stepped
returns-in-Bytes c =
    let held = c.args.run.now.held in
    let n = c.in-Bytes.count in
    let count = c.min-count.result in
    let clipped : count ≡ min n (length c.args.piece.now - held) = omega (arith, c.min-count.ensures, c.saturating_sub-room.ensures, c.told-piece) in
    rw (c.in-Bytes.is, how_many_read c.args.piece.now held n count clipped, ← at_hand c.args.piece.now held n count clipped)
    c.play.ensures

pub returns-in-Nothing : goal.returns-in-Nothing
unfolding stepped
returns-in-Nothing c = rw c.in-Nothing.is (rw all_kept at c.play-in-Nothing.ensures)

pub returns-in-Failure : goal.returns-in-Failure
unfolding stepped
returns-in-Failure c =
    let piece = c.args.piece.now in
    let held = c.args.run.now.held in
    let clipped : c.min-run.result ≡ min held (length piece) = omega (arith, c.min-run.ensures, c.told-piece) in
    rw c.in-Failure.is
    (record {
      next = leaves refl refl (kept_again piece held c.min-run.result clipped);
      held = simp length-take clipped;
      kept = kept_there piece held c.min-run.result clipped;
      texts = c.put_failure.ensures;
      printed = refl;
      fits = omega (arith, c.told-out);
      end = refl;
    })
