-- `study_pieces::play_words` meets its contract: a turn is the definition's next record, by what the two calls give,
-- and it leaves fewer words or is the last; where the test fails the definition stops too. Assumes nothing.
use Rattle.std.proofs.Common.{◌+◌, ◌≤◌, [], length, None, arith}
use Rattle.study_pieces.proofs.Going.{here, Going, going, stepped, fewer, turn, reached, rest_of}
use Rattle.study_pieces.specs.declared.Study.{Study}
use Rattle.study_pieces.proofs.play_words.Goals as goal
use Rattle.study_pieces.proofs.play_words.Goals.{After-unwrap_or-from}

pub loop-refusal-init : goal.loop-refusal-init
loop-refusal-init c =
    let a = c.args in
    (c.requires.words, omega arith, going a.ended a.piece.now a.log.now a.out.now a.study.now c.requires.empty c.told-log)

-- a turn of the loop goes on, and uses no word past the end
next : (c : After-unwrap_or-from) → Study
next c = record { world = c.record_in_place-answer.new.world; counts = c.put_answer-used.new.counts; place = c.put_answer-used.new.place; over = c.is_err-study.result }

goes_next : (c : After-unwrap_or-from) → let l = c.loop-refusal in let n = c.unwrap_or-from.result in
    (l.from + n ≤ length c.args.words.now)
    × Going c.args.ended (here c.args.study.now c.args.log.now c.args.piece.now 0 [] None) c.args.piece.now c.args.out.now c.record_in_place-answer.new.log c.put_answer-used.new.out (next c) (l.from + n) c.err-refusal.result
unfolding next
goes_next c =
    let a = c.args in
    let l = c.loop-refusal in
    let o = rw (rest_of a.piece.now a.words.now l.from l.invariant.0) at c.record_in_place-answer.ensures in
    let g = turn a.ended a.piece.now l.log l.study l.from l.refusal _ a.out.now l.out _ _ _ _ _ l.invariant.2
    (rw (← l.invariant.0, ← c.has_next_record.ensures) c.loop-refusal-test.true)
    o.log
    (stepped o c.put_answer-used.ensures c.is_err-study.ensures.value c.err-refusal.ensures.value c.unwrap_or-from.ensures) in
    (rw l.invariant.0 g.within, g)

pub loop-refusal-preserved : goal.loop-refusal-preserved
unfolding next
loop-refusal-preserved c = let n = goes_next c in (c.loop-refusal.invariant.0, n.0, n.1)

pub overflow_add-from : goal.overflow_add-from
overflow_add-from c = omega (arith, (goes_next c).0)

pub loop-refusal-smaller : goal.loop-refusal-smaller
loop-refusal-smaller c =
    let a = c.args in
    let l = c.loop-refusal in
    fewer a.ended a.piece.now l.log l.study l.from l.out.at _ _ _ l.out _
    (rw (← l.invariant.0, ← c.has_next_record.ensures) c.loop-refusal-test.true)
    l.invariant.2.within
    (stepped (rw (rest_of a.piece.now a.words.now l.from l.invariant.0) at c.record_in_place-answer.ensures) c.put_answer-used.ensures c.is_err-study.ensures.value c.err-refusal.ensures.value c.unwrap_or-from.ensures)

pub returns : goal.returns
returns c =
    let a = c.args in
    let l = c.loop-refusal in
    reached a.ended _ a.piece.now a.out.now l.log l.out l.study l.from l.refusal l.invariant.2 (rw (← l.invariant.0, ← c.has_next_record.ensures) c.loop-refusal-test.false)
