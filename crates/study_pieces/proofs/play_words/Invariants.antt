-- The loop keeps: from here the definition comes to what it comes to from the piece's start; the words used are there
-- and the text has room. It ends: each turn leaves fewer words, or is the last.
use Rattle.std.proofs.Common.{◌≡◌, ◌≤◌, [], length, None}
use Rattle.study_text.specs.Text.{words_of}
use Rattle.study_pieces.proofs.Going.{here, left, Going}
use Rattle.study_pieces.proofs.play_words.Given as goal

abbrev pub invariant-loop-refusal : goal.invariant-loop-refusal
invariant-loop-refusal l =
    (l.words ≡ words_of l.piece) × (l.from ≤ length l.words)
    × Going l.ended (here l.initial.study l.initial.log l.piece 0 [] None) l.piece l.initial.out l.log l.out l.study l.from l.refusal

abbrev pub decreases-loop-refusal : goal.decreases-loop-refusal
decreases-loop-refusal l = left l.piece l.from l.study.over
