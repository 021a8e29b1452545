-- The words of the chunks so far are put.
use Rattle.std.proofs.Common.{take, map, w32}
use Rattle.std.specs.Int.{from_le_bytes}
use Rattle.log_writes.specs.Parts.{Written}
use Rattle.study_text.proofs.words_of.Given as goal

abbrev pub invariant-loop-four : goal.invariant-loop-four
invariant-loop-four l = Written l.initial.words (map (from_le_bytes w32) (take l.four-index l.fours)) l.words
