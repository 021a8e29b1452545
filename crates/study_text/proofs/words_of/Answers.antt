-- `study_text::words_of`: the words so far and one more, and all of them. Assumes nothing.
use Rattle.std.proofs.Common.{[], ◌<◌, length, w32, arith}
use Rattle.std.proofs.lemmas.List.{take_all, map_more}
use Rattle.std.specs.Int.{from_le_bytes}
use Rattle.log_writes.proofs.Written.{written_also}
use Rattle.study_text.proofs.Keeping.{words_are}
use Rattle.study_text.proofs.words_of.Goals as goal

pub loop-four-preserved : goal.loop-four-preserved
loop-four-preserved c =
    let fours = c.as_chunks.result.0.now in
    let i = c.loop-four.four-index in
    let more : i < length fours = c.loop-four-test.true in
    rw (map_more (from_le_bytes w32) fours i []) (written_also c.loop-four.invariant (rw c.from_le_bytes.ensures at c.put.ensures))

pub returns : goal.returns
returns c =
    let chunks = c.as_chunks.ensures.front in
    let all = rw (take_all c.loop-four.four-index c.as_chunks.result.0.now (omega arith)) at c.loop-four.invariant in
    rw (← words_are c.args.bytes.now, ← chunks) all
