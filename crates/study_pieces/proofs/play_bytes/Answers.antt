-- `study_pieces::play_bytes` meets its contract: 16,384 bytes have no more words than the buffer's 4,096, so its first
-- `count` are all of them, as `study_pieces::play_words` asks. Assumes nothing.
use Rattle.std.proofs.Common.{rules, arith}
use lib.ListN.{length-replicate}
use Rattle.log_writes.proofs.Writing.{wrote_taken}
use Rattle.study_pieces.proofs.Sizes.{words_few}
use Rattle.study_pieces.proofs.play_bytes.Goals as goal

pub play_words-requires-clause-words : goal.play_words-requires-clause-words
play_words-requires-clause-words c =
    let all = c.words_of.ensures in
    let from = c.new-read.ensures in
    let taken = wrote_taken (rw (from.items, from.at) at all.wrote) (simp length-replicate (omega (arith, c.requires.few, words_few c.args.bytes.now))) in
    search (rules, taken, all.slice, from.slice)
