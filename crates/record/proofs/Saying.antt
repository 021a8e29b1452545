-- What answers say: the call computes, where it is known whether the world is broken and has started. Assumes nothing.
use mathlib.Core.Path.{refl}
use Rattle.layout.specs.Layout.{kind_of, n_of, s_of, v_of}
use Rattle.record_start.specs.Changes.{start}
use Rattle.tape.specs.Tape as Tape
use Rattle.tape.specs.Tape.{decoded}
use Rattle.record.specs.Record.{record_of}
use Rattle.record.specs.Says.{AnswersSay}

pub answers_say : AnswersSay
unfolding record_of decoded Tape.decoded_by kind_of n_of s_of v_of start
answers_say = record {
  refused_0 = λ w words log b. rw b refl;
  refused_1 = λ w log b. rw b refl;
  start = λ w log b s. rw (b, s) refl;
  refused_6 = λ w log b s. rw (b, s) refl;
}
