-- `doors_calls::clear_matching_hall_calls` meets its contract: the call up, then the call down. Assumes nothing.
use Rattle.log_writes.proofs.Written.{written_also}
use Rattle.doors_calls.proofs.clear_matching_hall_calls.Goals as goal

pub returns : goal.returns
returns c = rw c.in-Some.is (record {
  calls = rw (c.clear_one-up.ensures.calls, c.clear_one-down.ensures.calls);
  written = written_also c.clear_one-up.ensures.written c.clear_one-down.ensures.written;
})
