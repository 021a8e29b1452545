-- `float::abs` meets its contract: 0 - x is x with its sign turned (+0 of a zero), and the test takes of the two the
-- one without a sign, at each case of x. Assumes nothing.
use Rattle.float.proofs.Rounding.{abs_taken, abs_left}
use Rattle.float.proofs.abs.Goals as goal

pub returns-then-x-y : goal.returns-then-x-y
returns-then-x-y c = abs_taken c.args.x c.well_formed.0.1 c.if-x-y.true

pub returns-else-x-y : goal.returns-else-x-y
returns-else-x-y c = abs_left c.args.x c.well_formed.0.1 c.if-x-y.false
