-- The measure of `reduced`: the units that its divisor lacks to be above the size. Assumes nothing.
use Rattle.float.proofs.Division.{need}
use Rattle.float.proofs.remainder.+reduced.Given as goal

abbrev pub decreases-reduced : goal.decreases-reduced
decreases-reduced l = need l.a l.b
