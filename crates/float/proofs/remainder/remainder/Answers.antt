-- `float::remainder::remainder` meets its contract: it is that of the sizes, with x's sign; x itself where its size is
-- the lesser; and NaN where y is 0, x infinite, or one a NaN. Assumes nothing.
use mathlib.Core.Path.{◌≡◌}
use mathlib.Core.Bool.{true}
use lib.Ieee.{lt, of_bits, div}
use Rattle.float.specs.Float as F64
use Rattle.float.proofs.Division.{less, abs_twice, none, minus, plus}
use Rattle.laws.proofs.Bools.{and_left}
use Rattle.float.proofs.remainder.remainder.Goals as goal

pub returns-then-a-b : goal.returns-then-a-b
returns-then-a-b c = less c.args.x c.args.y c.well_formed.0.1 (rw (← c.abs-a.ensures, ← c.abs-b.ensures) c.if-a-b.true)

pub reduced-r-requires-clause-unsigned : goal.reduced-r-requires-clause-unsigned
reduced-r-requires-clause-unsigned c = rw c.abs-a.ensures (abs_twice c.args.x)

pub returns-then-x : goal.returns-then-x
returns-then-x c = rw (c.reduced-r.ensures, c.abs-a.ensures, c.abs-b.ensures) (minus c.args.x c.args.y c.if-x.true)

pub returns-else-x : goal.returns-else-x
returns-else-x c =
    let x = c.args.x in
    let y = c.args.y in
    let some : lt F64.zero (F64.abs y) ≡ true = rw (← c.abs-b.ensures) (and_left _ _ c.if-b-is_finite.true) in
    rw (c.reduced-r.ensures, c.abs-a.ensures, c.abs-b.ensures) (plus x y (rw (← c.abs-a.ensures, ← c.abs-b.ensures) c.if-a-b.false) some c.if-x.false)

pub returns-else-b-is_finite : goal.returns-else-b-is_finite
unfolding div of_bits
returns-else-b-is_finite c = none c.args.x c.args.y (rw (← c.abs-b.ensures, ← c.abs-a.ensures, ← c.is_finite.ensures) c.if-b-is_finite.false)
