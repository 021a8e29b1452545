-- `tape_fields::body::float_of` meets its contract: a pattern above the infinity's, its sign off, reads as NaN, and the
-- logic has one NaN; any other pattern is no NaN's, as `from_bits` asks. Assumes nothing.
use mathlib.Core.Path.{refl}
use Prim.Native.Nat.{◌+◌, ◌*◌, ◌^◌}
use Rattle.tape_fields.proofs.Floats.{nan_above, number_below}
use Rattle.tape_fields.proofs.body.float_of.Goals as goal

pub returns-then-bits-gt9218868437227405312 : goal.returns-then-bits-gt9218868437227405312
returns-then-bits-gt9218868437227405312 c = nan_above (c.args.high * 2 ^ 32 + c.args.low) c.if-bits-gt9218868437227405312.true

pub float_from_bits-result : goal.float_from_bits-result
float_from_bits-result c = number_below (c.args.high * 2 ^ 32 + c.args.low) c.if-bits-gt9218868437227405312.false

pub returns : goal.returns
returns c = refl
