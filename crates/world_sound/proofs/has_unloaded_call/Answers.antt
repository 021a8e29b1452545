-- `world_sound::has_unloaded_call` meets its contract: below 64 stops the shift is 2 ^ stops; from 64 on no calls,
-- which are below 2 ^ 64, reach that. Assumes nothing.
use mathlib.Core.Path.{sym, ◌∙◌}
use Prim.Native.Nat.{◌^◌}
use native.Mathlib.Omega.{arith}
use lib.Pow.{pow_mono}
use borrow.Author.Tests.{lt-leb, le-ltb}
use Rattle.world_call_sets.proofs.Bits.{bit_of}
use Rattle.world_sound.proofs.has_unloaded_call.Goals as goal

pub returns-then-stops-lt64 : goal.returns-then-stops-lt64
returns-then-stops-lt64 c = rw (bit_of c.args.stops c.if-stops-lt64.true)

pub returns-else-stops-lt64 : goal.returns-else-stops-lt64
returns-else-stops-lt64 c =
    let stops = c.args.stops in
    le-ltb stops 64 c.if-stops-lt64.false
    ∙ sym (lt-leb (2 ^ stops) c.args.calls (omega (arith, pow_mono {i = 64} {j = stops} c.if-stops-lt64.false)))
