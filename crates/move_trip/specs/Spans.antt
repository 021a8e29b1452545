-- What a tick sweeps over: systems/movement.rs, `crossed_seam` in run and in tick_manual.
use Rattle.std.specs.Prelude.{Bool, true, false, ◌&&◌, cond, Float}
use Rattle.std.specs.Float.Ieee.{lt, le}
use Rattle.float.specs.Float as Float
use Rattle.world.specs.declared.LineKind.{LineKind}
use Rattle.world.specs.declared.LineKind.TheVariants.{Linear, Loop}
use Rattle.move_trip.specs.declared.span.Ends.{Ends}
use Rattle.move_trip.specs.declared.span.Span.{Span}
use Rattle.move_trip.specs.declared.span.Span.TheVariants.{Range, Seam}

-- a range above its lower end
abbrev pub above : Float → Float → Ends
above lo hi = record { lo = lo; hi = hi; inclusive = false }

abbrev pub range : Float → Float → Span
range lo hi = Range (above lo hi)

-- a seam's two ranges: to the circle's end, and from 0 on, a stop at 0 too
abbrev pub seam : Float → Float → Float → Span
seam old circumference new = Seam (above old circumference) (record { lo = Float.zero; hi = new; inclusive = true })

-- run, `crossed_seam` and what follows
abbrev pub span_of : LineKind → Float → Float → Span
span_of Linear old new = cond (lt old new) (range old new) (range new old)
span_of (Loop circumference headway) old new = cond (lt new old) (seam old circumference new) (range old new)

-- tick_manual, `crossed_seam` and what follows
abbrev pub range_between : Float → Float → Span
range_between old new = cond (le old new) (range old new) (range new old)

abbrev pub manual_span : LineKind → Float → Float → Float → Span
manual_span Linear old new velocity = range_between old new
manual_span (Loop circumference headway) old new velocity =
    cond (lt new old && le Float.zero velocity) (seam old circumference new) (range_between old new)

-- `moving_up`
abbrev pub moving_up : LineKind → Float → Float → Bool
moving_up Linear old new = lt old new
moving_up (Loop circumference headway) old new = true
