-- A car passes as many stops as are loaded at most: the two ranges at a seam share none. Assumes nothing.
use mathlib.Core.Path.{◌≡◌}
use mathlib.Core.Bool.{Bool, true, false, ◌&&◌, cond}
use mathlib.Core.List.{List}
use Prim.Native.Nat.{ℕ, ◌-◌, ◌≤◌}
use native.Mathlib.Omega.{arith}
use lib.ListN.{length, take, drop, length-append, length-take}
use lib.Ieee.{Float, binary64, add, sub, lt, le}
use Rattle.float.specs.Float as Float
use Rattle.float.specs.Float.{epsilon}
use Rattle.laws.proofs.Bools.{and_left}
use Rattle.world.specs.declared.Motion.{Motion}
use Rattle.world.specs.World.{stop_position}
use Rattle.world.specs.declared.LineKind.{LineKind}
use Rattle.world.specs.declared.LineKind.TheVariants.{Linear, Loop}
use Rattle.std.specs.declared.option.Option.{Option}
use Rattle.std.specs.declared.option.Option.TheVariants.{None, Some}
use Rattle.stops_sort.specs.Sorted.{sorted_stops}
use Rattle.move_trip.specs.Spans.{range, range_between, seam, span_of, manual_span}
use Rattle.move_trip.specs.declared.span.Span.{Span}
use Rattle.move_trip.specs.declared.Trip.{Trip}
use Rattle.move_trip.specs.declared.Trip.TheVariants.{Rests, Drives, GoesTo, Repositions}
use Rattle.move_turn.specs.Passing.{start_of, end_of, between, emit_range, lo_threshold, passed}
use Rattle.move_turn.specs.Movement.{passed_by}
use Rattle.move_turn.proofs.Counting.{count_grows, start_most, end_most}
use Rattle.move_turn.proofs.Emitting.{without_most}
use Rattle.laws.proofs.Choices.{both, cases}
use Rattle.tick.proofs.Apart.{ends_apart}

module _ (stops : List Float) (n : ℕ) (target : Option ℕ) where
  abbrev ss : List ℕ
  ss = sorted_stops stops n

  -- a range lies between its two places
  range_size : (lo hi : Float) (inclusive : Bool)
      → length (emit_range stops ss target lo hi inclusive) ≤ end_of stops ss (sub binary64 hi epsilon) - start_of stops ss (lo_threshold lo inclusive)
  unfolding emit_range between
  range_size lo hi inclusive =
      both (λ (l : List ℕ). length l ≤ to - from) (le hi (add binary64 lo epsilon)) (omega arith)
      (omega (arith, without_most target (take (to - from) (drop from ss)), length-take (to - from) (drop from ss)))
    where
      from : ℕ
      from = start_of stops ss (lo_threshold lo inclusive)

      to : ℕ
      to = end_of stops ss (sub binary64 hi epsilon)

  -- what is passed after the seam ends where what is passed before it begins
  seam_apart : (old new : Float) → lt new old ≡ true → end_of stops ss (sub binary64 new epsilon) ≤ start_of stops ss (add binary64 old epsilon)
  unfolding end_of start_of
  seam_apart old new h = count_grows _ _ (λ s. ends_apart new old (stop_position stops s) h) ss

  abbrev Fits : Span → Type 0
  Fits span = length (passed span stops ss target) ≤ n

  range_fits : (lo hi : Float) → Fits (range lo hi)
  range_fits lo hi = omega (arith, range_size lo hi false, end_most stops n (sub binary64 hi epsilon))

  seam_fits : (old circumference new : Float) → lt new old ≡ true → Fits (seam old circumference new)
  seam_fits old circumference new h =
      omega (
        arith,
        length-append (emit_range stops ss target old circumference false) (emit_range stops ss target Float.zero new true),
        range_size old circumference false,
        range_size Float.zero new true,
        seam_apart old new h,
        end_most stops n (sub binary64 circumference epsilon),
        start_most stops n (add binary64 old epsilon),
      )

  span_fits : (kind : LineKind) (old new : Float) → Fits (span_of kind old new)
  span_fits Linear old new = both Fits (lt old new) (range_fits old new) (range_fits new old)
  span_fits (Loop circumference headway) old new = cases Fits (lt new old) (seam_fits old circumference new) (λ e. range_fits old new)

  ranges_fit : (old new : Float) → Fits (range_between old new)
  ranges_fit old new = both Fits (le old new) (range_fits old new) (range_fits new old)

  manual_fits : (kind : LineKind) (old new velocity : Float) → Fits (manual_span kind old new velocity)
  manual_fits Linear old new velocity = ranges_fit old new
  manual_fits (Loop circumference headway) old new velocity =
      cases Fits (lt new old && le Float.zero velocity)
      (λ e. seam_fits old circumference new (and_left (lt new old) (le Float.zero velocity) e)) (λ e. ranges_fit old new)

pub passed_fits : (trip : Trip) (kind : LineKind) (stops : List Float) (n : ℕ) (old new : Motion)
    → length (passed_by trip kind stops n old new) ≤ n
passed_fits Rests kind stops n old new = span_fits stops n None kind old.position new.position
passed_fits Drives kind stops n old new = manual_fits stops n None kind old.position new.position new.velocity
passed_fits (GoesTo s) kind stops n old new = span_fits stops n (Some s) kind old.position new.position
passed_fits (Repositions s) kind stops n old new = span_fits stops n (Some s) kind old.position new.position
