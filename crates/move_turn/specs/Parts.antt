-- Parts of the code, cited within the library alone, on which the promise of `record` does not rest: what a car writes
-- and its moves (proofs/Moving.antt has that they are the turn's), the order of a world's stops.
use Rattle.std.specs.Prelude.{◌≡◌, cond, List, ℕ, min, length, Float, Bool, Option}
use Rattle.move_landing.specs.declared.Landed.{Landed}
use Rattle.world.specs.declared.Car.{Car}
use Rattle.world.specs.declared.LineKind.{LineKind}
use Rattle.log_writes.specs.Parts.{Written, Log}
use Rattle.world.specs.declared.Lamps.{Lamps}
use Rattle.world.specs.Tables.{Stops}
use Rattle.stops_sort.specs.Sorted.{sorted_stops}
use Rattle.move_trip.specs.Spans.{moving_up}
use Rattle.move_trip.specs.declared.Trip.{Trip}
use Rattle.move_trip.specs.declared.span.Ends.{Ends}
use Rattle.move_trip.specs.declared.span.Span.{Span}
use Rattle.move_turn.specs.Passing.{start_of, end_of, between, emit_range, passed, passing_words}
use Rattle.move_turn.specs.Movement.{passed_by}
use Rattle.move_by_trip.specs.Moves.{has_arrived, arrival_words}

-- the numbers of the stops below their count, in the order of their sort
abbrev pub order_of : Stops → List ℕ
order_of stops = sorted_stops stops.items (min stops.count 64)

-- those above the first threshold and below the second
abbrev pub stops_between : Stops → Float → Float → List ℕ
stops_between stops from to =
    let sorted = order_of stops in between sorted (start_of stops.items sorted from) (end_of stops.items sorted to)

-- those passed in a range, and in a tick's one or two, without the target
abbrev pub range_stops : Ends → Stops → Option ℕ → List ℕ
range_stops ends stops target = emit_range stops.items (order_of stops) target ends.lo ends.hi ends.inclusive

abbrev pub span_stops : Span → Stops → Option ℕ → List ℕ
span_stops span stops target = passed span stops.items (order_of stops) target

-- a turn's words, and how many moves it is
abbrev pub words_by : Trip → ℕ → LineKind → List Float → ℕ → Car → Landed → Lamps → List ℕ
words_by trip i kind stops n c r lamps =
    cond
    (has_arrived trip r.arrived)
    (arrival_words trip i c.lamps lamps)
    (passing_words i (moving_up kind c.motion.position r.motion.position)
    (passed_by trip kind stops n c.motion r.motion))

abbrev pub moves_by : Trip → LineKind → List Float → ℕ → Car → Landed → ℕ
moves_by trip kind stops n c r =
    cond (has_arrived trip r.arrived) 1 (length (passed_by trip kind stops n c.motion r.motion))

-- words written by code, and the moves that they are: n, as it answers
pub record EmitsMoves (words : List ℕ) (moves : ℕ) (l : Log) (l' : Log) (n : ℕ) : Type 0 where
  pub count : n ≡ moves
  pub written : Written l words l'

-- those of a car's turn, by the sort of these stops
abbrev pub EmitsTurn : Trip → ℕ → LineKind → Stops → Car → Landed → Lamps → Log → Log → ℕ → Type 0
EmitsTurn trip i kind stops c r lamps =
    let n = min stops.count 64 in
    EmitsMoves (words_by trip i kind stops.items n c r lamps) (moves_by trip kind stops.items n c r)

-- the words of some stops, written by code; n, as it answers, is how many
pub record Emits (ss : List ℕ) (i : ℕ) (up : Bool) (l : Log) (l' : Log) (n : ℕ) : Type 0 where
  pub count : n ≡ length ss
  pub written : Written l (passing_words i up ss) l'
