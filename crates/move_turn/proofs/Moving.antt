-- The cars' turns: a turn of the code is the definition's step in the world so far, whether the car rests, goes on, or
-- comes to its stop. Assumes nothing.
use mathlib.Core.Path.{◌≡◌, refl, ap, ◌∙◌, sym}
use mathlib.Core.Bool.{true, false, cond}
use mathlib.Core.Logic.{◌⊎◌, ⊎_elim}
use mathlib.Core.List.{List, [], ◌∷◌, ◌++◌}
use Prim.Native.Nat.{ℕ, zero, suc, ◌+◌, min}
use native.Mathlib.Numerals.{add-one}
use lib.ListN.{set}
use lib.Ieee.{Float}
use Rattle.laws.proofs.Bools.{no}
use Rattle.world.specs.World.{car_at}
use Rattle.world.specs.declared.World.{World}
use Rattle.world.specs.declared.Car.{Car}
use Rattle.world.specs.declared.LineKind.{LineKind}
use Rattle.world.specs.declared.Motion.{Motion}
use Rattle.world.specs.declared.LineKind.TheVariants.{Linear, Loop}
use Rattle.std.specs.declared.option.Option.{Option}
use Rattle.std.specs.declared.option.Option.TheVariants.{None, Some}
use Rattle.log_writes.specs.Parts.{Written, Log}
use Rattle.log_writes.proofs.Written.{written_also, written_none}
use Rattle.turn.specs.Steps.{Turn, line_of, turn_of, with_turn, not_opened, run_to, run_cars}
use Rattle.world.specs.With.{with_motion_and_count}
use Rattle.laws.specs.Numbers.{plus}
use Rattle.turn.specs.declared.JustOpened.{JustOpened}
use Rattle.turn.proofs.Cars.{kept, stepped_same}
use Rattle.doors_turn.specs.Doors.{doors_world, doors_words}
use Rattle.doors_turn.proofs.Running.{Runs}
use Rattle.world.specs.declared.Lamps.{Lamps}
use Rattle.world.specs.Tables.{Stops}
use Rattle.move_trip.specs.Trips.{has_trip, trip_of}
use Rattle.move_landing.specs.Landing.{leader_position, landing}
use Rattle.move_landing.specs.declared.Landed.{Landed}
use Rattle.move_arrival.specs.Arrival.{is_direction_asked, lamps_on_arrival}
use Rattle.move_trip.specs.declared.Trip.{Trip}
use Rattle.move_trip.specs.declared.Trip.TheVariants.{Rests, Drives, GoesTo, Repositions}
use Rattle.move_turn.specs.Movement.{passing_turn, arrival_turn, turn_of_move_by, turn_of_move, movement_run}
use Rattle.move_turn.specs.Parts.{EmitsTurn}
use Rattle.move_by_trip.specs.Moves.{has_arrived, arrive, distance_by}

-- ---- what is read in a turn

-- no Manual car arrives: whoever does comes to its stop
came : (trip : Trip) (kind : LineKind) (l : Option Float) (c : Car) (stops : List Float) (dt : Float) → has_trip trip ≡ true
    → has_arrived trip (landing trip kind l c stops dt).arrived ≡ (landing trip kind l c stops dt).arrived
came Rests kind l c stops dt t = no t
came Drives Linear l c stops dt t = refl
came Drives (Loop x y) None c stops dt t = refl
came Drives (Loop x y) (Some z) c stops dt t = refl
came (GoesTo s) kind l c stops dt t = refl
came (Repositions s) kind l c stops dt t = refl

-- ---- the turn of a car

-- of one at rest
pub rests : (dt : Float) (w : World) (i : ℕ) (trip : Trip) → trip ≡ trip_of (car_at w.cars.items i)
    → has_trip trip ≡ false → turn_of_move dt w i ≡ turn_of w (car_at w.cars.items i) [] not_opened
unfolding turn_of_move
rests dt w i trip et h = rw (← et, h)

-- of one that moves: the remaining work is looked for where the turn asks for it
pub moves : (dt : Float) (w : World) (i : ℕ) (trip : Trip) (kind : LineKind) (leader : Option Float) (r : Landed)
    (lamps : Lamps)
    → trip ≡ trip_of (car_at w.cars.items i) → kind ≡ (line_of w.lines.items (car_at w.cars.items i).line).kind
    → leader ≡ leader_position kind w.cars i (car_at w.cars.items i)
    → r ≡ landing trip kind leader (car_at w.cars.items i) w.stops.items dt
    → ((is_direction_asked trip kind r.arrived ≡ false) × (lamps ≡ (car_at w.cars.items i).lamps))
    ⊎ ((is_direction_asked trip kind r.arrived ≡ true)
    × (lamps ≡ lamps_on_arrival trip w.riders (car_at w.cars.items i) w.stops.items i))
    → turn_of_move dt w i ≡ turn_of_move_by w i trip kind r lamps
unfolding turn_of_move
moves dt w i trip kind leader r lamps et ek lead er wk =
    let c = car_at w.cars.items i in
    let b : lamps ≡ cond (is_direction_asked trip kind r.arrived) (lamps_on_arrival trip w.riders c w.stops.items i) c.lamps =
    ⊎_elim (λ z. z.1 ∙ rw z.0) (λ z. z.1 ∙ rw z.0) wk in
    rw (← et, ← ek, ← lead, ← er, ← b)

-- ---- a car changed in place

abbrev put : (Car → Car) → List Car → ℕ → List Car
put f cs i = set cs i (f (car_at cs i))

put_put : (f g : Car → Car) (cs : List Car) (i : ℕ) → put g (put f cs i) i ≡ put (λ c. g (f c)) cs i
put_put f g [] i = refl
put_put f g (x ∷ xs) zero = refl
put_put f g (x ∷ xs) (suc i) = ap (λ (r : List Car). x ∷ r) (put_put f g xs i)

-- the motion record stored, then the count
abbrev pub twice : List Car → ℕ → Motion → ℕ → List Car
twice cs i m n = put (λ c. with_motion_and_count c c.motion n) (put (λ c. with_motion_and_count c m c.move_count) cs i) i

pub lands : (cs : List Car) (i : ℕ) (m : Motion) (n : ℕ) → twice cs i m n ≡ set cs i (with_motion_and_count (car_at cs i) m n)
lands cs i m n = put_put (λ c. with_motion_and_count c m c.move_count) (λ c. with_motion_and_count c c.motion n) cs i

pub comes_to : (cs : List Car) (i : ℕ) (m : Motion) (n : ℕ) (trip : Trip) (lamps : Lamps) (tick : ℕ)
    → set (twice cs i m n) i (arrive trip (car_at (twice cs i m n) i) lamps tick)
    ≡ set cs i (arrive trip (with_motion_and_count (car_at cs i) m n) lamps tick)
comes_to cs i m n trip lamps tick =
    ap (λ (z : List Car). put (λ c. arrive trip c lamps tick) z i) (lands cs i m n) ∙ put_put (λ c. with_motion_and_count c m n) (λ c. arrive trip c lamps tick) cs i

-- ---- the world that a turn leaves

abbrev pub after : World → List Car → ℕ → Float → World
after w cars total distance = record {
  stops = w.stops;
  lines = w.lines;
  cars = record { items = cars; count = w.cars.count };
  riders = w.riders;
  calls = w.calls;
  started = w.started;
  ticks = w.ticks;
  total_moves = total;
  reposition_distance = distance;
}

-- ---- the turns so far

pub record Moves (turn : World → ℕ → Turn) (world : World) (l : Log) (i : ℕ) (w : World) (l' : Log) : Type 0 where
  pub left : w ≡ (run_to turn world i).world
  pub written : Written l (run_to turn world i).words l'

-- and one more
pub more : {turn : World → ℕ → Turn} {world w w' : World} {l l' l'' : Log} {i : ℕ} {s : Turn}
    → Moves turn world l i w l' → turn w i ≡ s
    → w' ≡ with_turn w i s → Written l' s.words l'' → Moves turn world l (i + 1) w' l''
unfolding run_to
more k e f h = record { left = f ∙ rw (add-one, ← k.left, ← e); written = rw (add-one, ← k.left) (written_also k.written (rw (← e) at h)) }

pub stops_kept : {turn : World → ℕ → Turn} {world w : World} {l l' : Log} {i : ℕ} → Moves turn world l i w l'
    → w.stops ≡ world.stops
stops_kept {turn} {world} {w} {l} {l'} {i} k = ap (λ (z : World). z.stops) k.left ∙ kept turn world (λ (z : World). z.stops) (λ v j s. refl) i

pub cars_kept : {turn : World → ℕ → Turn} {world w : World} {l l' : Log} {i : ℕ} → Moves turn world l i w l'
    → w.cars.count ≡ world.cars.count
cars_kept {turn} {world} {w} {l} {l'} {i} k = ap (λ (z : World). z.cars.count) k.left ∙ kept turn world (λ (z : World). z.cars.count) (λ v j s. refl) i

-- the hall calls that stand, after the doors' turns
pub calls_kept : {turn : World → ℕ → Turn} {world w : World} {l l' : Log} {i : ℕ} {opened : List (Option JustOpened)}
    → Runs turn world l i w opened l' → w.calls ≡ world.calls
calls_kept {turn} {world} {w} {l} {l'} {i} k = ap (λ (z : World). z.calls) k.left ∙ kept turn world (λ (z : World). z.calls) (λ v j s. refl) i

-- all cars' moves, then their doors: what both leave and write
pub doored_after : (dt : Float) (world : World) {w v : World} {l l' l'' : Log}
    → Moves (turn_of_move dt) world l (min world.cars.count 16) w l'
    → v ≡ doors_world w → Written l' (doors_words w) l''
    → (v ≡ doors_world (movement_run world dt).world)
    × Written l ((movement_run world dt).words ++ doors_words (movement_run world dt).world) l''
unfolding movement_run run_cars
doored_after dt world k e h = (rw (← k.left) e, rw (← k.left) (written_also k.written h))

-- ---- one turn more, as the code makes it

-- a turn that the code has looked at: it moves, and as its definition says
pub record Looked (dt : Float) (w : World) (i : ℕ) (trip : Trip) (kind : LineKind) (r : Landed)
    (lamps : Lamps) : Type 0 where
  pub turn : turn_of_move dt w i
      ≡ cond
      (has_arrived trip r.arrived)
      (arrival_turn w i trip kind r.motion lamps)
      (passing_turn w i trip kind r.motion)
  pub comes_as : has_arrived trip r.arrived ≡ r.arrived

pub looked : (dt : Float) (w : World) (i : ℕ) (trip : Trip) (kind : LineKind) (leader : Option Float) (r : Landed)
    (lamps : Lamps)
    → trip ≡ trip_of (car_at w.cars.items i) → has_trip trip ≡ true
    → kind ≡ (line_of w.lines.items (car_at w.cars.items i).line).kind
    → leader ≡ leader_position kind w.cars i (car_at w.cars.items i)
    → r ≡ landing trip kind leader (car_at w.cars.items i) w.stops.items dt
    → ((is_direction_asked trip kind r.arrived ≡ false) × (lamps ≡ (car_at w.cars.items i).lamps))
    ⊎ ((is_direction_asked trip kind r.arrived ≡ true)
    × (lamps ≡ lamps_on_arrival trip w.riders (car_at w.cars.items i) w.stops.items i))
    → Looked dt w i trip kind r lamps
looked dt w i trip kind leader r lamps et t ek lead er wk = record {
  turn = moves dt w i trip kind leader r lamps et ek lead er wk ∙ rw t;
  comes_as = rw er (came trip kind leader (car_at w.cars.items i) w.stops.items dt t);
}

-- the words that it wrote by the sort of the stops, and how many moves they are
abbrev pub WrittenBy : World → ℕ → Trip → LineKind → Landed → Lamps → Stops → Log → Log → ℕ → Type 0
WrittenBy w i trip kind r lamps sort = EmitsTurn trip i kind sort (car_at w.cars.items i) r lamps

-- the car goes on
pub goes_on_lem : (dt : Float) (world w w' : World) (l l' l'' l''' : Log) (i : ℕ) (trip : Trip) (kind : LineKind)
    (r : Landed) (lamps : Lamps) (sort : Stops) (x m total : ℕ) (distance : Float)
    → Moves (turn_of_move dt) world l i w l' → Looked dt w i trip kind r lamps → sort ≡ world.stops
    → WrittenBy w i trip kind r lamps sort l' l'' x
    → m ≡ plus (car_at w.cars.items i).move_count x → total ≡ plus w.total_moves x
    → distance ≡ distance_by trip kind w.reposition_distance (car_at w.cars.items i).motion r.motion
    → r.arrived ≡ false → w' ≡ after w (twice w.cars.items i r.motion m) total distance → l''' ≡ l''
    → Moves (turn_of_move dt) world l (i + 1) w' l'''
goes_on_lem dt world w w' l l' l'' l''' i trip kind r lamps sort x m total distance k look es told em eo ed h ew el =
    let f : has_arrived trip r.arrived ≡ false = look.comes_as ∙ h in
    let e : turn_of_move dt w i ≡ passing_turn w i trip kind r.motion = look.turn ∙ rw f in
    let s : sort ≡ w.stops = es ∙ sym (stops_kept k) in
    let tells = rw (s, f) at told in
    let left : w' ≡ with_turn w i (passing_turn w i trip kind r.motion) =
    ew ∙ ap (λ (z : List Car). after w z total distance) (lands w.cars.items i r.motion m) ∙ rw (em, eo, ed, tells.count) in
    more k e left (rw el tells.written)

-- it comes to its stop
pub comes_in : (dt : Float) (world w w' : World) (l l' l'' l''' : Log) (i : ℕ) (trip : Trip) (kind : LineKind)
    (r : Landed) (lamps : Lamps) (sort : Stops) (x m total : ℕ) (distance : Float) (c : Car)
    → Moves (turn_of_move dt) world l i w l' → Looked dt w i trip kind r lamps
    → WrittenBy w i trip kind r lamps sort l' l'' x
    → m ≡ plus (car_at w.cars.items i).move_count x → total ≡ plus w.total_moves x
    → distance ≡ distance_by trip kind w.reposition_distance (car_at w.cars.items i).motion r.motion
    → r.arrived ≡ true → c ≡ arrive trip (car_at (twice w.cars.items i r.motion m) i) lamps w.ticks
    → w' ≡ after w (set (twice w.cars.items i r.motion m) i c) total distance → l''' ≡ l''
    → Moves (turn_of_move dt) world l (i + 1) w' l'''
comes_in dt world w w' l l' l'' l''' i trip kind r lamps sort x m total distance c k look told em eo ed h ec ew el =
    let f : has_arrived trip r.arrived ≡ true = look.comes_as ∙ h in
    let e : turn_of_move dt w i ≡ arrival_turn w i trip kind r.motion lamps = look.turn ∙ rw f in
    let tells = rw f at told in
    let left : w' ≡ with_turn w i (arrival_turn w i trip kind r.motion lamps) =
    ew ∙ ap (λ (z : List Car). after w z total distance)
    (ap (λ (z : Car). set (twice w.cars.items i r.motion m) i z) ec ∙ comes_to w.cars.items i r.motion m trip lamps w.ticks)
    ∙ rw (em, eo, ed, tells.count) in
    more k e left (rw el tells.written)

-- it rests
pub stays : (dt : Float) (world w w' : World) (l l' l''' : Log) (i : ℕ) (trip : Trip)
    → Moves (turn_of_move dt) world l i w l'
    → trip ≡ trip_of (car_at w.cars.items i) → has_trip trip ≡ false → w' ≡ w → l''' ≡ l'
    → Moves (turn_of_move dt) world l (i + 1) w' l'''
stays dt world w w' l l' l''' i trip k et h ew el = more k (rests dt w i trip et h) (ew ∙ stepped_same w i) (rw el written_none)
