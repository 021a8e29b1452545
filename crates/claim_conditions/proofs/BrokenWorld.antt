-- Refusal 0: the page's conditions and the definition's test say the same of every world: part by part, the test
-- decides the condition. Assumes nothing.
use mathlib.Core.Path.{◌≡◌, refl, ap, ◌∙◌}
use mathlib.Core.Logic.{◌⊎◌, inl, inr}
use mathlib.Core.Bool.{true, false}
use Prim.Native.Nat.{ℕ, zero, suc, ◌*◌, ◌/◌, ◌%◌, ◌^◌, ◌<◌, ◌≤◌}
use native.Mathlib.Nat.{div-add-mod', mod-lt, pow-succ'}
use native.Mathlib.Omega.{arith}
use lib.Dec.{leb}
use lib.ListN.{get_or}
use lib.Pow.{pow_mono}
use borrow.Author.Tests.{le-leb, leb-true}
use Rattle.laws.proofs.Bools.{no}
use Rattle.world_call_sets.specs.Calls.{is_called}
use Rattle.world_call_sets.proofs.Bits.{bit_held, called_half}
use Rattle.world_sound_rows.specs.Rows.{is_stop_unloaded, is_phase_unloaded, is_rider_phase_unloaded, is_line_broken, is_car_broken, is_rider_broken}
use Rattle.world_sound.specs.Sound.{has_broken_count, is_broken}
use Rattle.world.specs.World.{line_at, car_at, rider_at}
use Rattle.world.specs.declared.World.{World}
use Rattle.world.specs.declared.Line.{Line}
use Rattle.world.specs.declared.Car.{Car}
use Rattle.world.specs.declared.Rider.{Rider}
use Rattle.world.specs.declared.ElevatorPhase.{ElevatorPhase}
use Rattle.world.specs.declared.ElevatorPhase.TheVariants.{Idle, MovingToStop, Repositioning, DoorOpening, Loading, DoorClosing, Stopped}
use Rattle.world.specs.declared.RiderPhase.{RiderPhase}
use Rattle.world.specs.declared.RiderPhase.TheVariants.{Waiting, Boarding, Riding, Exiting, Walking, Arrived, Abandoned, Resident}
use Rattle.std.specs.Prelude.{is_some}
use Rattle.std.specs.declared.option.Option.{Option}
use Rattle.std.specs.declared.option.Option.TheVariants.{None, Some}
use Rattle.claim_conditions.specs.Refusals.{Broken, stops_above, lines_above, cars_above, riders_above, list_above, ticks_above, destinations_above, commands_above, total_high, moves_high, listed_unloaded, line_unloaded, moving_unloaded, repositioning_unloaded, target_unloaded, queued_unloaded, route_unloaded, boarding_unloaded, riding_unloaded, exiting_unloaded, aboard_unloaded, up_unloaded, down_unloaded}
use Rattle.claim_conditions.proofs.Deciding.{Decides, less, most, through, never, ◌or◌, AnyBelow, any}

-- ---- numbers that a phase or an option holds

abbrev number_in : Option ℕ → ℕ
number_in None = 0
number_in (Some number) = number

module _ (bound : ℕ) where
  -- a number that is held, and not below the bound
  abbrev Held : (ℕ → Type 0) → Type 0
  Held P = (number : ℕ) × P number × (bound ≤ number)

  -- what holds that number and no other
  holding : {P : ℕ → Type 0} (number : ℕ) → P number → ((k : ℕ) → P k → Some number ≡ Some k) → Decides (Held P) (leb bound number)
  holding {P} number p only = record {
    so = λ e. (number, p, leb-true bound number e);
    back = λ x. le-leb bound number (omega (arith, ap number_in (only x.0 x.1), x.2));
  }

  -- what holds none
  empty : {P : ℕ → Type 0} → ((k : ℕ) → P k → ◌≡◌ {A = Option ℕ} None (Some k)) → Decides (Held P) false
  empty only = never (λ x. no (ap is_some (only x.0 x.1)))

  -- a stop or a car, where there is one
  option_decided : (o : Option ℕ) → Decides (Held (λ number. o ≡ Some number)) (is_stop_unloaded bound o)
  option_decided None = empty (λ k e. e)
  option_decided (Some number) = holding number refl (λ k e. e)

abbrev InPhase : ElevatorPhase → ℕ → Type 0
InPhase p stop = (p ≡ MovingToStop stop) ⊎ (p ≡ Repositioning stop)

abbrev stop_in : ElevatorPhase → Option ℕ
stop_in Idle = None
stop_in (MovingToStop stop) = Some stop
stop_in (Repositioning stop) = Some stop
stop_in DoorOpening = None
stop_in Loading = None
stop_in DoorClosing = None
stop_in Stopped = None

stop_is : (p : ElevatorPhase) (stop : ℕ) → InPhase p stop → stop_in p ≡ Some stop
stop_is p stop (inl e) = ap stop_in e
stop_is p stop (inr e) = ap stop_in e

phase_decided : (stops : ℕ) (p : ElevatorPhase) → Decides (Held stops (InPhase p)) (is_phase_unloaded stops p)
phase_decided stops Idle = empty stops (stop_is Idle)
phase_decided stops (MovingToStop stop) = holding stops stop (inl refl) (stop_is (MovingToStop stop))
phase_decided stops (Repositioning stop) = holding stops stop (inr refl) (stop_is (Repositioning stop))
phase_decided stops DoorOpening = empty stops (stop_is DoorOpening)
phase_decided stops Loading = empty stops (stop_is Loading)
phase_decided stops DoorClosing = empty stops (stop_is DoorClosing)
phase_decided stops Stopped = empty stops (stop_is Stopped)

abbrev InRider : RiderPhase → ℕ → Type 0
InRider p car = (p ≡ Boarding car) ⊎ (p ≡ Riding car) ⊎ (p ≡ Exiting car)

abbrev car_in : RiderPhase → Option ℕ
car_in Waiting = None
car_in (Boarding car) = Some car
car_in (Riding car) = Some car
car_in (Exiting car) = Some car
car_in Walking = None
car_in Arrived = None
car_in Abandoned = None
car_in Resident = None

car_is : (p : RiderPhase) (car : ℕ) → InRider p car → car_in p ≡ Some car
car_is p car (inl e) = ap car_in e
car_is p car (inr (inl e)) = ap car_in e
car_is p car (inr (inr e)) = ap car_in e

rider_phase_decided : (cars : ℕ) (p : RiderPhase) → Decides (Held cars (InRider p)) (is_rider_phase_unloaded cars p)
rider_phase_decided cars Waiting = empty cars (car_is Waiting)
rider_phase_decided cars (Boarding car) = holding cars car (inl refl) (car_is (Boarding car))
rider_phase_decided cars (Riding car) = holding cars car (inr (inl refl)) (car_is (Riding car))
rider_phase_decided cars (Exiting car) = holding cars car (inr (inr refl)) (car_is (Exiting car))
rider_phase_decided cars Walking = empty cars (car_is Walking)
rider_phase_decided cars Arrived = empty cars (car_is Arrived)
rider_phase_decided cars Abandoned = empty cars (car_is Abandoned)
rider_phase_decided cars Resident = empty cars (car_is Resident)

-- ---- hall calls: the set is 2 to the count of stops or more exactly where it has a stop that is not loaded

-- a number above 0 has a bit
lowest : (calls : ℕ) → calls % 2 ≡ 1 → is_called calls 0 ≡ true
unfolding is_called
lowest calls e = let q : calls / 2 ^ 0 ≡ calls = omega arith in rw (q, e)

some_bit : (fuel calls : ℕ) → calls ≤ fuel → 0 < calls → (stop : ℕ) × (is_called calls stop ≡ true)
some_bit zero calls f h = absurd (omega arith)
some_bit (suc fuel) calls f h = go (calls % 2) refl (some_bit fuel (calls / 2))
  where
    go : (r : ℕ) → calls % 2 ≡ r → (calls / 2 ≤ fuel → 0 < calls / 2 → (stop : ℕ) × (is_called (calls / 2) stop ≡ true)) → (stop : ℕ) × (is_called calls stop ≡ true)
    go zero e rec = let x = rec (omega (arith, div-add-mod' calls 2)) (omega (arith, div-add-mod' calls 2)) in (suc x.0, called_half calls x.0 ∙ x.1)
    go (suc zero) e rec = (0, lowest calls e)
    go (suc (suc r)) e rec = absurd (omega (arith, mod-lt calls {m = 2} (omega arith)))

high_bit : (stops calls : ℕ) → 2 ^ stops ≤ calls → (stop : ℕ) × (stops ≤ stop) × (is_called calls stop ≡ true)
high_bit zero calls h = let x = some_bit calls calls (omega arith) (omega arith) in (x.0, omega arith, x.1)
high_bit (suc stops) calls h =
    let double : 2 ^ suc stops ≡ 2 * 2 ^ stops = pow-succ' 2 stops in
    let half : 2 ^ stops ≤ calls / 2 = omega (arith, div-add-mod' calls 2, mod-lt calls {m = 2} (omega arith)) in
    let x = high_bit stops (calls / 2) half in
    (suc x.0, omega (arith, x.1), called_half calls x.0 ∙ x.2)

calls_decided : (stops calls : ℕ) → Decides ((stop : ℕ) × (stops ≤ stop) × (is_called calls stop ≡ true)) (leb (2 ^ stops) calls)
calls_decided stops calls = record {
  so = λ e. high_bit stops calls (leb-true (2 ^ stops) calls e);
  back = λ x. le-leb (2 ^ stops) calls (omega (arith, pow_mono {i = stops} {j = x.0} x.1, bit_held calls x.0 x.2));
}

-- ---- a line, a car, a rider

abbrev pub InLine : ℕ → Line → Type 0
InLine stops l = (64 < l.serves.stops.count) ⊎ AnyBelow l.serves.stops.count (λ i. stops ≤ get_or l.serves.stops.items i 0)

pub line_decided : (stops : ℕ) (l : Line) → Decides (InLine stops l) (is_line_broken stops l)
unfolding is_line_broken
line_decided stops l = less 64 l.serves.stops.count or any (λ i. most stops (get_or l.serves.stops.items i 0)) l.serves.stops.count

abbrev InCar : ℕ → ℕ → Car → Type 0
InCar lines stops c =
    ((((((8 < c.destination_queue.count) ⊎ (8 < c.door_command_queue.count)) ⊎ (2 ^ 48 ≤ c.move_count)) ⊎ (lines ≤ c.line)) ⊎ Held stops (InPhase c.phase))
    ⊎ Held stops (λ stop. c.target_stop ≡ Some stop))
    ⊎ AnyBelow c.destination_queue.count (λ i. stops ≤ get_or c.destination_queue.items i 0)

car_row_decided : (lines stops : ℕ) (c : Car) → Decides (InCar lines stops c) (is_car_broken lines stops c)
unfolding is_car_broken
car_row_decided lines stops c =
    less 8 c.destination_queue.count or less 8 c.door_command_queue.count or most (2 ^ 48) c.move_count or most lines c.line or phase_decided stops c.phase
    or option_decided stops c.target_stop
    or any (λ i. most stops (get_or c.destination_queue.items i 0)) c.destination_queue.count

abbrev InRow : ℕ → ℕ → Rider → Type 0
InRow stops cars r =
    (Held stops (λ stop. r.destination ≡ Some stop) ⊎ Held cars (InRider r.phase)) ⊎ Held cars (λ car. r.aboard ≡ Some car)

rider_decided : (stops cars : ℕ) (r : Rider) → Decides (InRow stops cars r) (is_rider_broken stops cars r)
unfolding is_rider_broken
rider_decided stops cars r = option_decided stops r.destination or rider_phase_decided cars r.phase or option_decided cars r.aboard

-- ---- the world

module _ (w : World) where
  abbrev AnyLine : Type 0
  AnyLine = AnyBelow w.lines.count (λ i. InLine w.stops.count (line_at w.lines.items i))

  abbrev AnyCar : Type 0
  AnyCar = AnyBelow w.cars.count (λ i. InCar w.lines.count w.stops.count (car_at w.cars.items i))

  abbrev AnyRider : Type 0
  AnyRider = AnyBelow w.riders.count (λ i. InRow w.stops.count w.cars.count (rider_at w.riders.items i))

  abbrev AnyCall : ℕ → Type 0
  AnyCall calls = (stop : ℕ) × (w.stops.count ≤ stop) × (is_called calls stop ≡ true)

  abbrev Counted : Type 0
  Counted =
      (((((64 < w.stops.count) ⊎ (8 < w.lines.count)) ⊎ (16 < w.cars.count)) ⊎ (128 < w.riders.count)) ⊎ (268435456 < w.ticks))
      ⊎ (2 ^ 48 ≤ w.total_moves)

  abbrev Parts : Type 0
  Parts = ((((Counted ⊎ AnyLine) ⊎ AnyCar) ⊎ AnyRider) ⊎ AnyCall w.calls.up) ⊎ AnyCall w.calls.down

  counts_decided : Decides Counted (has_broken_count w)
  unfolding has_broken_count
  counts_decided =
      less 64 w.stops.count or less 8 w.lines.count or less 16 w.cars.count or less 128 w.riders.count or less (2 ^ 28) w.ticks
      or most (2 ^ 48) w.total_moves

  parts_decided : Decides Parts (is_broken w)
  unfolding is_broken
  parts_decided =
      counts_decided
      or any (λ i. line_decided w.stops.count (line_at w.lines.items i)) w.lines.count
      or any (λ i. car_row_decided w.lines.count w.stops.count (car_at w.cars.items i)) w.cars.count
      or any (λ i. rider_decided w.stops.count w.cars.count (rider_at w.riders.items i)) w.riders.count
      or calls_decided w.stops.count w.calls.up
      or calls_decided w.stops.count w.calls.down

  of_counts : Counted → Broken w
  of_counts (inl (inl (inl (inl (inl x))))) = stops_above x
  of_counts (inl (inl (inl (inl (inr x))))) = lines_above x
  of_counts (inl (inl (inl (inr x)))) = cars_above x
  of_counts (inl (inl (inr x))) = riders_above x
  of_counts (inl (inr x)) = ticks_above x
  of_counts (inr x) = total_high x

  of_line : (l : ℕ) → l < w.lines.count → InLine w.stops.count (line_at w.lines.items l) → Broken w
  of_line l h (inl x) = list_above l h x
  of_line l h (inr x) = listed_unloaded l x.0 h x.1 x.2

  of_phase : (c stop : ℕ) → c < w.cars.count → InPhase (car_at w.cars.items c).phase stop → w.stops.count ≤ stop → Broken w
  of_phase c stop h (inl e) x = moving_unloaded c stop h e x
  of_phase c stop h (inr e) x = repositioning_unloaded c stop h e x

  of_car : (c : ℕ) → c < w.cars.count → InCar w.lines.count w.stops.count (car_at w.cars.items c) → Broken w
  of_car c h (inl (inl (inl (inl (inl (inl x)))))) = destinations_above c h x
  of_car c h (inl (inl (inl (inl (inl (inr x)))))) = commands_above c h x
  of_car c h (inl (inl (inl (inl (inr x))))) = moves_high c h x
  of_car c h (inl (inl (inl (inr x)))) = line_unloaded c h x
  of_car c h (inl (inl (inr x))) = of_phase c x.0 h x.1 x.2
  of_car c h (inl (inr x)) = target_unloaded c x.0 h x.1 x.2
  of_car c h (inr x) = queued_unloaded c x.0 h x.1 x.2

  of_rider_phase : (r c : ℕ) → r < w.riders.count → InRider (rider_at w.riders.items r).phase c → w.cars.count ≤ c → Broken w
  of_rider_phase r c h (inl e) x = boarding_unloaded r c h e x
  of_rider_phase r c h (inr (inl e)) x = riding_unloaded r c h e x
  of_rider_phase r c h (inr (inr e)) x = exiting_unloaded r c h e x

  of_rider : (r : ℕ) → r < w.riders.count → InRow w.stops.count w.cars.count (rider_at w.riders.items r) → Broken w
  of_rider r h (inl (inl x)) = route_unloaded r x.0 h x.1 x.2
  of_rider r h (inl (inr x)) = of_rider_phase r x.0 h x.1 x.2
  of_rider r h (inr x) = aboard_unloaded r x.0 h x.1 x.2

  of_parts : Parts → Broken w
  of_parts (inl (inl (inl (inl (inl x))))) = of_counts x
  of_parts (inl (inl (inl (inl (inr x))))) = of_line x.0 x.1 x.2
  of_parts (inl (inl (inl (inr x)))) = of_car x.0 x.1 x.2
  of_parts (inl (inl (inr x))) = of_rider x.0 x.1 x.2
  of_parts (inl (inr x)) = up_unloaded x.0 x.1 x.2
  of_parts (inr x) = down_unloaded x.0 x.1 x.2

  -- the ways into the parts
  in_counts : Counted → Parts
  in_counts x = inl (inl (inl (inl (inl x))))

  in_line : (l : ℕ) → l < w.lines.count → InLine w.stops.count (line_at w.lines.items l) → Parts
  in_line l h x = inl (inl (inl (inl (inr (l, h, x)))))

  in_car : (c : ℕ) → c < w.cars.count → InCar w.lines.count w.stops.count (car_at w.cars.items c) → Parts
  in_car c h x = inl (inl (inl (inr (c, h, x))))

  in_rider : (r : ℕ) → r < w.riders.count → InRow w.stops.count w.cars.count (rider_at w.riders.items r) → Parts
  in_rider r h x = inl (inl (inr (r, h, x)))

  to_parts : Broken w → Parts
  to_parts (stops_above x) = in_counts (inl (inl (inl (inl (inl x)))))
  to_parts (lines_above x) = in_counts (inl (inl (inl (inl (inr x)))))
  to_parts (cars_above x) = in_counts (inl (inl (inl (inr x))))
  to_parts (riders_above x) = in_counts (inl (inl (inr x)))
  to_parts (ticks_above x) = in_counts (inl (inr x))
  to_parts (total_high x) = in_counts (inr x)
  to_parts (list_above l h x) = in_line l h (inl x)
  to_parts (listed_unloaded l i h k x) = in_line l h (inr (i, k, x))
  to_parts (destinations_above c h x) = in_car c h (inl (inl (inl (inl (inl (inl x))))))
  to_parts (commands_above c h x) = in_car c h (inl (inl (inl (inl (inl (inr x))))))
  to_parts (moves_high c h x) = in_car c h (inl (inl (inl (inl (inr x)))))
  to_parts (line_unloaded c h x) = in_car c h (inl (inl (inl (inr x))))
  to_parts (moving_unloaded c stop h e x) = in_car c h (inl (inl (inr (stop, inl e, x))))
  to_parts (repositioning_unloaded c stop h e x) = in_car c h (inl (inl (inr (stop, inr e, x))))
  to_parts (target_unloaded c stop h e x) = in_car c h (inl (inr (stop, e, x)))
  to_parts (queued_unloaded c i h k x) = in_car c h (inr (i, k, x))
  to_parts (route_unloaded r stop h e x) = in_rider r h (inl (inl (stop, e, x)))
  to_parts (boarding_unloaded r c h e x) = in_rider r h (inl (inr (c, inl e, x)))
  to_parts (riding_unloaded r c h e x) = in_rider r h (inl (inr (c, inr (inl e), x)))
  to_parts (exiting_unloaded r c h e x) = in_rider r h (inl (inr (c, inr (inr e), x)))
  to_parts (aboard_unloaded r c h e x) = in_rider r h (inr (c, e, x))
  to_parts (up_unloaded stop h x) = inl (inr (stop, h, x))
  to_parts (down_unloaded stop h x) = inr (stop, h, x)

  pub broken_decided : Decides (Broken w) (is_broken w)
  broken_decided = through of_parts to_parts parts_decided
