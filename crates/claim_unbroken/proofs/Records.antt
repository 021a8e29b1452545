-- Every record keeps what refusal 0 asks of a world: by its kind, from what its checks let through. Assumes nothing.
use mathlib.Core.Path.{◌≡◌, refl, sym, ◌∙◌}
use mathlib.Core.Bool.{Bool, true, false, not, cond, true≢false}
use mathlib.Core.List.{List}
use Prim.Native.Nat.{ℕ, ◌+◌, ◌^◌, ◌<◌, ◌≤◌}
use native.Mathlib.Omega.{arith}
use lib.Dec.{leb, ltb, eqb}
use lib.ListN.{set}
use lib.Pow.{pow_mono}
use lib.Ieee.{Float}
use borrow.Author.Tests.{eqb-true, ltb-true, leb-false, not-false, lt-leb}
use Rattle.laws.proofs.Bools.{or_left, or_right}
use Rattle.door.specs.declared.DoorCommand.{DoorCommand}
use Rattle.world_sound_rows.specs.Rows.{is_any_below, is_unloaded, is_phase_unloaded, is_line_broken, is_rider_broken}
use Rattle.world_sound.specs.Sound.{is_broken}
use Rattle.world.specs.World.{no_line, no_rider, line_at, car_at, rider_at, new_car}
use Rattle.world.specs.With.{with_car}
use Rattle.world_call_sets.specs.Calls.{pressed}
use Rattle.world.specs.Refusal.{Check, unless, refusal_number}
use Rattle.world.specs.declared.World.{World}
use Rattle.world.specs.declared.Car.{Car}
use Rattle.world.specs.declared.Line.{Line}
use Rattle.world.specs.declared.CarPlan.{CarPlan}
use Rattle.world.specs.declared.Rider.{Rider}
use Rattle.world.specs.declared.ElevatorPhase.{ElevatorPhase}
use Rattle.world.specs.declared.ElevatorPhase.TheVariants.{MovingToStop, Repositioning}
use Rattle.world.specs.declared.ServiceMode.{ServiceMode}
use Rattle.std.specs.declared.option.Option.{Option}
use Rattle.world.specs.declared.refusal.Refusal.{Refusal}
use Rattle.tape.specs.Tape.{decoded}
use Rattle.tape.specs.Facts.{InBounds, ReadsInBounds}
use Rattle.tape.proofs.Bounds.{in_bounds}
use Rattle.tape_records.specs.declared.Read.{Read}
use Rattle.tape_records.specs.declared.Found.{Found}
use Rattle.tape_records.specs.declared.Record.{Record}
use Rattle.record_loads.specs.Loads.{count_with, line_checks, stop_checks, car_checks, rider_checks, load_line, load_stop, load_car, load_rider}
use Rattle.record_start.specs.Changes.{is_not_next, has_no_car, start_checks, start}
use Rattle.record_start.specs.Changes.{Effect}
use Rattle.record_send.specs.Orders.{send_checks, with_target, send}
use Rattle.record_modes.specs.Modes.{order_checks, with_mode, with_manual_speed, with_enabled, set_mode, set_manual_speed, set_enabled}
use Rattle.record_queues.specs.Requests.{command_checks, hall_call_checks, destination_checks, with_command, with_destination, queue_command, press_hall_call, push_destination}
use Rattle.record.specs.Record.{Answer}
use Rattle.std.specs.Prelude.{Result, Ok, Err}
use Rattle.record_kinds.specs.Kinds.{change_by}
use Rattle.record.specs.Record.{Outcome, refused, change_outcome, tick_checks, tick_accepted, tick_outcome, outcome_by, read_by, record_of}
use Rattle.laws.proofs.Choices.{both, cases}
use Rattle.world.proofs.Checks.{Passed, all, first_of, unless_has}
use Rattle.claim_unbroken.proofs.Numbers.{table_set, line_stays, rider_stays, press_stays}
use Rattle.claim_unbroken.proofs.Turns.{QueueIn, CarIn, car_in_stays}
use Rattle.claim_unbroken.proofs.Worlds.{CarsIn, RidersIn, Sound, cars_set, counters_set, tick_sound}
use Rattle.claim_unbroken.proofs.Whole.{whole}

-- the number of a refusal; 13 stands for an accepted record
abbrev pub number_of : Answer → ℕ
number_of (Ok a) = 13
number_of (Err r) = refusal_number r

-- an outcome whose world is sound and whose answer is not refusal 0
pub record Good (o : Outcome) : Type 0 where
  pub world : Sound o.world
  pub answer : 0 < number_of o.answer

-- ---- a record's checks

-- not refusal 0
abbrev positive : Refusal → Bool
positive r = ltb 0 (refusal_number r)

refused_good : (w : World) (log : List ℕ) (r : Refusal) → Sound w → positive r ≡ true → Good (refused w log r)
refused_good w log r h e = record { world = h; answer = ltb-true 0 (refusal_number r) e }

-- refusal 7 not given
is_next : (size count number : ℕ) → is_not_next size count number ≡ false → (number < size) × (number ≡ count)
is_next size count number h =
    (leb-false size number (or_left (leb size number) (not (eqb number count)) h), eqb-true number count (not-false (eqb number count) (or_right (leb size number) (not (eqb number count)) h)))

-- ---- more lines, stops and cars; a loaded stop appended to a queue

cars_stay : {n : ℕ} {table : List Car} (l m a b : ℕ) → l ≤ m → a ≤ b → CarsIn l a n table → CarsIn m b n table
cars_stay {n} {table} l m a b lines stops h = record { few = h.few; each = λ i k. car_in_stays l m a b lines stops (car_at table i) (h.each i k) }

riders_stay : {n : ℕ} {table : List Rider} (a b l m : ℕ) → a ≤ b → l ≤ m → RidersIn a l n table → RidersIn b m n table
riders_stay {n} {table} a b l m stops cars h = record { few = h.few; each = λ i k. rider_stays a b l m stops cars (rider_at table i) (h.each i k) }

append_in : {stops count : ℕ} {queue : List ℕ} (stop : ℕ) → count < 8 → is_unloaded stops stop ≡ false → QueueIn stops queue count → QueueIn stops (set queue count stop) (count + 1)
append_in {stops} {count} {queue} stop few new h = record {
  few = omega arith;
  loaded =
      table_set (λ (x : ℕ). is_unloaded stops x ≡ false) 0 stop (lt-leb stops 0 (omega (arith, leb-false stops stop new))) new queue count count (count + 1) h.loaded
      (λ j m e. omega (arith, e));
}

module _ (w : World) (h : Sound w) (log : List ℕ) (used : ℕ) where
  abbrev Keeps : Effect → Type 0
  Keeps c = Good (change_outcome w log used c)

  unless_keeps : (cs : List Check) (next : World) → all positive cs ≡ true → (Passed cs → Sound next) → Keeps (unless cs Err (Ok next))
  unless_keeps cs next e f =
      unless_has Keeps cs Err (Ok next) (λ r q. refused_good w log r h (first_of positive cs e q))
      (λ q. record { world = f q; answer = omega arith })

  -- ---- loading

  line_keeps : (number : ℕ) (row : Line) → Keeps (load_line w number row)
  unfolding load_line is_line_broken is_any_below
  line_keeps number row =
      unless_keeps (line_checks w number row) _ refl
      (λ q. let n : (number < 8) × (number ≡ w.lines.count) = is_next 8 w.lines.count number q.1.1.0 in
      record {
        counters = h.counters;
        shape =
            record {
              plan =
                  record {
                    low = h.shape.plan.low;
                    few = omega (arith, n.0);
                    each =
                        table_set (λ (l : Line). is_line_broken w.stops.count l ≡ false) no_line row refl q.1.1.1.0 w.lines.items number w.lines.count (number + 1)
                        h.shape.plan.each (λ j m e. omega (arith, e, n.1));
                  };
              cars = cars_stay w.lines.count (number + 1) w.stops.count w.stops.count (omega (arith, n.1)) (omega arith) h.shape.cars;
              riders = h.shape.riders;
              calls = h.shape.calls;
            };
      })

  stop_keeps : (number : ℕ) (position : Float) → Keeps (load_stop w number position)
  unfolding load_stop
  stop_keeps number position =
      unless_keeps (stop_checks w number) _ refl
      (λ q. let n : (number < 64) × (number ≡ w.stops.count) = is_next 64 w.stops.count number q.1.0 in
      let more : w.stops.count ≤ number + 1 = omega (arith, n.1) in
      let room : 2 ^ w.stops.count ≤ 2 ^ (number + 1) = pow_mono more in
      record {
        counters = h.counters;
        shape =
            record {
              plan =
                  record {
                    low = omega (arith, n.0);
                    few = h.shape.plan.few;
                    each = λ i l. line_stays w.stops.count (number + 1) more (line_at w.lines.items i) (h.shape.plan.each i l);
                  };
              cars = cars_stay w.lines.count w.lines.count w.stops.count (number + 1) (omega arith) more h.shape.cars;
              riders = riders_stay w.stops.count (number + 1) w.cars.count w.cars.count more (omega arith) h.shape.riders;
              calls = record { up = omega (arith, h.shape.calls.up, room); down = omega (arith, h.shape.calls.down, room) };
            };
      })

  car_keeps : (number : ℕ) (plan : CarPlan) → Keeps (load_car w number plan)
  unfolding load_car
  car_keeps number plan =
      unless_keeps (car_checks w number plan) _ refl
      (λ q. let n : (number < 16) × (number ≡ w.cars.count) = is_next 16 w.cars.count number q.1.0 in
      let fits : (j : ℕ) → j < number + 1 → (j ≡ number → ⊥) → j < w.cars.count = λ j m e. omega (arith, e, n.1) in
      record {
        counters = counters_set new w.cars.items number w.cars.count (number + 1) fits w.ticks w.total_moves (omega arith) h.counters;
        shape =
            record {
              plan = h.shape.plan;
              cars =
                  cars_set new w.cars.items number w.cars.count (number + 1) fits w.lines.count w.stops.count (omega (arith, n.0))
                  (new_in (leb-false w.lines.count plan.line q.1.1.0)) h.shape.cars;
              riders = riders_stay w.stops.count w.stops.count w.cars.count (number + 1) (omega arith) (omega (arith, n.1)) h.shape.riders;
              calls = h.shape.calls;
            };
      })
    where
      new : Car
      new = new_car plan

      new_in : plan.line < w.lines.count → CarIn w.lines.count w.stops.count new
      new_in l =
          record { commands = omega arith; line = l; phase = refl; target = refl; queue = record { few = omega arith; loaded = λ k m. absurd (omega arith) } }

  rider_keeps : (number : ℕ) (rider : Rider) → Keeps (load_rider w number rider)
  unfolding load_rider is_rider_broken
  rider_keeps number rider =
      unless_keeps (rider_checks w number rider) _ refl
      (λ q. let n : number < 128 = leb-false 128 number (or_left (leb 128 number) (ltb w.riders.count number) q.0) in
      record {
        counters = h.counters;
        shape =
            record {
              plan = h.shape.plan;
              cars = h.shape.cars;
              riders =
                  record {
                    few = both (λ (x : ℕ). x ≤ 128) (eqb number w.riders.count) (omega (arith, n)) h.shape.riders.few;
                    each =
                        table_set (λ (r : Rider). is_rider_broken w.stops.count w.cars.count r ≡ false) no_rider rider refl q.1.0 w.riders.items number
                        w.riders.count (count_with w.riders.count number) h.shape.riders.each old;
                  };
              calls = h.shape.calls;
            };
      })
    where
      old : (j : ℕ) → j < count_with w.riders.count number → (j ≡ number → ⊥) → j < w.riders.count
      old j =
          cases (λ (x : ℕ). j < x → (j ≡ number → ⊥) → j < w.riders.count) (eqb number w.riders.count)
          (λ e m d. omega (arith, eqb-true number w.riders.count e, d)) (λ e m d. m)

  start_keeps : Keeps (start w)
  unfolding start
  start_keeps = unless_keeps (start_checks w) _ refl (λ q. record { shape = h.shape; counters = h.counters })

  -- ---- orders

  press_keeps : (stop : ℕ) (down : Bool) → Keeps (press_hall_call w stop down)
  unfolding press_hall_call
  press_keeps stop down =
      unless_keeps (hall_call_checks w stop) _ refl
      (λ q. let press : (calls : ℕ) → calls < 2 ^ w.stops.count → pressed calls stop < 2 ^ w.stops.count =
      λ calls. press_stays w.stops.count calls stop (leb-false w.stops.count stop q.1.0) in
      record {
        counters = h.counters;
        shape =
            record {
              plan = h.shape.plan;
              cars = h.shape.cars;
              riders = h.shape.riders;
              calls =
                  record {
                    up = both (λ (x : ℕ). x < 2 ^ w.stops.count) down h.shape.calls.up (press w.calls.up h.shape.calls.up);
                    down = both (λ (x : ℕ). x < 2 ^ w.stops.count) down (press w.calls.down h.shape.calls.down) h.shape.calls.down;
                  };
            };
      })

  -- an order to car i, by the car that it makes of it
  order_keeps : (i : ℕ) (c : Car) → has_no_car w i ≡ false → c.move_count ≡ (car_at w.cars.items i).move_count
      → (CarIn w.lines.count w.stops.count (car_at w.cars.items i) → CarIn w.lines.count w.stops.count c) → Sound (with_car w i c)
  order_keeps i c loaded same f =
      let l : i < w.cars.count = leb-false w.cars.count i (or_right (leb 16 i) (is_unloaded w.cars.count i) loaded) in
      record {
        counters = counters_set c w.cars.items i w.cars.count w.cars.count (λ j m e. m) w.ticks w.total_moves (omega (arith, same, h.counters.each i l)) h.counters;
        shape =
            record {
              plan = h.shape.plan;
              cars =
                  cars_set c w.cars.items i w.cars.count w.cars.count (λ j m e. m) w.lines.count w.stops.count h.shape.cars.few
                  (f (h.shape.cars.each i l)) h.shape.cars;
              riders = h.shape.riders;
              calls = h.shape.calls;
            };
      }

  mode_keeps : (car : ℕ) (mode : ServiceMode) → Keeps (set_mode w car mode)
  unfolding set_mode
  mode_keeps car mode =
      unless_keeps (order_checks w car) _ refl
      (λ q. order_keeps car (with_mode (car_at w.cars.items car) mode) q.1.0 refl
      (λ c. record { commands = c.commands; line = c.line; phase = c.phase; target = c.target; queue = c.queue }))

  speed_keeps : (car : ℕ) (speed : Option Float) → Keeps (set_manual_speed w car speed)
  unfolding set_manual_speed
  speed_keeps car speed =
      unless_keeps (order_checks w car) _ refl
      (λ q. order_keeps car (with_manual_speed (car_at w.cars.items car) speed) q.1.0 refl
      (λ c. record { commands = c.commands; line = c.line; phase = c.phase; target = c.target; queue = c.queue }))

  enable_keeps : (car : ℕ) (enabled : Bool) → Keeps (set_enabled w car enabled)
  unfolding set_enabled
  enable_keeps car enabled =
      unless_keeps (order_checks w car) _ refl
      (λ q. order_keeps car (with_enabled (car_at w.cars.items car) enabled) q.1.0 refl
      (λ c. record { commands = c.commands; line = c.line; phase = c.phase; target = c.target; queue = c.queue }))

  command_keeps : (car : ℕ) (command : DoorCommand) → Keeps (queue_command w car command)
  unfolding queue_command
  command_keeps car command =
      unless_keeps (command_checks w car) _ refl
      (λ q. let few : (car_at w.cars.items car).door_command_queue.count < 8 = leb-false 8 (car_at w.cars.items car).door_command_queue.count q.1.1.0 in
      order_keeps car (with_command (car_at w.cars.items car) command) q.1.0 refl
      (λ c. record { commands = omega (arith, few); line = c.line; phase = c.phase; target = c.target; queue = c.queue }))

  send_keeps : (car stop : ℕ) (reposition : Bool) → Keeps (send w car stop reposition)
  unfolding send
  send_keeps car stop reposition =
      unless_keeps (send_checks w car stop) _ refl
      (λ q. let loaded : is_unloaded w.stops.count stop ≡ false = or_right (has_no_car w car) (is_unloaded w.stops.count stop) q.1.0 in
      let phase : is_phase_unloaded w.stops.count (cond reposition (Repositioning stop) (MovingToStop stop)) ≡ false =
      both (λ (p : ElevatorPhase). is_phase_unloaded w.stops.count p ≡ false) reposition loaded loaded in
      order_keeps car (with_target (car_at w.cars.items car) stop reposition) (or_left (has_no_car w car) (is_unloaded w.stops.count stop) q.1.0) refl
      (λ c. record { commands = c.commands; line = c.line; phase = phase; target = loaded; queue = c.queue }))

  destination_keeps : (car stop : ℕ) → Keeps (push_destination w car stop)
  unfolding push_destination
  destination_keeps car stop =
      unless_keeps (destination_checks w car stop) _ refl
      (λ q. let few : (car_at w.cars.items car).destination_queue.count < 8 = leb-false 8 (car_at w.cars.items car).destination_queue.count q.1.1.0 in
      let loaded : is_unloaded w.stops.count stop ≡ false = or_right (has_no_car w car) (is_unloaded w.stops.count stop) q.1.0 in
      order_keeps car (with_destination (car_at w.cars.items car) stop) (or_left (has_no_car w car) (is_unloaded w.stops.count stop) q.1.0) refl
      (λ c. record { commands = c.commands; line = c.line; phase = c.phase; target = c.target; queue = append_in stop few loaded c.queue }))

  -- ---- the tick, and every record

  tick_keeps : (dt : Float) → Good (tick_outcome w log used dt)
  unfolding tick_outcome
  tick_keeps dt =
      unless_has Good (tick_checks w log) (refused w log) (tick_accepted w log used dt) (λ r q. refused_good w log r h (first_of positive (tick_checks w log) refl q))
      (λ q. record { world = tick_sound w dt (leb-false (2 ^ 28) w.ticks q.1.0) h; answer = omega arith })

  changed_good : (read : Record) → Good (change_outcome w log used (change_by w read))
  changed_good (Record.Line number line) = line_keeps number line
  changed_good (Record.Stop number position) = stop_keeps number position
  changed_good (Record.Car number plan) = car_keeps number plan
  changed_good (Record.Rider number rider) = rider_keeps number rider
  changed_good (Record.Send car stop reposition) = send_keeps car stop reposition
  changed_good (Record.Mode car mode) = mode_keeps car mode
  changed_good (Record.ManualSpeed car speed) = speed_keeps car speed
  changed_good (Record.DoorCommand car command) = command_keeps car command
  changed_good (Record.HallCall stop down) = press_keeps stop down
  changed_good (Record.Destination car stop) = destination_keeps car stop
  changed_good (Record.Enable car enabled) = enable_keeps car enabled
  changed_good Record.Start = start_keeps

made_good : (w : World) (log : List ℕ) (used : ℕ) (found : Found) → Sound w → Good (outcome_by w log used found)
made_good w log used (Found.Change found) h = changed_good w h log used found
made_good w log used (Found.Tick dt) h = tick_keeps w h log used dt

read_good : (w : World) (words log : List ℕ) (d : Result Read Refusal) → Sound w → InBounds words d → Good (read_by w log d)
read_good w words log (Err r) h b = record { world = h; answer = b.0 }
read_good w words log (Ok d) h b = made_good w log d.used d.found h

pub record_good : (w : World) (words log : List ℕ) → Sound w → Good (record_of w words log)
unfolding record_of ReadsInBounds
record_good w words log h =
    cases Good (is_broken w) (λ e. absurd (true≢false (sym e ∙ whole w h))) (λ e. read_good w words log (decoded words) h (in_bounds words))
