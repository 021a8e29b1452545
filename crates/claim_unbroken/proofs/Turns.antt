-- A car's turn in either system keeps its queues short and names what is loaded: by the cases of the turn; a loop's
-- next stop is one of its line's. Assumes nothing.
use mathlib.Core.Path.{◌≡◌, refl}
use mathlib.Core.Bool.{Bool, false, ◌&&◌}
use mathlib.Core.List.{List}
use Prim.Native.Nat.{ℕ, zero, suc, ◌<◌, ◌≤◌}
use native.Mathlib.Omega.{arith}
use lib.Dec.{ltb, eqb}
use lib.ListN.{get_or}
use lib.Ieee.{Float}
use Rattle.door.specs.declared.DoorState.{DoorState}
use Rattle.world_sound_rows.specs.Rows.{is_any_below, is_unloaded, is_stop_unloaded, is_phase_unloaded, is_line_broken}
use Rattle.world.specs.World.{line_at, car_at}
use Rattle.world.specs.declared.World.{World}
use Rattle.world.specs.declared.Car.{Car}
use Rattle.world.specs.declared.Line.{Line}
use Rattle.world.specs.declared.LineKind.{LineKind}
use Rattle.world.specs.declared.LineKind.TheVariants.{Linear, Loop}
use Rattle.world.specs.declared.ElevatorPhase.{ElevatorPhase}
use Rattle.world.specs.declared.ElevatorPhase.TheVariants.{Loading, DoorClosing}
use Rattle.std.specs.declared.option.Option.{Option}
use Rattle.std.specs.declared.option.Option.TheVariants.{None, Some}
use Rattle.stops_next.specs.NextStop.{loop_next_stop_forward, next_stop_by, loop_next_stop_for_car}
use Rattle.stops_next.proofs.Served.{next_is_served}
use Rattle.turn.specs.Steps.{line_of}
use Rattle.world.specs.Tables.{Queue}
use Rattle.move_arrival.specs.Arrival.{shifted, popped}
use Rattle.move_turn.specs.Movement.{turn_of_move}
use Rattle.move_turn.proofs.Cases.{move_cases}
use Rattle.doors_commands.specs.Commands.{process_door_commands}
use Rattle.doors_commands.proofs.Working.{few_stay, only}
use Rattle.doors_commands.proofs.Keeping.{commands_keep}
use Rattle.doors_turn.specs.Doors.{door_turn}
use Rattle.doors_tick.specs.Ticks.{DoorTurn, with_phase_and_door}
use Rattle.doors_tick.proofs.Cases.{door_cases}
use Rattle.laws.proofs.Choices.{both}
use Rattle.claim_unbroken.proofs.Numbers.{still_loaded, stop_stays, phase_stays, listed}

-- ---- what refusal 0 asks of a car, but for its counter

pub record QueueIn (stops : ℕ) (queue : List ℕ) (count : ℕ) : Type 0 where
  pub few : count ≤ 8
  pub loaded : (k : ℕ) → k < count → is_unloaded stops (get_or queue k 0) ≡ false

pub record CarIn (lines stops : ℕ) (c : Car) : Type 0 where
  pub commands : c.door_command_queue.count ≤ 8
  pub line : c.line < lines
  pub phase : is_phase_unloaded stops c.phase ≡ false
  pub target : is_stop_unloaded stops c.target_stop ≡ false
  pub queue : QueueIn stops c.destination_queue.items c.destination_queue.count

pub car_in_stays : (l m a b : ℕ) → l ≤ m → a ≤ b → (c : Car) → CarIn l a c → CarIn m b c
car_in_stays l m a b lines stops c h = record {
  commands = h.commands;
  line = omega (arith, h.line);
  phase = phase_stays a b stops c.phase h.phase;
  target = stop_stays a b stops c.target_stop h.target;
  queue = record { few = h.queue.few; loaded = λ k q. still_loaded a b stops (get_or c.destination_queue.items k 0) (h.queue.loaded k q) };
}

-- ---- movement

shifted_at : (q : List ℕ) (k : ℕ) → k < 7 → get_or (shifted q) k 0 ≡ get_or q (suc k) 0
shifted_at q zero l = refl
shifted_at q (suc zero) l = refl
shifted_at q (suc (suc zero)) l = refl
shifted_at q (suc (suc (suc zero))) l = refl
shifted_at q (suc (suc (suc (suc zero)))) l = refl
shifted_at q (suc (suc (suc (suc (suc zero))))) l = refl
shifted_at q (suc (suc (suc (suc (suc (suc zero)))))) l = refl
shifted_at q (suc (suc (suc (suc (suc (suc (suc k))))))) l = absurd (omega arith)

module _ (lines stops : ℕ) (c : Car) (h : CarIn lines stops c) where
  pop_in : (s : ℕ) → QueueIn stops (popped c s).items (popped c s).count
  unfolding popped
  pop_in s =
      both (λ (q : Queue ℕ). QueueIn stops q.items q.count) (ltb 0 c.destination_queue.count && eqb (get_or c.destination_queue.items 0 0) s)
      (record { few = omega (arith, h.queue.few); loaded = λ k l. rw (shifted_at c.destination_queue.items k (omega (arith, h.queue.few))) (h.queue.loaded (suc k) (omega arith)) })
      h.queue

pub move_in : (lines stops : ℕ) (dt : Float) (w : World) (i : ℕ) → CarIn lines stops (car_at w.cars.items i)
    → CarIn lines stops (turn_of_move dt w i).car
unfolding popped
move_in lines stops dt w i h =
    move_cases (λ s. CarIn lines stops s.car) w i h
    (λ e trip kind r. record { commands = h.commands; line = h.line; phase = h.phase; target = h.target; queue = h.queue })
    (λ e s kind r lamps. record { commands = h.commands; line = h.line; phase = refl; target = h.target; queue = pop_in lines stops (car_at w.cars.items i) h s })
    (λ e s kind r lamps. record { commands = h.commands; line = h.line; phase = refl; target = refl; queue = pop_in lines stops (car_at w.cars.items i) h s }) dt

-- ---- the loop's next stop is one of the line's list

stop_known : (stops : ℕ) (t : Option ℕ) → ((s : ℕ) → t ≡ Some s → is_unloaded stops s ≡ false) → is_stop_unloaded stops t ≡ false
stop_known stops None f = refl
stop_known stops (Some s) f = f s refl

forward_in : (stops : ℕ) (l : Line) → is_line_broken stops l ≡ false → (positions : List Float) (circumference position : Float)
    → is_stop_unloaded stops (loop_next_stop_forward positions circumference l.serves.stops position) ≡ false
forward_in stops l h positions circumference position =
    stop_known stops (loop_next_stop_forward positions circumference l.serves.stops position)
    (λ s e. let r = next_is_served positions circumference l.serves.stops position s e in rw (← r.1.1) (listed stops l h r.0 (omega (arith, r.1.0))))

next_by_in : (stops : ℕ) (kind : LineKind) (l : Line) → is_line_broken stops l ≡ false → (positions : List Float) (position : Float)
    → is_stop_unloaded stops (next_stop_by kind l positions position) ≡ false
next_by_in stops Linear l h positions position = refl
next_by_in stops (Loop circumference headway) l h positions position =
    both (λ (s : Option ℕ). is_stop_unloaded stops s ≡ false) l.serves.listed (forward_in stops l h positions circumference position) refl

pub next_in : (stops : ℕ) (l : Line) → is_line_broken stops l ≡ false → (positions : List Float) (position : Float)
    → is_stop_unloaded stops (loop_next_stop_for_car l positions position) ≡ false
unfolding loop_next_stop_for_car
next_in stops l h positions position = next_by_in stops l.kind l h positions position

-- a car's line, where the table's is whole
pub line_in : (stops : ℕ) (table : List Line) (number : ℕ) → is_line_broken stops (line_at table number) ≡ false
    → is_line_broken stops (line_of table number) ≡ false
unfolding line_of is_line_broken is_any_below
line_in stops table number h = both (λ (l : Line). is_line_broken stops l ≡ false) (ltb number 8) h refl

-- ---- the door's turn

module _ (lines stops i : ℕ) (c : Car) (h : CarIn lines stops c) where
  abbrev Leaves : DoorTurn → Type 0
  Leaves t = CarIn lines stops t.car

  pub door_in : (here traversing : Bool) (next : Option ℕ) → is_stop_unloaded stops next ≡ false
      → Leaves (door_turn i c here traversing next)
  door_in here traversing next m =
      both Leaves c.enabled
      (door_cases Leaves i k next (λ d. rests_in k.phase d (commands_keep (λ p d. is_phase_unloaded stops p ≡ false) (λ a b. refl) (λ a. refl) (λ a b cd l. l) c here traversing h.phase))
      (λ d. rests_in Loading d refl) (λ d. rests_in DoorClosing d refl)
      (λ d. record { commands = few; line = rest.0; phase = refl; target = refl; queue = rest.2 })
      (λ s d e. let l : is_unloaded stops s ≡ false = rw e at m in record { commands = few; line = rest.0; phase = l; target = l; queue = rest.2 }))
      h
    where
      k : Car
      k = process_door_commands c here traversing

      few : k.door_command_queue.count ≤ 8
      few = few_stay c here traversing

      -- what the commands leave alone
      rest : (k.line < lines) × (is_stop_unloaded stops k.target_stop ≡ false) × QueueIn stops k.destination_queue.items k.destination_queue.count
      rest = rw (only c here traversing) (h.line, h.target, h.queue)

      rests_in : (p : ElevatorPhase) (d : DoorState) → is_phase_unloaded stops p ≡ false → CarIn lines stops (with_phase_and_door k p d)
      rests_in p d l = record { commands = few; line = rest.0; phase = l; target = rest.1; queue = rest.2 }
