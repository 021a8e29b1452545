-- The turns of the cars' doors: a turn of the code is the definition's step in the world so far; where the code skips
-- a car, the definition leaves it as it is. Assumes nothing.
use mathlib.Core.Path.{◌≡◌, refl, sym, ap, ◌∙◌}
use mathlib.Core.Bool.{Bool, true, false, not, ◌&&◌, ◌||◌, cond, true≢false}
use mathlib.Core.Logic.{◌⊎◌, ⊎_elim}
use mathlib.Core.List.{List, []}
use Prim.Native.Nat.{ℕ, ◌+◌, ◌<◌, ◌≤◌, min}
use native.Mathlib.Numerals.{add-one}
use native.Mathlib.Omega.{arith}
use lib.Dec.{eqb}
use lib.ListN.{length, take, get_or, set, get_or-replicate}
use Rattle.std.proofs.lemmas.List.{length-replicate, length-set}
use lib.Seq.{get_or-set_other, set-get_or}
use borrow.Author.Tests.{eqb-true}
use Rattle.world.specs.World.{car_at}
use Rattle.world.specs.declared.World.{World}
use Rattle.world.specs.declared.Car.{Car}
use Rattle.world.specs.declared.Line.{Line}
use Rattle.world.specs.declared.Motion.{Motion}
use lib.Ieee.{Float}
use Rattle.doors_tick.proofs.Turning.{then}
use Rattle.std.specs.declared.option.Option.{Option}
use Rattle.stops_next.specs.NextStop.{loop_next_stop_for_car}
use Rattle.log_writes.specs.Parts.{Written, Log}
use Rattle.log_writes.proofs.Written.{written_none, written_also}
use Rattle.turn.specs.Steps.{Turn, line_of, not_opened, turn_of, with_turn, run_to, run_cars}
use Rattle.turn.proofs.Cars.{by_turns, stepped_same}
use Rattle.turn.specs.declared.JustOpened.{JustOpened}
use Rattle.doors_commands.specs.Commands.{at_stop, has_rider_traversing, with_queue_emptied, with_phase_door_and_queue, process_door_commands, command_words}
use Rattle.doors_commands.specs.Parts.{Processed}
use Rattle.doors_turn.specs.Doors.{turn_by, door_turn, turn_on, in_world, turn_of_door, doors_run, car_count, doors_world, doors_words}
use Rattle.doors_turn.specs.Parts.{has_turn}
use Rattle.doors_tick.specs.Ticks.{DoorTurn, quiet_turn, is_door_tick_skipped, door_by}
use Rattle.doors_tick.specs.Parts.{DoorTurnMade}
use Rattle.doors_calls.specs.Clearing.{clear_to, clear_words_to}
use Rattle.doors_calls.specs.Parts.{Clears}
use Rattle.door.specs.declared.DoorCommand.{DoorCommand}
use Rattle.world.specs.Tables.{Queue}
use Rattle.world.specs.declared.HallCalls.{HallCalls}
use Rattle.doors_calls.proofs.First.{first}
use Rattle.doors_commands.proofs.Working.{no_work, no_words, only}

-- the first i cars' turns made by code: the world, the doors just opened, and the words that they wrote
pub record Runs (turn : World → ℕ → Turn) (world : World) (l : Log) (i : ℕ) (w : World)
    (opened : List (Option JustOpened)) (l' : Log) : Type 0 where
  pub left : w ≡ (run_to turn world i).world
  pub opens : opened ≡ (run_to turn world i).opened
  pub written : Written l (run_to turn world i).words l'

-- the same under other names
pub same : {turn : World → ℕ → Turn} {world w v : World} {l l' m : Log} {i : ℕ} {opened os : List (Option JustOpened)}
    → Runs turn world l i w opened l' → m ≡ l'
    → v ≡ w
    → os ≡ opened
    → Runs turn world l i v os m
same k e f g = record { left = f ∙ k.left; opens = g ∙ k.opens; written = rw e k.written }

-- a turn more
pub more : {turn : World → ℕ → Turn} {world w : World} {l l' l'' : Log} {i : ℕ} {opened : List (Option JustOpened)}
    (s : Turn)
    → Runs turn world l i w opened l'
    → turn w i ≡ s
    → Written l' s.words l''
    → Runs turn world l (i + 1) (with_turn w i s) (set opened i s.opened) l''
unfolding run_to
more s k e h = record { left = rw (add-one, ← k.left, e); opens = rw (add-one, ← k.left, e, ← k.opens); written = rw (add-one, ← k.left, e) (written_also k.written h) }

-- a turn that is skipped, and one that is not
out : (b : Bool) (t u : DoorTurn) {l l' : Log} {d : Car} {o : Option JustOpened} → b ≡ false → DoorTurnMade u l l' d o → DoorTurnMade (cond b t u) l l' d o
out b t u e h = rw e h

on : (b : Bool) (t u : DoorTurn) {l l' : Log} {d : Car} {o : Option JustOpened} → b ≡ true → DoorTurnMade t l l' d o → DoorTurnMade (cond b t u) l l' d o
on b t u e h = rw e h

module _ (c : Car) (i : ℕ) (a traversing : Bool) where
  pub skipped : (next : Option ℕ) {l : Log} → c.enabled ≡ false
      → DoorTurnMade (door_turn i c a traversing next) l l c not_opened
  skipped next e = out c.enabled _ _ e (record { car = refl; written = written_none; opens = refl })

  -- it is that of the car as its commands left it, where it stood
  pub worked_off : (line : Line) (stops : List Float) {k d : Car} {l l' l'' : Log} {o : Option JustOpened}
      → c.enabled ≡ true → Processed c a traversing i l l' k
      → DoorTurnMade (door_by i k (loop_next_stop_for_car line stops k.motion.position)) l' l'' d o
      → DoorTurnMade (door_turn i c a traversing (loop_next_stop_for_car line stops c.motion.position)) l l'' d o
  worked_off line stops {k} e w h =
      let m : k.motion ≡ c.motion = ap (λ (x : Car). x.motion) (w.car ∙ only c a traversing) in
      let n : loop_next_stop_for_car line stops k.motion.position ≡ loop_next_stop_for_car line stops c.motion.position =
      ap (λ (x : Motion). loop_next_stop_for_car line stops x.position) m in
      on c.enabled _ _ e (rw (← w.car) (then w.written (rw n at h)))

module _ {l l' : Log} {d : Car} {o : Option JustOpened} where
  -- who stands on the threshold matters only to a command
  asked : (i : ℕ) (c : Car) (a traversing u : Bool) (next : Option ℕ) → (c.door_command_queue.count ≡ 0) ⊎ (traversing ≡ u) → DoorTurnMade (door_turn i c a traversing next) l l' d o
      → DoorTurnMade (door_turn i c a u next) l l' d o
  asked i c a traversing u next k h =
      ⊎_elim (λ e. rw (no_work c a u e, no_words c a u i e) (rw (no_work c a traversing e, no_words c a traversing i e) at h)) (λ e. rw (← e) h) k

  -- by the line that was read, and by who was found on the threshold, if anybody was looked for
  pub turn_on_lem : (w : World) (i : ℕ) (c : Car) (line : Line) (traversing : Bool)
      → line ≡ line_of w.lines.items c.line
      → (c.door_command_queue.count ≡ 0) ⊎ (traversing ≡ has_rider_traversing w.riders i)
      → DoorTurnMade
      (door_turn i c (at_stop line w.stops c.motion.position) traversing
      (loop_next_stop_for_car line w.stops.items c.motion.position)) l l' d o
      → DoorTurnMade (turn_on w i c (line_of w.lines.items c.line)) l l' d o
  turn_on_lem w i c line traversing f k h = asked i c _ traversing _ _ k (rw f at h)

  -- it is the car's turn
  by : (w : World) (t : DoorTurn) → DoorTurnMade t l l' d o → in_world w t ≡ turn_of w d t.words o
  by w t h = rw (h.car, h.opens)

  pub door_step_lem : (w : World) (i : ℕ)
      → DoorTurnMade (turn_on w i (car_at w.cars.items i) (line_of w.lines.items (car_at w.cars.items i).line)) l l' d o
      → turn_of_door w i
      ≡ turn_of w d (turn_on w i (car_at w.cars.items i) (line_of w.lines.items (car_at w.cars.items i).line)).words o
  unfolding turn_of_door
  door_step_lem w i h = by w _ h

-- ---- a car without a turn is left as it is

-- behind a test that a car without a turn does not pass, or passes to no avail
quiet : {t u : DoorTurn} (enabled none is_door_tick_skipped : Bool) → (enabled && (not none || not is_door_tick_skipped)) ≡ false → (none ≡ true → is_door_tick_skipped ≡ true → t ≡ u) → cond enabled t u ≡ u
quiet false none is_door_tick_skipped h f = refl
quiet true true true h f = f refl refl
quiet true true false h f = absurd (true≢false h)
quiet true false is_door_tick_skipped h f = absurd (true≢false h)

-- a car without a command, before its commands
as_it_is : (c : Car) → c.door_command_queue.count ≡ 0 → with_queue_emptied c ≡ c
as_it_is c e = ap (λ (n : ℕ). with_phase_door_and_queue c c.phase c.door (record { items = c.door_command_queue.items; count = n })) (sym e)

resting : (i : ℕ) (c k : Car) (words : List ℕ) (next : Option ℕ) → k ≡ with_queue_emptied c → words ≡ [] → is_door_tick_skipped c ≡ true
    → turn_by i k words next ≡ quiet_turn (with_queue_emptied c)
resting i c k words next e f s = rw (e, f, s)

still : (i : ℕ) (c : Car) (a traversing : Bool) (next : Option ℕ) → has_turn c ≡ false → door_turn i c a traversing next ≡ quiet_turn c
still i c a traversing next h =
    quiet c.enabled (eqb c.door_command_queue.count 0) (is_door_tick_skipped c) h
    (λ n s. let e = eqb-true c.door_command_queue.count 0 n in
    resting i c (process_door_commands c a traversing) (command_words c a traversing i) next (no_work c a traversing e) (no_words c a traversing i e) s
    ∙ ap quiet_turn (as_it_is c e))

still_of : (w : World) (i : ℕ) → has_turn (car_at w.cars.items i) ≡ false → turn_of_door w i ≡ turn_of w (car_at w.cars.items i) [] not_opened
unfolding turn_of_door
still_of w i h = ap (in_world w) (still i (car_at w.cars.items i) _ _ _ h)

-- nothing has opened where no car has had its turn
unopened : (turn : World → ℕ → Turn) (w : World) (j : ℕ) → j < 16 → (i : ℕ) → i ≤ j → get_or (run_to turn w i).opened j not_opened ≡ not_opened
unfolding run_to
unopened turn w j b =
    by_turns turn w (λ i r. get_or r.opened j not_opened ≡ not_opened) j (get_or-replicate 16 j not_opened not_opened b)
    (λ i l p. get_or-set_other (run_to turn w i).opened i j (turn (run_to turn w i).world i).opened not_opened (λ (e : j ≡ i). omega (arith, e)) ∙ p)

opened_same : (os : List (Option JustOpened)) (i : ℕ) → get_or os i not_opened ≡ not_opened → os ≡ set os i not_opened
opened_same os i e = sym (set-get_or os i not_opened) ∙ ap (set os i) e

pub passed : {world w : World} {l l' : Log} {i : ℕ} {opened : List (Option JustOpened)}
    → Runs turn_of_door world l i w opened l' → i < 16
    → has_turn (car_at w.cars.items i) ≡ false
    → Runs turn_of_door world l (i + 1) w opened l'
passed {world = world} {w = w} {i = i} {opened = opened} k b h =
    same (more (turn_of w (car_at w.cars.items i) [] not_opened) k (still_of w i h) written_none) refl (stepped_same w i)
    (opened_same opened i (ap (λ (os : List (Option JustOpened)). get_or os i not_opened) k.opens ∙ unopened turn_of_door world i b i (omega arith)))

-- a place for each car
places : (turn : World → ℕ → Turn) (w : World) (n : ℕ) → length (run_to turn w n).opened ≡ 16
unfolding run_to
places turn w n =
    by_turns turn w (λ i r. length r.opened ≡ 16) n (length-replicate 16 not_opened)
    (λ i l p. length-set (run_to turn w i).opened i (turn (run_to turn w i).world i).opened ∙ p) n (omega arith)

-- all cars' turns, then the hall calls, by what the cars have opened
pub ended : {world w : World} {l l' l'' : Log} {n : ℕ} {opened : List (Option JustOpened)} {calls r : HallCalls}
    → Runs turn_of_door world l (car_count world) w opened l'
    → n ≡ car_count world
    → calls ≡ world.calls
    → Clears (clear_to (take n opened) calls (min (length (take n opened)) 16))
    (clear_words_to (take n opened) calls (min (length (take n opened)) 16)) l' l'' r
    → (record w { calls = r } ≡ doors_world world) × Written l (doors_words world) l''
unfolding doors_world doors_words doors_run run_cars
ended {world = world} {l' = l'} {l'' = l''} {n = n} {opened = opened} {calls = calls} {r = r} k e f h =
    let s : length opened ≡ 16 = ap length k.opens ∙ places turn_of_door world (car_count world) in
    let g : Clears (clear_to opened calls n) (clear_words_to opened calls n) l' l'' r = first opened calls n (omega (arith, e)) (omega (arith, s, e)) h in
    let c : Clears (clear_to opened world.calls (car_count world)) (clear_words_to opened world.calls (car_count world)) l' l'' r = rw (← e, ← f) g in
    (rw (← k.left, ← k.opens, ← c.calls), rw (← k.opens) (written_also k.written c.written))
