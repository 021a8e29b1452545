-- A car's turn in either system keeps what the door parts need of the car, and its words say nothing of another: by
-- the cases of the turn and of the phase and door that go together. Assumes nothing.
use mathlib.Core.Path.{◌≡◌, refl, sym, ap, ◌∙◌}
use mathlib.Core.Bool.{Bool, true, false, ◌&&◌, beq}
use mathlib.Core.List.{List, [], ◌∷◌, ◌++◌}
use Prim.Native.Nat.{ℕ, zero, suc, ◌+◌, ◌-◌, ◌*◌, ◌<◌, min}
use lib.Dec.{eqb, leb}
use lib.Ieee.{Float}
use Rattle.laws.proofs.Bools.{yes, no}
use Rattle.door.specs.Door.{is_closed}
use Rattle.door.specs.Door.{DoorTick}
use Rattle.door.specs.declared.DoorState.{DoorState}
use Rattle.door.specs.declared.DoorState.TheVariants.{Closed, Opening, Open, Closing}
use Rattle.world.specs.World.{car_at}
use Rattle.world.specs.declared.World.{World}
use Rattle.world.specs.declared.Car.{Car}
use Rattle.door.specs.declared.DoorCommand.{DoorCommand}
use Rattle.world.specs.declared.ElevatorPhase.{ElevatorPhase}
use Rattle.world.specs.declared.ElevatorPhase.TheVariants.{Idle, MovingToStop, Repositioning, DoorOpening, Loading, DoorClosing, Stopped}
use Rattle.std.specs.declared.option.Option.{Option}
use Rattle.std.specs.declared.option.Option.TheVariants.{None, Some}
use Rattle.log_words.specs.Words.{word, code_of, hold_ticks_of}
use Rattle.laws.specs.Numbers.{bit}
use Rattle.turn.specs.Steps.{is_manual, is_inspection, both_lit, unlit, update_indicators}
use Rattle.world.specs.declared.Lamps.{Lamps}
use Rattle.move_trip.specs.Trips.{trip_by, trip_of, has_trip}
use Rattle.move_trip.specs.Spans.{moving_up}
use Rattle.move_trip.specs.declared.Trip.{Trip}
use Rattle.move_turn.specs.Passing.{passing_words}
use Rattle.move_turn.specs.Movement.{turn_of_move}
use Rattle.move_turn.proofs.Cases.{move_cases}
use Rattle.doors_commands.specs.Commands.{queued, try_apply_command, applied_words, processed_to, processed_words_to, process_door_commands, command_words}
use Rattle.doors_commands.proofs.Keeping.{commands_keep}
use Rattle.doors_turn.specs.Doors.{door_turn, turn_of_door}
use Rattle.doors_tick.specs.Ticks.{DoorTurn, departed_words, finished_opening, finished_closing, finish_by, with_phase_and_door, quiet_turn, door_by}
use Rattle.doors_tick.proofs.Cases.{door_cases}
use Rattle.doors_commands.proofs.Working.{only}
use Rattle.doors_commands.specs.declared.Doorway.{Doorway}
use Rattle.laws.proofs.Choices.{both}
use Rattle.claim_certificate.proofs.Watch.{Told, Silent, written_none, written_join, written_dull, written_word, written_other}

-- phase and door agree, and where the door is closed the log says so too
pub data Sound : ElevatorPhase → DoorState → Bool → Type 0 where
  idle : Sound Idle Closed false
  stopped : Sound Stopped Closed false
  moving : {s : ℕ} → Sound (MovingToStop s) Closed false
  repositioning : {s : ℕ} → Sound (Repositioning s) Closed false
  opening : {t od cd : ℕ} {o : Bool} → Sound DoorOpening (Opening t od cd) o
  loading : {t cd : ℕ} {o : Bool} → Sound Loading (Open t cd) o
  closing : {t : ℕ} {o : Bool} → Sound DoorClosing (Closing t) o

-- a car as the condition needs it, its door open by the log or not
pub record Fit (c : Car) (o : Bool) : Type 0 where
  pub sound : Sound c.phase c.door o
  pub tame : is_manual c.service_mode ≡ false

-- what a turn of car i leaves: the car and its words
pub record Good (i : ℕ) (o : Bool) (c : Car) (ws : List ℕ) : Type 0 where
  pub end : Bool
  pub written : Told i o end ws
  pub fit : Fit c end

still : (i : ℕ) (o : Bool) (c : Car) → Fit c o → Good i o c []
still i o c f = record { end = o; written = written_none i o; fit = f }

lamps_told : (n : ℕ) (o : Bool) (i : ℕ) (was lamps : Lamps) → Told n o o (update_indicators i was lamps)
lamps_told n o i was lamps =
    both (Told n o o) (beq was.going_up lamps.going_up && beq was.going_down lamps.going_down) (written_none n o)
    (written_dull n o 5 i 0 (2 * bit lamps.going_up + bit lamps.going_down) refl refl refl refl)

-- ---- movement

-- no word of car i but those of its door says anything of car n, whose door is open by the log or not
abbrev Bears : ℕ → Bool → ℕ → Type 0
Bears n o i = (k s v : ℕ) → leb 11 k ≡ false → eqb k 6 ≡ false → eqb k 7 ≡ false → Told n o o (word k i s v ∷ [])

passing_told : {n : ℕ} {o : Bool} (i : ℕ) → Bears n o i → (up : Bool) (ss : List ℕ) → Told n o o (passing_words i up ss)
unfolding passing_words
passing_told {n} {o} i b up [] = written_none n o
passing_told {n} {o} i b up (s ∷ ss) = written_join (b 1 s (bit up) refl refl refl) (passing_told i b up ss)

-- the words of car i's turn, where those of a trip say nothing of car n
move_told : (n : ℕ) (o : Bool) (w : World) (i : ℕ) → (has_trip (trip_of (car_at w.cars.items i)) ≡ true → Bears n o i) → (dt : Float)
    → Told n o o (turn_of_move dt w i).words
move_told n o w i b =
    let c : Car = car_at w.cars.items i in
    move_cases (λ s. Told n o o s.words) w i (written_none n o)
    (λ e trip kind r. passing_told i (b e) (moving_up kind c.motion.position r.position) _)
    (λ e s kind r lamps. written_join (b e 2 s 0 refl refl refl) (lamps_told n o i c.lamps lamps))
    (λ e s kind r lamps. written_join (b e 3 s 0 refl refl refl) (written_join (written_dull n o 4 i s 0 refl refl refl refl) (lamps_told n o i c.lamps both_lit)))

-- they say nothing of another car
pub move_silent : (dt : Float) (w : World) (i n : ℕ) → i < 16 → (n ≡ i → ⊥) → Silent n (turn_of_move dt w i).words
move_silent dt w i n low other o = move_told n o w i (λ e k s v l six seven. written_other n i low other k s v l o) dt

-- a car that makes a trip has a closed door, by the log too
abbrev Shut : DoorState → Bool → Trip → Type 0
Shut d o trip = has_trip trip ≡ true → (d ≡ Closed) × (o ≡ false)

shut_by : (p : ElevatorPhase) (d : DoorState) (o : Bool) → Sound p d o → Shut d o (trip_by p)
shut_by p d o idle h = no h
shut_by p d o stopped h = no h
shut_by p d o moving h = (refl, refl)
shut_by p d o repositioning h = (refl, refl)
shut_by p d o opening h = no h
shut_by p d o loading h = no h
shut_by p d o closing h = no h

shut : (c : Car) (o : Bool) → Fit c o → Shut c.door o (trip_of c)
shut c o f =
    both (Shut c.door o) c.enabled
    (rw f.tame (shut_by c.phase c.door o f.sound))
    (λ h. no h)

module _ (w : World) (i : ℕ) (o : Bool) (low : i < 16) (f : Fit (car_at w.cars.items i) o) where
  abbrev c : Car
  c = car_at w.cars.items i

  -- its own moves stand where its door is closed
  own_bears : has_trip (trip_of c) ≡ true → Bears i o i
  own_bears e k s v l six seven = written_word i low k s v l (λ _. (shut c o f e).1) (rw (six, seven))

  pub move_good : (dt : Float) → Good i o (turn_of_move dt w i).car (turn_of_move dt w i).words
  move_good dt = record {
    end = o;
    written = move_told i o w i own_bears dt;
    fit = move_cases (λ s. Fit s.car o) w i f (λ e trip kind r. record { sound = f.sound; tame = f.tame })
        (λ e s kind r lamps. record { sound = opening; tame = f.tame })
        (λ e s kind r lamps. record { sound = rw ((shut c o f e).0, (shut c o f e).1) idle; tame = f.tame }) dt;
  }

  -- a car whose door is not closed is left as it is
  pub move_rests : (dt : Float) → is_closed c.door ≡ false → (turn_of_move dt w i).car ≡ c
  move_rests dt h =
      let no_trip : has_trip (trip_of c) ≡ true → ⊥ = λ e. yes (ap is_closed (sym (shut c o f e).0) ∙ h) in
      move_cases (λ s. s.car ≡ c) w i refl (λ e trip kind r. absurd (no_trip e)) (λ e s kind r lamps. absurd (no_trip e)) (λ e s kind r lamps. absurd (no_trip e)) dt

-- ---- door commands

commands_sound : (c : Car) (at traversing : Bool) (o : Bool) → Sound c.phase c.door o
    → Sound (process_door_commands c at traversing).phase (process_door_commands c at traversing).door o
commands_sound c at traversing o = commands_keep (λ p d. Sound p d o) (λ a b. opening) (λ a. closing) (λ a b cd s. loading) c at traversing

applied_told : (n : ℕ) (o : Bool) (i : ℕ) (q : DoorCommand) (t : Option Doorway) → Told n o o (applied_words i q t)
applied_told n o i q None = written_none n o
applied_told n o i q (Some d) = written_dull n o 10 i (code_of q) (hold_ticks_of q) refl refl refl refl

words_told : (n : ℕ) (o : Bool) (c : Car) (at traversing : Bool) (i m : ℕ) → Told n o o (processed_words_to c at traversing i m)
unfolding processed_words_to
words_told n o c at traversing i zero = written_none n o
words_told n o c at traversing i (suc m) =
    let q : DoorCommand = queued c at traversing m in
    written_join (words_told n o c at traversing i m) (applied_told n o i q (try_apply_command q (processed_to c at traversing m) at traversing))

-- ---- the door's tick

departed_told : (n : ℕ) (o : Bool) (s : Option ℕ) (i : ℕ) → Told n o o (departed_words s i)
departed_told n o None i = written_none n o
departed_told n o (Some s) i = written_dull n o 8 i s 0 refl refl refl refl

-- the words of a car whose door has closed, by the first
closed_told : {n : ℕ} {o o' : Bool} (i : ℕ) (c : Car) (next : Option ℕ) → Told n o o' (word 7 i 0 0 ∷ []) → Told n o o' (finished_closing next i c).words
closed_told {n} {o} {o'} i c None t = written_join t (lamps_told n o' i c.lamps both_lit)
closed_told {n} {o} {o'} i c (Some s) t = written_join t (written_join (lamps_told n o' i c.lamps unlit) (departed_told n o' c.target_stop i))

module _ (i : ℕ) (low : i < 16) (c : Car) (tame : is_manual c.service_mode ≡ false) where
  abbrev Turns : Bool → DoorTurn → Type 0
  Turns o t = Good i o t.car t.words

  rests_good : (o : Bool) (p : ElevatorPhase) (d : DoorState) → Sound p d o → Turns o (quiet_turn (with_phase_and_door c p d))
  rests_good o p d s = record { end = o; written = written_none i o; fit = record { sound = s; tame = tame } }

  opened_good : (o : Bool) (od cd : ℕ) → Turns o (finished_opening i (with_phase_and_door c c.phase (Open od cd)))
  opened_good o od cd = record { end = true; written = written_word i low 6 0 0 refl (λ h. no h) refl; fit = record { sound = loading; tame = tame } }

  closed_good : (o : Bool) (p : ElevatorPhase) (next : Option ℕ) → Turns o (finished_closing next i (with_phase_and_door c p Closed))
  closed_good o p next = record { end = false; written = closed_told i (with_phase_and_door c p Closed) next (written_word i low 7 0 0 refl (λ h. no h) refl); fit = fit next }
    where
      fit : (next : Option ℕ) → Fit (finished_closing next i (with_phase_and_door c p Closed)).car false
      fit None = record { sound = stopped; tame = tame }
      fit (Some s) = record { sound = moving; tame = tame }

  door_by_lem : (next : Option ℕ) (p : ElevatorPhase) (d : DoorState) (o : Bool) → Sound p d o → Turns o (door_by i (with_phase_and_door c p d) next)
  door_by_lem next p d o idle = rests_good false Idle Closed idle
  door_by_lem next p d o stopped = rests_good false Stopped Closed stopped
  door_by_lem next p d o (moving {s}) = rests_good false (MovingToStop s) Closed moving
  door_by_lem next p d o (repositioning {s}) = rests_good false (Repositioning s) Closed repositioning
  door_by_lem next p d o (opening {t} {od} {cd} {o = b}) =
      both (Turns b) (is_inspection c.service_mode && false) (rests_good b DoorOpening (Opening t od cd) opening)
      (both (λ (y : DoorTick). Turns b (finish_by y.transition i (with_phase_and_door c DoorOpening y.door) next)) (leb t 1) (opened_good b od cd)
      (rests_good b DoorOpening (Opening (t - 1) od cd) opening))
  door_by_lem next p d o (loading {t} {cd} {o = b}) =
      both (Turns b) (is_inspection c.service_mode && true) (rests_good b Loading (Open t cd) loading)
      (both (λ (y : DoorTick). Turns b (finish_by y.transition i (with_phase_and_door c Loading y.door) next)) (leb t 1) (rests_good b DoorClosing (Closing cd) closing)
      (rests_good b Loading (Open (t - 1) cd) loading))
  door_by_lem next p d o (closing {t} {o = b}) =
      both (Turns b) (is_inspection c.service_mode && false) (rests_good b DoorClosing (Closing t) closing)
      (both (λ (y : DoorTick). Turns b (finish_by y.transition i (with_phase_and_door c DoorClosing y.door) next)) (leb t 1) (closed_good b DoorClosing next)
      (rests_good b DoorClosing (Closing (t - 1)) closing))

-- words before a turn
after_good : {i : ℕ} {o : Bool} {c : Car} {ws vs : List ℕ} → Told i o o ws → Good i o c vs → Good i o c (ws ++ vs)
after_good p g = record { end = g.end; written = written_join p g.written; fit = g.fit }

door_turn_lem : (i : ℕ) (low : i < 16) (c : Car) (at traversing : Bool) (next : Option ℕ) (o : Bool) → Fit c o
    → Good i o (door_turn i c at traversing next).car (door_turn i c at traversing next).words
unfolding command_words
door_turn_lem i low c at traversing next o f =
    let k : Car = process_door_commands c at traversing in
    let tame : is_manual k.service_mode ≡ false = ap (λ (x : Car). is_manual x.service_mode) (only c at traversing) ∙ f.tame in
    both (λ (t : DoorTurn). Good i o t.car t.words) c.enabled
    (after_good (words_told i o c at traversing i (min c.door_command_queue.count 8))
    (door_by_lem i low k tame next k.phase k.door o (commands_sound c at traversing o f.sound)))
    (still i o c f)

pub door_good : (w : World) (i : ℕ) (o : Bool) → i < 16 → Fit (car_at w.cars.items i) o
    → Good i o (turn_of_door w i).car (turn_of_door w i).words
unfolding turn_of_door
door_good w i o low f = door_turn_lem i low (car_at w.cars.items i) _ _ _ o f

-- the words of a car's turn say nothing of another
turn_silent : (i n : ℕ) → i < 16 → (n ≡ i → ⊥) → (c : Car) (at traversing : Bool) (next : Option ℕ) → Silent n (door_turn i c at traversing next).words
unfolding command_words
turn_silent i n low other c at traversing next o =
    let k : Car = process_door_commands c at traversing in
    let Says : DoorTurn → Type 0 = λ t. Told n o o t.words in
    let none : (d : DoorState) → Told n o o [] = λ d. written_none n o in
    both Says c.enabled
    (written_join (words_told n o c at traversing i (min c.door_command_queue.count 8))
    (door_cases Says i k next none (λ d. written_other n i low other 6 0 0 refl o) none (λ d. closed_told i (with_phase_and_door k k.phase d) None (written_other n i low other 7 0 0 refl o))
    (λ s d e. closed_told i (with_phase_and_door k k.phase d) (Some s) (written_other n i low other 7 0 0 refl o))))
    (written_none n o)

pub door_silent : (w : World) (i n : ℕ) → i < 16 → (n ≡ i → ⊥) → Silent n (turn_of_door w i).words
unfolding turn_of_door
door_silent w i n low other = turn_silent i n low other (car_at w.cars.items i) _ _ _

-- no turn of the doors moves a car
turn_stands : (i : ℕ) (c : Car) (at traversing : Bool) (next : Option ℕ) → (door_turn i c at traversing next).car.motion ≡ c.motion
turn_stands i c at traversing next =
    let Stands : DoorTurn → Type 0 = λ t. t.car.motion ≡ c.motion in
    let m : (process_door_commands c at traversing).motion ≡ c.motion = ap (λ (x : Car). x.motion) (only c at traversing) in
    both Stands c.enabled (door_cases Stands i (process_door_commands c at traversing) next (λ d. m) (λ d. m) (λ d. m) (λ d. m) (λ s d e. m)) refl

pub door_stands : (w : World) (i : ℕ) → (turn_of_door w i).car.motion ≡ (car_at w.cars.items i).motion
unfolding turn_of_door
door_stands w i = turn_stands i (car_at w.cars.items i) _ _ _
