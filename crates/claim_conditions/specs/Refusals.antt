-- "A refusal is given on its condition and on no other": every refusal by its number, its conditions in the paper's
-- words and order, and what a call answers then.
-- It is to be held beside "A record comes in" alone: no list of checks and no decoder of the definition is named here,
-- only the plain readers of words, floats and the world.
use Rattle.std.specs.Prelude.{◌≡◌, ◌⊎◌, ◌↔◌, ◌≢◌, true, false, cond, List, [], ◌∷◌, ℕ, ◌+◌, ◌*◌, ◌/◌, ◌%◌, ◌^◌, ◌<◌, ◌≤◌, eqb, length, get_or, pos, Float, Ok, Err}
use Rattle.std.specs.Float.{fin}
use Rattle.std.specs.Float.Ieee.{lt, le}
use Rattle.float.specs.Float.{abs, is_finite, zero}
use Rattle.layout.specs.Layout.{kind_of, n_of, s_of, v_of}
use Rattle.tape_fields.specs.Fields.{float_at}
use Rattle.world_call_sets.specs.Calls.{is_called}
use Rattle.world.specs.World.{line_at, car_at, rider_at}
use Rattle.world.specs.Refusal.{refusal_number}
use Rattle.world.specs.declared.World.{World}
use Rattle.world.specs.declared.ElevatorPhase.TheVariants.{Idle, MovingToStop, Repositioning, Stopped}
use Rattle.world.specs.declared.RiderPhase.TheVariants.{Boarding, Riding, Exiting}
use Rattle.std.specs.declared.option.Option.TheVariants.{Some}
use Rattle.record.specs.Record.{Answer}
use Rattle.record.specs.Record.{record_of}
use Rattle.report.specs.Report.{Reported}
use Rattle.report.specs.Report.{report_of}

-- ---- what the words of a record say

-- "Head: bits 31-28 kind (hexadecimal below), 27-24 n, 23-16 s, 15-0 v"
abbrev pub kind : List ℕ → ℕ
kind words = kind_of (get_or words 0 0)

abbrev pub n : List ℕ → ℕ
n words = n_of (get_or words 0 0)

abbrev pub s : List ℕ → ℕ
s words = s_of (get_or words 0 0)

abbrev pub v : List ℕ → ℕ
v words = v_of (get_or words 0 0)

-- a kind is one of these
abbrev pub OneOf : ℕ → List ℕ → Type 0
OneOf k [] = ⊥
OneOf k (x ∷ xs) = (k ≡ x) ⊎ OneOf k xs

-- of a line: "v count of served stops, at most 64, or 65,535 for no list"
abbrev pub served : List ℕ → ℕ
served words = cond (eqb (v words) 65535) 0 (v words)

-- "raw zero words": the two words of a float
abbrev pub RawZero : List ℕ → ℕ → Type 0
RawZero words i = (get_or words i 0 ≡ 0) × (get_or words (i + 1) 0 ≡ 0)

-- of a rider: "Body word: bits 7-0 phase .., 15-8 phase's car .., 23-16 car aboard or 255, top bits 0"
abbrev pub phase_of : List ℕ → ℕ
phase_of words = get_or words 1 0 % 2 ^ 8

abbrev pub phase_car_of : List ℕ → ℕ
phase_car_of words = get_or words 1 0 / 2 ^ 8 % 2 ^ 8

abbrev pub aboard_of : List ℕ → ℕ
aboard_of words = get_or words 1 0 / 2 ^ 16 % 2 ^ 8

abbrev pub top_of : List ℕ → ℕ
top_of words = get_or words 1 0 / 2 ^ 24

-- ---- ranges of floats: "a float not finite or outside its range". `fin false m (pos e)` is the number m × 2 to the e

-- 15,625 × 64
abbrev pub million : Float
million = fin false 15625 (pos 6)

-- 125 × 8
abbrev pub thousand : Float
thousand = fin false 125 (pos 3)

-- 5 × 2
abbrev pub ten : Float
ten = fin false 5 (pos 1)

abbrev pub one : Float
one = fin false 1 (pos 0)

-- "at most .. in size"
pub data NotInSize (most x : Float) : Type 0 where
  size_not_finite : is_finite x ≡ false → NotInSize most x
  size_above : lt most (abs x) ≡ true → NotInSize most x

-- "0 to .."
pub data NotFromZero (most x : Float) : Type 0 where
  from_not_finite : is_finite x ≡ false → NotFromZero most x
  from_below : lt x zero ≡ true → NotFromZero most x
  from_above : lt most x ≡ true → NotFromZero most x

-- "above 0 to .."
pub data NotAboveZero (most x : Float) : Type 0 where
  above_not_finite : is_finite x ≡ false → NotAboveZero most x
  above_below : le x zero ≡ true → NotAboveZero most x
  above_above : lt most x ≡ true → NotAboveZero most x

-- ---- 0: "a lent world with a count above its table or limit, a queue above 8, a move counter of 2 to the 48 or more,
-- or a number in it that is not loaded"

pub data Broken (w : World) : Type 0 where
  -- "a count above its table": 64 stops, 8 lines, 16 cars, 128 riders; 64 stops in a line's list
  stops_above : 64 < w.stops.count → Broken w
  lines_above : 8 < w.lines.count → Broken w
  cars_above : 16 < w.cars.count → Broken w
  riders_above : 128 < w.riders.count → Broken w
  list_above : (l : ℕ) → l < w.lines.count → 64 < (line_at w.lines.items l).serves.stops.count → Broken w
  -- ".. or limit": tick 268,435,455 is the last that is made
  ticks_above : 268435456 < w.ticks → Broken w
  -- "a queue above 8"
  destinations_above : (c : ℕ) → c < w.cars.count → 8 < (car_at w.cars.items c).destination_queue.count → Broken w
  commands_above : (c : ℕ) → c < w.cars.count → 8 < (car_at w.cars.items c).door_command_queue.count → Broken w
  -- "a move counter of 2 to the 48 or more": the total and the cars' counters
  total_high : 2 ^ 48 ≤ w.total_moves → Broken w
  moves_high : (c : ℕ) → c < w.cars.count → 2 ^ 48 ≤ (car_at w.cars.items c).move_count → Broken w
  -- "or a number in it that is not loaded", which is one that is not below the count of its table: in a line's list
  listed_unloaded :
      (l i : ℕ) → l < w.lines.count → i < (line_at w.lines.items l).serves.stops.count
      → w.stops.count ≤ get_or (line_at w.lines.items l).serves.stops.items i 0 → Broken w
  -- a car's line, the stop of its phase, its target, its destinations
  line_unloaded : (c : ℕ) → c < w.cars.count → w.lines.count ≤ (car_at w.cars.items c).line → Broken w
  moving_unloaded :
      (c stop : ℕ) → c < w.cars.count → (car_at w.cars.items c).phase ≡ MovingToStop stop → w.stops.count ≤ stop
      → Broken w
  repositioning_unloaded :
      (c stop : ℕ) → c < w.cars.count → (car_at w.cars.items c).phase ≡ Repositioning stop → w.stops.count ≤ stop
      → Broken w
  target_unloaded :
      (c stop : ℕ) → c < w.cars.count → (car_at w.cars.items c).target_stop ≡ Some stop → w.stops.count ≤ stop
      → Broken w
  queued_unloaded :
      (c i : ℕ) → c < w.cars.count → i < (car_at w.cars.items c).destination_queue.count
      → w.stops.count ≤ get_or (car_at w.cars.items c).destination_queue.items i 0 → Broken w
  -- a rider's destination, the car of its phase, the car aboard
  route_unloaded :
      (r stop : ℕ) → r < w.riders.count → (rider_at w.riders.items r).destination ≡ Some stop → w.stops.count ≤ stop
      → Broken w
  boarding_unloaded :
      (r c : ℕ) → r < w.riders.count → (rider_at w.riders.items r).phase ≡ Boarding c → w.cars.count ≤ c → Broken w
  riding_unloaded :
      (r c : ℕ) → r < w.riders.count → (rider_at w.riders.items r).phase ≡ Riding c → w.cars.count ≤ c → Broken w
  exiting_unloaded :
      (r c : ℕ) → r < w.riders.count → (rider_at w.riders.items r).phase ≡ Exiting c → w.cars.count ≤ c → Broken w
  aboard_unloaded :
      (r c : ℕ) → r < w.riders.count → (rider_at w.riders.items r).aboard ≡ Some c → w.cars.count ≤ c → Broken w
  -- the stop of a hall call
  up_unloaded : (stop : ℕ) → w.stops.count ≤ stop → is_called w.calls.up stop ≡ true → Broken w
  down_unloaded : (stop : ℕ) → w.stops.count ≤ stop → is_called w.calls.down stop ≡ true → Broken w

-- ---- 1: "no word, or a body cut short", asked in two places

abbrev pub NoWord : List ℕ → Type 0
NoWord words = length words ≡ 0

-- the head is a word, a float two
pub data CutShort (words : List ℕ) : Type 0 where
  -- "Body: circumference, headway .., then one word a served stop"
  line_cut : kind words ≡ 1 → length words < 5 + served words → CutShort words
  -- a stop's "body position", a manual speed's "body a float", a tick's "body dt"
  float_cut : OneOf (kind words) (2 ∷ 7 ∷ 12 ∷ []) → length words < 3 → CutShort words
  -- "position, velocity, max speed, acceleration, deceleration, inspection factor; then transition ticks and open
  -- ticks, a word each"
  car_cut : kind words ≡ 3 → length words < 15 → CutShort words
  -- a rider's "Body word"
  rider_cut : kind words ≡ 4 → length words < 2 → CutShort words

-- ---- 2: "kind 0, E or F"; a kind has four bits

pub data NoKind (words : List ℕ) : Type 0 where
  kind_0 : kind words ≡ 0 → NoKind words
  kind_above : 13 < kind words → NoKind words

-- ---- 3: "a field outside its codes or number range, or an unused bit set", asked in two places: "A line's count
-- outside its codes is found before the body is measured."

-- "v count of served stops, at most 64, or 65,535 for no list"
pub data CountOutside (words : List ℕ) : Type 0 where
  count_outside : kind words ≡ 1 → 64 < v words → v words ≢ 65535 → CountOutside words

pub data FieldOutside (words : List ℕ) : Type 0 where
  -- "Fields not named are 0": n of a stop, a rider, a hall call, a tick and the start
  n_set : OneOf (kind words) (2 ∷ 4 ∷ 9 ∷ 12 ∷ 13 ∷ []) → n words ≢ 0 → FieldOutside words
  -- s of a mode, a manual speed, kind B, a tick and the start
  s_set : OneOf (kind words) (6 ∷ 7 ∷ 11 ∷ 12 ∷ 13 ∷ []) → s words ≢ 0 → FieldOutside words
  -- v of a stop, a car, a destination, a tick and the start
  v_set : OneOf (kind words) (2 ∷ 3 ∷ 10 ∷ 12 ∷ 13 ∷ []) → v words ≢ 0 → FieldOutside words
  -- "2 HoldOpen with v ticks": v of any other door command
  ticks_set : kind words ≡ 8 → s words ≢ 2 → v words ≢ 0 → FieldOutside words
  -- "top bits 0" of a rider's body
  top_set : kind words ≡ 4 → top_of words ≢ 0 → FieldOutside words
  -- "raw zero words if linear", "raw zero words if none"
  linear_set : kind words ≡ 1 → s words ≡ 0 → (RawZero words 1 × RawZero words 3 → ⊥) → FieldOutside words
  speed_set : kind words ≡ 7 → v words ≡ 0 → (RawZero words 1 → ⊥) → FieldOutside words
  -- codes: "s 0 linear, 1 loop"
  line_code : kind words ≡ 1 → 1 < s words → FieldOutside words
  -- "v 0 go, 1 reposition", "v 1 set, 0 none", "v 0 up, 1 down", "v 0 enable, 1 disable"
  v_code : OneOf (kind words) (5 ∷ 7 ∷ 9 ∷ 11 ∷ []) → 1 < v words → FieldOutside words
  -- "v 0 Normal, 1 Independent, 2 Inspection, 3 Manual, 4 OutOfService"
  mode_code : kind words ≡ 6 → 4 < v words → FieldOutside words
  -- "s 0 Open, 1 Close, 2 HoldOpen with v ticks, 3 CancelHold"
  command_code : kind words ≡ 8 → 3 < s words → FieldOutside words
  -- "phase (0 Waiting, .., 7 Resident)"
  phase_code : kind words ≡ 4 → 7 < phase_of words → FieldOutside words
  -- numbers: "Stops 0 to 63", a stop's own, of a send, a hall call and a destination
  stop_number : OneOf (kind words) (2 ∷ 5 ∷ 9 ∷ 10 ∷ []) → 63 < s words → FieldOutside words
  -- "one word a served stop", from word 5 on
  served_number : (i : ℕ) → kind words ≡ 1 → i < served words → 63 < get_or words (5 + i) 0 → FieldOutside words
  -- "v destination stop or 65,535 for none"
  route_number : kind words ≡ 4 → 63 < v words → v words ≢ 65535 → FieldOutside words
  -- lines, "number 0 to 7": a line's own, and a car's
  line_number : kind words ≡ 1 → 7 < n words → FieldOutside words
  car_line_number : kind words ≡ 3 → 7 < s words → FieldOutside words
  -- "riders 0 to 127"
  rider_number : kind words ≡ 4 → 127 < s words → FieldOutside words
  -- "cars 0 to 15", which n always is: "phase's car (phases 1 to 3; else 255)"
  phase_car_number :
      kind words ≡ 4 → 1 ≤ phase_of words → phase_of words ≤ 3 → 15 < phase_car_of words → FieldOutside words
  phase_car_set :
      kind words ≡ 4 → ((1 ≤ phase_of words) × (phase_of words ≤ 3) → ⊥) → phase_car_of words ≢ 255 → FieldOutside words
  -- "car aboard or 255"
  aboard_number : kind words ≡ 4 → 15 < aboard_of words → aboard_of words ≢ 255 → FieldOutside words

-- ---- 4: "a float not finite or outside its range"

pub data FloatOutside (words : List ℕ) : Type 0 where
  -- "positions at most 1,000,000 in size": a stop's, a car's
  position_outside : OneOf (kind words) (2 ∷ 3 ∷ []) → NotInSize million (float_at words 1) → FloatOutside words
  -- "circumference above 0 to 1,000,000; headway 0 to 1,000,000", of a loop
  circumference_outside : kind words ≡ 1 → s words ≡ 1 → NotAboveZero million (float_at words 1) → FloatOutside words
  headway_outside : kind words ≡ 1 → s words ≡ 1 → NotFromZero million (float_at words 3) → FloatOutside words
  -- "velocity and manual speed at most 1,000 in size"
  velocity_outside : kind words ≡ 3 → NotInSize thousand (float_at words 3) → FloatOutside words
  speed_outside : kind words ≡ 7 → v words ≡ 1 → NotInSize thousand (float_at words 1) → FloatOutside words
  -- "max speed and both rates 0 to 1,000"
  max_outside : kind words ≡ 3 → NotFromZero thousand (float_at words 5) → FloatOutside words
  acceleration_outside : kind words ≡ 3 → NotFromZero thousand (float_at words 7) → FloatOutside words
  deceleration_outside : kind words ≡ 3 → NotFromZero thousand (float_at words 9) → FloatOutside words
  -- "factor 0 to 10"
  factor_outside : kind words ≡ 3 → NotFromZero ten (float_at words 11) → FloatOutside words
  -- "dt above 0 to 1"
  dt_outside : kind words ≡ 12 → NotAboveZero one (float_at words 1) → FloatOutside words

-- ---- 6: "kinds 1, 2, 3 after start, 5 to C before it, a second start"

pub data NotNow (w : World) (words : List ℕ) : Type 0 where
  load_after : OneOf (kind words) (1 ∷ 2 ∷ 3 ∷ []) → w.started ≡ true → NotNow w words
  order_before : 5 ≤ kind words → kind words ≤ 12 → w.started ≡ false → NotNow w words
  second_start : kind words ≡ 13 → w.started ≡ true → NotNow w words

-- ---- 7: "a stop, line, car or rider number above the next unused one; for stops, lines and cars, also one below it"

pub data NotNext (w : World) (words : List ℕ) : Type 0 where
  stop_above : kind words ≡ 2 → w.stops.count < s words → NotNext w words
  line_above : kind words ≡ 1 → w.lines.count < n words → NotNext w words
  car_above : kind words ≡ 3 → w.cars.count < n words → NotNext w words
  rider_above : kind words ≡ 4 → w.riders.count < s words → NotNext w words
  stop_below : kind words ≡ 2 → s words < w.stops.count → NotNext w words
  line_below : kind words ≡ 1 → n words < w.lines.count → NotNext w words
  car_below : kind words ≡ 3 → n words < w.cars.count → NotNext w words

-- ---- 8: "a car, stop or line named but not loaded"

pub data NotLoaded (w : World) (words : List ℕ) : Type 0 where
  -- "n car": of a send, a mode, a manual speed, a door command, a destination and kind B
  car_named : OneOf (kind words) (5 ∷ 6 ∷ 7 ∷ 8 ∷ 10 ∷ 11 ∷ []) → w.cars.count ≤ n words → NotLoaded w words
  -- "s stop": of a send, a hall call and a destination
  stop_named : OneOf (kind words) (5 ∷ 9 ∷ 10 ∷ []) → w.stops.count ≤ s words → NotLoaded w words
  -- a car's "s line"
  line_named : kind words ≡ 3 → w.lines.count ≤ s words → NotLoaded w words
  -- a line's served stops
  served_named :
      (i : ℕ) → kind words ≡ 1 → i < served words → w.stops.count ≤ get_or words (5 + i) 0 → NotLoaded w words
  -- a rider's "destination stop or 65,535 for none", "phase's car (phases 1 to 3 ..)", "car aboard or 255"
  route_named : kind words ≡ 4 → v words ≢ 65535 → w.stops.count ≤ v words → NotLoaded w words
  phase_car_named :
      kind words ≡ 4 → 1 ≤ phase_of words → phase_of words ≤ 3 → w.cars.count ≤ phase_car_of words → NotLoaded w words
  aboard_named : kind words ≡ 4 → aboard_of words ≢ 255 → w.cars.count ≤ aboard_of words → NotLoaded w words

-- ---- 9: "send to a car that is disabled, or neither Idle nor Stopped"

pub data CannotGo (w : World) (words : List ℕ) : Type 0 where
  car_disabled : kind words ≡ 5 → (car_at w.cars.items (n words)).enabled ≡ false → CannotGo w words
  car_busy :
      kind words ≡ 5 → (car_at w.cars.items (n words)).phase ≢ Idle → (car_at w.cars.items (n words)).phase ≢ Stopped
      → CannotGo w words

-- ---- 10: "the queue that the record adds to (8: the car's door queue, A: its destination queue) holds 8"

pub data QueueFull (w : World) (words : List ℕ) : Type 0 where
  commands_full : kind words ≡ 8 → (car_at w.cars.items (n words)).door_command_queue.count ≡ 8 → QueueFull w words
  destinations_full : kind words ≡ 10 → (car_at w.cars.items (n words)).destination_queue.count ≡ 8 → QueueFull w words

-- ---- 11: "a tick when tick 268,435,455 has been made (the first is 0)"

pub data LastTick (w : World) (words : List ℕ) : Type 0 where
  last_made : kind words ≡ 12 → 268435455 < w.ticks → LastTick w words

-- ---- 12: "the lent log is shorter than cars × (stops + 14) + 1, on ticks only"

pub data LogShort (w : World) (words log : List ℕ) : Type 0 where
  log_short : kind words ≡ 12 → length log < w.cars.count * (w.stops.count + 14) + 1 → LogShort w words log

-- ---- the places where they are asked, in their order

-- a refusal's number, and its condition
pub record Cause : Type 1 where
  pub number : ℕ
  pub Holds : Type 0

abbrev pub cause : ℕ → Type 0 → Cause
cause number condition = record { number = number; Holds = condition }

-- no place has its condition
abbrev pub NoneHolds : List Cause → Type 0
NoneHolds [] = Unit {0}
NoneHolds (p ∷ ps) = (p.Holds → ⊥) × NoneHolds ps

-- a place of that number has its condition, and no earlier place has
abbrev pub FirstHolds : ℕ → List Cause → Type 0
FirstHolds number [] = ⊥
FirstHolds number (p ∷ ps) = ((p.number ≡ number) × p.Holds) ⊎ ((p.Holds → ⊥) × FirstHolds number ps)

-- "Checked in the order of the numbers, 2 before a short body."
abbrev pub causes : World → List ℕ → List ℕ → List Cause
causes w words log =
    cause 0 (Broken w)
    ∷ cause 1 (NoWord words)
    ∷ cause 2 (NoKind words)
    ∷ cause 3 (CountOutside words)
    ∷ cause 1 (CutShort words)
    ∷ cause 3 (FieldOutside words)
    ∷ cause 4 (FloatOutside words)
    ∷ cause 6 (NotNow w words)
    ∷ cause 7 (NotNext w words)
    ∷ cause 8 (NotLoaded w words)
    ∷ cause 9 (CannotGo w words)
    ∷ cause 10 (QueueFull w words)
    ∷ cause 11 (LastTick w words)
    ∷ cause 12 (LogShort w words log)
    ∷ []

-- ---- what is answered

-- a refusal with its number, or what was asked for
pub data Verdict : Type 0 where
  taken : Verdict
  refused : ℕ → Verdict

abbrev pub verdict : Answer → Verdict
verdict (Ok a) = taken
verdict (Err r) = refused (refusal_number r)

abbrev pub report_verdict : Reported → Verdict
report_verdict (Ok totals) = taken
report_verdict (Err r) = refused (refusal_number r)

-- "A refusal is given on its condition and on no other"
pub record ByCauses (ps : List Cause) (x : Verdict) : Type 0 where
  -- refusal N is given exactly when a place of number N has its condition and no earlier place has
  pub given : (number : ℕ) → (x ≡ refused number) ↔ FirstHolds number ps
  -- it is taken exactly when no place has its condition
  pub passed : (x ≡ taken) ↔ NoneHolds ps

-- ---- the report: 0, then 5, "from the report alone: a log word of kind B to F"; a kind has four bits

pub data LogKind (log : List ℕ) : Type 0 where
  kind_unknown : (i : ℕ) → i < length log → 10 < kind_of (get_or log i 0) → LogKind log

abbrev pub report_causes : World → List ℕ → List Cause
report_causes w log = cause 0 (Broken w) ∷ cause 5 (LogKind log) ∷ []

-- ---- the claim

pub record GivenOnItsCondition : Type 0 where
  -- of the record call
  pub record_call :
      (w : World) (words log : List ℕ) → ByCauses (causes w words log) (verdict (record_of w words log).answer)
  -- which never gives 5
  pub never_5 : (w : World) (words log : List ℕ) → verdict (record_of w words log).answer ≡ refused 5 → ⊥
  -- of the report
  pub report : (w : World) (log : List ℕ) → ByCauses (report_causes w log) (report_verdict (report_of w log))
