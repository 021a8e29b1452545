-- What every call gives: a refusal on its condition and on no other, and what a refusal and a tick leave as it was.
-- Each outcome is kept with the checks that led to it, in their order. Assumes nothing.
use mathlib.Core.Path.{◌≡◌, refl, sym}
use mathlib.Core.Logic.{◌⊎◌, inl, inr}
use mathlib.Core.Bool.{Bool, true, false, true≢false, cond}
use mathlib.Core.List.{List, [], ◌∷◌, ◌++◌}
use native.Mathlib.Omega.{arith}
use Prim.Native.Nat.{ℕ, ◌+◌, ◌<◌, ◌≤◌}
use lib.Dec.{eqb}
use lib.ListN.{length, get_or}
use lib.Seq.{length-sets}
use lib.Ieee.{Float}
use borrow.Author.Tests.{ltb-false, eqb-false}
use Rattle.world.specs.World.{car_at}
use Rattle.world.specs.With.{with_car}
use Rattle.world_sound.specs.Sound.{is_broken}
use Rattle.world.specs.Refusal.{Check, check, unless}
use Rattle.world.specs.declared.World.{World}
use Rattle.world.specs.declared.refusal.Refusal.{Refusal}
use Rattle.world.specs.declared.refusal.Refusal.TheVariants.{BrokenWorld, CutShort, UnknownKind}
use Rattle.tape_records.specs.Answers as TapeAnswers
use Rattle.tape.specs.Tape as Tape
use Rattle.tape.specs.Tape.{KindEntry, kinds, kind_in, decoded}
use Rattle.layout.specs.Layout.{kind_of, fields_of}
use Rattle.tape.specs.Facts.{ReadsInBounds, InBounds, ReadInBounds}
use Rattle.tape_records.specs.declared.Read.{Read}
use Rattle.tape_records.specs.declared.Found.{Found}
use Rattle.tape_records.specs.declared.Record.{Record}
use Rattle.tape_records.specs.declared.Record.TheVariants.{Line, Stop, Car, Rider, Send, Mode, ManualSpeed, DoorCommand, HallCall, Destination, Enable, Start}
use Rattle.tape.proofs.Bounds.{in_bounds}
use Rattle.record_loads.specs.Loads.{line_checks, with_line, load_line, stop_checks, with_stop, load_stop, car_checks, with_new_car, load_car, rider_checks, with_rider, load_rider}
use Rattle.record_start.specs.Changes.{start_checks, with_started, start}
use Rattle.record_start.specs.Changes.{Effect}
use Rattle.record_send.specs.Orders.{send_checks, with_target, send}
use Rattle.record_modes.specs.Modes.{order_checks, with_mode, set_mode, with_manual_speed, set_manual_speed, with_enabled, set_enabled}
use Rattle.record_queues.specs.Requests.{command_checks, with_command, queue_command, hall_call_checks, with_hall_call, press_hall_call, destination_checks, with_destination, push_destination}
use Rattle.laws.proofs.Choices.{both, cases}
use Rattle.world.proofs.Checks.{unless_has}
use Rattle.log_writes.proofs.Writing.{sets_after}
use Rattle.tick.specs.Tick.{tick_words}
use Rattle.tick.specs.Room.{room_of, WordsFit}
use Rattle.tick.proofs.Proved.{words_fit}
use Rattle.record_kinds.specs.Kinds.{change_by}
use Rattle.record.specs.Record.{Answer}
use Rattle.std.specs.Prelude.{Result, Ok, Err}
use Rattle.record.specs.Record.{Outcome, is_accepted, accepted, refused, change_outcome, tick_checks, tick_accepted, tick_outcome, outcome_by, read_by, record_of}
use Rattle.claim_conditions.specs.Conditions.{Kept, FirstCondition}

-- ---- the checks of a call, in the order in which the definition makes them

-- the conditions that the state brings, in the order of their numbers
abbrev pub state_checks : World → Record → List Check
state_checks w (Line number line) = line_checks w number line
state_checks w (Stop number position) = stop_checks w number
state_checks w (Car number plan) = car_checks w number plan
state_checks w (Rider number rider) = rider_checks w number rider
state_checks w (Send car stop reposition) = send_checks w car stop
state_checks w (Mode car mode) = order_checks w car
state_checks w (ManualSpeed car speed) = order_checks w car
state_checks w (DoorCommand car command) = command_checks w car
state_checks w (HallCall stop down) = hall_call_checks w stop
state_checks w (Destination car stop) = destination_checks w car stop
state_checks w (Enable car enabled) = order_checks w car
state_checks w Start = start_checks w

abbrev pub behind : World → List ℕ → Found → List Check
behind w log (Found.Change found) = state_checks w found
behind w log (Found.Tick dt) = tick_checks w log

-- a kind's conditions: those that the input brings, then the state's
abbrev pub checks_in : World → List ℕ → ℕ → List KindEntry → List Check
checks_in w log k [] = check UnknownKind true ∷ []
checks_in w log k (t ∷ ts) =
    cond (eqb k t.number) (t.deed.checks ++ behind w log t.deed.done.found) (checks_in w log k ts)

-- all conditions of a call, "in the order of the numbers, 2 before a short body"; "A line's count outside its codes
-- is found before the body is measured."
unfoldable pub conditions : World → List ℕ → List ℕ → List Check
conditions w words log =
    check BrokenWorld (is_broken w)
    ∷ check CutShort (eqb (length words) 0)
    ∷ checks_in w log (kind_of (get_or words 0 0)) (kinds (fields_of (get_or words 0 0)) words)

-- the answer is the refusal of the first condition that holds; where none holds the record is accepted
unfoldable pub Answers : List Check → Answer → Type 0
Answers [] a = is_accepted a ≡ true
Answers (c ∷ cs) a = ((c.holds ≡ true) × (a ≡ Err c.refusal)) ⊎ ((c.holds ≡ false) × Answers cs a)

unfoldable pub OnItsCondition : Type 0
OnItsCondition = (w : World) (words log : List ℕ) → Answers (conditions w words log) (record_of w words log).answer

-- ---- what a call gives

-- checks before others: the first that holds refuses; else it is answered as by what follows
unless_answers : {A : Type 0} (answer : A → Answer) (cs ds : List Check) (refused : Refusal → A) (next : A)
    → ((r : Refusal) → answer (refused r) ≡ Err r) → Answers ds (answer next) → Answers (cs ++ ds) (answer (unless cs refused next))
unfolding Answers
unless_answers answer [] ds refused next e h = h
unless_answers {A} answer (c ∷ cs) ds refused next e h =
    cases (λ (x : A). Answers (c ∷ (cs ++ ds)) (answer x)) c.holds (λ t. inl (t, e c.refusal))
    (λ t. inr (t, unless_answers answer cs ds refused next e h))

module _ (w : World) (words lent : List ℕ) where
  -- ---- what is kept

  refused_kept : (r : Refusal) → Kept w words lent (refused w lent r)
  refused_kept r = record {
    world = λ e. refl;
    log = λ e. refl;
    size = refl;
    later = λ i h. refl;
    used = omega arith;
    some = λ e. absurd (true≢false (sym e));
    written = omega arith;
    untouched = λ e. (refl, refl);
  }

  -- a record that takes words that are there
  abbrev Takes : ℕ → Type 0
  Takes used = (0 < used) × (used ≤ length words)

  accepted_kept : (used : ℕ) (next : World) → Takes used → Kept w words lent (accepted used 0 next lent)
  accepted_kept used next t = record {
    world = λ e. absurd (true≢false e);
    log = λ e. absurd (true≢false e);
    size = refl;
    later = λ i h. refl;
    used = t.1;
    some = λ e. t.0;
    written = omega arith;
    untouched = λ e. (refl, refl);
  }

  ticked_kept : (used : ℕ) (dt : Float) → room_of w ≤ length lent → Takes used → kind_of (get_or words 0 0) ≡ 12 → Kept w words lent (tick_accepted w lent used dt)
  unfolding WordsFit
  ticked_kept used dt room t k =
      let fits : length (tick_words w dt) ≤ room_of w = words_fit w dt in
      record {
        world = λ e. absurd (true≢false e);
        log = λ e. absurd (true≢false e);
        size = length-sets lent 0 (tick_words w dt);
        later = λ i h. sets_after (tick_words w dt) lent 0 i 0 (omega (arith, h));
        used = t.1;
        some = λ e. t.0;
        written = omega (arith, fits, room);
        untouched = λ e. absurd (eqb-false (kind_of (get_or words 0 0)) 12 e k);
      }

  -- ---- an outcome with the checks that led to it: the first that holds refuses; what is kept, where `f` holds

  record Fine (cs : List Check) (f : Type 0) (o : Outcome) : Type 0 where
    answers : Answers cs o.answer
    kept : f → Kept w words lent o

  fine_changed : (used : ℕ) (cs : List Check) (next : World) → Fine (cs ++ []) (Takes used) (change_outcome w lent used (unless cs Err (Ok next)))
  unfolding Answers
  fine_changed used cs next = record {
    answers = unless_answers (λ (c : Effect). (change_outcome w lent used c).answer) cs [] Err (Ok next) (λ r. refl) refl;
    kept = λ t. unless_has (λ (c : Effect). Kept w words lent (change_outcome w lent used c)) cs Err (Ok next) (λ r q. refused_kept r) (λ q. accepted_kept used next t);
  }

  -- ---- what was read

  abbrev Fits : ℕ → Found → Type 0
  Fits used found = ReadInBounds words (record { found = found; used = used })

  some_fine : {cs : List Check} {o : Outcome} {f g : Type 0} → (g → f) → Fine cs f o → Fine cs g o
  some_fine u h = record { answers = h.answers; kept = λ x. h.kept (u x) }

  fine_tick : (used : ℕ) (dt : Float) → Fine (tick_checks w lent) (Fits used (Found.Tick dt)) (tick_outcome w lent used dt)
  unfolding tick_outcome Answers room_of
  fine_tick used dt = record {
    answers = unless_answers (λ (o : Outcome). o.answer) (tick_checks w lent) [] (refused w lent) (tick_accepted w lent used dt) (λ r. refl) refl;
    kept = λ g. unless_has (Kept w words lent) (tick_checks w lent) (refused w lent) (tick_accepted w lent used dt) (λ r q. refused_kept r)
        (λ q. ticked_kept used dt (ltb-false (length lent) (room_of w) q.1.1.0) (g.0, g.1) g.2);
  }

  fine_taken : (used : ℕ) (read : Record) → Fine (state_checks w read) (Fits used (Found.Change read)) (change_outcome w lent used (change_by w read))
  unfolding load_line load_stop load_car load_rider send set_mode set_manual_speed queue_command press_hall_call push_destination set_enabled start
  fine_taken used (Line number line) = some_fine (λ g. (g.0, g.1)) (fine_changed used (line_checks w number line) (with_line w number line))
  fine_taken used (Stop number position) = some_fine (λ g. (g.0, g.1)) (fine_changed used (stop_checks w number) (with_stop w number position))
  fine_taken used (Car number plan) =
      some_fine (λ g. (g.0, g.1)) (fine_changed used (car_checks w number plan) (with_new_car w number plan))
  fine_taken used (Rider number rider) = some_fine (λ g. (g.0, g.1)) (fine_changed used (rider_checks w number rider) (with_rider w number rider))
  fine_taken used (Send car stop reposition) =
      some_fine (λ g. (g.0, g.1)) (fine_changed used (send_checks w car stop) (with_car w car (with_target (car_at w.cars.items car) stop reposition)))
  fine_taken used (Mode car mode) = some_fine (λ g. (g.0, g.1)) (fine_changed used (order_checks w car) (with_car w car (with_mode (car_at w.cars.items car) mode)))
  fine_taken used (ManualSpeed car speed) =
      some_fine (λ g. (g.0, g.1)) (fine_changed used (order_checks w car) (with_car w car (with_manual_speed (car_at w.cars.items car) speed)))
  fine_taken used (DoorCommand car command) =
      some_fine (λ g. (g.0, g.1)) (fine_changed used (command_checks w car) (with_car w car (with_command (car_at w.cars.items car) command)))
  fine_taken used (HallCall stop down) = some_fine (λ g. (g.0, g.1)) (fine_changed used (hall_call_checks w stop) (with_hall_call w stop down))
  fine_taken used (Destination car stop) =
      some_fine (λ g. (g.0, g.1)) (fine_changed used (destination_checks w car stop) (with_car w car (with_destination (car_at w.cars.items car) stop)))
  fine_taken used (Enable car enabled) =
      some_fine (λ g. (g.0, g.1)) (fine_changed used (order_checks w car) (with_car w car (with_enabled (car_at w.cars.items car) enabled)))
  fine_taken used Start = some_fine (λ g. (g.0, g.1)) (fine_changed used (start_checks w) (with_started w))

  fine_read : (used : ℕ) (found : Found) → Fine (behind w lent found) (Fits used found) (outcome_by w lent used found)
  unfolding Answers
  fine_read used (Found.Change found) = fine_taken used found
  fine_read used (Found.Tick dt) = fine_tick used dt

  -- ---- the tape's checks before it

  abbrev answered : Result Read Refusal → Outcome
  answered d = read_by w lent d

  kept_by : (d : Result Read Refusal) → InBounds words d → Kept w words lent (answered d)
  kept_by (Err r) g = refused_kept r
  kept_by (Ok d) g = (fine_read d.used d.found).kept g

  tape_unless : (cs ds : List Check) (d : Result Read Refusal) → Answers ds (answered d).answer → Answers (cs ++ ds) (answered (unless cs Err d)).answer
  tape_unless cs ds d = unless_answers (λ (x : Result Read Refusal). (answered x).answer) cs ds Err d (λ r. refl)

  either : (b : Bool) (cs ds : List Check) (c d : Result Read Refusal) →
      Answers cs (answered c).answer → Answers ds (answered d).answer → Answers (cond b cs ds) (answered (cond b c d)).answer
  either true cs ds c d g h = g
  either false cs ds c d g h = h

  in_kinds : (k : ℕ) (ts : List KindEntry) → Answers (checks_in w lent k ts) (answered (kind_in k ts)).answer
  unfolding Answers
  in_kinds k [] = inl (refl, refl)
  in_kinds k (t ∷ ts) =
      either (eqb k t.number) (t.deed.checks ++ behind w lent t.deed.done.found) (checks_in w lent k ts) (TapeAnswers.read_checked t.deed) (kind_in k ts)
      (tape_unless t.deed.checks _ (Ok t.deed.done) (fine_read t.deed.done.used t.deed.done.found).answers)
      (in_kinds k ts)

pub on_its_condition : OnItsCondition
unfolding OnItsCondition conditions record_of decoded Tape.decoded_by
on_its_condition w words log =
    let h = fields_of (get_or words 0 0) in
    let cs = checks_in w log h.kind (kinds h words) in
    unless_answers (λ (o : Outcome). o.answer) (check BrokenWorld (is_broken w) ∷ []) (check CutShort (eqb (length words) 0) ∷ cs) (refused w log)
    (answered w words log (decoded words)) (λ r. refl)
    (tape_unless w words log (check CutShort (eqb (length words) 0) ∷ []) cs (Tape.decoded_by h words) (in_kinds w words log h.kind (kinds h words)))

pub first_condition : FirstCondition
unfolding FirstCondition record_of ReadsInBounds
first_condition w words log =
    both (Kept w words log) (is_broken w) (refused_kept w words log BrokenWorld) (kept_by w words log (decoded words) (in_bounds words))
