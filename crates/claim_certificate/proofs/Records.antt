-- A record call keeps the totals, and what is held of each car that it does not put into Manual mode: by its kind, a
-- tick turn by turn, an order by its one car; no other changes a loaded car. Assumes nothing.
use mathlib.Core.Path.{◌≡◌, refl, sym, ap, subst, ◌∙◌}
use mathlib.Core.Bool.{Bool, true, false, not, ◌&&◌, cond}
use mathlib.Core.List.{List, [], ◌++◌, append-nil}
use Prim.Native.Nat.{ℕ, zero, suc, ◌+◌, ◌^◌, ◌<◌, ◌≤◌}
use native.Mathlib.Numerals.{add-one}
use native.Mathlib.Omega.{arith}
use lib.Dec.{eqb, leb}
use lib.ListN.{length, set, take, drop, length-set}
use lib.Seq.{get_or-set_same, get_or-set_other, sets, sets-eq, take_at}
use lib.Ieee.{Float}
use borrow.Author.Tests.{eqb-true, ltb-false, leb-false, not-false}
use Rattle.laws.proofs.Bools.{no, or_left, or_right}
use Rattle.door.specs.Door.{is_closed}
use Rattle.door.specs.declared.DoorState.{DoorState}
use Rattle.door.specs.declared.DoorState.TheVariants.{Closed}
use Rattle.world.specs.World.{car_at, no_car, new_car}
use Rattle.world.specs.With.{with_car}
use Rattle.world.specs.Tables.{with_item}
use Rattle.world_sound_rows.specs.Rows.{is_unloaded}
use Rattle.world_sound.specs.Sound.{is_broken}
use Rattle.world.specs.Refusal.{Check, unless}
use Rattle.world.specs.declared.World.{World}
use Rattle.world.specs.declared.Car.{Car}
use Rattle.world.specs.declared.CarPlan.{CarPlan}
use Rattle.world.specs.declared.ElevatorPhase.{ElevatorPhase}
use Rattle.world.specs.declared.ElevatorPhase.TheVariants.{MovingToStop, Repositioning}
use Rattle.world.specs.declared.refusal.Refusal.{Refusal}
use Rattle.world.specs.declared.refusal.Refusal.TheVariants.{BrokenWorld}
use Rattle.tape.specs.Tape.{decoded}
use Rattle.layout.specs.Layout.{kind_of}
use Rattle.std.specs.Prelude.{Result, Ok, Err}
use Rattle.tape_records.specs.declared.Read.{Read}
use Rattle.tape_records.specs.declared.Found.{Found}
use Rattle.tape_records.specs.declared.Record.{Record}
use Rattle.record_loads.specs.Loads as Loads
use Rattle.record_start.specs.Changes as Changes
use Rattle.record_loads.specs.Loads.{load_line, load_stop, load_car, load_rider}
use Rattle.record_start.specs.Changes.{start}
use Rattle.record_start.specs.Changes.{Effect}
use Rattle.record_send.specs.Orders as Orders
use Rattle.record_modes.specs.Modes as Modes
use Rattle.record_queues.specs.Requests as Requests
use Rattle.record_send.specs.Orders.{send}
use Rattle.record_modes.specs.Modes.{set_mode, set_manual_speed, set_enabled}
use Rattle.record_queues.specs.Requests.{queue_command, press_hall_call, push_destination}
use Rattle.tick.specs.Tick.{tick_words}
use Rattle.tick.specs.Room.{room_of, WordsFit}
use Rattle.tick.specs.Counters.{sum_to}
use Rattle.laws.proofs.Choices.{both, cases}
use Rattle.world.proofs.Checks.{Passed, unless_has}
use Rattle.tick.proofs.Proved.{words_fit}
use Rattle.record_kinds.specs.Kinds.{change_by}
use Rattle.record.specs.Record.{Outcome, is_accepted, accepted, refused, change_outcome, tick_checks, tick_accepted, tick_outcome, outcome_by, read_by, record_of}
use Rattle.record.specs.Calls.{RecordCall, outcome, next_world, head_word}
use Rattle.claim_certificate.specs.Certificate.{is_tick, position_of, words_written}
use Rattle.claim_certificate.specs.Manual.{is_manual_record_of}
use Rattle.claim_certificate.proofs.Watch.{open_after, written_none}
use Rattle.claim_certificate.proofs.Turns.{Sound, idle, stopped, moving, repositioning, opening, loading, closing, Fit}
use Rattle.claim_certificate.proofs.Holding.{Held, Summed, held_step}
use mathlib.Core.Logic.{⊎_elim}
use Rattle.std.proofs.lemmas.Bool.{cases_eq}
use Rattle.claim_certificate.proofs.Ticking.{tick_ticks, tick_sums}
use Rattle.claim_certificate.proofs.Reading.{Says, Reads, Brings, decoded_reads, Unbroken, unbroken}

-- ---- what a record that is no tick leaves

abbrev pub Sums : World → List ℕ → Type 0
Sums w j = Summed w.cars.items w.cars.count w.total_moves w.ticks j

abbrev pub Holds : ℕ → World → List ℕ → Type 0
Holds n w j = Held n w.cars.items w.cars.count j

sum_same : (f g : ℕ → ℕ) (n : ℕ) → ((i : ℕ) → i < n → f i ≡ g i) → sum_to f n ≡ sum_to g n
unfolding sum_to
sum_same f g zero e = refl
sum_same f g (suc n) e = rw (sum_same f g n (λ i l. e i (omega arith)), e n (omega arith))

-- a car's orders are changed
held_orders : {n : ℕ} {cs : List Car} {count : ℕ} {j : List ℕ} (i : ℕ) (c : Car) → Held n cs count j → i < length cs → i < count
    → (n ≡ i → Fit (car_at cs i) (open_after i false j) → Fit c (open_after i false j)) → Held n (set cs i c) count j
held_orders {n} {cs} {count} {j} i c h inside l f =
    rw (append-nil j) at
    (held_step {ws = []} i c h inside l (λ e k. record { end = open_after i false j; written = written_none i (open_after i false j); fit = f e k }) (λ e. written_none n))

sum_orders : {cs : List Car} {n t k : ℕ} {j : List ℕ} (i : ℕ) (c : Car) → Summed cs n t k j → i < length cs → c.move_count ≡ (car_at cs i).move_count
    → Summed (set cs i c) n t k j
sum_orders {cs} {n} {t} {k} {j} i c s l e = record {
  full = length-set cs i c ∙ s.full;
  cars = s.cars ∙ sum_same (λ k. (car_at cs k).move_count) (λ k. (car_at (set cs i c) k).move_count) n
      (λ k m. ⊎_elim (λ (q : k ≡ i). rw (q, get_or-set_same cs i c no_car l) (sym e)) (λ (q : k ≡ i → ⊥). rw (get_or-set_other cs i k c no_car q) refl) (cases_eq k i));
  words = s.words;
  time = s.time;
  room = s.room;
}

-- a car is loaded
held_new : {n : ℕ} {cs : List Car} {count : ℕ} {j : List ℕ} (c : Car) → Held n cs count j → count < length cs → Fit c false → Held n (set cs count c) (count + 1) j
held_new {n} {cs} {count} {j} c h inside f = record {
  fit = λ m. ⊎_elim
      (λ (q : n ≡ count). rw (h.fresh (omega (arith, q)), q, get_or-set_same cs count c no_car inside) f)
      (λ (q : n ≡ count → ⊥). rw (get_or-set_other cs count n c no_car q) (h.fit (omega (arith, q))))
      (cases_eq n count);
  fresh = λ m. h.fresh (omega arith);
  calm = h.calm;
  known = h.known;
}

sum_new : {cs : List Car} {n t k : ℕ} {j : List ℕ} (c : Car) → Summed cs n t k j → n < length cs → c.move_count ≡ 0 → Summed (set cs n c) (n + 1) t k j
unfolding sum_to
sum_new {cs} {n} {t} {k} {j} c s l e = record {
  full = length-set cs n c ∙ s.full;
  cars = rw (add-one n, get_or-set_same cs n c no_car l)
      (s.cars ∙ omega (
        arith,
        e,
        sum_same (λ k. (car_at cs k).move_count) (λ k. (car_at (set cs n c) k).move_count) n
            (λ k m. rw (get_or-set_other cs n k c no_car (λ (q : k ≡ n). omega (arith, q))) refl),
      ));
  words = s.words;
  time = s.time;
  room = s.room;
}

send_sound : (stop : ℕ) (reposition : Bool) (p : ElevatorPhase) (d : DoorState) (o : Bool) → Sound p d o → Orders.is_sendable p ≡ true
    → Sound (cond reposition (Repositioning stop) (MovingToStop stop)) d o
send_sound stop reposition p d o idle e = both (λ (x : ElevatorPhase). Sound x Closed false) reposition repositioning moving
send_sound stop reposition p d o stopped e = both (λ (x : ElevatorPhase). Sound x Closed false) reposition repositioning moving
send_sound stop reposition p d o moving e = no e
send_sound stop reposition p d o repositioning e = no e
send_sound stop reposition p d o opening e = no e
send_sound stop reposition p d o loading e = no e
send_sound stop reposition p d o closing e = no e

-- ---- one call

-- the totals, and of each car that the call does not put into Manual mode, what it holds, from the world w to the
-- world v and the words
abbrev Keeps : World → RecordCall → List ℕ → World → List ℕ → Type 0
Keeps w c j v ws = Sums v (j ++ ws) × ((n : ℕ) → Holds n w j → is_manual_record_of w c n ≡ false → Holds n v (j ++ ws))

-- a car of w that holds what it should, and whose door is not closed, stands in the world v
abbrev Stands : World → List ℕ → World → Type 0
Stands w j v = (n : ℕ) → Holds n w j → is_closed (car_at w.cars.items n).door ≡ false → position_of v n ≡ position_of w n

-- what the call leaves, its words joined
pub record Kept (w : World) (c : RecordCall) (j : List ℕ) : Type 0 where
  pub keeps : Keeps w c j (next_world w c) (words_written w c)
  pub stands : is_tick w c ≡ true → Stands w j (next_world w c)

-- where its outcome is o
abbrev Gives : World → RecordCall → List ℕ → Outcome → Type 0
Gives w c j o = outcome w c ≡ o → Kept w c j

-- its words and world in place of the outcome's
kept : (w : World) (c : RecordCall) (j ws : List ℕ) (o : Outcome) → words_written w c ≡ ws → Keeps w c j o.world ws
    → (is_tick w c ≡ true → Stands w j o.world) → Gives w c j o
unfolding next_world
kept w c j ws o t k s e = record {
  keeps = subst (λ (v : World). Keeps w c j v (words_written w c)) (sym world) (subst (λ (l : List ℕ). Keeps w c j o.world l) (sym t) k);
  stands = λ it. subst (Stands w j) (sym world) (s it);
}
  where
    world : next_world w c ≡ o.world
    world = ap (λ (x : Outcome). x.world) e

-- a tick: the words that it wrote are those that the log begins with
wrote : (ws log : List ℕ) → length ws ≤ length log → take (length ws) (sets log 0 ws) ≡ ws
wrote ws log h = rw (sets-eq ws log 0 (omega arith)) (take_at ws (drop (0 + length ws) log) (length ws) refl)

module _ (w : World) (c : RecordCall) (j : List ℕ) (h : Sums w j) (used : ℕ) where
  -- no tick, and the world keeps what is held
  abbrev Quiet : World → Type 0
  Quiet v = Sums v j × ((n : ℕ) → Holds n w j → is_manual_record_of w c n ≡ false → Holds n v j)

  quiet : (o : Outcome) → is_accepted o.answer && eqb (kind_of (head_word c)) 12 ≡ false → Quiet o.world → Gives w c j o
  quiet o t k e =
      let it : is_tick w c ≡ false = rw e t in
      kept w c j [] o (rw it refl) (rw (append-nil j) k) (λ (q : is_tick w c ≡ true). no (sym it ∙ q)) e

  refuses : (r : Refusal) → Gives w c j (refused w c.log r)
  refuses r = quiet (refused w c.log r) refl (h, λ n k p. k)

  -- a record that is no tick
  plain : (cs : List Check) (v : World) → eqb (kind_of (head_word c)) 12 ≡ false → (Passed cs → outcome w c ≡ accepted used 0 v c.log → Quiet v)
      → Gives w c j (change_outcome w c.log used (unless cs Err (Ok v)))
  plain cs v t k =
      unless_has (λ (x : Effect). Gives w c j (change_outcome w c.log used x)) cs Err (Ok v) (λ r q. refuses r)
      (λ q e. quiet (accepted used 0 v c.log) t (k q e) e)

  module _ (dt : Float) where
    ticks : Unbroken w → eqb (kind_of (head_word c)) 12 ≡ true → w.ticks < 2 ^ 28 → length (tick_words w dt) ≤ length c.log
        → Gives w c j (tick_accepted w c.log used dt)
    ticks u t early room e =
        let it : is_tick w c ≡ true = rw e t in
        let words : words_written w c ≡ tick_words w dt = rw (it, e) (wrote (tick_words w dt) c.log room) in
        kept w c j (tick_words w dt) (tick_accepted w c.log used dt) words
        (tick_sums w dt j u.few u.low early h, λ n k p. (tick_ticks n w dt j h.full k).held) (λ _ n k. (tick_ticks n w dt j h.full k).stands) e

    tick_kept : Unbroken w → eqb (kind_of (head_word c)) 12 ≡ true → Gives w c j (tick_outcome w c.log used dt)
    unfolding tick_outcome WordsFit room_of
    tick_kept u t =
        unless_has (Gives w c j) (tick_checks w c.log) (refused w c.log) (tick_accepted w c.log used dt) (λ r q. refuses r)
        (λ q. ticks u t (leb-false (2 ^ 28) w.ticks q.1.0) (omega (arith, words_fit w dt, ltb-false (length c.log) (room_of w) q.1.1.0)))

  car_kept : (number : ℕ) (plan : CarPlan) → eqb (kind_of (head_word c)) 12 ≡ false
      → Gives w c j (change_outcome w c.log used (load_car w number plan))
  unfolding load_car
  car_kept number plan t =
      plain (Loads.car_checks w number plan) (Loads.with_new_car w number plan) t
      (λ q e. new (eqb-true number w.cars.count (not-false (eqb number w.cars.count) (or_right (leb 16 number) (not (eqb number w.cars.count)) q.1.0)))
      (leb-false 16 number (or_left (leb 16 number) (not (eqb number w.cars.count)) q.1.0)))
    where
      new : number ≡ w.cars.count → number < 16 → Quiet (Loads.with_new_car w number plan)
      new q l =
          let inside : w.cars.count < length w.cars.items = omega (arith, q, l, h.full) in
          rw q (sum_new (new_car plan) h inside refl, λ n k p. held_new (new_car plan) k inside (record { sound = idle; tame = refl }))

  -- an order: the car that it leaves is fit where the car before was
  order : (cs : List Check) (car : ℕ) (d : Car) → eqb (kind_of (head_word c)) 12 ≡ false → (Passed cs → Changes.has_no_car w car ≡ false)
      → ((n : ℕ) → Passed cs → outcome w c ≡ accepted used 0 (with_car w car d) c.log → is_manual_record_of w c n ≡ false → n ≡ car
      → Fit (car_at w.cars.items car) (open_after car false j) → Fit d (open_after car false j))
      → d.move_count ≡ (car_at w.cars.items car).move_count
      → Gives w c j (change_outcome w c.log used (unless cs Err (Ok (with_car w car d))))
  order cs car d t known f m =
      plain cs (with_car w car d) t
      (λ q e. let low : car < 16 = leb-false 16 car (or_left (leb 16 car) (is_unloaded w.cars.count car) (known q)) in
      let loaded : car < w.cars.count = leb-false w.cars.count car (or_right (leb 16 car) (is_unloaded w.cars.count car) (known q)) in
      let inside : car < length w.cars.items = omega (arith, low, h.full) in
      (sum_orders car d h inside m, λ n k p. held_orders car d k inside loaded (f n q e p)))

-- a record that was read
module _ (w : World) (c : RecordCall) (j : List ℕ) (h : Sums w j) (used : ℕ) where
  changed_kept : (r : Record) → eqb (kind_of (head_word c)) 12 ≡ false → Says (head_word c) r → Gives w c j (change_outcome w c.log used (change_by w r))
  unfolding load_line load_stop load_rider start send set_mode set_manual_speed queue_command press_hall_call push_destination set_enabled
  changed_kept (Record.Line number line) t s =
      plain w c j h used (Loads.line_checks w number line) _ t (λ q e. (h, λ n k p. k))
  changed_kept (Record.Stop number position) t s = plain w c j h used (Loads.stop_checks w number) _ t (λ q e. (h, λ n k p. k))
  changed_kept (Record.Car number plan) t s = car_kept w c j h used number plan t
  changed_kept (Record.Rider number rider) t s = plain w c j h used (Loads.rider_checks w number rider) _ t (λ q e. (h, λ n k p. k))
  changed_kept (Record.Send car stop reposition) t s =
      let mine : Car = car_at w.cars.items car in
      order w c j h used (Orders.send_checks w car stop) car (Orders.with_target mine stop reposition) t
      (λ q. or_left (Changes.has_no_car w car) (is_unloaded w.stops.count stop) q.1.0)
      (λ n q e p i f. record {
        sound = send_sound stop reposition mine.phase mine.door (open_after car false j) f.sound
            (not-false (Orders.is_sendable mine.phase) (or_right (not mine.enabled) (not (Orders.is_sendable mine.phase)) q.1.1.0));
        tame = f.tame;
      })
      refl
  changed_kept (Record.Mode car mode) t s =
      order w c j h used (Modes.order_checks w car) car (Modes.with_mode (car_at w.cars.items car) mode) t (λ q. q.1.0)
      (λ n q e p i f. record { sound = f.sound; tame = s (rw (e, i) at p) }) refl
  changed_kept (Record.ManualSpeed car speed) t s =
      order w c j h used (Modes.order_checks w car) car (Modes.with_manual_speed (car_at w.cars.items car) speed) t (λ q. q.1.0)
      (λ n q e p i f. record { sound = f.sound; tame = f.tame }) refl
  changed_kept (Record.DoorCommand car command) t s =
      order w c j h used (Requests.command_checks w car) car (Requests.with_command (car_at w.cars.items car) command) t (λ q. q.1.0)
      (λ n q e p i f. record { sound = f.sound; tame = f.tame }) refl
  changed_kept (Record.HallCall stop down) t s = plain w c j h used (Requests.hall_call_checks w stop) _ t (λ q e. (h, λ n k p. k))
  changed_kept (Record.Destination car stop) t s =
      order w c j h used (Requests.destination_checks w car stop) car (Requests.with_destination (car_at w.cars.items car) stop) t
      (λ q. or_left (Changes.has_no_car w car) (is_unloaded w.stops.count stop) q.1.0) (λ n q e p i f. record { sound = f.sound; tame = f.tame }) refl
  changed_kept (Record.Enable car enabled) t s =
      order w c j h used (Modes.order_checks w car) car (Modes.with_enabled (car_at w.cars.items car) enabled) t (λ q. q.1.0)
      (λ n q e p i f. record { sound = f.sound; tame = f.tame }) refl
  changed_kept Record.Start t s = plain w c j h used (Changes.start_checks w) _ t (λ q e. (h, λ n k p. k))

made_kept : (w : World) (c : RecordCall) (j : List ℕ) → Sums w j → Unbroken w → (used : ℕ) (found : Found) → Reads (head_word c) found
    → Gives w c j (outcome_by w c.log used found)
made_kept w c j h u used (Found.Change found) s = changed_kept w c j h used found s.0 s.1
made_kept w c j h u used (Found.Tick dt) s = tick_kept w c j h used dt u s

read_kept : (w : World) (c : RecordCall) (j : List ℕ) → Sums w j → Unbroken w → (d : Result Read Refusal) → Brings (head_word c) d → Gives w c j (read_by w c.log d)
read_kept w c j h u (Err r) s = refuses w c j h 0 r
read_kept w c j h u (Ok d) s = made_kept w c j h u d.used d.found s

record_kept : (w : World) (c : RecordCall) (j : List ℕ) → Sums w j → Gives w c j (record_of w c.words c.log)
unfolding record_of
record_kept w c j h =
    cases (Gives w c j) (is_broken w) (λ b. refuses w c j h 0 BrokenWorld)
    (λ b. read_kept w c j h (unbroken w b) (decoded c.words) (decoded_reads c.words))

pub call_kept : (w : World) (c : RecordCall) (j : List ℕ) → Sums w j → Kept w c j
unfolding outcome
call_kept w c j h = record_kept w c j h refl
