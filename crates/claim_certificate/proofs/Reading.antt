-- What the record call's first checks say: the record read from a head word, and the counters of a world that is not
-- broken. Assumes nothing.
use mathlib.Core.Path.{◌≡◌, refl, sym, ◌∙◌}
use mathlib.Core.Bool.{true, false, ◌&&◌, ◌||◌, and-true}
use mathlib.Core.List.{List, [], ◌∷◌}
use Prim.Native.Nat.{ℕ, ◌^◌, ◌<◌, ◌≤◌}
use native.Mathlib.Omega.{arith}
use lib.Dec.{eqb, leb, ltb}
use lib.ListN.{length, get_or}
use borrow.Author.Tests.{eqb-true, eq-eqb, leb-false}
use Rattle.laws.proofs.Bools.{yes, or_left, or_right}
use Rattle.world.specs.World.{car_at, line_at, rider_at}
use Rattle.world_sound_rows.specs.Rows.{is_any_below, is_car_broken, is_line_broken, is_rider_broken, is_unloaded, is_phase_unloaded, is_stop_unloaded}
use Rattle.world_sound.specs.Sound.{has_broken_count, is_broken, has_unloaded_call}
use Rattle.world.specs.declared.World.{World}
use Rattle.world.specs.declared.Car.{Car}
use Rattle.world.specs.declared.ServiceMode.{ServiceMode}
use Rattle.world.specs.declared.refusal.Refusal.{Refusal}
use Rattle.world_sound.proofs.Unbroken.{Counts, counts_fit}
use Rattle.turn.specs.Steps.{is_manual}
use Rattle.world.specs.Modes.{mode_of}
use Rattle.tape.specs.Tape.{KindEntry, kind_in, kinds, decoded_by, decoded}
use Rattle.std.specs.Prelude.{Result, Ok, Err}
use Rattle.tape_loads.specs.LoadRecords.{line_record}
use Rattle.layout.specs.Layout.{kind_of, n_of, v_of, fields_of}
use Rattle.tape_records.specs.declared.Read.{Read}
use Rattle.tape_records.specs.declared.Found.{Found}
use Rattle.tape_records.specs.declared.Found.TheVariants.{Change, Tick}
use Rattle.tape_records.specs.declared.Record.{Record}
use Rattle.tick.specs.Counters.{CountersLow}
use Rattle.laws.proofs.Choices.{both, cases}
use Rattle.world.proofs.Checks.{unless_has}
use Rattle.world_sound_rows.proofs.AnyTo.{none_of}

-- ---- the record read from words with the head h: only kind C is a tick, and only kind 6 with v 3 makes a car
-- Manual, that of its n

-- of a mode: Manual only by v 3
abbrev pub Says : ℕ → Record → Type 0
Says h (Record.Line number line) = Unit {0}
Says h (Record.Stop number position) = Unit {0}
Says h (Record.Car number plan) = Unit {0}
Says h (Record.Rider number rider) = Unit {0}
Says h (Record.Send car stop reposition) = Unit {0}
Says h (Record.Mode car mode) = eqb (kind_of h) 6 && eqb (v_of h) 3 && eqb (n_of h) car ≡ false → is_manual mode ≡ false
Says h (Record.ManualSpeed car speed) = Unit {0}
Says h (Record.DoorCommand car command) = Unit {0}
Says h (Record.HallCall stop down) = Unit {0}
Says h (Record.Destination car stop) = Unit {0}
Says h (Record.Enable car enabled) = Unit {0}
Says h Record.Start = Unit {0}

abbrev pub Reads : ℕ → Found → Type 0
Reads h (Change found) = (eqb (kind_of h) 12 ≡ false) × Says h found
Reads h (Tick dt) = eqb (kind_of h) 12 ≡ true

not_manual : (v : ℕ) → eqb v 3 ≡ false → is_manual (mode_of v) ≡ false
not_manual v e =
    both Tame (eqb v 0) refl
    (both Tame (eqb v 1) refl (both Tame (eqb v 2) refl (cases Tame (eqb v 3) (λ (q : eqb v 3 ≡ true). yes (sym q ∙ e)) (λ q. refl))))
  where
    Tame : ServiceMode → Type 0
    Tame m = is_manual m ≡ false

abbrev pub Brings : ℕ → Result Read Refusal → Type 0
Brings h (Err r) = Unit {0}
Brings h (Ok r) = Reads h r.found

abbrev Each : (Result Read Refusal → Type 0) → ℕ → List KindEntry → Type 0
Each P k [] = Unit {0}
Each P k (t ∷ ts) = (eqb k t.number ≡ true → P (Ok t.deed.done)) × Each P k ts

kind_reads : (P : Result Read Refusal → Type 0) (k : ℕ) (ts : List KindEntry) → ((r : Refusal) → P (Err r)) → Each P k ts → P (kind_in k ts)
kind_reads P k [] r e = r _
kind_reads P k (t ∷ ts) r e =
    cases P (eqb k t.number)
    (λ h. unless_has P t.deed.checks Err (Ok t.deed.done) (λ f q. r f) (λ q. e.0 h))
    (λ h. kind_reads P k ts r e.1)

pub decoded_reads : (ws : List ℕ) → Brings (get_or ws 0 0) (decoded ws)
unfolding decoded decoded_by line_record
decoded_reads ws =
    both (Brings h) (eqb (length ws) 0) tt
    (kind_reads (Brings h) (kind_of h) (kinds (fields_of h) ws) (λ r. tt) (no 1 refl, (no 2 refl, (no 3 refl, (no 4 refl, (no 5 refl, ((λ e. (not_tick 6 refl e, λ q. not_manual (v_of h) (mine e q))), (no 7 refl, (no 8 refl, (no 9 refl, (no 10 refl, (no 11 refl, ((λ e. e), (no 13 refl, tt))))))))))))))
  where
    h : ℕ
    h = get_or ws 0 0

    not_tick : (m : ℕ) → eqb m 12 ≡ false → eqb (kind_of h) m ≡ true → eqb (kind_of h) 12 ≡ false
    not_tick m q e = rw (eqb-true (kind_of h) m e) q

    mine : eqb (kind_of h) 6 ≡ true → eqb (kind_of h) 6 && eqb (v_of h) 3 && eqb (n_of h) (n_of h) ≡ false → eqb (v_of h) 3 ≡ false
    mine e q = sym (and-true (eqb (v_of h) 3)) ∙ (rw (e, eq-eqb (n_of h) (n_of h) refl) at q)

    no : (m : ℕ) → eqb m 12 ≡ false → eqb (kind_of h) m ≡ true → (eqb (kind_of h) 12 ≡ false) × Unit {0}
    no m q e = (not_tick m q e, tt)

-- ---- a world that is not broken has low counters, and hall calls at its stops alone

count_low : (lines stops : ℕ) (c : Car) → is_car_broken lines stops c ≡ false → c.move_count < 2 ^ 48
unfolding is_car_broken
count_low lines stops c h =
    let a = ltb 8 c.destination_queue.count || ltb 8 c.door_command_queue.count in
    let b = leb (2 ^ 48) c.move_count in
    let d = is_unloaded lines c.line in
    let e = is_phase_unloaded stops c.phase in
    let f = is_stop_unloaded stops c.target_stop in
    let g = is_any_below (λ k. is_unloaded stops (get_or c.destination_queue.items k 0)) c.destination_queue.count in
    leb-false (2 ^ 48) c.move_count (or_right a b (or_left (a || b) d (or_left (a || b || d) e (or_left (a || b || d || e) f (or_left (a || b || d || e || f) g h)))))

pub record Unbroken (w : World) : Type 0 where
  pub low : CountersLow w
  pub few : w.cars.count ≤ 16
  pub up : w.calls.up < 2 ^ w.stops.count
  pub down : w.calls.down < 2 ^ w.stops.count

pub unbroken : (w : World) → is_broken w ≡ false → Unbroken w
unfolding is_broken
unbroken w h =
    let a = has_broken_count w in
    let b = is_any_below (λ i. is_line_broken w.stops.count (line_at w.lines.items i)) w.lines.count in
    let c = is_any_below (λ i. is_car_broken w.lines.count w.stops.count (car_at w.cars.items i)) w.cars.count in
    let d = is_any_below (λ i. is_rider_broken w.stops.count w.cars.count (rider_at w.riders.items i)) w.riders.count in
    let e = has_unloaded_call w.stops.count w.calls.up in
    let f = has_unloaded_call w.stops.count w.calls.down in
    let abcde = or_left (a || b || c || d || e) f h in
    let abc = or_left (a || b || c) d (or_left (a || b || c || d) e abcde) in
    let k : Counts w = counts_fit w (or_left a b (or_left (a || b) c abc)) in
    let cars = or_right (a || b) c abc in
    record {
      low = record {
        cars = λ i l. count_low w.lines.count w.stops.count (car_at w.cars.items i)
            (none_of (λ j. is_car_broken w.lines.count w.stops.count (car_at w.cars.items j)) w.cars.count cars i (omega arith));
        total = k.moves;
        ticks = omega (arith, k.ticks);
      };
      few = k.cars;
      up = leb-false (2 ^ w.stops.count) w.calls.up (or_right (a || b || c || d) e abcde);
      down = leb-false (2 ^ w.stops.count) w.calls.down (or_right (a || b || c || d || e) f h);
    }
