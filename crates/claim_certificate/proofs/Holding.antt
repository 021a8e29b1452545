-- What a car and the joined log hold on the way, and that a run of the cars keeps it, turn by turn: a car's own turn
-- leaves it fit, and the words of another's say nothing of it. Assumes nothing.
use mathlib.Core.Path.{◌≡◌, refl, ◌∙◌}
use mathlib.Core.Bool.{Bool, false}
use mathlib.Core.List.{List, ◌++◌, append-nil, append_assoc}
use Prim.Native.Nat.{ℕ, suc, ◌*◌, ◌^◌, ◌<◌, ◌≤◌, min}
use native.Mathlib.Omega.{arith}
use lib.ListN.{length, set, length-set}
use lib.Seq.{get_or-set_same, get_or-set_other}
use Rattle.std.proofs.lemmas.Bool.{cases_eq}
use mathlib.Core.Logic.{⊎_elim}
use Rattle.world.specs.World.{car_at, no_car}
use Rattle.world.specs.declared.World.{World}
use Rattle.world.specs.declared.Car.{Car}
use Rattle.turn.specs.Steps.{Turn, CarsRun, run_to, run_cars}
use Rattle.turn.proofs.Cars.{by_turns, kept}
use Rattle.tick.specs.Counters.{moves_in, sum_to}
use Rattle.report.specs.Report.{has_unknown}
use Rattle.report.proofs.Counted.{any_unknown_append}
use Rattle.claim_certificate.proofs.Watch.{open_after, Calm, open_append, calm_append, Silent}
use Rattle.claim_certificate.proofs.Turns.{Fit, Good}

-- car n, one of so many or not loaded yet, and the joined log
pub record Held (n : ℕ) (cs : List Car) (count : ℕ) (log : List ℕ) : Type 0 where
  pub fit : n < count → Fit (car_at cs n) (open_after n false log)
  -- no word of a car that is not loaded yet
  pub fresh : count ≤ n → open_after n false log ≡ false
  pub calm : Calm n false log
  pub known : has_unknown log ≡ false

-- the total, the cars' counters and the log's moves; and the log's length by the ticks that have been made
pub record Summed (cs : List Car) (count total ticks : ℕ) (log : List ℕ) : Type 0 where
  pub full : length cs ≡ 16
  pub cars : total ≡ sum_to (λ i. (car_at cs i).move_count) count
  pub words : total ≡ moves_in log
  pub time : ticks ≤ 2 ^ 28
  pub room : length log ≤ ticks * 1249

-- words that say nothing of the car, which stays as it is
pub held_same : {n : ℕ} {cs ds : List Car} {count : ℕ} {log ws : List ℕ} → Held n cs count log
    → car_at ds n ≡ car_at cs n → Silent n ws → Held n ds count (log ++ ws)
held_same {n} {cs} {ds} {count} {log} {ws} h e d = record {
  fit = λ l. rw (e, open_append n false log ws, (d (open_after n false log)).own) (h.fit l);
  fresh = λ l. open_append n false log ws ∙ (d (open_after n false log)).own ∙ h.fresh l;
  calm = calm_append n false log ws h.calm (d (open_after n false log)).calm;
  known = rw (any_unknown_append log ws, h.known) (d false).known;
}

-- its own turn: the car that it leaves, and its words
held_own : {n : ℕ} {cs : List Car} {count : ℕ} {log ws : List ℕ} {c : Car} → Held n cs count log → n < length cs → n < count
    → Good n (open_after n false log) c ws → Held n (set cs n c) count (log ++ ws)
held_own {n} {cs} {count} {log} {ws} {c} h inside l g = record {
  fit = λ _. rw (get_or-set_same cs n c no_car inside, open_append n false log ws, g.written.own) g.fit;
  fresh = λ m. absurd (omega (arith, l, m));
  calm = calm_append n false log ws h.calm g.written.calm;
  known = rw (any_unknown_append log ws, h.known) g.written.known;
}

-- the turn of car i
pub held_step : {n : ℕ} {cs : List Car} {count : ℕ} {log ws : List ℕ} (i : ℕ) (c : Car) → Held n cs count log
    → i < length cs → i < count
    → (n ≡ i → Fit (car_at cs i) (open_after i false log) → Good i (open_after i false log) c ws)
    → ((n ≡ i → ⊥) → Silent n ws) → Held n (set cs i c) count (log ++ ws)
held_step {n} {cs} {count} {log} {ws} i c h inside l own other =
    ⊎_elim
    (λ (e : n ≡ i). let k : Held i cs count log = rw e at h in rw e (held_own k inside l (own e (k.fit l))))
    (λ (e : n ≡ i → ⊥). held_same h (get_or-set_other cs i n c no_car e) (other e))
    (cases_eq n i)

-- ---- a run of the cars, whatever their turn is, and a relation of the car before to the car after

-- it changes neither the table's size nor how many cars there are
size : (turn : World → ℕ → Turn) (w : World) (k : ℕ) → length (run_to turn w k).world.cars.items ≡ length w.cars.items
size turn w = kept turn w (λ (v : World). length v.cars.items) (λ v i s. length-set v.cars.items i s.car)

pub run_full : (turn : World → ℕ → Turn) (w : World) → length (run_cars turn w).world.cars.items ≡ length w.cars.items
unfolding run_cars
run_full turn w = size turn w (min w.cars.count 16)

pub run_count : (turn : World → ℕ → Turn) (w : World) → (run_cars turn w).world.cars.count ≡ w.cars.count
unfolding run_cars
run_count turn w = kept turn w (λ (v : World). v.cars.count) (λ v i s. refl) (min w.cars.count 16)

pub record Ran (Keep : Car → Car → Type 0) (n : ℕ) (w : World) (log : List ℕ) (r : CarsRun) : Type 0 where
  pub held : Held n r.world.cars.items w.cars.count (log ++ r.words)
  pub keeps : Keep (car_at w.cars.items n) (car_at r.world.cars.items n)

module _
    (turn : World → ℕ → Turn)
    (Keep : Car → Car → Type 0)
    (same : (c : Car) → Keep c c)
    (then : (a b c : Car) → Keep a b → Keep b c → Keep a c)
    (good : (v : World) (i : ℕ) (o : Bool) → i < 16 → Fit (car_at v.cars.items i) o → Good i o (turn v i).car (turn v i).words)
    (keep : (v : World) (i : ℕ) (o : Bool) → i < 16 → Fit (car_at v.cars.items i) o → Keep (car_at v.cars.items i) (turn v i).car)
    (silent : (v : World) (i n : ℕ) → i < 16 → (n ≡ i → ⊥) → Silent n (turn v i).words)
    (n : ℕ)
    (w : World)
    (log : List ℕ)
    (full : length w.cars.items ≡ 16)
  where
    run_step : (i : ℕ) → i < min w.cars.count 16 → Ran Keep n w log (run_to turn w i) → Ran Keep n w log (run_to turn w (suc i))
    unfolding run_to
    run_step i l h = record {
      held = rw (← append_assoc log r.words s.words)
          (held_step i s.car h.held inside loaded (λ e f. good r.world i ajar low f) (silent r.world i n low));
      keeps = then (car_at w.cars.items n) (car_at r.world.cars.items n) (car_at (set r.world.cars.items i s.car) n) h.keeps
          (⊎_elim
          (λ (e : n ≡ i). rw (e, get_or-set_same r.world.cars.items i s.car no_car inside) (keep r.world i ajar low (rw e at (h.held.fit (omega (arith, loaded, e))))))
          (λ (e : n ≡ i → ⊥). rw (get_or-set_other r.world.cars.items i n s.car no_car e) (same (car_at r.world.cars.items n)))
          (cases_eq n i));
    }
      where
        r : CarsRun
        r = run_to turn w i

        s : Turn
        s = turn r.world i

        low : i < 16
        low = omega (arith, l)

        loaded : i < w.cars.count
        loaded = omega (arith, l)

        inside : i < length r.world.cars.items
        inside = omega (arith, low, full, size turn w i)

        ajar : Bool
        ajar = open_after i false (log ++ r.words)

    pub run_ran : Held n w.cars.items w.cars.count log → Ran Keep n w log (run_cars turn w)
    unfolding run_cars run_to
    run_ran h =
        by_turns turn w (λ k. Ran Keep n w log) (min w.cars.count 16) (record { held = rw (append-nil log) h; keeps = same (car_at w.cars.items n) })
        run_step (min w.cars.count 16) (omega arith)
