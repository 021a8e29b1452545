-- The cars in ascending number, whatever their turn is: by induction their words and counters are those of the turns.
-- Assumes nothing.
use mathlib.Core.Path.{◌≡◌, refl, ◌∙◌}
use mathlib.Core.Bool.{false}
use mathlib.Core.List.{List, [], ◌∷◌}
use mathlib.Core.Logic.{◌⊎◌, inl, inr, ⊎_elim}
use Prim.Native.Nat.{ℕ, zero, suc, ◌+◌, ◌*◌, ◌^◌, ◌<◌, ◌≤◌}
use native.Mathlib.Nat.{eq-or-lt_of_le, mul-le-mul_left}
use native.Mathlib.Omega.{arith}
use lib.ListN.{length, get_or, set, length-append}
use lib.Seq.{get_or-set_other}
use Rattle.world.specs.World.{car_at, no_car}
use Rattle.world.specs.declared.World.{World}
use Rattle.turn.specs.Steps.{Turn, CarsRun, run_to, not_opened}
use Rattle.std.specs.declared.option.Option.{Option}
use Rattle.turn.specs.declared.JustOpened.{JustOpened}
use Rattle.turn.proofs.Cars.{by_turns, kept}
use Rattle.laws.specs.Counting.{how_many}
use Rattle.tick.specs.Counters.{moves_in, moves_of, sum_to}
use Rattle.tick.proofs.Turns.{ones, Fair, moves_append}

-- a place that is set has what it is set to, or is past the end
at_set : {A : Type 0} (l : List A) (i : ℕ) (x d : A) → (get_or (set l i x) i d ≡ x) ⊎ ((get_or (set l i x) i d ≡ d) × (get_or l i d ≡ d))
at_set [] i x d = inr (refl, refl)
at_set (y ∷ l) zero x d = inl refl
at_set (y ∷ l) (suc i) x d = at_set l i x d

-- ---- the stops where a door has opened

unfoldable pub stops_in : List (Option JustOpened) → ℕ → ℕ
stops_in os = sum_to (λ j. ones (get_or os j not_opened))

module _ (os : List (Option JustOpened)) (i : ℕ) (o : Option JustOpened) where
  stops_below : (n : ℕ) → n ≤ i → stops_in (set os i o) n ≡ stops_in os n
  unfolding stops_in sum_to
  stops_below zero h = refl
  stops_below (suc n) h = rw (stops_below n (omega arith), get_or-set_other os i n o not_opened (λ (e : n ≡ i). omega (arith, e)))

  stops_set : stops_in (set os i o) (suc i) ≤ stops_in os i + ones o
  unfolding stops_in sum_to
  stops_set = omega (arith, stops_below i (omega arith), here (at_set os i o not_opened))
    where
      here : (get_or (set os i o) i not_opened ≡ o) ⊎ ((get_or (set os i o) i not_opened ≡ not_opened) × (get_or os i not_opened ≡ not_opened))
          → ones (get_or (set os i o) i not_opened) ≤ ones o
      here (inl e) = rw e (omega arith)
      here (inr e) = rw e.0 (omega arith)

-- ---- a run of k cars from w: its words, and its counters

pub record RunCounts (f : World → ℕ → Turn) (w : World) (room most k : ℕ) (r : CarsRun) : Type 0 where
  pub size : length r.words + 2 * stops_in r.opened k ≤ k * room
  pub written : moves_in r.words ≡ sum_to (moves_of f w) k
  pub few : sum_to (moves_of f w) k ≤ k * most

pub record Grown (f : World → ℕ → Turn) (w : World) (k : ℕ) (v : World) : Type 0 where
  pub total : v.total_moves ≡ w.total_moves + sum_to (moves_of f w) k
  pub done : (j : ℕ) → j < k → (car_at v.cars.items j).move_count ≡ (car_at w.cars.items j).move_count + moves_of f w j
  pub rest : (j : ℕ) → k ≤ j → car_at v.cars.items j ≡ car_at w.cars.items j

module _
    (f : World → ℕ → Turn)
    (w : World)
    (room most : ℕ)
    (fair : (v : World) (i : ℕ) → v.stops.count ≡ w.stops.count → Fair room most v.total_moves (car_at v.cars.items i) (f v i))
  where
    turn_fair : (k : ℕ) → Fair room most (run_to f w k).world.total_moves (car_at (run_to f w k).world.cars.items k) (f (run_to f w k).world k)
    turn_fair k = fair (run_to f w k).world k (kept f w (λ (v : World). v.stops.count) (λ v i s. refl) k)

    pub run_told : (k : ℕ) → RunCounts f w room most k (run_to f w k)
    unfolding run_to stops_in sum_to how_many moves_of
    run_told n =
        by_turns f w (RunCounts f w room most) n (record { size = omega arith; written = refl; few = omega arith })
        (λ k l t.
        let r : CarsRun = run_to f w k in
        let s : Turn = f r.world k in
        let h : Fair room most r.world.total_moves (car_at r.world.cars.items k) s = turn_fair k in
        record {
          size = omega (arith, length-append r.words s.words, t.size, h.size, stops_set r.opened k s.opened);
          written = moves_append r.words s.words ∙ omega (arith, t.written);
          few = omega (arith, t.few, h.few);
        })
        n (omega arith)

    module _
        (m : ℕ)
        (M : m ≤ 16)
        (L : most ≤ 64)
        (low : (j : ℕ) → j < m → (car_at w.cars.items j).move_count < 2 ^ 49)
        (below : w.total_moves < 2 ^ 49)
        (still : (v : World) (i : ℕ) → (car_at v.cars.items i).enabled ≡ false → moves_in (f v i).words ≡ 0)
      where
        grow : (k : ℕ) → k < m → Grown f w k (run_to f w k).world → Grown f w (suc k) (run_to f w (suc k)).world
        unfolding run_to sum_to moves_of
        grow k K g = record {
          total = h.total (omega (arith, g.total, (run_told k).few, mul-le-mul_left k L)) ∙ omega (arith, g.total);
          done = λ j l. ⊎_elim (λ (e : j ≡ k). rw e (here (at_set v.cars.items k s.car no_car)))
              (λ (b : j < k). rw (get_or-set_other v.cars.items k j s.car no_car (λ (e : j ≡ k). omega (arith, e))) (g.done j b)) (eq-or-lt_of_le (last j l));
          rest = λ j l. get_or-set_other v.cars.items k j s.car no_car (λ (e : j ≡ k). omega (arith, e)) ∙ g.rest j (omega arith);
        }
          where
            v : World
            v = (run_to f w k).world

            s : Turn
            s = f v k

            h : Fair room most v.total_moves (car_at v.cars.items k) s
            h = turn_fair k

            last : (j : ℕ) → j < suc k → j ≤ k
            last j l = omega arith

            before : car_at v.cars.items k ≡ car_at w.cars.items k
            before = g.rest k (omega arith)

            here : (car_at (set v.cars.items k s.car) k ≡ s.car) ⊎ ((car_at (set v.cars.items k s.car) k ≡ no_car) × (car_at v.cars.items k ≡ no_car))
                → (car_at (set v.cars.items k s.car) k).move_count ≡ (car_at w.cars.items k).move_count + moves_in s.words
            here (inl e) = rw (e, ← before) (h.car (rw before (omega (arith, low k K))))
            here (inr e) = rw (e.0, ← before, e.1) (omega (arith, still v k (rw e.1 refl)))

        pub run_grown : (k : ℕ) → k ≤ m → Grown f w k (run_to f w k).world
        unfolding run_to sum_to
        run_grown =
            by_turns f w (λ k r. Grown f w k r.world) m (record { total = omega arith; done = λ j l. absurd (omega arith); rest = λ j l. refl }) grow
