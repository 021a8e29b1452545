-- The cars in ascending number: one induction over their turns, and what no turn touches. Assumes nothing.
use mathlib.Core.Path.{◌≡◌, refl, sym, ap, ◌∙◌}
use mathlib.Core.List.{List, []}
use Prim.Native.Nat.{ℕ, zero, suc, ◌<◌, ◌≤◌}
use native.Mathlib.Omega.{arith}
use lib.Seq.{set-get_or}
use Rattle.world.specs.World.{car_at, no_car}
use Rattle.world.specs.declared.World.{World}
use Rattle.world.specs.declared.Car.{Car}
use Rattle.turn.specs.Steps.{Turn, CarsRun, turn_of, with_turn, not_opened, run_to}

module _ (turn : World → ℕ → Turn) (w : World) where
  -- what holds before the first turn, and is kept by the turn of each of n cars, holds after the first k
  pub by_turns : (Q : ℕ → CarsRun → Type 0) (n : ℕ) → Q 0 (run_to turn w 0)
      → ((k : ℕ) → k < n → Q k (run_to turn w k) → Q (suc k) (run_to turn w (suc k)))
      → (k : ℕ) → k ≤ n → Q k (run_to turn w k)
  by_turns Q n begun more zero l = begun
  by_turns Q n begun more (suc k) l = more k l (by_turns Q n begun more k (omega arith))

  -- turns leave whatever no turn touches
  pub kept : {A : Type 0} (field : World → A) → ((v : World) (i : ℕ) (s : Turn) → field (with_turn v i s) ≡ field v)
      → (k : ℕ) → field (run_to turn w k).world ≡ field w
  unfolding run_to
  kept field e k =
      by_turns (λ j r. field r.world ≡ field w) k refl (λ j l p. e (run_to turn w j).world j (turn (run_to turn w j).world j) ∙ p) k (omega arith)

-- a car that is left as it is
pub stepped_same : (w : World) (i : ℕ) → w ≡ with_turn w i (turn_of w (car_at w.cars.items i) [] not_opened)
stepped_same w i = ap (λ (cars : List Car). record w { cars = record { items = cars; count = w.cars.count } }) (sym (set-get_or w.cars.items i no_car))
