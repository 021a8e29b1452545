-- The sort of stops: "by position (0 and -0 alike, one that is not a number last), then number".
use Rattle.std.specs.Prelude.{◌≡◌, Bool, true, false, not, ◌&&◌, ◌||◌, cond, List, [], ◌∷◌, ℕ, zero, suc, ◌<◌, ◌≤◌, ltb, eqb, length, get_or, Float}
use Rattle.std.specs.Float.Ieee.{lt, is_nan}
use Rattle.world.specs.World.{stop_position}

-- a position comes before another
unfoldable pub is_position_before : Float → Float → Bool
is_position_before p q = lt p q || (not (is_nan p) && is_nan q)

-- stop i comes before stop j
unfoldable pub is_stop_before : List Float → ℕ → ℕ → Bool
is_stop_before stops i j =
    let p = stop_position stops i in
    let q = stop_position stops j in
    is_position_before p q || (not (is_position_before q p) && ltb i j)

-- a sorted list with stop i put in
unfoldable pub inserted : List Float → ℕ → List ℕ → List ℕ
inserted stops i [] = i ∷ []
inserted stops i (j ∷ js) = cond (is_stop_before stops i j) (i ∷ j ∷ js) (j ∷ inserted stops i js)

-- the numbers below n, sorted
unfoldable pub sorted_stops : List Float → ℕ → List ℕ
sorted_stops stops zero = []
sorted_stops stops (suc n) = inserted stops n (sorted_stops stops n)

-- ---- claims about the definition: it is sorted, and has each number once

-- how often k stands in a list
unfoldable pub times : ℕ → List ℕ → ℕ
times k [] = 0
times k (x ∷ xs) = cond (eqb x k) (suc (times k xs)) (times k xs)

-- order has the numbers below n in the order of their stops
pub record IsSortOf (stops : List Float) (n : ℕ) (order : List ℕ) : Type 0 where
  pub sorted : (a b : ℕ) → a < b → b < length order → is_stop_before stops (get_or order a 0) (get_or order b 0) ≡ true
  pub size : length order ≡ n
  pub once : (k : ℕ) → k < n → times k order ≡ 1
  pub none : (k : ℕ) → n ≤ k → times k order ≡ 0

-- a test is a strict total order of the numbers
pub record IsOrder (before : ℕ → ℕ → Bool) : Type 0 where
  pub itself : (i : ℕ) → before i i ≡ false
  pub through : (i j k : ℕ) → before i j ≡ true → before j k ≡ true → before i k ≡ true
  pub either : (i j : ℕ) → (i ≡ j → ⊥) → before i j ≡ false → before j i ≡ true

unfoldable pub StopsSorted : Type 0
StopsSorted =
    (stops : List Float) → IsOrder (is_stop_before stops) × ((n : ℕ) → IsSortOf stops n (sorted_stops stops n))
