-- Hall calls in one direction, as a set of stops in a number: bit s is the call at stop s. A stop from 64 on is in no
-- set.
use Rattle.std.specs.Prelude.{Bool, ◌||◌, cond, ℕ, ◌+◌, ◌-◌, ◌/◌, ◌%◌, ◌^◌, leb, eqb}

-- whether there is a call at stop s
unfoldable pub is_called : ℕ → ℕ → Bool
is_called calls s = eqb (calls / 2 ^ s % 2) 1

-- the calls with one at stop s: "pressing twice is one call"
unfoldable pub pressed : ℕ → ℕ → ℕ
pressed calls s = cond (leb 64 s || is_called calls s) calls (calls + 2 ^ s)

-- the calls without one at stop s
unfoldable pub cleared : ℕ → ℕ → ℕ
cleared calls s = cond (is_called calls s) (calls - 2 ^ s) calls
