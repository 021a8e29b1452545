-- A stop that a look-up gives is one of those it looked at. Assumes nothing.
use mathlib.Core.Path.{◌≡◌}
use mathlib.Core.Bool.{Bool, true, false, not, ◌||◌, cond}
use mathlib.Core.List.{List}
use Prim.Native.Nat.{ℕ, zero, suc, ◌+◌, ◌<◌, ◌≤◌, min}
use native.Mathlib.Omega.{arith}
use lib.ListN.{get_or}
use lib.Ieee.{Float, le}
use Rattle.float.specs.Float.{is_finite}
use Rattle.motion.specs.Cyclic.{is_degenerate}
use Rattle.world.specs.World.{stop_position}
use Rattle.world.specs.declared.Table.{Table}
use Rattle.world.specs.Tables.{Stops}
use Rattle.stops_lookup.specs.Stops.{is_standing_at, first_standing, find_stop_at_position, find_stop_at_position_in}
use Rattle.stops_next.specs.NextStop.{ahead_of, nearer_stop, nearest_to, without_distance, loop_next_stop_forward}
use Rattle.std.specs.declared.option.Option.TheVariants.{None, Some}
use Rattle.std.specs.declared.option.Option.{Option}

none_is_no_stop : {A : Type 0} (s : ℕ) → None ≡ Some s → A
none_is_no_stop s h = let z : ◌≡◌ {A = ℕ} 0 1 = cc in absurd (omega arith)

-- s is the candidate at a place from i on, below n
abbrev pub Among : (ℕ → ℕ) → ℕ → ℕ → ℕ → Type 0
Among candidate i n s = (j : ℕ) × ((i ≤ j) × (j < n) × (candidate j ≡ s))

first_among : (stops : List Float) (position : Float) (candidate : ℕ → ℕ) (m i s : ℕ)
    → first_standing stops position candidate m i ≡ Some s → Among candidate i (i + m) s
unfolding first_standing
first_among stops position candidate zero i s h = none_is_no_stop s h
first_among stops position candidate (suc m) i s h =
    by (is_standing_at (stop_position stops (candidate i)) position) h
    (λ k. first_among stops position candidate m (i + 1) s k)
  where
    by : (b : Bool) → cond b (Some (candidate i)) (first_standing stops position candidate m (i + 1)) ≡ Some s
        → (first_standing stops position candidate m (i + 1) ≡ Some s → Among candidate (i + 1) (i + 1 + m) s)
        → Among candidate i (i + suc m) s
    by true k f = (i, (omega arith, omega arith, cc))
    by false k f = let r = f k in (r.0, (omega (arith, r.1.0), omega (arith, r.1.1), r.1.2))

-- a stop found at a position is one of those loaded
pub found_is_loaded : (stops : Stops) (position : Float) (s : ℕ) → find_stop_at_position stops position ≡ Some s
    → s < min stops.count 64
unfolding find_stop_at_position
found_is_loaded stops position s h =
    let r = first_among stops.items position (λ (k : ℕ). k) (min stops.count 64) 0 s h in
    omega (arith, r.1.1, r.1.2)

-- and of a list's, one of the list
pub found_is_served : (stops : List Float) (position : Float) (serves : Table ℕ 64) (s : ℕ)
    → find_stop_at_position_in stops position serves ≡ Some s
    → (j : ℕ) × ((j < min serves.count 64) × (get_or serves.items j 0 ≡ s))
unfolding find_stop_at_position_in
found_is_served stops position serves s h =
    let r = first_among stops position (λ (i : ℕ). get_or serves.items i 0) (min serves.count 64) 0 s h in
    (r.0, (omega (arith, r.1.1), r.1.2))

-- the nearer is the best so far, or the new one
one_of_two : {A : Type 0} (best : Option (Float × ℕ)) (d : Float) (t s : ℕ) → without_distance (nearer_stop best d t) ≡ Some s → (without_distance best ≡ Some s → A) → (t ≡ s → A) → A
one_of_two None d t s h f g = g (cc)
one_of_two {A} (Some (b, u)) d t s h f g = by (le b d) h
  where
    by : (q : Bool) → without_distance (cond q (Some (b, u)) (Some (d, t))) ≡ Some s → A
    by true k = f k
    by false k = g (cc)

nearest_is_served : (stops : List Float) (circumference : Float) (serves : List ℕ) (position : Float) (n s : ℕ)
    → without_distance (nearest_to stops circumference serves position n) ≡ Some s → (j : ℕ) × ((j < n) × (get_or serves j 0 ≡ s))
unfolding nearest_to
nearest_is_served stops circumference serves position zero s h = none_is_no_stop s h
nearest_is_served stops circumference serves position (suc n) s h =
    one_of_two
    (nearest_to stops circumference serves position n)
    (ahead_of circumference position (stop_position stops (get_or serves n 0)))
    (get_or serves n 0)
    s
    h
    (λ k. let r = nearest_is_served stops circumference serves position n s k in (r.0, (omega (arith, r.1.0), r.1.1)))
    (λ e. (n, (omega arith, e)))

pub next_is_served : (stops : List Float) (circumference : Float) (serves : Table ℕ 64) (position : Float) (s : ℕ)
    → loop_next_stop_forward stops circumference serves position ≡ Some s
    → (j : ℕ) × ((j < min serves.count 64) × (get_or serves.items j 0 ≡ s))
unfolding loop_next_stop_forward
next_is_served stops circumference serves position s h = by (not (is_finite position) || is_degenerate circumference) h
  where
    by : (b : Bool) → cond b None (without_distance (nearest_to stops circumference serves.items position (min serves.count 64))) ≡ Some s
        → (j : ℕ) × ((j < min serves.count 64) × (get_or serves.items j 0 ≡ s))
    by true k = none_is_no_stop s k
    by false k = nearest_is_served stops circumference serves.items position (min serves.count 64) s k
