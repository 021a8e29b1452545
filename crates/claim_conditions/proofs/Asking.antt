-- What each place of the page asks of a record, kind by kind, and that it asks just that. Assumes nothing.
use mathlib.Core.Path.{◌≡◌, sym, subst, subst⁻¹, ◌∙◌}
use mathlib.Core.Logic.{◌⊎◌, inl, inr, ⊎_elim}
use mathlib.Core.Bool.{Bool, true, false, ◌&&◌, cond}
use mathlib.Core.List.{List, [], ◌∷◌}
use Prim.Native.Nat.{ℕ, ◌+◌, ◌*◌, ◌<◌, ◌≤◌}
use native.Mathlib.Omega.{arith}
use lib.Dec.{leb, eqb}
use lib.ListN.{length, get_or}
use Rattle.tape_fields.specs.Fields.{float_at}
use Rattle.world.specs.World.{car_at}
use Rattle.world.specs.declared.World.{World}
use Rattle.world.specs.declared.ElevatorPhase.TheVariants.{Idle, Stopped}
use Rattle.claim_conditions.specs.Refusals.{kind, n, s, v, served, RawZero, phase_of, phase_car_of, aboard_of, top_of, million, thousand, ten, one, NotInSize, NotFromZero, NotAboveZero, CountOutside, count_outside, CutShort, line_cut, float_cut, car_cut, rider_cut, FieldOutside, n_set, s_set, v_set, ticks_set, top_set, linear_set, speed_set, line_code, v_code, mode_code, command_code, phase_code, stop_number, served_number, route_number, line_number, car_line_number, rider_number, phase_car_number, phase_car_set, aboard_number, FloatOutside, position_outside, circumference_outside, headway_outside, velocity_outside, speed_outside, max_outside, acceleration_outside, deceleration_outside, factor_outside, dt_outside, NotNext, stop_above, line_above, car_above, rider_above, stop_below, line_below, car_below, NotLoaded, car_named, stop_named, line_named, served_named, route_named, phase_car_named, aboard_named, CannotGo, car_disabled, car_busy, QueueFull, commands_full, destinations_full, LastTick, last_made, LogShort, log_short, NotNow, load_after, order_before, second_start}
use Rattle.claim_conditions.proofs.Deciding.{most, ◌and◌, AnyBelow}

-- ---- a table by kind; what is not in it asks nothing

pub record Row : Type 1 where
  pub number : ℕ
  pub asks : Type 0

abbrev pub row : ℕ → Type 0 → Row
row k asks = record { number = k; asks = asks }

abbrev pub pick : ℕ → List Row → Type 0
pick k [] = ⊥
pick k (r ∷ rs) = cond (eqb k r.number) r.asks (pick k rs)

move : (P : ℕ → Type 0) {a k j : ℕ} → a ≡ k → a ≡ j → P j → P k
move P p q x = subst P (sym q ∙ p) x

-- ---- CountOutside

abbrev pub CountAsks : List ℕ → ℕ → Type 0
CountAsks words k =
    pick k
    (row 1 ((64 < v words) × (v words ≡ 65535 → ⊥))
    ∷ [])

pub count_asks : (words : List ℕ) {k : ℕ} → kind words ≡ k → CountOutside words → CountAsks words k
count_asks words K (count_outside e h x) = move (CountAsks words) K e (h, x)

pub count_of_line : (words : List ℕ) → kind words ≡ 1 → CountAsks words 1 → CountOutside words
count_of_line words K x = count_outside K x.0 x.1

-- ---- CutShort

abbrev pub CutAsks : List ℕ → ℕ → Type 0
CutAsks words k =
    pick k
    (row 1 (length words < 5 + served words)
    ∷ row 2 (length words < 3)
    ∷ row 3 (length words < 15)
    ∷ row 4 (length words < 2)
    ∷ row 7 (length words < 3)
    ∷ row 12 (length words < 3)
    ∷ [])

pub cut_asks : (words : List ℕ) {k : ℕ} → kind words ≡ k → CutShort words → CutAsks words k
cut_asks words K (line_cut e x) = move (CutAsks words) K e x
cut_asks words K (float_cut (inl e) x) = move (CutAsks words) K e x
cut_asks words K (float_cut (inr (inl e)) x) = move (CutAsks words) K e x
cut_asks words K (float_cut (inr (inr (inl e))) x) = move (CutAsks words) K e x
cut_asks words K (float_cut (inr (inr (inr e))) x) = absurd e
cut_asks words K (car_cut e x) = move (CutAsks words) K e x
cut_asks words K (rider_cut e x) = move (CutAsks words) K e x

pub cut_of_line : (words : List ℕ) → kind words ≡ 1 → CutAsks words 1 → CutShort words
cut_of_line words K x = line_cut K x

pub cut_of_stop : (words : List ℕ) → kind words ≡ 2 → CutAsks words 2 → CutShort words
cut_of_stop words K x = float_cut (inl K) x

pub cut_of_car : (words : List ℕ) → kind words ≡ 3 → CutAsks words 3 → CutShort words
cut_of_car words K x = car_cut K x

pub cut_of_rider : (words : List ℕ) → kind words ≡ 4 → CutAsks words 4 → CutShort words
cut_of_rider words K x = rider_cut K x

pub cut_of_speed : (words : List ℕ) → kind words ≡ 7 → CutAsks words 7 → CutShort words
cut_of_speed words K x = float_cut (inr (inl K)) x

pub cut_of_tick : (words : List ℕ) → kind words ≡ 12 → CutAsks words 12 → CutShort words
cut_of_tick words K x = float_cut (inr (inr (inl K))) x

-- ---- FieldOutside

abbrev pub RiderAsks : List ℕ → Type 0
RiderAsks words =
    (((7 < phase_of words) ⊎ ((((1 ≤ phase_of words) × (phase_of words < 4)) × (15 < phase_car_of words)) ⊎ (((1 ≤ phase_of words) × (phase_of words < 4) → ⊥) × (phase_car_of words ≡ 255 → ⊥)))) ⊎ ((15 < aboard_of words) × (aboard_of words ≡ 255 → ⊥))) ⊎ (top_of words ≡ 0 → ⊥)

abbrev pub FieldAsks : List ℕ → ℕ → Type 0
FieldAsks words k =
    pick k
    (row 1 ((((7 < n words) ⊎ (1 < s words)) ⊎ ((s words ≡ 0) × (RawZero words 1 × RawZero words 3 → ⊥))) ⊎ AnyBelow (served words) (λ i. 63 < get_or words (5 + i) 0))
    ∷ row 2 (((n words ≡ 0 → ⊥) ⊎ (63 < s words)) ⊎ (v words ≡ 0 → ⊥))
    ∷ row 3 ((7 < s words) ⊎ (v words ≡ 0 → ⊥))
    ∷ row 4 ((((n words ≡ 0 → ⊥) ⊎ (127 < s words)) ⊎ ((63 < v words) × (v words ≡ 65535 → ⊥))) ⊎ RiderAsks words)
    ∷ row 5 ((63 < s words) ⊎ (1 < v words))
    ∷ row 6 ((s words ≡ 0 → ⊥) ⊎ (4 < v words))
    ∷ row 7 (((s words ≡ 0 → ⊥) ⊎ (1 < v words)) ⊎ ((v words ≡ 0) × (RawZero words 1 → ⊥)))
    ∷ row 8 ((3 < s words) ⊎ ((s words ≡ 2 → ⊥) × (v words ≡ 0 → ⊥)))
    ∷ row 9 (((n words ≡ 0 → ⊥) ⊎ (63 < s words)) ⊎ (1 < v words))
    ∷ row 10 ((63 < s words) ⊎ (v words ≡ 0 → ⊥))
    ∷ row 11 ((s words ≡ 0 → ⊥) ⊎ (1 < v words))
    ∷ row 12 (((n words ≡ 0 → ⊥) ⊎ (s words ≡ 0 → ⊥)) ⊎ (v words ≡ 0 → ⊥))
    ∷ row 13 (((n words ≡ 0 → ⊥) ⊎ (s words ≡ 0 → ⊥)) ⊎ (v words ≡ 0 → ⊥))
    ∷ [])

pub field_asks : (words : List ℕ) {k : ℕ} → kind words ≡ k → FieldOutside words → FieldAsks words k
field_asks words K (n_set (inl e) x) = move (FieldAsks words) K e (inl (inl x))
field_asks words K (n_set (inr (inl e)) x) = move (FieldAsks words) K e (inl (inl (inl x)))
field_asks words K (n_set (inr (inr (inl e))) x) = move (FieldAsks words) K e (inl (inl x))
field_asks words K (n_set (inr (inr (inr (inl e)))) x) = move (FieldAsks words) K e (inl (inl x))
field_asks words K (n_set (inr (inr (inr (inr (inl e))))) x) = move (FieldAsks words) K e (inl (inl x))
field_asks words K (n_set (inr (inr (inr (inr (inr e))))) x) = absurd e
field_asks words K (s_set (inl e) x) = move (FieldAsks words) K e (inl x)
field_asks words K (s_set (inr (inl e)) x) = move (FieldAsks words) K e (inl (inl x))
field_asks words K (s_set (inr (inr (inl e))) x) = move (FieldAsks words) K e (inl x)
field_asks words K (s_set (inr (inr (inr (inl e)))) x) = move (FieldAsks words) K e (inl (inr x))
field_asks words K (s_set (inr (inr (inr (inr (inl e))))) x) = move (FieldAsks words) K e (inl (inr x))
field_asks words K (s_set (inr (inr (inr (inr (inr e))))) x) = absurd e
field_asks words K (v_set (inl e) x) = move (FieldAsks words) K e (inr x)
field_asks words K (v_set (inr (inl e)) x) = move (FieldAsks words) K e (inr x)
field_asks words K (v_set (inr (inr (inl e))) x) = move (FieldAsks words) K e (inr x)
field_asks words K (v_set (inr (inr (inr (inl e)))) x) = move (FieldAsks words) K e (inr x)
field_asks words K (v_set (inr (inr (inr (inr (inl e))))) x) = move (FieldAsks words) K e (inr x)
field_asks words K (v_set (inr (inr (inr (inr (inr e))))) x) = absurd e
field_asks words K (ticks_set e h x) = move (FieldAsks words) K e (inr (h, x))
field_asks words K (top_set e x) = move (FieldAsks words) K e (inr (inr x))
field_asks words K (linear_set e h x) = move (FieldAsks words) K e (inl (inr (h, x)))
field_asks words K (speed_set e h x) = move (FieldAsks words) K e (inr (h, x))
field_asks words K (line_code e x) = move (FieldAsks words) K e (inl (inl (inr x)))
field_asks words K (v_code (inl e) x) = move (FieldAsks words) K e (inr x)
field_asks words K (v_code (inr (inl e)) x) = move (FieldAsks words) K e (inl (inr x))
field_asks words K (v_code (inr (inr (inl e))) x) = move (FieldAsks words) K e (inr x)
field_asks words K (v_code (inr (inr (inr (inl e)))) x) = move (FieldAsks words) K e (inr x)
field_asks words K (v_code (inr (inr (inr (inr e)))) x) = absurd e
field_asks words K (mode_code e x) = move (FieldAsks words) K e (inr x)
field_asks words K (command_code e x) = move (FieldAsks words) K e (inl x)
field_asks words K (phase_code e x) = move (FieldAsks words) K e (inr (inl (inl (inl x))))
field_asks words K (stop_number (inl e) x) = move (FieldAsks words) K e (inl (inr x))
field_asks words K (stop_number (inr (inl e)) x) = move (FieldAsks words) K e (inl x)
field_asks words K (stop_number (inr (inr (inl e))) x) = move (FieldAsks words) K e (inl (inr x))
field_asks words K (stop_number (inr (inr (inr (inl e)))) x) = move (FieldAsks words) K e (inl x)
field_asks words K (stop_number (inr (inr (inr (inr e)))) x) = absurd e
field_asks words K (served_number i e h x) = move (FieldAsks words) K e (inr (i, h, x))
field_asks words K (route_number e h x) = move (FieldAsks words) K e (inl (inr (h, x)))
field_asks words K (line_number e x) = move (FieldAsks words) K e (inl (inl (inl x)))
field_asks words K (car_line_number e x) = move (FieldAsks words) K e (inl x)
field_asks words K (rider_number e x) = move (FieldAsks words) K e (inl (inl (inr x)))
field_asks words K (phase_car_number e g h x) = move (FieldAsks words) K e (inr (inl (inl (inr (inl ((g, omega (arith, h)), x))))))
field_asks words K (phase_car_set e h x) = move (FieldAsks words) K e (inr (inl (inl (inr (inr (λ y. h (y.0, omega (arith, y.1)), x))))))
field_asks words K (aboard_number e h x) = move (FieldAsks words) K e (inr (inl (inr (h, x))))

pub field_of_line : (words : List ℕ) → kind words ≡ 1 → FieldAsks words 1 → FieldOutside words
field_of_line words K (inl (inl (inl x))) = line_number K x
field_of_line words K (inl (inl (inr x))) = line_code K x
field_of_line words K (inl (inr x)) = linear_set K x.0 x.1
field_of_line words K (inr x) = served_number x.0 K x.1 x.2

pub field_of_stop : (words : List ℕ) → kind words ≡ 2 → FieldAsks words 2 → FieldOutside words
field_of_stop words K (inl (inl x)) = n_set (inl K) x
field_of_stop words K (inl (inr x)) = stop_number (inl K) x
field_of_stop words K (inr x) = v_set (inl K) x

pub field_of_car : (words : List ℕ) → kind words ≡ 3 → FieldAsks words 3 → FieldOutside words
field_of_car words K (inl x) = car_line_number K x
field_of_car words K (inr x) = v_set (inr (inl K)) x

pub field_of_rider : (words : List ℕ) → kind words ≡ 4 → FieldAsks words 4 → FieldOutside words
field_of_rider words K (inl (inl (inl x))) = n_set (inr (inl K)) x
field_of_rider words K (inl (inl (inr x))) = rider_number K x
field_of_rider words K (inl (inr x)) = route_number K x.0 x.1
field_of_rider words K (inr (inl (inl (inl x)))) = phase_code K x
field_of_rider words K (inr (inl (inl (inr (inl x))))) = phase_car_number K x.0.0 (omega (arith, x.0.1)) x.1
field_of_rider words K (inr (inl (inl (inr (inr x))))) = phase_car_set K (λ y. x.0 (y.0, omega (arith, y.1))) x.1
field_of_rider words K (inr (inl (inr x))) = aboard_number K x.0 x.1
field_of_rider words K (inr (inr x)) = top_set K x

pub field_of_send : (words : List ℕ) → kind words ≡ 5 → FieldAsks words 5 → FieldOutside words
field_of_send words K (inl x) = stop_number (inr (inl K)) x
field_of_send words K (inr x) = v_code (inl K) x

pub field_of_mode : (words : List ℕ) → kind words ≡ 6 → FieldAsks words 6 → FieldOutside words
field_of_mode words K (inl x) = s_set (inl K) x
field_of_mode words K (inr x) = mode_code K x

pub field_of_speed : (words : List ℕ) → kind words ≡ 7 → FieldAsks words 7 → FieldOutside words
field_of_speed words K (inl (inl x)) = s_set (inr (inl K)) x
field_of_speed words K (inl (inr x)) = v_code (inr (inl K)) x
field_of_speed words K (inr x) = speed_set K x.0 x.1

pub field_of_command : (words : List ℕ) → kind words ≡ 8 → FieldAsks words 8 → FieldOutside words
field_of_command words K (inl x) = command_code K x
field_of_command words K (inr x) = ticks_set K x.0 x.1

pub field_of_call : (words : List ℕ) → kind words ≡ 9 → FieldAsks words 9 → FieldOutside words
field_of_call words K (inl (inl x)) = n_set (inr (inr (inl K))) x
field_of_call words K (inl (inr x)) = stop_number (inr (inr (inl K))) x
field_of_call words K (inr x) = v_code (inr (inr (inl K))) x

pub field_of_destination : (words : List ℕ) → kind words ≡ 10 → FieldAsks words 10 → FieldOutside words
field_of_destination words K (inl x) = stop_number (inr (inr (inr (inl K)))) x
field_of_destination words K (inr x) = v_set (inr (inr (inl K))) x

pub field_of_enable : (words : List ℕ) → kind words ≡ 11 → FieldAsks words 11 → FieldOutside words
field_of_enable words K (inl x) = s_set (inr (inr (inl K))) x
field_of_enable words K (inr x) = v_code (inr (inr (inr (inl K)))) x

pub field_of_tick : (words : List ℕ) → kind words ≡ 12 → FieldAsks words 12 → FieldOutside words
field_of_tick words K (inl (inl x)) = n_set (inr (inr (inr (inl K)))) x
field_of_tick words K (inl (inr x)) = s_set (inr (inr (inr (inl K)))) x
field_of_tick words K (inr x) = v_set (inr (inr (inr (inl K)))) x

pub field_of_start : (words : List ℕ) → kind words ≡ 13 → FieldAsks words 13 → FieldOutside words
field_of_start words K (inl (inl x)) = n_set (inr (inr (inr (inr (inl K))))) x
field_of_start words K (inl (inr x)) = s_set (inr (inr (inr (inr (inl K))))) x
field_of_start words K (inr x) = v_set (inr (inr (inr (inr (inl K))))) x

-- ---- FloatOutside

abbrev pub FloatAsks : List ℕ → ℕ → Type 0
FloatAsks words k =
    pick k
    (row 1 ((s words ≡ 1) × (NotAboveZero million (float_at words 1) ⊎ NotFromZero million (float_at words 3)))
    ∷ row 2 (NotInSize million (float_at words 1))
    ∷ row 3 (((((NotInSize million (float_at words 1) ⊎ NotInSize thousand (float_at words 3)) ⊎ NotFromZero thousand (float_at words 5)) ⊎ NotFromZero thousand (float_at words 7)) ⊎ NotFromZero thousand (float_at words 9)) ⊎ NotFromZero ten (float_at words 11))
    ∷ row 7 ((v words ≡ 1) × NotInSize thousand (float_at words 1))
    ∷ row 12 (NotAboveZero one (float_at words 1))
    ∷ [])

pub float_asks : (words : List ℕ) {k : ℕ} → kind words ≡ k → FloatOutside words → FloatAsks words k
float_asks words K (position_outside (inl e) x) = move (FloatAsks words) K e x
float_asks words K (position_outside (inr (inl e)) x) = move (FloatAsks words) K e (inl (inl (inl (inl (inl x)))))
float_asks words K (position_outside (inr (inr e)) x) = absurd e
float_asks words K (circumference_outside e h x) = move (FloatAsks words) K e (h, inl x)
float_asks words K (headway_outside e h x) = move (FloatAsks words) K e (h, inr x)
float_asks words K (velocity_outside e x) = move (FloatAsks words) K e (inl (inl (inl (inl (inr x)))))
float_asks words K (speed_outside e h x) = move (FloatAsks words) K e (h, x)
float_asks words K (max_outside e x) = move (FloatAsks words) K e (inl (inl (inl (inr x))))
float_asks words K (acceleration_outside e x) = move (FloatAsks words) K e (inl (inl (inr x)))
float_asks words K (deceleration_outside e x) = move (FloatAsks words) K e (inl (inr x))
float_asks words K (factor_outside e x) = move (FloatAsks words) K e (inr x)
float_asks words K (dt_outside e x) = move (FloatAsks words) K e x

pub float_of_line : (words : List ℕ) → kind words ≡ 1 → FloatAsks words 1 → FloatOutside words
float_of_line words K x = ⊎_elim (circumference_outside K x.0) (headway_outside K x.0) x.1

pub float_of_stop : (words : List ℕ) → kind words ≡ 2 → FloatAsks words 2 → FloatOutside words
float_of_stop words K x = position_outside (inl K) x

pub float_of_car : (words : List ℕ) → kind words ≡ 3 → FloatAsks words 3 → FloatOutside words
float_of_car words K (inl (inl (inl (inl (inl x))))) = position_outside (inr (inl K)) x
float_of_car words K (inl (inl (inl (inl (inr x))))) = velocity_outside K x
float_of_car words K (inl (inl (inl (inr x)))) = max_outside K x
float_of_car words K (inl (inl (inr x))) = acceleration_outside K x
float_of_car words K (inl (inr x)) = deceleration_outside K x
float_of_car words K (inr x) = factor_outside K x

pub float_of_speed : (words : List ℕ) → kind words ≡ 7 → FloatAsks words 7 → FloatOutside words
float_of_speed words K x = speed_outside K x.0 x.1

pub float_of_tick : (words : List ℕ) → kind words ≡ 12 → FloatAsks words 12 → FloatOutside words
float_of_tick words K x = dt_outside K x

-- ---- NotNext

abbrev pub NextAsks : World → List ℕ → ℕ → Type 0
NextAsks w words k =
    pick k
    (row 1 ((w.lines.count < n words) ⊎ (n words < w.lines.count))
    ∷ row 2 ((w.stops.count < s words) ⊎ (s words < w.stops.count))
    ∷ row 3 ((w.cars.count < n words) ⊎ (n words < w.cars.count))
    ∷ row 4 (w.riders.count < s words)
    ∷ [])

pub next_asks : (w : World) (words : List ℕ) {k : ℕ} → kind words ≡ k → NotNext w words → NextAsks w words k
next_asks w words K (stop_above e x) = move (NextAsks w words) K e (inl x)
next_asks w words K (line_above e x) = move (NextAsks w words) K e (inl x)
next_asks w words K (car_above e x) = move (NextAsks w words) K e (inl x)
next_asks w words K (rider_above e x) = move (NextAsks w words) K e x
next_asks w words K (stop_below e x) = move (NextAsks w words) K e (inr x)
next_asks w words K (line_below e x) = move (NextAsks w words) K e (inr x)
next_asks w words K (car_below e x) = move (NextAsks w words) K e (inr x)

pub next_of_line : (w : World) (words : List ℕ) → kind words ≡ 1 → NextAsks w words 1 → NotNext w words
next_of_line w words K (inl x) = line_above K x
next_of_line w words K (inr x) = line_below K x

pub next_of_stop : (w : World) (words : List ℕ) → kind words ≡ 2 → NextAsks w words 2 → NotNext w words
next_of_stop w words K (inl x) = stop_above K x
next_of_stop w words K (inr x) = stop_below K x

pub next_of_car : (w : World) (words : List ℕ) → kind words ≡ 3 → NextAsks w words 3 → NotNext w words
next_of_car w words K (inl x) = car_above K x
next_of_car w words K (inr x) = car_below K x

pub next_of_rider : (w : World) (words : List ℕ) → kind words ≡ 4 → NextAsks w words 4 → NotNext w words
next_of_rider w words K x = rider_above K x

-- ---- NotLoaded

abbrev pub LoadedAsks : World → List ℕ → ℕ → Type 0
LoadedAsks w words k =
    pick k
    (row 1 (AnyBelow (served words) (λ i. w.stops.count ≤ get_or words (5 + i) 0))
    ∷ row 3 (w.lines.count ≤ s words)
    ∷ row 4 ((((v words ≡ 65535 → ⊥) × (w.stops.count ≤ v words)) ⊎ ((1 ≤ phase_of words) × (phase_of words ≤ 3) × (w.cars.count ≤ phase_car_of words))) ⊎ ((aboard_of words ≡ 255 → ⊥) × (w.cars.count ≤ aboard_of words)))
    ∷ row 5 ((w.cars.count ≤ n words) ⊎ (w.stops.count ≤ s words))
    ∷ row 6 (w.cars.count ≤ n words)
    ∷ row 7 (w.cars.count ≤ n words)
    ∷ row 8 (w.cars.count ≤ n words)
    ∷ row 9 (w.stops.count ≤ s words)
    ∷ row 10 ((w.cars.count ≤ n words) ⊎ (w.stops.count ≤ s words))
    ∷ row 11 (w.cars.count ≤ n words)
    ∷ [])

pub loaded_asks : (w : World) (words : List ℕ) {k : ℕ} → kind words ≡ k → NotLoaded w words → LoadedAsks w words k
loaded_asks w words K (car_named (inl e) x) = move (LoadedAsks w words) K e (inl x)
loaded_asks w words K (car_named (inr (inl e)) x) = move (LoadedAsks w words) K e x
loaded_asks w words K (car_named (inr (inr (inl e))) x) = move (LoadedAsks w words) K e x
loaded_asks w words K (car_named (inr (inr (inr (inl e)))) x) = move (LoadedAsks w words) K e x
loaded_asks w words K (car_named (inr (inr (inr (inr (inl e))))) x) = move (LoadedAsks w words) K e (inl x)
loaded_asks w words K (car_named (inr (inr (inr (inr (inr (inl e)))))) x) = move (LoadedAsks w words) K e x
loaded_asks w words K (car_named (inr (inr (inr (inr (inr (inr e)))))) x) = absurd e
loaded_asks w words K (stop_named (inl e) x) = move (LoadedAsks w words) K e (inr x)
loaded_asks w words K (stop_named (inr (inl e)) x) = move (LoadedAsks w words) K e x
loaded_asks w words K (stop_named (inr (inr (inl e))) x) = move (LoadedAsks w words) K e (inr x)
loaded_asks w words K (stop_named (inr (inr (inr e))) x) = absurd e
loaded_asks w words K (line_named e x) = move (LoadedAsks w words) K e x
loaded_asks w words K (served_named i e h x) = move (LoadedAsks w words) K e (i, h, x)
loaded_asks w words K (route_named e h x) = move (LoadedAsks w words) K e (inl (inl (h, x)))
loaded_asks w words K (phase_car_named e g h x) = move (LoadedAsks w words) K e (inl (inr (g, h, x)))
loaded_asks w words K (aboard_named e h x) = move (LoadedAsks w words) K e (inr (h, x))

pub loaded_of_line : (w : World) (words : List ℕ) → kind words ≡ 1 → LoadedAsks w words 1 → NotLoaded w words
loaded_of_line w words K x = served_named x.0 K x.1 x.2

pub loaded_of_car : (w : World) (words : List ℕ) → kind words ≡ 3 → LoadedAsks w words 3 → NotLoaded w words
loaded_of_car w words K x = line_named K x

pub loaded_of_rider : (w : World) (words : List ℕ) → kind words ≡ 4 → LoadedAsks w words 4 → NotLoaded w words
loaded_of_rider w words K (inl (inl x)) = route_named K x.0 x.1
loaded_of_rider w words K (inl (inr x)) = phase_car_named K x.0 x.1 x.2
loaded_of_rider w words K (inr x) = aboard_named K x.0 x.1

pub loaded_of_send : (w : World) (words : List ℕ) → kind words ≡ 5 → LoadedAsks w words 5 → NotLoaded w words
loaded_of_send w words K (inl x) = car_named (inl K) x
loaded_of_send w words K (inr x) = stop_named (inl K) x

pub loaded_of_mode : (w : World) (words : List ℕ) → kind words ≡ 6 → LoadedAsks w words 6 → NotLoaded w words
loaded_of_mode w words K x = car_named (inr (inl K)) x

pub loaded_of_speed : (w : World) (words : List ℕ) → kind words ≡ 7 → LoadedAsks w words 7 → NotLoaded w words
loaded_of_speed w words K x = car_named (inr (inr (inl K))) x

pub loaded_of_command : (w : World) (words : List ℕ) → kind words ≡ 8 → LoadedAsks w words 8 → NotLoaded w words
loaded_of_command w words K x = car_named (inr (inr (inr (inl K)))) x

pub loaded_of_call : (w : World) (words : List ℕ) → kind words ≡ 9 → LoadedAsks w words 9 → NotLoaded w words
loaded_of_call w words K x = stop_named (inr (inl K)) x

pub loaded_of_destination : (w : World) (words : List ℕ) → kind words ≡ 10 → LoadedAsks w words 10 → NotLoaded w words
loaded_of_destination w words K (inl x) = car_named (inr (inr (inr (inr (inl K))))) x
loaded_of_destination w words K (inr x) = stop_named (inr (inr (inl K))) x

pub loaded_of_enable : (w : World) (words : List ℕ) → kind words ≡ 11 → LoadedAsks w words 11 → NotLoaded w words
loaded_of_enable w words K x = car_named (inr (inr (inr (inr (inr (inl K)))))) x

-- ---- CannotGo

abbrev pub GoAsks : World → List ℕ → ℕ → Type 0
GoAsks w words k =
    pick k
    (row 5 (((car_at w.cars.items (n words)).enabled ≡ false) ⊎ (((car_at w.cars.items (n words)).phase ≡ Idle → ⊥) × ((car_at w.cars.items (n words)).phase ≡ Stopped → ⊥)))
    ∷ [])

pub go_asks : (w : World) (words : List ℕ) {k : ℕ} → kind words ≡ k → CannotGo w words → GoAsks w words k
go_asks w words K (car_disabled e x) = move (GoAsks w words) K e (inl x)
go_asks w words K (car_busy e h x) = move (GoAsks w words) K e (inr (h, x))

pub go_of_send : (w : World) (words : List ℕ) → kind words ≡ 5 → GoAsks w words 5 → CannotGo w words
go_of_send w words K (inl x) = car_disabled K x
go_of_send w words K (inr x) = car_busy K x.0 x.1

-- ---- QueueFull

abbrev pub QueueAsks : World → List ℕ → ℕ → Type 0
QueueAsks w words k =
    pick k
    (row 8 ((car_at w.cars.items (n words)).door_command_queue.count ≡ 8)
    ∷ row 10 ((car_at w.cars.items (n words)).destination_queue.count ≡ 8)
    ∷ [])

pub queue_asks : (w : World) (words : List ℕ) {k : ℕ} → kind words ≡ k → QueueFull w words → QueueAsks w words k
queue_asks w words K (commands_full e x) = move (QueueAsks w words) K e x
queue_asks w words K (destinations_full e x) = move (QueueAsks w words) K e x

pub queue_of_command : (w : World) (words : List ℕ) → kind words ≡ 8 → QueueAsks w words 8 → QueueFull w words
queue_of_command w words K x = commands_full K x

pub queue_of_destination : (w : World) (words : List ℕ) → kind words ≡ 10 → QueueAsks w words 10 → QueueFull w words
queue_of_destination w words K x = destinations_full K x

-- ---- LastTick

abbrev pub LastAsks : World → List ℕ → ℕ → Type 0
LastAsks w words k =
    pick k
    (row 12 (268435455 < w.ticks)
    ∷ [])

pub last_asks : (w : World) (words : List ℕ) {k : ℕ} → kind words ≡ k → LastTick w words → LastAsks w words k
last_asks w words K (last_made e x) = move (LastAsks w words) K e x

pub last_of_tick : (w : World) (words : List ℕ) → kind words ≡ 12 → LastAsks w words 12 → LastTick w words
last_of_tick w words K x = last_made K x

-- ---- LogShort

abbrev pub LogAsks : World → List ℕ → List ℕ → ℕ → Type 0
LogAsks w words log k =
    pick k
    (row 12 (length log < w.cars.count * (w.stops.count + 14) + 1)
    ∷ [])

pub log_asks : (w : World) (words log : List ℕ) {k : ℕ} → kind words ≡ k → LogShort w words log → LogAsks w words log k
log_asks w words log K (log_short e x) = move (LogAsks w words log) K e x

pub log_of_tick : (w : World) (words log : List ℕ) → kind words ≡ 12 → LogAsks w words log 12 → LogShort w words log
log_of_tick w words log K x = log_short K x

-- ---- NotNow

abbrev pub AfterAsks : World → ℕ → Type 0
AfterAsks w k =
    pick k
    (row 1 (w.started ≡ true)
    ∷ row 2 (w.started ≡ true)
    ∷ row 3 (w.started ≡ true)
    ∷ row 13 (w.started ≡ true)
    ∷ [])

abbrev pub NowAsks : World → ℕ → Type 0
NowAsks w k = cond (leb 5 k && leb k 12) (w.started ≡ false) (AfterAsks w k)

pub now_asks : (w : World) (words : List ℕ) {k : ℕ} → kind words ≡ k → NotNow w words → NowAsks w k
now_asks w words K (load_after (inl e) x) = move (NowAsks w) K e x
now_asks w words K (load_after (inr (inl e)) x) = move (NowAsks w) K e x
now_asks w words K (load_after (inr (inr (inl e))) x) = move (NowAsks w) K e x
now_asks w words K (load_after (inr (inr (inr e))) x) = absurd e
now_asks w words {k} K (order_before g h x) =
    subst⁻¹ (λ (b : Bool). cond b (w.started ≡ false) (AfterAsks w k)) ((most 5 k and most k 12).back (omega (arith, g, K), omega (arith, h, K))) x
now_asks w words K (second_start e x) = move (NowAsks w) K e x
