-- Numbers that are loaded: laws of tables, of what a world names, of hall calls. Assumes nothing.
use mathlib.Core.Path.{◌≡◌, refl}
use mathlib.Core.Bool.{Bool, false, ◌||◌}
use mathlib.Core.List.{List, [], ◌∷◌}
use Prim.Native.Nat.{ℕ, zero, suc, ◌^◌, ◌<◌, ◌≤◌}
use native.Mathlib.Omega.{arith}
use lib.Dec.{leb, ltb}
use lib.ListN.{get_or, set}
use lib.Seq.{get_or-set_other}
use borrow.Author.Tests.{leb-false, lt-leb}
use Rattle.laws.proofs.Bools.{or_left, or_right}
use Rattle.world_sound_rows.specs.Rows.{is_any_below, is_unloaded, is_stop_unloaded, is_car_unloaded, is_phase_unloaded, is_rider_phase_unloaded, is_line_broken, is_rider_broken}
use Rattle.world_call_sets.specs.Calls.{is_called, pressed, cleared}
use Rattle.world.specs.declared.Line.{Line}
use Rattle.world.specs.declared.Rider.{Rider}
use Rattle.world.specs.declared.ElevatorPhase.{ElevatorPhase}
use Rattle.world.specs.declared.ElevatorPhase.TheVariants.{Idle, MovingToStop, Repositioning, DoorOpening, Loading, DoorClosing, Stopped}
use Rattle.world.specs.declared.RiderPhase.{RiderPhase}
use Rattle.world.specs.declared.RiderPhase.TheVariants.{Waiting, Boarding, Riding, Exiting, Walking, Arrived, Abandoned, Resident}
use Rattle.std.specs.declared.option.Option.{Option}
use Rattle.std.specs.declared.option.Option.TheVariants.{None, Some}
use Rattle.world_call_sets.proofs.Bits.{bit_room}
use Rattle.laws.proofs.Choices.{both, cases}
use Rattle.world_sound_rows.proofs.AnyTo.{none_to, none_of}
use Rattle.std.proofs.lemmas.Bool.{cases_eq}
use mathlib.Core.Logic.{⊎_elim}

-- ---- tables

module _ {A : Type 0} (P : A → Type 0) (d x : A) (past : P d) (new : P x) where
  -- a place that is set has what it is set to, or is past the end
  at_place : (l : List A) (i : ℕ) → P (get_or (set l i x) i d)
  at_place [] i = past
  at_place (y ∷ l) zero = new
  at_place (y ∷ l) (suc i) = at_place l i

  -- a table whose first n have it, with place i set: its first m
  pub table_set : (l : List A) (i n m : ℕ) → ((j : ℕ) → j < n → P (get_or l j d))
      → ((j : ℕ) → j < m → (j ≡ i → ⊥) → j < n) → (j : ℕ) → j < m
      → P (get_or (set l i x) j d)
  table_set l i n m h fits j below =
      ⊎_elim (λ (e : j ≡ i). rw e (at_place l i)) (λ (e : j ≡ i → ⊥). rw (get_or-set_other l i j x d e) (h j (fits j below e))) (cases_eq j i)

-- ---- what is loaded stays so while more is loaded

module _ (a b : ℕ) (more : a ≤ b) where
  pub still_loaded : (s : ℕ) → is_unloaded a s ≡ false → is_unloaded b s ≡ false
  still_loaded s h = lt-leb b s (omega (arith, leb-false a s h))

  -- of a stop and of a car
  pub stop_stays : (s : Option ℕ) → is_stop_unloaded a s ≡ false → is_stop_unloaded b s ≡ false
  stop_stays None h = refl
  stop_stays (Some s) h = still_loaded s h

  pub phase_stays : (p : ElevatorPhase) → is_phase_unloaded a p ≡ false → is_phase_unloaded b p ≡ false
  phase_stays Idle h = refl
  phase_stays (MovingToStop s) h = still_loaded s h
  phase_stays (Repositioning s) h = still_loaded s h
  phase_stays DoorOpening h = refl
  phase_stays Loading h = refl
  phase_stays DoorClosing h = refl
  phase_stays Stopped h = refl

  rider_phase_stays : (p : RiderPhase) → is_rider_phase_unloaded a p ≡ false → is_rider_phase_unloaded b p ≡ false
  rider_phase_stays Waiting h = refl
  rider_phase_stays (Boarding i) h = still_loaded i h
  rider_phase_stays (Riding i) h = still_loaded i h
  rider_phase_stays (Exiting i) h = still_loaded i h
  rider_phase_stays Walking h = refl
  rider_phase_stays Arrived h = refl
  rider_phase_stays Abandoned h = refl
  rider_phase_stays Resident h = refl

-- a line's list
pub listed : (stops : ℕ) (l : Line) → is_line_broken stops l ≡ false → (k : ℕ) → k < l.serves.stops.count
    → is_unloaded stops (get_or l.serves.stops.items k 0) ≡ false
unfolding is_line_broken
listed stops l h =
    let f : ℕ → Bool = λ k. is_unloaded stops (get_or l.serves.stops.items k 0) in
    none_of f l.serves.stops.count (or_right (ltb 64 l.serves.stops.count) (is_any_below f l.serves.stops.count) h)

pub line_stays : (a b : ℕ) → a ≤ b → (l : Line) → is_line_broken a l ≡ false → is_line_broken b l ≡ false
unfolding is_line_broken
line_stays a b more l h =
    let few : ltb 64 l.serves.stops.count ≡ false = or_left (ltb 64 l.serves.stops.count) (is_any_below (λ k. is_unloaded a (get_or l.serves.stops.items k 0)) l.serves.stops.count) h in
    rw few (none_to (λ k. is_unloaded b (get_or l.serves.stops.items k 0)) l.serves.stops.count (λ k m. still_loaded a b more (get_or l.serves.stops.items k 0) (listed a l h k m)))

pub rider_stays : (a b m n : ℕ) → a ≤ b → m ≤ n → (r : Rider) → is_rider_broken a m r ≡ false
    → is_rider_broken b n r ≡ false
unfolding is_rider_broken
rider_stays a b m n stops cars r h =
    let x = is_stop_unloaded a r.destination in
    let y = is_rider_phase_unloaded m r.phase in
    let z = is_car_unloaded m r.aboard in
    rw (stop_stays a b stops r.destination (or_left x y (or_left (x || y) z h)), rider_phase_stays m n cars r.phase (or_right x y (or_left (x || y) z h)))
    (stop_stays m n cars r.aboard (or_right (x || y) z h))

-- ---- hall calls

-- pressed at a loaded stop
pub press_stays : (n calls s : ℕ) → s < n → calls < 2 ^ n → pressed calls s < 2 ^ n
unfolding pressed
press_stays n calls s l h =
    cases (λ (x : ℕ). x < 2 ^ n) (leb 64 s || is_called calls s) (λ e. h) (λ e. bit_room n calls s l h (or_right (leb 64 s) (is_called calls s) e))

pub clear_most : (calls s : ℕ) → cleared calls s ≤ calls
unfolding cleared
clear_most calls s = both (λ (x : ℕ). x ≤ calls) (is_called calls s) (omega arith) (omega arith)
