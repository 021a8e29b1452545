-- The phases of a door end when specs/Phases says: one law for the three phases, by induction on the ticks made, and
-- the next begins where one ends. Assumes nothing.
use mathlib.Core.Path.{◌≡◌, refl, ap}
use mathlib.Core.Bool.{Bool, true, false, cond}
use mathlib.Core.Logic.{⊎_elim}
use Prim.Native.Nat.{ℕ, zero, suc, ◌+◌, ◌-◌, ◌≤◌, ◌<◌, max}
use native.Mathlib.Omega.{arith}
use native.Mathlib.Nat.{eq-zero-or-pos, suc-sub-suc}
use lib.Dec.{leb, eqb, eqb-suc-suc}
use borrow.Author.Tests.{le-leb, lt-leb, eq-eqb, ne_eqb, eqb-true, eqb-false}
use Rattle.door.specs.Door.{ticked, tick}
use Rattle.door.specs.Phases.{after, transition_at, closes_at, closed_at, PhasesEnd}
use Rattle.door.specs.Door.{DoorTick}
use Rattle.door.specs.declared.DoorState.{DoorState}
use Rattle.door.specs.declared.DoorState.TheVariants.{Closed, Opening, Open, Closing}
use Rattle.door.specs.declared.DoorTransition.{DoorTransition}
use Rattle.door.specs.declared.DoorTransition.TheVariants.{None, FinishedOpening, FinishedOpen, FinishedClosing}

-- A phase `S t` of t ticks, with the state `e` and the transition `x` that its end brings
module _ (S : ℕ → DoorState) (e : DoorState) (x : DoorTransition)
    (steps : (t : ℕ) → tick (S t) ≡ cond (leb t 1) (ticked e x) (ticked (S (t - 1)) None)) where
  -- a tick of it by its two cases
  by_tick : (P : DoorTick → Type 0) (t : ℕ) → (t ≤ 1 → P (ticked e x)) → (1 < t → P (ticked (S (t - 1)) None)) → P (tick (S t))
  by_tick P t ends stays =
      rw (steps t)
      (⊎_elim
      (λ h. rw (le-leb t 1 (omega arith)) (ends (omega arith)))
      (λ h. rw (lt-leb t 1 (omega arith)) (stays (omega arith)))
      (eq-zero-or-pos (t - 1)))

  -- what its n-th tick tells: `x` where it ends, and after that what the next state tells
  phase : (t n : ℕ) → transition_at n (S t) ≡ cond (eqb n (max 1 t)) x (transition_at (n - max 1 t) e)
  unfolding transition_at after
  phase t zero =
      let z : 0 - max 1 t ≡ 0 = omega arith in
      rw (ne_eqb 0 (max 1 t) (λ q. omega arith), z)
  phase t (suc zero) =
      let z : 1 - max 1 t ≡ 0 = omega arith in
      by_tick (λ y. y.transition ≡ cond (eqb 1 (max 1 t)) x (transition_at (1 - max 1 t) e)) t
      (λ h. rw (eq-eqb 1 (max 1 t) (omega arith)))
      (λ h. rw (ne_eqb 1 (max 1 t) (λ q. omega arith), z))
  phase t (suc (suc n)) =
      by_tick (λ y. transition_at (suc n) y.door ≡ cond (eqb (suc (suc n)) (max 1 t)) x (transition_at (suc (suc n) - max 1 t) e)) t
      (λ h. let z : suc (suc n) - max 1 t ≡ suc n = omega arith in rw (ne_eqb (suc (suc n)) (max 1 t) (λ q. omega arith), z))
      (λ h. let z : max 1 t ≡ suc (max 1 (t - 1)) = omega arith in rw (z, eqb-suc-suc, suc-sub-suc) (phase (t - 1) (suc n)))

  -- once it has ended the next state runs
  rests : (n t : ℕ) → max 1 t ≤ n → after n (S t) ≡ after (n - max 1 t) e
  unfolding after
  rests zero t q = absurd (omega arith)
  rests (suc n) t q =
      by_tick (λ y. after n y.door ≡ after (suc n - max 1 t) e) t
      (λ h. let z : suc n - max 1 t ≡ n = omega arith in rw z)
      (λ h. let z : suc n - max 1 t ≡ n - max 1 (t - 1) = omega arith in rw z (rests n (t - 1) (omega arith)))

closed_stays : (n : ℕ) → after n Closed ≡ Closed
unfolding after
closed_stays zero = refl
closed_stays (suc n) = closed_stays n

closed_tells : (n : ℕ) → transition_at n Closed ≡ None
unfolding transition_at
closed_tells zero = refl
closed_tells (suc n) = ap (λ (d : DoorState). (tick d).transition) (closed_stays n)

-- "b ticks after tick a": a test of n
later : (n a b : ℕ) → 1 ≤ b → eqb (n - a) b ≡ eqb n (a + b)
later n a b h = by (eqb n (a + b)) refl
  where
    by : (t : Bool) → eqb n (a + b) ≡ t → eqb (n - a) b ≡ t
    by true e = eq-eqb (n - a) b (omega (arith, eqb-true n (a + b) e))
    by false e = ne_eqb (n - a) b (λ q. eqb-false n (a + b) e (omega arith))

pub phases_end : PhasesEnd
unfolding PhasesEnd
phases_end = (
  λ t o n.
      let z : n - max 1 t - max 1 o ≡ n - closes_at t o = omega arith in
      rw (
        phase (λ k. Opening k o t) (Open o t) FinishedOpening (λ k. refl) t n,
        phase (λ k. Open k t) (Closing t) FinishedOpen (λ k. refl) o (n - max 1 t),
        phase Closing Closed FinishedClosing (λ k. refl) t (n - max 1 t - max 1 o),
        closed_tells,
        later n (max 1 t) (max 1 o) (omega arith),
        z,
        later n (closes_at t o) (max 1 t) (omega arith),
      ),
  λ t o.
      rw (
        rests (λ k. Opening k o t) (Open o t) FinishedOpening (λ k. refl) (closed_at t o) t (omega arith),
        rests (λ k. Open k t) (Closing t) FinishedOpen (λ k. refl) (closed_at t o - max 1 t) o (omega arith),
        rests Closing Closed FinishedClosing (λ k. refl) (closed_at t o - max 1 t - max 1 o) t (omega arith),
        closed_stays,
      ),
)
