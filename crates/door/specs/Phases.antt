-- When the phases of a door end, for all transition times `t` and open times `o`. Assumes nothing.
use Rattle.std.specs.Prelude.{◌≡◌, cond, ℕ, zero, suc, ◌+◌, max, eqb}
use Rattle.door.specs.Door.{request_open, tick}
use Rattle.door.specs.declared.DoorState.{DoorState}
use Rattle.door.specs.declared.DoorState.TheVariants.{Closed}
use Rattle.door.specs.declared.DoorTransition.{DoorTransition}
use Rattle.door.specs.declared.DoorTransition.TheVariants.{None, FinishedOpening, FinishedOpen, FinishedClosing}

-- the door after n ticks
unfoldable pub after : ℕ → DoorState → DoorState
after zero d = d
after (suc n) d = after n (tick d).door

-- the transition of the n-th tick; the first is 1, and at 0 no tick has been made
unfoldable pub transition_at : ℕ → DoorState → DoorTransition
transition_at zero d = None
transition_at (suc n) d = (tick (after n d)).transition

-- the ticks at which the three phases end: a phase of 0 ticks takes one tick too
abbrev pub opened_at : ℕ → ℕ
opened_at t = max 1 t

abbrev pub closes_at : ℕ → ℕ → ℕ
closes_at t o = opened_at t + max 1 o

abbrev pub closed_at : ℕ → ℕ → ℕ
closed_at t o = closes_at t o + max 1 t

-- what the n-th tick of a door that was asked to open gives
abbrev pub phase_end : ℕ → ℕ → ℕ → DoorTransition
phase_end t o n =
    cond (eqb n (opened_at t)) FinishedOpening
    (cond (eqb n (closes_at t o)) FinishedOpen
    (cond (eqb n (closed_at t o)) FinishedClosing None))

-- at each tick from the request on, however late, the transition is that one; and after the last the door is closed
unfoldable pub PhasesEnd : Type 0
PhasesEnd =
    ((t o n : ℕ) → transition_at n (request_open t o) ≡ phase_end t o n)
    × ((t o : ℕ) → after (closed_at t o) (request_open t o) ≡ Closed)
